-- What a chain that ends in `reduce` gives, where the closure computes a function.
use Rattle.std.proofs.Common.{◌≡◌, List, [], ◌∷◌, Option, Some, None, MatchOption, ap, subst}
use Rattle.std.specs.Fn.{Called}
use Rattle.std.specs.Iterator.{Drains}
use Rattle.std.specs.List.{FoldsTo, reduce}
use Rattle.std.proofs.lemmas.Iterator.{YieldsList}
use Rattle.std.proofs.lemmas.Iterator.Consumers.{reduce_from_yields_List}
use denote.Param.Members.{Mut}

module _ {A F : Type 0} (g : Mut F (A × (A × Unit {0})) A) (h : A → A → A) (f : F) (calls : (a x b : A) (q : F) → Called g f (a, (x, tt)) b q → (q ≡ f) × (b ≡ h a x)) where
  abbrev Turn : F × A → A → F × A → Type 0
  Turn p x q = Called g p.0 (p.1, (x, tt)) q.1 q.0

  turns : (xs : List A) (a y : A) (q : F) → FoldsTo {P = F × A} Turn (f, a) xs (q, y) → FoldsTo (λ p x c. c ≡ h p x) a xs y
  turns [] a y q e = ap (λ (p : F × A). p.1) e
  turns (x ∷ xs) a y q e =
      let here = calls a x e.0.1 e.0.0 e.1 in
      (e.0.1, here.1, turns xs e.0.1 y q (subst (λ (p : F). FoldsTo {P = F × A} Turn (p, e.0.1) xs (q, y)) here.0 e.2))

  pub reduced_is :
      {S : Type 0} {steps : S → Option A → S → Type 0} {all : List A} (r : Option A) (s : S)
      → MatchOption r (Drains steps s []) (λ y. (x : A) × (xs : List A) × (q : F) × Drains steps s (x ∷ xs) × FoldsTo {P = F × A} Turn (f, x) xs (q, y))
      → YieldsList steps (λ x. x) s all → r ≡ reduce h all
  reduced_is None s ran road = reduce_from_yields_List h s None ran road
  reduced_is (Some y) s ran road = reduce_from_yields_List h s (Some y) (ran.0, ran.1, ran.3, turns ran.1 ran.0 y ran.2 ran.4) road
