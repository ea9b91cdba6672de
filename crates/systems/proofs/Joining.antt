-- Chains that join a test over all items with `fold`, and so without a way out before the last.
use Rattle.std.proofs.Common.{◌≡◌, ℕ, Bool, true, false, ◌&&◌, ◌||◌, List, [], ◌∷◌, sym, ◌∙◌, arith}
use Rattle.std.proofs.Math.Bool.{and_assoc, and_comm, or_assoc, or_comm}
use Rattle.std.proofs.iter.Yields.{nat_range_steps}
use Rattle.std.proofs.lemmas.Iterator.{YieldsList, YieldsList-from_range}
use Rattle.std.proofs.lemmas.Iterator.Consumers.{fold_from_yields_List}
use Rattle.std.specs.Fn.{Called}
use Rattle.std.specs.Iterator.{Drains}
use Rattle.std.specs.List.{FoldsTo, fold, list_all, list_any}
use Rattle.std.specs.declared.ops.Range.{Range}
use Rattle.std.specs.Prelude.{Option}
use denote.Param.Members.{Mut}
use Rattle.systems.specs.Below.{any_below}
use Rattle.systems.proofs.Ranges.{any_over}

module _ {B : Type 0} (test : B → Bool) where
  all_from : (so_far : Bool) (xs : List B) → fold (λ a x. (a && test x)) so_far xs ≡ (so_far && list_all test xs)
  all_from so_far [] = sym (and_comm so_far true)
  all_from so_far (x ∷ xs) = all_from (so_far && test x) xs ∙ and_assoc so_far (test x) (list_all test xs)

  any_from : (so_far : Bool) (xs : List B) → fold (λ a x. (a || test x)) so_far xs ≡ (so_far || list_any test xs)
  any_from so_far [] = sym (or_comm so_far false)
  any_from so_far (x ∷ xs) = any_from (so_far || test x) xs ∙ or_assoc so_far (test x) (list_any test xs)

-- from the clause `ran` of the call of `fold`
module _ {S A B F : Type 0} {steps : S → Option A → S → Type 0} {v : A → B} {s : S} {all : List B} {g : Mut F (Bool × (A × Unit {0})) Bool} {f : F} (test : B → Bool) (r : Bool) where
  pub all_joined : ((xs : List A) × (q : F) × Drains steps s xs × FoldsTo {P = F × Bool} (λ a x b. Called g a.0 (a.1, (x, tt)) b.1 b.0) (f, true) xs (q, r)) → YieldsList steps v s all → ((a : Bool) (x : A) (b : Bool) (q : F) → Called g f (a, (x, tt)) b q → (q ≡ f) × (b ≡ (a && test (v x)))) → r ≡ list_all test all
  all_joined ran yields k = fold_from_yields_List g (λ a x. (a && test x)) true r ran yields k ∙ all_from test true all

  pub any_joined : ((xs : List A) × (q : F) × Drains steps s xs × FoldsTo {P = F × Bool} (λ a x b. Called g a.0 (a.1, (x, tt)) b.1 b.0) (f, false) xs (q, r)) → YieldsList steps v s all → ((a : Bool) (x : A) (b : Bool) (q : F) → Called g f (a, (x, tt)) b q → (q ≡ f) × (b ≡ (a || test (v x)))) → r ≡ list_any test all
  any_joined ran yields k = fold_from_yields_List g (λ a x. (a || test x)) false r ran yields k ∙ any_from test false all

-- `(0..n).fold(false, ..)`
module _ {F : Type 0} {g : Mut F (Bool × (ℕ × Unit {0})) Bool} {s : Range ℕ} {f : F} (test : ℕ → Bool) (n : ℕ) (r : Bool) where
  pub any_joined_below : ((xs : List ℕ) × (q : F) × Drains nat_range_steps s xs × FoldsTo {P = F × Bool} (λ a x b. Called g a.0 (a.1, (x, tt)) b.1 b.0) (f, false) xs (q, r)) → s ≡ record { start = 0; end = n } → ((a : Bool) (x : ℕ) (b : Bool) (q : F) → Called g f (a, (x, tt)) b q → (q ≡ f) × (b ≡ (a || test x))) → r ≡ any_below test n
  any_joined_below ran e k = any_joined test r ran (YieldsList-from_range 0 n n e (omega arith)) k ∙ any_over test n
