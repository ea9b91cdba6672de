-- What `all` answers over the rows of a body.
use Rattle.std.proofs.Common.{◌≡◌, ℕ, ◌+◌, ◌-◌, ◌*◌, ◌/◌, ◌<◌, ◌≤◌, Bool, true, false, List, [], ◌∷◌, length, get_or, take, drop, Some, None, Option, sym, ◌∙◌, refl, ap, inl, inr, arith}
use Rattle.std.specs.Bool.{MatchBool}
use Rattle.std.specs.Prelude.{IsTrue}
use Rattle.std.specs.Fn.{Called}
use Rattle.std.specs.Iterator.Runs.{Run, IsChunksExactRun, AllItemsGive, AnyItemGives, CallKeepsClosure}
use Rattle.std.specs.List.{between, IsSubsliceAt}
use Rattle.std.specs.Option.{IfSome, IsSomeAnd, option_map}
use Rattle.std.proofs.Math.Nat.{mul-div_cancel, mul-le-mul_right}
use Rattle.std.proofs.lemmas.Bool.{cases_lt}
use denote.Param.Members.{Mut}
use denote.Ref.{Bor}
use Rattle.systems.specs.Below.{all_below}
use Rattle.systems.specs.laws.TableLaws.{all_at, all_from}

-- there is an item at a place that a run has passed
item_there : {A : Type 0} (o : Option A) (xs : List A) (k : ℕ) → k < length xs → ((d : A) → option_map (λ y. y) o ≡ Some (get_or xs k d)) → (P : A → Type 0) → IfSome o P → IsSomeAnd o P
item_there None [] k l r P h = absurd (omega arith)
item_there None (x ∷ xs) k l r P h = absurd (let e = r x in cc)
item_there (Some y) xs k l r P h = h

-- what two facts on one item tell
from_both : {A : Type 0} (o : Option A) (P Q : A → Type 0) (R : Type 0) → IsSomeAnd o P → IfSome o Q → ((x : A) → P x → Q x → R) → R
from_both None P Q R p q tells = absurd p
from_both (Some x) P Q R p q tells = tells x p q

-- a test that fails below n
fails : (test : ℕ → Bool) (n k : ℕ) → k < n → test k ≡ false → (b : Bool) → all_below test n ≡ b → false ≡ b
fails test n k l e false q = refl
fails test n k l e true q = absurd (let r = all_at test n k q l in cc)

module _ {S F : Type 0} {steps : S → Option (Bor (List ℕ)) → S → Type 0} (p : Run steps) (g : Mut F (Bor (List ℕ) × Unit {0}) Bool) (f : F) (test : List ℕ → Bool) (n : ℕ) (body : List ℕ)
    (rows : IsChunksExactRun p n body) (square : length body ≡ n * n) (some : 0 < n) (says : (x : Bor (List ℕ)) (b : Bool) (q : F) → Called g f (x, tt) b q → (q ≡ f) × (b ≡ test x.now)) where
  row : ℕ → List ℕ
  row s = between (s * n) (s * n + n) body

  -- what is known of the item at a place, and what the closure answers there
  IsRow : ℕ → Bor (List ℕ) → Type 0
  IsRow s x = (length x.now ≡ n) × (s * n + n ≤ length body) × IsSubsliceAt n body (s * n) x.now

  answer : (s : ℕ) (b : Bool) (x : Bor (List ℕ)) → Called g f (x, tt) b f → IsRow s x → b ≡ test (row s)
  unfolding row IsRow
  answer s b x called here =
      let wide : n ≡ s * n + n - s * n = omega arith in
      (says x b f called).1 ∙ ap test (here.2.0 ∙ ap (λ m. take m (drop (s * n) body)) wide)

  low : (s : ℕ) (x : Bor (List ℕ)) → IsRow s x → s < n
  unfolding IsRow
  low s x here = elim (cases_lt s n) [
    | inl l ↦ l
    | inr h ↦ absurd (let m = mul-le-mul_right n h in omega (arith, here.1))
  ]

  keeps : CallKeepsClosure g f
  keeps a r q k = (says a.0 r q k).0

  pub all_rows : (r : Bool) → MatchBool r (IsTrue p.whole × AllItemsGive p g f true) (AnyItemGives p g f false) → r ≡ all_below (λ s. test (between (s * n) (s * n + n) body)) n
  unfolding row IsRow
  all_rows true h =
      let long : p.len ≡ n = rows.1 h.0 ∙ ap (λ m. m / n) square ∙ mul-div_cancel n some in
      sym (all_from (λ s. test (row s)) n (λ s l. sym (
      from_both (p.at s) (λ x. Called g f (x, tt) true f) (IsRow s) (true ≡ test (row s))
      (item_there (p.at s) p.items s (omega (arith, p.long)) (λ d. p.reads s d (omega arith)) (λ x. Called g f (x, tt) true f) (h.1 keeps s))
      (rows.2 s) (answer s true)
      )))
  all_rows false h =
      let miss = h keeps in
      let at = from_both (p.at miss.0) (λ x. Called g f (x, tt) false f) (IsRow miss.0) ((miss.0 < n) × (false ≡ test (row miss.0))) miss.2 (rows.2 miss.0) (λ x k here. (low miss.0 x here, answer miss.0 false x k here)) in
      fails (λ s. test (row s)) n miss.0 at.0 (sym at.1) _ refl
