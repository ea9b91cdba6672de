-- An array that is filled row by row.
use Rattle.std.proofs.Common.{◌≡◌, ℕ, ◌+◌, ◌*◌, ◌<◌, ◌≤◌, ◌&&◌, Bool, true, false, cond, List, get_or, replicate, refl, ◌∙◌, arith, ⊎_elim}
use Rattle.std.proofs.Math.Nat.{mul-le-mul_right}
use Rattle.std.proofs.lemmas.Bool.{cases_lt, lt-ltb, le-ltb}
use Rattle.std.proofs.lemmas.List.{get_or-replicate}
use Rattle.std.specs.Prelude.{nat_lt}
use Rattle.systems.specs.Tabled.{Filled}

-- blank out of range, and so asked in range alone
once : {A : Type 0} (b : Bool) (x blank : A) → cond b (cond b x blank) blank ≡ cond b x blank
once true x blank = refl
once false x blank = refl

module _ {A : Type 0} (width columns : ℕ) (t : ℕ → ℕ → A) where
  pub filled_none : (xs : List A) → Filled width 0 columns t xs xs
  filled_none xs s k d l = let none = le-ltb s 0 (omega arith) in rw none refl

  -- one row more
  pub filled_more : (row : ℕ) → columns ≤ width → (xs₀ xs ys : List A) → ((k : ℕ) (d : A) → k < columns → get_or ys (row * width + k) d ≡ t row k) → ((k : ℕ) (d : A) → k < row * width → get_or ys k d ≡ get_or xs k d) → ((k : ℕ) (d : A) → row * width + columns ≤ k → get_or ys k d ≡ get_or xs k d) → Filled width row columns t xs₀ xs → Filled width (row + 1) columns t xs₀ ys
  filled_more row few xs₀ xs ys here before after so_far s k d l =
      ⊎_elim
      (λ (low : s < row).
      let a = lt-ltb s row low in
      let b = lt-ltb s (row + 1) (omega arith) in
      let inside : s * width + k < row * width = let m = mul-le-mul_right {m = s + 1} {n = row} width (omega arith) in omega (arith, m) in
      rw (before (s * width + k) d inside, so_far s k d l, a, b) refl)
      (λ (high : row ≤ s). ⊎_elim
      (λ (above : row < s).
      let a = le-ltb s row high in
      let b = le-ltb s (row + 1) (omega arith) in
      let past : row * width + columns ≤ s * width + k = let m = mul-le-mul_right {m = row + 1} {n = s} width (omega arith) in omega (arith, m) in
      rw (after (s * width + k) d past, so_far s k d l, a, b) refl)
      (λ (below : s ≤ row).
      let same : s ≡ row = omega arith in
      let b = lt-ltb row (row + 1) (omega arith) in
      rw same
      (⊎_elim
      (λ (low : k < columns). let c = lt-ltb k columns low in rw (here k d low, b, c) refl)
      (λ (high : columns ≤ k).
      let a = le-ltb row row (omega arith) in
      let c = le-ltb k columns high in
      rw (after (row * width + k) d (omega arith), so_far row k d l, a, b, c) refl)
      (cases_lt k columns)))
      (cases_lt row s))
      (cases_lt s row)

-- rows in an array that was blank: what is asked in range alone is blank out of it
pub filled_blank : {A : Type 0} (width rows columns n : ℕ) (blank : A) (t : ℕ → ℕ → A) (new : List A) → Filled width rows columns (λ s k. cond (nat_lt s rows && nat_lt k columns) (t s k) blank) (replicate n blank) new → (s k : ℕ) → k < width → s * width + k < n → get_or new (s * width + k) blank ≡ cond (nat_lt s rows && nat_lt k columns) (t s k) blank
filled_blank width rows columns n blank t new filled s k l low =
    filled s k blank l ∙ rw (get_or-replicate n (s * width + k) blank blank low) (once (nat_lt s rows && nat_lt k columns) (t s k) blank)
