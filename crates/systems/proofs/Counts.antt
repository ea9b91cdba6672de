-- Counting in a loop, and what a count of 0 says.
use Rattle.std.proofs.Common.{◌≡◌, ℕ, zero, suc, ◌+◌, ◌*◌, ◌<◌, ◌≤◌, Bool, true, false, sym, refl, ap, ◌∙◌, ⊎_elim, le_of_suc-le-suc, not-suc-le-zero, eq-or-lt_of_le, add-one, arith}
use Rattle.systems.specs.Below.{count_below, count_cells}
use Rattle.systems.proofs.Ranges.{count_alike}

-- the count so far, after i rows of at most w
abbrev pub Adding : (ℕ → ℕ → Bool) → ℕ → ℕ → ℕ → ℕ → Type 0
Adding test columns w i count = (count ≤ i * w) × (count ≡ count_cells test i columns)

pub add_row : (test : ℕ → ℕ → Bool) (columns w i count row : ℕ) → row ≤ w → row ≡ count_below (test i) columns → Adding test columns w i count → Adding test columns w (i + 1) (count + row)
add_row test columns w i count row few is a =
    let more : count_cells test (i + 1) columns ≡ count_cells test i columns + count_below (test i) columns = rw add-one refl in
    let wide : (i + 1) * w ≡ i * w + w = rw (add-one i) (omega arith) in
    (omega arith, omega arith)

-- where none is counted each test fails
pub none_below : (test : ℕ → Bool) (n k : ℕ) → count_below test n ≡ 0 → k < n → ¬ (test k ≡ true)
none_below test zero k e l t = absurd (not-suc-le-zero l)
none_below test (suc n) k e l t =
    ⊎_elim
    (λ (q : k ≡ n). let here : test n ≡ true = ap test (sym q) ∙ t in let z : count_below test n + 1 ≡ 0 = rw here at e in omega arith)
    (λ (lt : k < n). none_below test n k (omega arith) lt t)
    (eq-or-lt_of_le (le_of_suc-le-suc l))

pub below_none : (test : ℕ → Bool) (n : ℕ) → ((k : ℕ) → k < n → test k ≡ false) → count_below test n ≡ 0
below_none test zero h = refl
below_none test (suc n) h =
    let here = h n (omega arith) in
    let rest = below_none test n (λ k l. h k (omega arith)) in
    rw here (omega arith)

pub none_cells : (test : ℕ → ℕ → Bool) (rows columns s t : ℕ) → count_cells test rows columns ≡ 0 → s < rows → t < columns → ¬ (test s t ≡ true)
none_cells test zero columns s t e l k h = absurd (not-suc-le-zero l)
none_cells test (suc rows) columns s t e l k h =
    ⊎_elim
    (λ (q : s ≡ rows). none_below (test rows) columns t (omega arith) k (ap (λ (x : ℕ). test x t) (sym q) ∙ h))
    (λ (lt : s < rows). none_cells test rows columns s t (omega arith) lt k h)
    (eq-or-lt_of_le (le_of_suc-le-suc l))

pub cells_none : (test : ℕ → ℕ → Bool) (rows columns : ℕ) → ((s t : ℕ) → s < rows → t < columns → test s t ≡ false) → count_cells test rows columns ≡ 0
cells_none test zero columns h = refl
cells_none test (suc rows) columns h =
    let here = below_none (test rows) columns (λ t k. h rows t (omega arith) k) in
    let rest = cells_none test rows columns (λ s t l k. h s t (omega arith) k) in
    omega arith

-- rows that agree in range
pub cells_alike : (f g : ℕ → ℕ → Bool) (rows columns : ℕ) → ((s t : ℕ) → s < rows → t < columns → f s t ≡ g s t) → count_cells f rows columns ≡ count_cells g rows columns
cells_alike f g zero columns h = refl
cells_alike f g (suc rows) columns h =
    let here = count_alike (f rows) (g rows) columns (λ t k. h rows t (omega arith) k) in
    let rest = cells_alike f g rows columns (λ s t l k. h s t (omega arith) k) in
    omega arith
