-- Where each of c groups has a member among n states, c is at most n.
use Rattle.std.proofs.Common.{◌≡◌, ℕ, zero, suc, ◌+◌, ◌<◌, ◌≤◌, Bool, true, eqb, refl, ⊎_elim, arith}
use Rattle.std.proofs.lemmas.Bool.{cases_eq, eq-eqb, ne_eqb}
use Rattle.systems.specs.Below.{count_below, count_cells}
use Rattle.systems.proofs.Counts.{none_below, below_none, cells_none}

one_more_column : (test : ℕ → ℕ → Bool) (c n : ℕ) → count_cells test c (suc n) ≡ count_cells test c n + count_below (λ g. test g n) c
one_more_column test zero n = refl
one_more_column test (suc c) n = let rest = one_more_column test c n in omega arith

once : (x c : ℕ) → count_below (λ g. eqb x g) c ≤ 1
once x zero = omega arith
once x (suc c) =
    ⊎_elim
    (λ (e : x ≡ c).
    let none = below_none (λ g. eqb x g) c (λ g l. ne_eqb x g (λ q. omega arith)) in
    rw (eq-eqb x c e) (omega arith))
    (λ (e : x ≡ c → ⊥).
    let rest = once x c in
    rw (ne_eqb x c e) (omega arith))
    (cases_eq x c)

each_row : (test : ℕ → ℕ → Bool) (c n : ℕ) → ((g : ℕ) → g < c → (s : ℕ) × (s < n) × (test g s ≡ true)) → c ≤ count_cells test c n
each_row test zero n h = omega arith
each_row test (suc c) n h =
    let rest = each_row test c n (λ g l. h g (omega arith)) in
    let here = h c (omega arith) in
    let some : ¬ (count_below (test c) n ≡ 0) = λ e. none_below (test c) n here.0 e here.1 here.2 in
    omega arith

module _ (group : ℕ → ℕ) where
  each_column : (c n : ℕ) → count_cells (λ g s. eqb (group s) g) c n ≤ n
  each_column c zero = let none = cells_none (λ g s. eqb (group s) g) c 0 (λ g s l k. absurd (omega arith)) in omega arith
  each_column c (suc n) =
      let rest = each_column c n in
      let more = one_more_column (λ g s. eqb (group s) g) c n in
      let here = once (group n) c in
      omega arith

  pub enough : (c n : ℕ) → ((g : ℕ) → g < c → (s : ℕ) × (s < n) × (group s ≡ g)) → c ≤ n
  enough c n used =
      let least = each_row (λ g s. eqb (group s) g) c n (λ g l. let u = used g l in (u.0, u.1, eq-eqb (group u.0) g u.2)) in
      let most = each_column c n in
      omega arith
