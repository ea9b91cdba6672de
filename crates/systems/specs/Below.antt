-- Tests and counts over the numbers below n.
use Rattle.std.specs.Prelude.{ℕ, zero, suc, ◌+◌, Bool, true, false, cond, ◌&&◌, ◌||◌}

-- the test passes at each number below n
abbrev pub all_below : (ℕ → Bool) → ℕ → Bool
all_below test zero = true
all_below test (suc n) = test n && all_below test n

-- the test passes at some number below n
abbrev pub any_below : (ℕ → Bool) → ℕ → Bool
any_below test zero = false
any_below test (suc n) = test n || any_below test n

-- at how many numbers below n the test passes
abbrev pub count_below : (ℕ → Bool) → ℕ → ℕ
count_below test zero = 0
count_below test (suc n) = count_below test n + cond (test n) 1 0

-- at how many cells of a table of so many rows and columns the test passes
abbrev pub count_cells : (ℕ → ℕ → Bool) → (rows columns : ℕ) → ℕ
count_cells test zero columns = 0
count_cells test (suc rows) columns = count_cells test rows columns + count_below (test rows) columns
