use Rattle.std.proofs.Common.{◌≡◌, ℕ, Bool, ◌≤◌, ◌*◌}
use Rattle.systems.specs.Below.{count_cells}
use Rattle.systems.proofs.counting.tallies.count_cells.Given as goal

-- the count so far is that of the rows gone through, whatever test the closure computes
abbrev pub invariant-loop-line : goal.invariant-loop-line
invariant-loop-line g l =
    (l.count ≤ l.line-counter * 128)
    × ((t : ℕ → ℕ → Bool) → ((row column : ℕ) (b : Bool) → goal.F-post g l.test row column b → b ≡ t row column) → l.count ≡ count_cells t l.line-counter l.columns)
