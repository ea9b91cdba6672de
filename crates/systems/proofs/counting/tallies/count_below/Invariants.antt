use Rattle.std.proofs.Common.{◌≡◌, ℕ, Bool, ◌≤◌}
use Rattle.systems.specs.Below.{count_below}
use Rattle.systems.proofs.counting.tallies.count_below.Given as goal

-- the count so far is that of the numbers gone through, whatever test the closure computes
abbrev pub invariant-loop-k : goal.invariant-loop-k
invariant-loop-k g l =
    (l.count ≤ l.k)
    × ((t : ℕ → Bool) → ((k : ℕ) (b : Bool) → goal.F-post g l.test k b → b ≡ t k) → l.count ≡ count_below t l.k)
