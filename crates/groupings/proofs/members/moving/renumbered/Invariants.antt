use Rattle.std.proofs.Common.{◌≡◌, ℕ, ◌<◌, ◌≤◌, cond, length}
use Rattle.groupings.specs.Members.{group_of, flagged}
use Rattle.groupings.proofs.members.moving.renumbered.Given as goal

abbrev pub invariant-loop-state : goal.invariant-loop-state
invariant-loop-state l =
    (length l.after ≡ 128)
    × ((s : ℕ) → s < l.state → group_of l.after s ≡ cond (flagged l.flags s) l.number (group_of l.numbers s))
    × ((s : ℕ) → l.state ≤ s → group_of l.after s ≡ group_of l.numbers s)
