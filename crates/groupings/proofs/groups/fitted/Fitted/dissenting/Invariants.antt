use Rattle.std.proofs.Common.{◌≡◌}
use Rattle.groupings.specs.Answers.{answer_of}
use Rattle.groupings.specs.Joined.{asked}
use Rattle.groupings.specs.Members.{group_of}
use Rattle.groupings.specs.Memberships.{groups_of}
use Rattle.groupings.specs.Splits.{Concerned}
use Rattle.groupings.proofs.Splitting.{Flagged}
use Rattle.groupings.proofs.groups.fitted.Fitted.dissenting.Given as goal

abbrev pub invariant-loop-state : goal.invariant-loop-state
invariant-loop-state g l =
    let M = g.S.System.meaning l.self.system.now in
    let xs = groups_of l.self.members in
    Flagged (λ s. Concerned M l.reason xs s × ¬ (answer_of (asked M) (group_of xs) l.reason s ≡ l.lead)) l.state l.flags
