use Rattle.std.proofs.Common.{◌≡◌, length}
use Rattle.groupings.specs.Joined.{asked}
use Rattle.groupings.specs.Members.{group_of}
use Rattle.groupings.specs.Memberships.{groups_of}
use Rattle.groupings.proofs.Strengths.{Gathered}
use Rattle.groupings.proofs.groups.fitted.Fitted.strengths.Given as goal

abbrev pub invariant-loop-to : goal.invariant-loop-to
invariant-loop-to g l =
    (length l.row ≡ 128) × Gathered (asked (g.S.System.meaning l.self.system.now)) (group_of (groups_of l.self.members)) l.from l.to l.row
