use Rattle.std.proofs.Common.{◌≡◌, length}
use Rattle.groupings.proofs.Marks.{Asked}
use Rattle.groupings.proofs.groups.fitted.Fitted.marks_at.Given as goal

abbrev pub invariant-loop-mark : goal.invariant-loop-mark
invariant-loop-mark g l = (length l.row ≡ 16) × Asked (g.S.System.meaning l.self.system.now) l.state l.mark l.row
