use Rattle.std.proofs.Common.{sym, arith}
use Rattle.groupings.specs.laws.GroupLaws.{groups_are}
use Rattle.groupings.proofs.members.Membership.groups.Goals as goal

pub returns : goal.returns
returns c = let m = c.args.self.now in record { is = sym (groups_are m); few = omega (arith, m.sized.2, m.sized.3) }
