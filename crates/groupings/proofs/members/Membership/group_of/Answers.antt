use Rattle.std.proofs.Common.{rules, ◌≡◌}
use Rattle.groupings.specs.Members.{group_of}
use Rattle.groupings.specs.Memberships.{groups_of}
use Rattle.groupings.proofs.Lists.{group_below}
use Rattle.groupings.proofs.members.Membership.group_of.Goals as goal

pub returns : goal.returns
returns c =
    let m = c.args.self.now in
    let is : c.map_or.result ≡ group_of (groups_of m) c.args.state = search rules in
    record { is = is; below = group_below m c.args.state c.map_or.result is }
