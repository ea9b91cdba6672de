use Rattle.std.proofs.Common.{rules, ◌∙◌}
use Rattle.colours.specs.Groupings.{strength}
use Rattle.groupings.specs.Joined.{asked}
use Rattle.groupings.specs.Members.{group_of}
use Rattle.groupings.specs.Memberships.{groups_of}
use Rattle.groupings.proofs.Sharing.{step_is}
use Rattle.groupings.proofs.groups.fitted.Fitted.step.Goals as goal

pub returns : goal.returns
returns g c =
    let M = g.S.System.meaning c.args.self.now.system.now in
    let group = group_of (groups_of c.args.self.now.members) in
    c.shared.ensures (λ s. strength (asked M) group s c.args.to) (λ s a k. search rules) ∙ step_is M group c.args.from c.args.to
