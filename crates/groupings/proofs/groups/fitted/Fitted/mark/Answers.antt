use Rattle.std.proofs.Common.{rules, ◌∙◌}
use Rattle.systems.specs.Model.{mark_or_unknown}
use Rattle.groupings.specs.Members.{group_of}
use Rattle.groupings.specs.Memberships.{groups_of}
use Rattle.groupings.proofs.Sharing.{mark_is}
use Rattle.groupings.proofs.groups.fitted.Fitted.mark.Goals as goal

pub returns : goal.returns
returns g c =
    let M = g.S.System.meaning c.args.self.now.system.now in
    λ l.
    c.shared.ensures (λ s. mark_or_unknown M s c.args.mark) (λ s a k. search rules)
    ∙ mark_is M (group_of (groups_of c.args.self.now.members)) c.args.group c.args.mark l
