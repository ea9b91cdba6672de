use Rattle.std.proofs.Common.{ℕ, eqb, ◌&&◌, rules, tests, ap, ◌∙◌}
use Rattle.systems.specs.Model.{is_start}
use Rattle.systems.proofs.Questions.{start_in_range}
use Rattle.systems.proofs.Ranges.{any_in_range, any_alike}
use Rattle.colours.specs.Groupings.{group_start, start_in}
use Rattle.groupings.specs.Members.{group_of}
use Rattle.groupings.specs.Memberships.{groups_of}
use Rattle.groupings.proofs.groups.fitted.Fitted.start.Goals as goal

pub returns : goal.returns
unfolding group_start
returns g c =
    let M = g.S.System.meaning c.args.self.now.system.now in
    let group = group_of (groups_of c.args.self.now.members) in
    let test = λ (s : ℕ). eqb (group s) c.args.group && is_start M s in
    any_in_range test M.states _ _ _ c.any.ensures.ran (search rules) (λ x b q k. search (rules, tests))
    ∙ any_alike test (start_in M group c.args.group) M.states (λ k l. ap (λ b. eqb (group k) c.args.group && b) (start_in_range M k l))
