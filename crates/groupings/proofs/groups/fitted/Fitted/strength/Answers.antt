use Rattle.std.proofs.Common.{ℕ, eqb, rules, tests, ◌∙◌, arith}
use Rattle.std.proofs.lemmas.Iterator.{YieldsList-from_range, YieldsList-from_map}
use Rattle.std.proofs.lemmas.Iterator.Consumers.{YieldsList-at, YieldsList-from_filter, reduce_from_yields_List}
use Rattle.systems.specs.Model.{step_or_absent}
use Rattle.colours.specs.Groupings.{strength}
use Rattle.groupings.specs.Members.{group_of}
use Rattle.groupings.specs.Memberships.{groups_of}
use Rattle.groupings.proofs.Strengths.{best_is, later_max_is}
use Rattle.groupings.proofs.groups.fitted.Fitted.strength.Goals as goal

pub returns : goal.returns
unfolding strength
returns g c =
    let M = g.S.System.meaning c.args.self.now.system.now in
    let group = group_of (groups_of c.args.self.now.members) in
    let member = λ (t : ℕ). eqb (group t) c.args.group in
    let best =
    reduce_from_yields_List _ _ c.max.result c.max.ensures.ran
    (YieldsList-from_map _ (step_or_absent M c.args.from)
    (YieldsList-at c.map.ensures.source
    (YieldsList-from_filter _ member
    (YieldsList-at c.filter.ensures.source (YieldsList-from_range 0 M.states M.states (search rules) (omega arith)))
    c.filter.ensures.closure (λ x b q k. search (rules, tests))))
    c.map.ensures.closure (λ x r q k. search rules)) in
    c.unwrap_or.ensures ∙ best_is _ later_max_is member (step_or_absent M c.args.from) M.states c.max.result best
