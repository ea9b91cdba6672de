use Rattle.std.proofs.Common.{ℕ, eqb, unwrap_or, rules, tests, of_calls, ap, ◌∙◌, arith}
use Rattle.std.proofs.lemmas.Iterator.{YieldsList-from_range, YieldsList-from_map}
use Rattle.std.proofs.lemmas.Iterator.Consumers.{YieldsList-at, YieldsList-from_filter}
use Rattle.groupings.specs.Members.{group_of}
use Rattle.groupings.specs.Memberships.{groups_of}
use Rattle.groupings.proofs.Reduced.{reduced_is}
use Rattle.groupings.proofs.groups.fitted.Fitted.shared.Goals as goal

pub returns : goal.returns
returns g c =
    let M = g.S.System.meaning c.args.self.now.system.now in
    let member = λ (s : ℕ). eqb (group_of (groups_of c.args.self.now.members) s) c.args.group in
    λ says told.
    c.unwrap_or.ensures ∙ ap (unwrap_or c.reduce.result) c.of_none.ensures
    ∙ ap (λ o. unwrap_or o g.A.Shared.of_none)
    (reduced_is _ g.A.Shared.joined _ (λ a x b q k. search rules) c.reduce.result _ c.reduce.ensures.ran
    (YieldsList-from_map _ says
    (YieldsList-at c.map.ensures.source
    (YieldsList-from_filter _ member
    (YieldsList-at c.filter.ensures.source (YieldsList-from_range 0 M.states M.states (search rules) (omega arith)))
    c.filter.ensures.closure (λ x b q k. search (rules, tests))))
    c.map.ensures.closure (λ x r q k. (g.met.F.Fn.1.step_stays c.args.answer (x, tt) r q k, told x r (search of_calls)))))
