use Rattle.std.proofs.Common.{take, rules, tests, sym, ◌∙◌}
use Rattle.std.proofs.lemmas.Iterator.{YieldsList-from_slice}
use Rattle.std.proofs.lemmas.Iterator.Search.{any_from_yields_List}
use Rattle.groupings.specs.Memberships.{groups_of}
use Rattle.groupings.specs.laws.GroupLaws.{partition}
use Rattle.groupings.proofs.Splitting.{none_differ, one_leaves, one_stays, two_differ, moved_divided}
use Rattle.groupings.proofs.groups.fitted.Fitted.divided.Goals as goal

pub moved-requires : goal.moved-requires
moved-requires g c =
    let self = c.args.self.now in
    let M = g.S.System.meaning self.system.now in
    let flags = c.dissenting-flags.result in
    let told = c.dissenting-flags.ensures in
    let any = any_from_yields_List (λ b. b) _ _ _ c.any.ensures.ran (YieldsList-from_slice (take c.states.result flags) cc) (λ x b q k. search (rules, tests)) in
    record {
      some = one_leaves M c.args.reason (groups_of self.members) flags self.fits told c.states.result c.states.ensures (sym any ∙ c.if-any.true);
      kept = one_stays M c.args.reason (groups_of self.members) flags self.fits told c.states.result c.states.ensures (partition self.members).2;
    }

pub returns-then-any : goal.returns-then-any
returns-then-any g c =
    let self = c.args.self.now in
    let M = g.S.System.meaning self.system.now in
    let flags = c.dissenting-flags.result in
    let told = c.dissenting-flags.ensures in
    let any = any_from_yields_List (λ b. b) _ _ _ c.any.ensures.ran (YieldsList-from_slice (take c.states.result flags) cc) (λ x b q k. search (rules, tests)) in (
      two_differ M c.args.reason (groups_of self.members) flags self.fits told c.states.result c.states.ensures (sym any ∙ c.if-any.true),
      moved_divided M c.args.reason (groups_of self.members) flags self.fits told c.states.result c.states.ensures (groups_of c.moved.result) c.moved.ensures,
    )

pub returns-else-any : goal.returns-else-any
returns-else-any g c =
    let self = c.args.self.now in
    let M = g.S.System.meaning self.system.now in
    let flags = c.dissenting-flags.result in
    let told = c.dissenting-flags.ensures in
    let any = any_from_yields_List (λ b. b) _ _ _ c.any.ensures.ran (YieldsList-from_slice (take c.states.result flags) cc) (λ x b q k. search (rules, tests)) in
    none_differ M c.args.reason (groups_of self.members) flags self.fits told c.states.result c.states.ensures (sym any ∙ c.if-any.false)
