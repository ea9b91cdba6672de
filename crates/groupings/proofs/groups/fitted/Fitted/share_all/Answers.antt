use Rattle.std.proofs.Common.{◌≡◌, ◌+◌, ◌*◌, ◌<◌, ◌≤◌, true, false, ◌⊎◌, eqb, length, get_or, unwrap_or, inl, inr, refl, ap, ◌∙◌, rules, arith, length-set}
use lib.Arith.{digits_lt}
use Rattle.std.proofs.lemmas.List.{get_or_default}
use Rattle.groupings.specs.Joined.{shared}
use Rattle.groupings.specs.Members.{group_of}
use Rattle.groupings.specs.Memberships.{groups_of}
use Rattle.groupings.proofs.Rows.{row_room, joined_none, joined_more, joined_all}
use Rattle.groupings.proofs.groups.fitted.Fitted.share_all.Goals as goal
use Rattle.groupings.proofs.groups.fitted.Fitted.share_all.Goals.{then-found-group, else-found-group}

pub loop-state-init : goal.loop-state-init
loop-state-init g c =
    let group = group_of (groups_of c.args.self.now.members) in
    (refl, λ says rest told alike. joined_none g.A.Shared.joined group g.row.W g.A.Shared.of_none says c.args.places.now)

pub loop-state-preserved : goal.loop-state-preserved
loop-state-preserved g c =
    let found = c.loop-state.found in
    let h = c.group_of-group.result in
    let count = c.if-found-group.count in
    let w = g.row.W in
    let low : h < length found = omega (arith, c.group_of-group.ensures.below.1, c.loop-state.invariant.0) in
    let some : ((get_or found h false ≡ true) × (count ≡ c.args.width)) ⊎ ((get_or found h false ≡ false) × (count ≡ w)) =
    elim c.if-found-group.branch [ then-found-group b ↦ inl (b.if-found-group.true, b.count-is) | else-found-group b ↦ inr (b.if-found-group.false, b.count-is) ] in
    let few : count ≤ w = elim some [ inl s ↦ omega (arith, s.1, c.requires.wide) | inr s ↦ omega (arith, s.1) ] in (
      length-set found h true ∙ c.loop-state.invariant.0,
      λ says rest told alike.
          joined_more g.A.Shared.joined (group_of (groups_of c.args.self.now.members)) w g.A.Shared.of_none says
          c.args.width rest alike c.loop-state.state h count (get_or found h false) found c.args.places.now c.loop-state.places c.join_row.new.places c.answers.result.now
          c.group_of-group.ensures.is low refl (c.answers.ensures ∙ told c.loop-state.state c.row.result c.row.ensures) some few
          c.join_row.ensures.joined c.join_row.ensures.others (c.loop-state.invariant.1 says rest told alike),
    )

pub join_row-requires : goal.join_row-requires
join_row-requires g c =
    let count = c.if-found-group.count in
    let w = g.row.W in
    let few : count ≤ w = elim c.if-found-group.branch [ then-found-group b ↦ omega (arith, b.count-is, c.requires.wide) | else-found-group b ↦ omega (arith, b.count-is) ] in
    let long : length c.answers.result.now ≡ w = search rules in
    record {
      room = omega (arith, row_room c.group_of-group.result w count c.group_of-group.ensures.below.1 few, c.requires.long, c.loop-state.auto.places);
      long = omega (arith, long, few);
    }

pub returns : goal.returns
returns g c =
    let M = g.S.System.meaning c.args.self.now.system.now in
    let group = group_of (groups_of c.args.self.now.members) in
    let join = g.A.Shared.joined in
    let none = g.A.Shared.of_none in
    let w = g.row.W in
    let before = c.args.places.now in
    let places = c.loop-state.places in
    let end : c.loop-state.state ≡ M.states = omega arith in
    λ says rest told alike h k d l m.
    let at = h * w + k in
    let within : at < 128 * w = digits_lt {q = h} {m = 128} {r = k} {c = w} l m in
    let here : at < length before = omega (arith, within, c.requires.long) in
    let there : at < length places = omega (arith, here, c.loop-state.auto.places) in
    get_or_default places at d none there
    ∙ joined_all join group w none says c.loop-state.state c.loop-state.found before places (c.loop-state.invariant.1 says rest told alike) h k l m
    ∙ ap (λ n. unwrap_or (shared join (λ s. eqb (group s) h) (λ s. says s k) n) (get_or before at none)) end
    ∙ ap (unwrap_or (shared join (λ s. eqb (group s) h) (λ s. says s k) M.states)) (get_or_default before at none d here)
