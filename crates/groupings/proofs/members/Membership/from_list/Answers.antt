use Rattle.std.proofs.Common.{◌≡◌, ℕ, ◌≤◌, length, rules, take, sym, refl, ap, ◌∙◌, inl, inr}
use Rattle.groupings.proofs.Lists.{each_below, not_each_below, each_used, not_each_used, list_numbered}
use Rattle.groupings.proofs.members.Membership.from_list.Goals as goal

pub returns-then-last-states : goal.returns-then-last-states
returns-then-last-states c =
    let range : (1 ≤ c.args.states) × (c.args.states ≤ 128) = search rules in
    inl (refl, λ h. not_each_below c.args.bytes.now c.largest-last.result c.largest-last.ensures c.args.states range.0 c.if-last-states.true h.2)

pub returns-then-not-all_used : goal.returns-then-not-all_used
returns-then-not-all_used c =
    let bytes = c.args.bytes.now in
    let last = c.largest-last.result in
    inr (
      refl,
      each_below bytes last c.largest-last.ensures c.args.states c.if-bytes-states.false c.if-last-states.false,
      not_each_used bytes last c.largest-last.ensures (sym c.if-not-all_used.ensures),
    )

pub invariant_of-result : goal.invariant_of-result
invariant_of-result c =
    let bytes = c.args.bytes.now in
    let last = c.largest-last.result in
    let range : (1 ≤ c.args.states) × (c.args.states ≤ 128) = search rules in
    let used = each_used bytes last c.largest-last.ensures (sym c.if-not-all_used.ensures) in
    let long : length c.copied.result ≡ 128 = search rules in
    let table = list_numbered bytes last c.largest-last.ensures c.args.states range.0 range.1 c.if-bytes-states.false c.if-last-states.false used c.copied.result long c.copied.ensures in
    record { sized = table.0; numbered = table.1 }

pub returns : goal.returns
returns c =
    let bytes = c.args.bytes.now in
    let last = c.largest-last.result in
    let range : (1 ≤ c.args.states) × (c.args.states ≤ 128) = search rules in (
      range.0,
      range.1,
      each_below bytes last c.largest-last.ensures c.args.states c.if-bytes-states.false c.if-last-states.false,
      each_used bytes last c.largest-last.ensures (sym c.if-not-all_used.ensures),
      ap (λ (k : ℕ). take k c.copied.result) (sym c.if-bytes-states.false) ∙ c.copied.ensures,
    )
