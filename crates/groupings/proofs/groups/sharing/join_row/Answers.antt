use Rattle.std.proofs.Common.{◌+◌, ◌<◌, length, get_or, ap, ◌∙◌, arith}
use Rattle.std.specs.Bool.{then_some}
use Rattle.std.proofs.lemmas.List.{get_or_default}
use Rattle.groupings.specs.Joined.{joined_with}
use Rattle.groupings.proofs.Rows.{changed_none, changed_more}
use Rattle.groupings.proofs.groups.sharing.join_row.Goals as goal

pub loop-k-init : goal.loop-k-init
loop-k-init g c =
    let d = g.A.Shared.of_none in
    changed_none d c.args.start (λ k a. joined_with g.A.Shared.joined (then_some c.args.found a) (get_or c.args.row.now k d)) c.args.places.now

pub loop-k-preserved : goal.loop-k-preserved
loop-k-preserved g c =
    let d = g.A.Shared.of_none in
    let join = joined_with g.A.Shared.joined in
    let k = c.loop-k.k in
    let places = c.loop-k.places in
    let row = c.args.row.now in
    let at = c.args.start + k in
    let low : at < length places = omega (arith, c.requires.room, c.loop-k.auto.places) in
    let far : k < length row = omega (arith, c.requires.long) in
    changed_more d c.args.start (λ u a. join (then_some c.args.found a) (get_or row u d)) c.args.places.now k places c.joined_with.result low
    (c.joined_with.ensures ∙ ap (λ o. join o c.index-row-k.result) (c.then_some.ensures ∙ ap (then_some c.args.found) (c.index-places-at.is ∙ get_or_default places at c.index-places-at.result d low))
    ∙ ap (join (then_some c.args.found (get_or places at d))) (c.index-row-k.is ∙ get_or_default row k c.index-row-k.result d far))
    c.loop-k.invariant

pub returns : goal.returns
returns g c = record {
  joined = λ k l. c.loop-k.invariant.0 k (omega arith);
  others = λ at n. c.loop-k.invariant.1 at (λ k l. n k (omega arith));
}
