use Rattle.std.proofs.Common.{ℕ, refl, ap, ◌∙◌, rules, arith}
use Rattle.std.proofs.lemmas.Iterator.{YieldsList-from_range, YieldsList-from_map}
use Rattle.std.proofs.lemmas.Iterator.Consumers.{fold_from_yields_List, YieldsList-at}
use Rattle.systems.specs.declared.kinds.Colour.TheVariants.{F}
use Rattle.colours.specs.Values.{join, meet, rated, join_below}
use Rattle.colouring.specs.passes.Columns.{model, column}
use Rattle.colouring.proofs.Folds.{join_over}
use Rattle.colouring.proofs.plain.ahead.Goals as goal

pub returns : goal.returns
returns c =
    let p = c.args.columns.now in
    let f = λ (t : ℕ). meet (rated ((model p).step c.args.s t)) (column p c.args.board.now p.left t) in
    fold_from_yields_List _ join F c.fold.result c.fold.ensures.ran
    (YieldsList-from_map _ f (YieldsList-at c.map.ensures.source (YieldsList-from_range 0 p.states p.states refl (omega arith))) c.map.ensures.closure (λ x r q k. search rules))
    (λ a x z q k. search rules)
    ∙ join_over f p.states ∙ ap (λ n. join_below n f) p.every_state
