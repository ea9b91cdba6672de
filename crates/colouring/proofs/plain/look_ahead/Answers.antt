use Rattle.std.proofs.Common.{◌≡◌, ◌∙◌, rules, arith}
use Rattle.rules.specs.declared.syntax.Quantifier.TheVariants.{E}
use Rattle.colours.specs.Values.{next_value}
use Rattle.colours.proofs.Boards.{next_same}
use Rattle.colouring.specs.passes.Columns.{model, column}
use Rattle.colouring.proofs.Placing.{part_same}
use Rattle.colouring.proofs.plain.look_ahead.Goals as goal

pub returns : goal.returns
returns c =
    let p = c.args.columns.now in
    let M = model p in
    let b = c.args.board.now in
    let order = c.requires.fits.order in
    c.write_each.ensures.written (next_value M E (column p b p.left)) (λ d s v only low says.
    let e : v ≡ next_value M E (column p d.now p.left) s = search rules in
    e ∙ next_same M E (column p d.now p.left) (column p b p.left) s (omega (arith, p.every_state)) (λ t k. part_same p b d.now order.whole only p.left t order.left))
