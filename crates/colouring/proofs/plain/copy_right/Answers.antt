use Rattle.std.proofs.Common.{◌≡◌, ◌∙◌, rules}
use Rattle.colouring.specs.passes.Columns.{column}
use Rattle.colouring.proofs.Placing.{part_same}
use Rattle.colouring.proofs.plain.copy_right.Goals as goal

pub returns : goal.returns
returns c =
    let p = c.args.columns.now in
    let b = c.args.board.now in
    let order = c.requires.fits.order in
    c.write_each.ensures.written (column p b p.right) (λ d s v only low says.
    let e : v ≡ column p d.now p.right s = search rules in e ∙ part_same p b d.now order.whole only p.right s order.right)
