use Rattle.std.proofs.Common.{◌≡◌, ◌∙◌, ap₂, rules}
use Rattle.colours.specs.Values.{meet}
use Rattle.colouring.specs.passes.Columns.{met}
use Rattle.colouring.proofs.Placing.{part_same}
use Rattle.colouring.proofs.plain.meet_parts.Goals as goal

pub returns : goal.returns
returns c =
    let p = c.args.columns.now in
    let b = c.args.board.now in
    let order = c.requires.fits.order in
    c.write_each.ensures.written (met p b) (λ d s v only low says.
    let e : v ≡ met p d.now s = search rules in
    e ∙ ap₂ meet (part_same p b d.now order.whole only p.left s order.left) (part_same p b d.now order.whole only p.right s order.right))
