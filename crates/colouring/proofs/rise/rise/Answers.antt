use Rattle.std.proofs.Common.{length, ap, subst, rules, arith}
use Rattle.colouring.specs.passes.Rising.{Risen}
use Rattle.queue.specs.Held.{held}
use Rattle.colouring.specs.passes.Columns.{model, column}
use Rattle.colouring.proofs.Placing.{fits_same}
use Rattle.colouring.proofs.Heights.{height_most}
use Rattle.colouring.proofs.Rises.{rising_begun}
use Rattle.colouring.proofs.rise.rise.Goals as goal

pub invariant_of-rise : goal.invariant_of-rise
invariant_of-rise c =
    let p = c.args.columns.now in
    let most = height_most p.states (column p c.fill.new.board p.whole) in
    let none = ap length c.clear.ensures.empty in
    record {
      fits = fits_same p c.args.board.now c.fill.new.board (omega arith) c.requires.fits;
      place = omega (arith, c.requires.place, c.clear.ensures.room);
    }

pub spread-requires : goal.spread-requires
spread-requires c =
    let p = c.args.columns.now in
    let b₀ = c.args.board.now in
    (b₀, c.seed.ensures.kept b₀ (rising_begun p (model p) b₀ c.requires.fits.order p.every_state c.fill.new.board (held c.clear.new.self) c.clear.ensures.empty c.fill.ensures))

pub returns-clause-risen : goal.returns-clause-risen
returns-clause-risen c =
    let p = c.args.columns.now in
    let b₀ = c.args.board.now in
    let begun = rising_begun p (model p) b₀ c.requires.fits.order p.every_state c.fill.new.board (held c.clear.new.self) c.clear.ensures.empty c.fill.ensures in
    let risen : Risen p b₀ c.spread.new.self.board.now = subst (λ p. Risen p b₀ c.spread.new.self.board.now) c.seed.ensures.same.columns (c.spread.ensures.risen b₀ (c.seed.ensures.kept b₀ begun)) in
    search rules
