use Rattle.std.proofs.Common.{◌≡◌, ℕ, length, get_or, replicate, map, zero, suc, refl, ap, subst, rules, arith, List, []}
use Rattle.colours.specs.Values.{negate}
use Rattle.queue.specs.Held.{held}
use Rattle.colouring.specs.declared.columns.Columns.{Columns}
use Rattle.colouring.specs.declared.notes.Note.{Note}
use Rattle.colouring.specs.passes.Columns.{model, column, Fits, Written}
use Rattle.colouring.specs.passes.Falling.{witnesses, trials, Falling, Fallen}
use Rattle.colouring.proofs.Placing.{fits_same}
use Rattle.colouring.proofs.Heights.{height_most}
use Rattle.colouring.proofs.Falls.{falling_begun}
use Rattle.colouring.proofs.Descents.{blank}
use Rattle.colouring.proofs.fall.fall.Goals as goal

zeros : (f : Note → ℕ) → f blank ≡ 0 → (n s : ℕ) → get_or (map f (replicate n blank)) s 0 ≡ 0
zeros f e zero s = refl
zeros f e (suc n) zero = e
zeros f e (suc n) (suc s) = zeros f e n s

begun : (p : Columns) (b₀ b h : List ℕ) → Fits p b₀ → h ≡ [] → Written p b₀ b (column p b₀ p.right)
    → Falling p (model p) b₀ b h (witnesses (replicate 128 blank)) (trials (replicate 128 blank)) 0 0
begun p b₀ b h fit none written =
    let few = p.table.now.ranged.1 in
    falling_begun p (model p) b₀ fit.order p.every_state b h (witnesses (replicate 128 blank)) (trials (replicate 128 blank)) none (few, few)
    (zeros (λ n. n.witness) refl 128, zeros (λ n. n.tried) refl 128) written

pub invariant_of-fall : goal.invariant_of-fall
invariant_of-fall c =
    let p = c.args.columns.now in
    let most = height_most p.states (λ s. negate (column p c.copy_right.new.board p.whole s)) in
    let none = ap length c.clear.ensures.empty in
    record {
      fits = fits_same p c.args.board.now c.copy_right.new.board (omega arith) c.requires.fits;
      place = omega (arith, c.requires.place, c.clear.ensures.room);
    }

pub look_again-requires : goal.look_again-requires
look_again-requires c =
    (c.args.board.now, begun c.args.columns.now c.args.board.now c.copy_right.new.board (held c.clear.new.self) c.requires.fits c.clear.ensures.empty c.copy_right.ensures)

pub settle-requires : goal.settle-requires
settle-requires c = (
  c.args.board.now,
  c.look_again.ensures.kept c.args.board.now
      (begun c.args.columns.now c.args.board.now c.copy_right.new.board (held c.clear.new.self) c.requires.fits c.clear.ensures.empty c.copy_right.ensures),
)

pub returns-clause-fallen : goal.returns-clause-fallen
returns-clause-fallen c =
    let p = c.args.columns.now in
    let b₀ = c.args.board.now in
    let start = begun p b₀ c.copy_right.new.board (held c.clear.new.self) c.requires.fits c.clear.ensures.empty c.copy_right.ensures in
    let fallen : Fallen p b₀ c.settle.new.self.board.now =
    subst (λ p. Fallen p b₀ c.settle.new.self.board.now) c.look_again.ensures.same.columns (c.settle.ensures.fallen b₀ (c.look_again.ensures.kept b₀ start)) in
    search rules
