use Rattle.std.proofs.Common.{rules, ◌≡◌, ℕ, subst, arith}
use borrow.Author.Tests.{tests}
use Rattle.systems.specs.Tabled.{Filled}
use Rattle.systems.proofs.Filling.{filled_none, filled_more}
use Rattle.systems.proofs.tabled.copying.fill_rows.Goals as goal

pub loop-row-init : goal.loop-row-init
loop-row-init g c = λ t h. filled_none c.args.width c.args.columns t c.args.cells.now

pub loop-row-preserved : goal.loop-row-preserved
loop-row-preserved g c = λ t h.
    let here = c.fill_row.ensures in
    let row = c.loop-row.row-counter in
    filled_more c.args.width c.args.columns t row (omega (arith, c.requires.fits)) c.args.cells.now c.loop-row.cells c.fill_row.new.cells
    (here.row (t row) (λ k y p. let is = h row k y in search (rules, tests))) here.before here.after (c.loop-row.invariant t h)

pub returns : goal.returns
returns g c = λ t h.
    let all : c.loop-row.row-counter ≡ c.args.rows = omega arith in
    subst (λ (n : ℕ). Filled c.args.width n c.args.columns t c.args.cells.now c.loop-row.cells) all (c.loop-row.invariant t h)
