use Rattle.std.proofs.Common.{rules, ◌≡◌, ℕ, arith, subst}
use borrow.Author.Tests.{tests}
use Rattle.systems.specs.Below.{count_cells}
use Rattle.systems.proofs.Counts.{add_row}
use Rattle.systems.proofs.counting.tallies.count_cells.Goals as goal

pub loop-line-preserved : goal.loop-line-preserved
loop-line-preserved g c =
    let row = c.count_below-count in
    let i = c.loop-line.line-counter in (
      omega (arith, row.ensures.few, c.loop-line.invariant.0),
      λ t h.
          let is = row.ensures.is (t i) (λ k b p. let e = h i k b in search (rules, tests)) in
          (add_row t c.args.columns 128 i c.loop-line.count row.result (omega (arith, row.ensures.few)) is (c.loop-line.invariant.0, c.loop-line.invariant.1 t h)).1,
    )

pub returns : goal.returns
returns g c = λ t h.
    let all : c.loop-line.line-counter ≡ c.args.rows = omega arith in
    subst (λ (n : ℕ). c.loop-line.count ≡ count_cells t n c.args.columns) all (c.loop-line.invariant.1 t h)
