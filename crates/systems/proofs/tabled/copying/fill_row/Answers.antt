use Rattle.std.proofs.Common.{◌≡◌, ◌+◌, ◌<◌, ◌≤◌, ◌≢◌, length, ◌∙◌, sym, ap, of_calls, arith, get_or-set_other, ⊎_elim}
use Rattle.std.proofs.lemmas.Bool.{cases_lt}
use Rattle.std.proofs.lemmas.Grind.{get_or-set_at}
use Rattle.systems.proofs.tabled.copying.fill_row.Goals as goal

pub loop-k-preserved : goal.loop-k-preserved
loop-k-preserved g c =
    let i = c.loop-k.k in
    let cells = c.loop-k.cells in
    let from = c.args.from in
    let so_far = c.loop-k.invariant in
    let low : from + i < length cells = omega (arith, c.requires.fits) in
    record {
      row = λ t h j d l.
          ⊎_elim
          (λ (lt : j < i). let ne : from + j ≢ from + i = (λ e. absurd (omega arith)) in get_or-set_other cells (from + i) (from + j) _ d ne ∙ so_far.row t h j d lt)
          (λ (ge : i ≤ j).
          let same : j ≡ i = omega arith in
          get_or-set_at cells (from + i) (from + j) _ d (omega arith) low ∙ h i _ (search of_calls) ∙ ap t (sym same))
          (cases_lt j i);
      before = λ j d l. get_or-set_other cells (from + i) j _ d (λ e. absurd (omega arith)) ∙ so_far.before j d l;
      after = λ j d l. get_or-set_other cells (from + i) j _ d (λ e. absurd (omega arith)) ∙ so_far.after j d (omega arith);
    }

pub returns-clause-row : goal.returns-clause-row
returns-clause-row g c = λ t h k d l. c.loop-k.invariant.row t h k d (omega arith)
