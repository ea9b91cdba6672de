use Rattle.std.proofs.Common.{rules, ap, ℕ}
use Rattle.std.specs.Prelude.{◌==◌}
use borrow.Author.Tests.{tests}
use Rattle.systems.specs.Counted.{is_mark}
use Rattle.systems.specs.Model.{mark_or_unknown}
use Rattle.systems.specs.Numbers.{colour_number}
use Rattle.systems.specs.declared.kinds.Colour.{Colour}
use Rattle.systems.proofs.Questions.{mark_in_range}
use Rattle.systems.proofs.Counts.{cells_alike}
use Rattle.systems.proofs.counting.tallies.count_marks.Goals as goal

pub returns : goal.returns
returns g c =
    let m = g.S.System.meaning c.args.system.now in
    let asked = λ (s t : ℕ). colour_number (mark_or_unknown m s t) == colour_number c.args.value in
    let counted = c.count_cells.ensures asked (λ s t b p. search (rules, tests)) in
    let same = cells_alike asked (is_mark m c.args.value) m.states m.marks (λ s t l k. ap (λ (x : Colour). colour_number x == colour_number c.args.value) (mark_in_range m s l t k)) in
    cc
