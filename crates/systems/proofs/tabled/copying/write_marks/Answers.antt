use Rattle.std.proofs.Common.{rules, arith}
use borrow.Author.Tests.{tests}
use Rattle.systems.specs.Model.{mark_or_unknown}
use Rattle.systems.specs.declared.kinds.Colour.TheVariants.{Undecided}
use Rattle.systems.proofs.Filling.{filled_blank}
use Rattle.systems.proofs.tabled.copying.write_marks.Goals as goal

pub returns : goal.returns
returns g c =
    let m = g.S.System.meaning c.args.system.now in
    let filled = rw (c.states.ensures, c.marks.ensures, c.requires) at (c.fill_rows.ensures (mark_or_unknown m) (λ i j y k. search (rules, tests))) in
    λ s p l k. filled_blank 16 m.states m.marks 2048 Undecided m.mark c.fill_rows.new.cells filled s p k (omega arith)
