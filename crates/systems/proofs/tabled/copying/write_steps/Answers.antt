use Rattle.std.proofs.Common.{rules, arith}
use borrow.Author.Tests.{tests}
use Rattle.systems.specs.Model.{step_or_absent}
use Rattle.systems.specs.declared.kinds.Step.TheVariants.{Absent}
use Rattle.systems.proofs.Filling.{filled_blank}
use Rattle.systems.proofs.tabled.copying.write_steps.Goals as goal

pub returns : goal.returns
returns g c =
    let m = g.S.System.meaning c.args.system.now in
    let filled = rw (c.states-states.ensures, c.requires) at (c.fill_rows.ensures (step_or_absent m) (λ i j y k. search (rules, tests))) in
    λ s t l k. filled_blank 128 m.states m.states 16384 Absent m.step c.fill_rows.new.cells filled s t k (omega arith)
