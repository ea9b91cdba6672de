use Rattle.std.proofs.Common.{rules, ap, ℕ}
use Rattle.std.specs.Prelude.{◌==◌}
use borrow.Author.Tests.{tests}
use Rattle.systems.specs.Counted.{is_step}
use Rattle.systems.specs.Model.{step_or_absent}
use Rattle.systems.specs.Numbers.{step_number}
use Rattle.systems.specs.declared.kinds.Step.{Step}
use Rattle.systems.proofs.Questions.{step_in_range}
use Rattle.systems.proofs.Counts.{cells_alike}
use Rattle.systems.proofs.counting.tallies.count_steps.Goals as goal

pub returns : goal.returns
returns g c =
    let m = g.S.System.meaning c.args.system.now in
    let asked = λ (s t : ℕ). step_number (step_or_absent m s t) == step_number c.args.kind in
    let counted = c.count_cells.ensures asked (λ s t b p. search (rules, tests)) in
    let same = cells_alike asked (is_step m c.args.kind) m.states m.states (λ s t l k. ap (λ (x : Step). step_number x == step_number c.args.kind) (step_in_range m s l t k)) in
    cc
