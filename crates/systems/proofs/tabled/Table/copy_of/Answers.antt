use Rattle.std.proofs.Common.{sym, ◌∙◌, arith}
use Rattle.systems.specs.Model.{Agree}
use Rattle.systems.specs.Tabled.{written_model}
use Rattle.systems.specs.laws.TableLaws.{copy_in_range, copy_goes_and_starts}
use Rattle.systems.proofs.Questions.{step_in_range, mark_in_range, start_in_range}
use Rattle.systems.proofs.tabled.Table.copy_of.Goals as goal

pub invariant_of-result : goal.invariant_of-result
invariant_of-result g c =
    let m = g.S.System.meaning c.args.system.now in
    let law = g.S.System.lawful c.args.system.now in
    let n = c.states.result in
    let p = c.marks.result in
    let steps = c.write_steps.new.steps in
    let values = c.write_marks.new.values in
    let starts = c.write_starts.new.starts in
    let same : Agree m (written_model n p steps values starts) = record {
      states = sym c.states.ensures;
      marks = sym c.marks.ensures;
      step = λ s t a b. sym (c.write_steps.ensures s t (omega (arith, law.states_few)) (omega (arith, law.states_few)) ∙ step_in_range m s a t b);
      mark = λ s q a b. sym (c.write_marks.ensures s q (omega (arith, law.states_few)) (omega (arith, law.marks_few)) ∙ mark_in_range m s a q b);
      start = λ s a. sym (c.write_starts.ensures s (omega (arith, law.states_few)) ∙ start_in_range m s a);
    } in record {
      ranged = copy_in_range n p steps values starts m law same.states same.marks;
      lawful = copy_goes_and_starts n p steps values starts m law same;
    }
