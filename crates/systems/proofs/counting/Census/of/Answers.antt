use Rattle.std.proofs.Common.{rules, sym, ◌∙◌}
use borrow.Author.Tests.{tests}
use Rattle.systems.specs.Model.{is_start}
use Rattle.systems.proofs.Questions.{start_in_range}
use Rattle.systems.proofs.Exactness.{exact_from, no_unsure, no_unknown}
use Rattle.systems.proofs.Ranges.{count_alike}
use Rattle.systems.proofs.counting.Census.of.Goals as goal

pub returns : goal.returns
returns g c =
    let m = g.S.System.meaning c.args.system.now in
    let unsure = c.count_steps-steps_unsure in
    let unknown = c.count_marks-marks_unknown in
    record {
      states = c.states.ensures;
      marks = c.marks.ensures;
      starts =
          let counted = c.count_below.ensures.is (is_start m) (λ s b p. search (rules, tests)) in
          let same = count_alike (is_start m) m.start m.states (λ s l. start_in_range m s l) in
          cc;
      sure = c.count_steps.ensures;
      unsure = unsure.ensures;
      absent = c.count_steps-2.ensures;
      marks_T = c.count_marks.ensures;
      marks_F = c.count_marks-2.ensures;
      unknown = unknown.ensures;
      exact_true = λ e.
          let none = c.is_exact.ensures.only e in
          exact_from m (sym unsure.ensures ∙ none.0) (sym unknown.ensures ∙ none.1);
      exact_told = λ x. c.is_exact.ensures.told (unsure.ensures ∙ no_unsure m x) (unknown.ensures ∙ no_unknown m x);
    }
