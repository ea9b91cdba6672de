-- What is counted of a system is counted of every system that agrees with it.
use Rattle.std.proofs.Common.{◌≡◌, ◌<◌, eqb, sym, ap, ◌∙◌, arith}
use Rattle.systems.proofs.Counts.{cells_alike}
use Rattle.systems.proofs.Ranges.{count_alike}
use Rattle.systems.specs.Below.{count_below}
use Rattle.systems.specs.Counted.{Counted, is_step, is_mark, steps_of, marks_of}
use Rattle.systems.specs.Model.{Model, Agree, Exact}
use Rattle.systems.specs.Numbers.{step_number, colour_number}
use Rattle.systems.specs.declared.counting.Census.{Census}
use Rattle.systems.specs.declared.kinds.Step.{Step}
use Rattle.systems.specs.declared.kinds.Step.TheVariants.{Absent, Unsure, Sure}
use Rattle.systems.specs.declared.kinds.Colour.{Colour}
use Rattle.systems.specs.declared.kinds.Colour.TheVariants.{Undecided, F, T}

module _ (m n : Model) (same : Agree m n) where
  same_steps : (k : Step) → steps_of n k ≡ steps_of m k
  same_steps k =
      rw (← same.states)
      (cells_alike (is_step n k) (is_step m k) m.states m.states
      (λ s t l j. ap (λ (x : Step). eqb (step_number x) (step_number k)) (sym (same.step s t l j))))

  same_marks : (v : Colour) → marks_of n v ≡ marks_of m v
  same_marks v =
      rw (← same.states, ← same.marks)
      (cells_alike (is_mark n v) (is_mark m v) m.states m.marks
      (λ s p l j. ap (λ (x : Colour). eqb (colour_number x) (colour_number v)) (sym (same.mark s p l j))))

  same_starts : count_below n.start n.states ≡ count_below m.start m.states
  same_starts = rw (← same.states) (count_alike n.start m.start m.states (λ s l. sym (same.start s l)))

  exact_here : Exact n → Exact m
  exact_here x = record {
    steps_known = λ s t l k e. x.steps_known s t (omega (arith, same.states)) (omega (arith, same.states)) (sym (same.step s t l k) ∙ e);
    marks_known = λ s p l k e. x.marks_known s p (omega (arith, same.states)) (omega (arith, same.marks)) (sym (same.mark s p l k) ∙ e);
  }

  exact_there : Exact m → Exact n
  exact_there x = record {
    steps_known = λ s t l k e.
        let l' : s < m.states = omega (arith, same.states) in
        let k' : t < m.states = omega (arith, same.states) in
        x.steps_known s t l' k' (same.step s t l' k' ∙ e);
    marks_known = λ s p l k e.
        let l' : s < m.states = omega (arith, same.states) in
        let k' : p < m.marks = omega (arith, same.marks) in
        x.marks_known s p l' k' (same.mark s p l' k' ∙ e);
  }

  pub counted_alike : (c : Census) → Counted n c → Counted m c
  counted_alike c k = record {
    states = k.states ∙ sym same.states;
    marks = k.marks ∙ sym same.marks;
    starts = k.starts ∙ same_starts;
    sure = k.sure ∙ same_steps Sure;
    unsure = k.unsure ∙ same_steps Unsure;
    absent = k.absent ∙ same_steps Absent;
    marks_T = k.marks_T ∙ same_marks T;
    marks_F = k.marks_F ∙ same_marks F;
    unknown = k.unknown ∙ same_marks Undecided;
    exact_true = λ e. exact_here (k.exact_true e);
    exact_told = λ x. k.exact_told (exact_there x);
  }
