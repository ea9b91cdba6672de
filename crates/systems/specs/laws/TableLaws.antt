-- A table keeps the laws of a system, and a copy of a system can be kept in one.
use Rattle.std.specs.Prelude.{◌≡◌, ℕ, ◌<◌, Bool, true, List, refl}
use Rattle.std.proofs.Common.{arith, sym, ap, ◌∙◌}
use Rattle.std.proofs.lemmas.Bool.Decides.{Decides-below_or, Decides-below_and}
use Rattle.systems.specs.Below.{all_below, any_below}
use Rattle.systems.specs.Model.{Model, Lawful, Agree}
use Rattle.systems.specs.Numbers.{is_possible}
use Rattle.systems.specs.Tabled.{InRange, GoesAndStarts, written_model, leads, leads_on, step_at, start_at}
use Rattle.systems.specs.declared.kinds.Step.{Step}
use Rattle.systems.specs.declared.kinds.Step.TheVariants.{Absent, Unsure, Sure}
use Rattle.systems.specs.declared.kinds.Colour.{Colour}

pub all_at : (test : ℕ → Bool) (n k : ℕ) → all_below test n ≡ true → k < n → test k ≡ true
all_at test n k e l = (Decides-below_and test (λ k. test k ≡ true) (all_below test) (λ k. ((λ e. e), (λ e. e))) refl (λ _. refl) n).0 e k l

pub all_from : (test : ℕ → Bool) (n : ℕ) → ((k : ℕ) → k < n → test k ≡ true) → all_below test n ≡ true
all_from test n h = (Decides-below_and test (λ k. test k ≡ true) (all_below test) (λ k. ((λ e. e), (λ e. e))) refl (λ _. refl) n).1 h

pub any_at : (test : ℕ → Bool) (n : ℕ) → any_below test n ≡ true → (k : ℕ) × (k < n) × (test k ≡ true)
any_at test n e = (Decides-below_or test (λ k. test k ≡ true) (any_below test) (λ k. ((λ e. e), (λ e. e))) refl (λ _. refl) n).0 e

pub any_from : (test : ℕ → Bool) (n k : ℕ) → k < n → test k ≡ true → any_below test n ≡ true
any_from test n k l e = (Decides-below_or test (λ k. test k ≡ true) (any_below test) (λ k. ((λ e. e), (λ e. e))) refl (λ _. refl) n).1 (k, l, e)

pub possible_from : (k : Step) → is_possible k ≡ true → ¬ (k ≡ Absent)
possible_from k e n = let b = ap is_possible n in let z : ◌≡◌ {A = ℕ} 0 1 = cc in omega arith

pub possible_to : (k : Step) → ¬ (k ≡ Absent) → is_possible k ≡ true
possible_to Absent n = absurd (n refl)
possible_to Unsure n = refl
possible_to Sure n = refl

module _ (n p : ℕ) (steps : List Step) (values : List Colour) (starts : List Bool) where
  pub table_lawful : InRange n p → GoesAndStarts n steps starts → Lawful (written_model n p steps values starts)
  table_lawful range w = record {
    states_some = range.0;
    states_few = range.1;
    marks_some = range.2;
    marks_few = range.3;
    goes_on = λ s l.
        let row = any_at (leads steps s) n (all_at (leads_on steps n) n s w.0 l) in
        (row.0, (l, row.1, possible_from (step_at steps s row.0) row.2));
    starts = let first = any_at (start_at starts) n w.1 in (first.0, (first.1, first.2));
  }

  pub copy_in_range : (m : Model) → Lawful m → m.states ≡ n → m.marks ≡ p → InRange n p
  copy_in_range m law a b = (
    omega (arith, law.states_some),
    omega (arith, law.states_few),
    omega (arith, law.marks_some),
    omega (arith, law.marks_few),
  )

  pub copy_goes_and_starts : (m : Model) → Lawful m → Agree m (written_model n p steps values starts) → GoesAndStarts n steps starts
  copy_goes_and_starts m law same = (
    all_from (leads_on steps n) n
        (λ s l.
        let on = law.goes_on s (omega (arith, same.states)) in
        any_from (leads steps s) n on.0 (omega (arith, on.1.1, same.states))
        (possible_to (step_at steps s on.0) (λ e. on.1.2 (same.step s on.0 on.1.0 on.1.1 ∙ e)))),
    (let first = law.starts in
        any_from (start_at starts) n first.0 (omega (arith, first.1.0, same.states))
        (sym (same.start first.0 first.1.0) ∙ first.1.1)),
  )
