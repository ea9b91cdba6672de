-- A system is exact just where no unsure step and no unknown mark is counted.
use Rattle.std.proofs.Common.{◌≡◌, refl, ap, arith}
use Rattle.std.proofs.lemmas.Bool.{eq-eqb, ne_eqb}
use Rattle.systems.specs.Counted.{is_step, is_mark, steps_of, marks_of}
use Rattle.systems.specs.Model.{Model, Exact}
use Rattle.systems.specs.Numbers.{step_number, colour_number}
use Rattle.systems.specs.declared.kinds.Step.{Step}
use Rattle.systems.specs.declared.kinds.Step.TheVariants.{Absent, Unsure, Sure}
use Rattle.systems.specs.declared.kinds.Colour.{Colour}
use Rattle.systems.specs.declared.kinds.Colour.TheVariants.{Undecided, F, T}
use Rattle.systems.proofs.Counts.{none_cells, cells_none}

unsure_by_number : (k : Step) → step_number k ≡ 1 → k ≡ Unsure
unsure_by_number Absent e = absurd (omega arith)
unsure_by_number Unsure e = refl
unsure_by_number Sure e = absurd (omega arith)

unknown_by_number : (v : Colour) → colour_number v ≡ 0 → v ≡ Undecided
unknown_by_number Undecided e = refl
unknown_by_number F e = absurd (omega arith)
unknown_by_number T e = absurd (omega arith)

module _ (m : Model) where
  pub exact_from : steps_of m Unsure ≡ 0 → marks_of m Undecided ≡ 0 → Exact m
  exact_from a b = record {
    steps_known = λ s t l k e. none_cells (is_step m Unsure) m.states m.states s t a l k (eq-eqb _ _ (ap step_number e));
    marks_known = λ s p l k e. none_cells (is_mark m Undecided) m.states m.marks s p b l k (eq-eqb _ _ (ap colour_number e));
  }

  pub no_unsure : Exact m → steps_of m Unsure ≡ 0
  no_unsure x = cells_none (is_step m Unsure) m.states m.states
      (λ s t l k. ne_eqb _ _ (λ e. x.steps_known s t l k (unsure_by_number (m.step s t) e)))

  pub no_unknown : Exact m → marks_of m Undecided ≡ 0
  no_unknown x = cells_none (is_mark m Undecided) m.states m.marks
      (λ s p l k. ne_eqb _ _ (λ e. x.marks_known s p l k (unknown_by_number (m.mark s p) e)))
