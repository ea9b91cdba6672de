-- Colours and verdicts over groups tell those below.
use Rattle.std.proofs.Common.{ℕ, ◌<◌, refl, subst}
use Rattle.systems.specs.declared.kinds.Colour.TheVariants.{Undecided, F, T}
use Rattle.systems.specs.Model.{Model}
use Rattle.rules.specs.Formulas.{Formula}
use Rattle.colours.specs.Colours.{colouring}
use Rattle.colours.specs.Abstractions.{Abstracts}
use Rattle.colours.specs.Groupings.{Member, grouped, Fits}
use Rattle.colours.specs.Theorems.{GroupsTell, VerdictsTell}
use Rattle.colours.proofs.Induction.{marks_of, all_marks}
use Rattle.colours.proofs.Preservation.{Keeps, preserves, tells}
use Rattle.colours.proofs.Grouping.{sure_group_step, absent_group_step, true_group_mark, false_group_mark, group_start_decides}

module _ (M : Model) (group : ℕ → ℕ) (groups : ℕ) (fits : Fits M group groups) where
  -- the model of the groups abstracts the model below, for any number of marks
  pub grouped_abstracts : (P : ℕ) → Abstracts (grouped M group groups) M P (Member M group)
  grouped_abstracts P = record {
    sure_step = λ g s h m k. let t = sure_group_step M group g h k.2 s m in (t.0, (m.0, t.1.0, t.2), t.1);
    possible_step = λ g s t m k. (
      group t,
      (
        subst (λ x. x < groups) m.1 (fits s m.0),
        fits t k.1,
        λ e. k.2
            (absent_group_step M group g (group t) e s m t (k.1, refl)),
      ),
      (k.1, refl),
    );
    mark_T = λ g s p low m e. true_group_mark M group g p e s m;
    mark_F = λ g s p low m e. false_group_mark M group g p e s m;
  }

  keeps : (f : Formula) → Keeps (Member M group) (colouring (grouped M group groups) f) (colouring M f)
  keeps f = preserves (grouped M group groups) M (marks_of f) (Member M group) (grouped_abstracts (marks_of f)) f (all_marks f)

pub groups_tell : GroupsTell
groups_tell M group groups fits f g s m =
    tells (grouped M group groups) M (marks_of f) (Member M group) (grouped_abstracts M group groups fits (marks_of f)) f
    (all_marks f) g s m

pub verdicts_tell : VerdictsTell
verdicts_tell M group groups fits f T d h = λ s k.
    (keeps M group groups fits f).0 (group s) s (k.0, refl)
    (h (group s) (fits s k.0, (group_start_decides M group (group s)).1 (s, (k.0, refl), k.1)))
verdicts_tell M group groups fits f F d h =
    let w = (group_start_decides M group h.0).0 h.1.1 in
    (w.0, (w.1.0, w.2), (keeps M group groups fits f).1 h.0 w.0 w.1 h.2)
verdicts_tell M group groups fits f Undecided d h = absurd (d refl)
