use Rattle.std.proofs.Common.{ℕ, sym, refl, ◌∙◌, subst}
use mathlib.Core.Bool.{false≢true}
use Rattle.std.specs.List.{AllByRecursion}
use Rattle.rules.specs.Clauses.{MarkBelow}
use Rattle.rules.specs.Rules.{clause_list}
use Rattle.study.proofs.Known.{clauses_kept, clauses_one}
use Rattle.study.proofs.study.Study.fitted_rule.Goals as goal

pub returns-then-marks_below-clause-known : goal.returns-then-marks_below-clause-known
returns-then-marks_below-clause-known g c =
    subst (λ (n : ℕ). AllByRecursion (MarkBelow n) (clause_list c.args.self.now.rule)) c.marks.ensures (c.if-marks_below.ensures.0 refl)

pub returns-then-marks_below-clause-is : goal.returns-then-marks_below-clause-is
returns-then-marks_below-clause-is g c =
    sym (clauses_kept _ c.args.self.now.rule
    (subst (λ (n : ℕ). AllByRecursion (MarkBelow n) (clause_list c.args.self.now.rule)) c.marks.ensures (c.if-marks_below.ensures.0 refl)))

pub returns-else-marks_below-clause-is : goal.returns-else-marks_below-clause-is
returns-else-marks_below-clause-is g c =
    c.one.ensures.clauses ∙ sym (clauses_one _ c.args.self.now.rule
    (subst (λ (n : ℕ). ¬ AllByRecursion (MarkBelow n) (clause_list c.args.self.now.rule)) c.marks.ensures
    (λ h. false≢true (sym c.if-marks_below.false ∙ c.marks_below.ensures.1 h))))
