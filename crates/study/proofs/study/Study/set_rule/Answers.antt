use Rattle.std.proofs.Common.{ℕ, sym, ◌∙◌, subst}
use mathlib.Core.Bool.{false≢true}
use Rattle.std.specs.List.{AllByRecursion}
use Rattle.rules.specs.Clauses.{MarkBelow}
use Rattle.rules.specs.Rules.{clause_list}
use Rattle.study.specs.Studies.{ledger}
use Rattle.study.proofs.Replying.{set_refused, set_done}
use Rattle.study.proofs.study.Study.set_rule.Goals as goal

pub returns-then-not-marks_below-clause-agrees : goal.returns-then-not-marks_below-clause-agrees
returns-then-not-marks_below-clause-agrees g c =
    let meaning = g.S.System.meaning in
    let self = c.args.self.now in
    set_refused (meaning self.grouping.system) (ledger meaning self) c.args.rule
    (subst (λ (n : ℕ). ¬ AllByRecursion (MarkBelow n) (clause_list c.args.rule)) c.marks.ensures
    (λ h. false≢true (sym c.if-not-marks_below.true ∙ c.marks_below.ensures.1 h)))

pub returns-clause-agrees : goal.returns-clause-agrees
returns-clause-agrees g c =
    let meaning = g.S.System.meaning in
    let self = c.args.self.now in
    set_done (meaning self.grouping.system) (ledger meaning self) c.args.rule
    (subst (λ (n : ℕ). AllByRecursion (MarkBelow n) (clause_list c.args.rule)) c.marks.ensures (c.marks_below.ensures.0 c.if-not-marks_below.false))
