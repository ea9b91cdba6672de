use Rattle.std.proofs.Common.{refl, ap, Ok, subst}
use Rattle.groupings.specs.Grouped.{groups_at, Split}
use Rattle.groupings.specs.Splits.{RefusedSplit}
use Rattle.law.specs.Calls.{accepts}
use Rattle.study.specs.Studies.{below, ledger, clauses_for}
use Rattle.study.proofs.Replying.{split_refused}
use Rattle.study.proofs.study.Study.split.Goals as goal

pub returns-in-Ok-clause-agrees : goal.returns-in-Ok-clause-agrees
returns-in-Ok-clause-agrees g c =
    let meaning = g.S.System.meaning in
    let self = c.args.self.now in
    let h = subst (λ r. Split (below meaning self) r (groups_at meaning self.grouping) (groups_at meaning c.split_by.new.self) (Ok tt)) c.reason.ensures c.in-Ok.ensures.answer in
    accepts (h.0, (h.1, tt)) (refl, ap (λ x. clauses_for (meaning x).marks self.rule) c.in-Ok.ensures.below, h.2)

pub returns-in-Err-clause-agrees : goal.returns-in-Err-clause-agrees
returns-in-Err-clause-agrees g c =
    let meaning = g.S.System.meaning in
    let self = c.args.self.now in
    rw c.in-Err.ensures.kept
    (split_refused (below meaning self) (ledger meaning self) c.args.slip.reason c.in-Err.refusal
    (subst (λ r. RefusedSplit (below meaning self) r (groups_at meaning self.grouping) c.in-Err.refusal) c.reason.ensures c.in-Err.ensures.answer))
