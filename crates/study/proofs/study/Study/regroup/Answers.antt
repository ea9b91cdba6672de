use Rattle.std.proofs.Common.{ap}
use Rattle.groupings.specs.Grouped.{groups_at}
use Rattle.study.specs.Studies.{clauses_for}
use Rattle.study.proofs.Replying.{ruled, regrouped}
use Rattle.study.proofs.study.Study.regroup.Goals as goal

pub returns-clause-agrees : goal.returns-clause-agrees
returns-clause-agrees g c =
    let meaning = g.S.System.meaning in
    let self = c.args.self.now in
    regrouped (meaning self.grouping.system) (λ x. ruled (groups_at meaning x) (clauses_for (meaning x.system).marks self.rule)) self.grouping c.regroup.new.self
    c.args.groups.now c.regroup.result c.regroup.ensures.answer
    (ap (λ x. clauses_for (meaning x).marks self.rule) c.regroup.ensures.below) c.regroup.ensures.kept
