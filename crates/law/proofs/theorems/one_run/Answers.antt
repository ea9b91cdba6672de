use Rattle.law.proofs.theorems.one_run.Goals as goal
use Rattle.law.proofs.Determined.{one_run}

pub returns : goal.returns
returns c = one_run
