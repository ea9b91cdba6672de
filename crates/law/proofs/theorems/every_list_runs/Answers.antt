use Rattle.law.proofs.theorems.every_list_runs.Goals as goal
use Rattle.law.proofs.Laws.{every_list_runs}

pub returns : goal.returns
returns c = every_list_runs
