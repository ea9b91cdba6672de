use Rattle.law.proofs.theorems.new_runs_keep_laws.Goals as goal
use Rattle.law.proofs.Laws.{new_runs_keep_laws}

pub returns : goal.returns
returns c = new_runs_keep_laws
