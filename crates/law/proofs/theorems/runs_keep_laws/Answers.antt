use Rattle.law.proofs.theorems.runs_keep_laws.Goals as goal
use Rattle.law.proofs.Laws.{runs_keep_laws}

pub returns : goal.returns
returns c = runs_keep_laws
