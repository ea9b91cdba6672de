use Rattle.law.proofs.theorems.runs_grow.Goals as goal
use Rattle.law.proofs.Laws.{runs_grow}

pub returns : goal.returns
returns c = runs_grow
