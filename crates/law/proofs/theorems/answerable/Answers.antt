use Rattle.law.proofs.theorems.answerable.Goals as goal
use Rattle.law.proofs.Answering.{answerable}

pub returns : goal.returns
returns c = answerable
