use Rattle.law.proofs.theorems.replies_determined.Goals as goal
use Rattle.law.proofs.Determined.{replies_determined}

pub returns : goal.returns
returns c = replies_determined
