use Rattle.law.proofs.theorems.has_a_cause.Goals as goal
use Rattle.law.proofs.Fitting.{has_a_cause}

pub returns : goal.returns
returns c = has_a_cause
