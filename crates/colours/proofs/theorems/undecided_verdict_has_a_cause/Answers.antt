use Rattle.colours.proofs.theorems.undecided_verdict_has_a_cause.Goals as goal
use Rattle.colours.proofs.Chaining.{undecided_verdict_has_a_cause}

pub returns : goal.returns
returns c = undecided_verdict_has_a_cause
