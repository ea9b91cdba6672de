use Rattle.colours.proofs.theorems.one_verdict.Goals as goal
use Rattle.colours.proofs.Verdicts.{one_verdict}

pub returns : goal.returns
returns c = one_verdict
