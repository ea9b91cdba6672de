use Rattle.colours.proofs.theorems.consistent.Goals as goal
use Rattle.colours.proofs.Consistency.{consistent}

pub returns : goal.returns
returns c = consistent
