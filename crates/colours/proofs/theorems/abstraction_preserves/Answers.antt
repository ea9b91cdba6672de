use Rattle.colours.proofs.theorems.abstraction_preserves.Goals as goal
use Rattle.colours.proofs.Preservation.{abstraction_preserves}

pub returns : goal.returns
returns c = abstraction_preserves
