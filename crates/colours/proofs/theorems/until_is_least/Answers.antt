use Rattle.colours.proofs.theorems.until_is_least.Goals as goal
use Rattle.colours.proofs.Solutions.{until_is_least}

pub returns : goal.returns
returns c = until_is_least
