use Rattle.colours.proofs.theorems.one_colour.Goals as goal
use Rattle.colours.proofs.Computed.{one_colour_computed}

pub returns : goal.returns
returns c = one_colour_computed
