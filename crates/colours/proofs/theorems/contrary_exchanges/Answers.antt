use Rattle.colours.proofs.theorems.contrary_exchanges.Goals as goal
use Rattle.colours.proofs.Contrary.{contrary_exchanges}

pub returns : goal.returns
returns c = contrary_exchanges
