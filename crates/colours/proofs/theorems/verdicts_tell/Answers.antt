use Rattle.colours.proofs.theorems.verdicts_tell.Goals as goal
use Rattle.colours.proofs.Grouped.{verdicts_tell}

pub returns : goal.returns
returns c = verdicts_tell
