use Rattle.colours.proofs.theorems.groups_tell.Goals as goal
use Rattle.colours.proofs.Grouped.{groups_tell}

pub returns : goal.returns
returns c = groups_tell
