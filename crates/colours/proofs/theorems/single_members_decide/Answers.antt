use Rattle.colours.proofs.theorems.single_members_decide.Goals as goal
use Rattle.colours.proofs.Exactness.{single_members_decide}

pub returns : goal.returns
returns c = single_members_decide
