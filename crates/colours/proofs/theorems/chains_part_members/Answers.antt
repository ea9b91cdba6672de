use Rattle.colours.proofs.theorems.chains_part_members.Goals as goal
use Rattle.colours.proofs.Chaining.{chains_part_members}

pub returns : goal.returns
returns c = chains_part_members
