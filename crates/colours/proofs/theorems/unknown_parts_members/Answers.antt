use Rattle.colours.proofs.theorems.unknown_parts_members.Goals as goal
use Rattle.colours.proofs.Exactness.{unknown_parts_members}

pub returns : goal.returns
returns c = unknown_parts_members
