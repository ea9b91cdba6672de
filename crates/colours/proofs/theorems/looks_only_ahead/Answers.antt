use Rattle.colours.proofs.theorems.looks_only_ahead.Goals as goal
use Rattle.colours.proofs.Boards.{next_same}

pub returns : goal.returns
returns c = next_same
