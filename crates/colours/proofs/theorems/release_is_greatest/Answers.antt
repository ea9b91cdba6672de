use Rattle.colours.proofs.theorems.release_is_greatest.Goals as goal
use Rattle.colours.proofs.Solutions.{release_is_greatest}

pub returns : goal.returns
returns c = release_is_greatest
