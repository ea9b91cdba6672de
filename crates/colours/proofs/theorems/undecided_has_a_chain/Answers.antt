use Rattle.colours.proofs.theorems.undecided_has_a_chain.Goals as goal
use Rattle.colours.proofs.Chaining.{undecided_has_a_chain}

pub returns : goal.returns
returns c = undecided_has_a_chain
