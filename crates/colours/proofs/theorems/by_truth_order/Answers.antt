use Rattle.colours.proofs.theorems.by_truth_order.Goals as goal
use Rattle.colours.proofs.Computed.{by_truth_order}

pub returns : goal.returns
returns c = by_truth_order
