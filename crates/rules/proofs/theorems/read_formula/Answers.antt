use Rattle.rules.proofs.Listing.{read_formula}
use Rattle.rules.proofs.theorems.read_formula.Goals as goal

pub returns : goal.returns
returns c = read_formula
