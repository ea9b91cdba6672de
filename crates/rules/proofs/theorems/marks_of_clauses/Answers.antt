use Rattle.rules.proofs.Listing.{marks_of_clauses}
use Rattle.rules.proofs.theorems.marks_of_clauses.Goals as goal

pub returns : goal.returns
returns c = marks_of_clauses
