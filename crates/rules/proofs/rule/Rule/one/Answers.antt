use Rattle.std.proofs.Common.{true, rules}
use Rattle.rules.specs.Formulas.{Formula}
use Rattle.rules.proofs.Listing.{listed_whole}
use Rattle.rules.proofs.rule.Rule.one.Goals as goal

pub invariant_of-result : goal.invariant_of-result
invariant_of-result c = record { long = search rules; some = search rules; few = search rules; founded = (listed_whole (Formula.constant true)).0; marks = search rules }
