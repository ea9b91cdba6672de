use Rattle.rules.proofs.Rules.{every_rule}
use Rattle.rules.proofs.theorems.every_rule.Goals as goal

pub returns : goal.returns
returns c = every_rule
