use Rattle.std.proofs.Common.{rules}
use borrow.Author.Tests.{tests}
use Rattle.systems.specs.Tabled.{leads_on}
use Rattle.systems.proofs.Ranges.{all_in_range}
use Rattle.systems.proofs.tabled.making.all_go_on.Goals as goal

pub returns : goal.returns
returns c = all_in_range (leads_on c.args.steps.now c.args.states) c.args.states _ _ _ c.all.ensures.ran (cc) (λ x b q k. search (rules, tests))
