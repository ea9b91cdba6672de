use Rattle.std.proofs.Common.{rules}
use borrow.Author.Tests.{tests}
use Rattle.systems.specs.Tabled.{leads}
use Rattle.systems.proofs.Joining.{any_joined_below}
use Rattle.systems.proofs.tabled.making.goes_on.Goals as goal

pub returns : goal.returns
returns c = any_joined_below (leads c.args.steps.now c.args.state) c.args.states _ c.fold.ensures.ran (cc) (λ a x b q k. search (rules, tests))
