use Rattle.std.proofs.Common.{rules}
use borrow.Author.Tests.{tests}
use Rattle.systems.specs.Tabled.{start_at}
use Rattle.systems.proofs.Joining.{any_joined_below}
use Rattle.systems.proofs.tabled.making.any_start.Goals as goal

pub returns : goal.returns
returns c = any_joined_below (start_at c.args.starts.now) c.args.states _ c.fold.ensures.ran (cc) (λ a x b q k. search (rules, tests))
