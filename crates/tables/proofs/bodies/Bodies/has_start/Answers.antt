use Rattle.std.proofs.Common.{rules}
use Rattle.std.specs.Prelude.{◌==◌}
use Rattle.std.proofs.lemmas.Iterator.{YieldsList-from_slice}
use borrow.Author.Tests.{tests}
use Rattle.systems.proofs.Joining.{any_joined}
use Rattle.tables.proofs.bodies.Bodies.has_start.Goals as goal

pub returns : goal.returns
returns c = any_joined (λ b. b == 1) c.fold.result c.fold.ensures.ran (YieldsList-from_slice c.args.self.now.starts.now cc) (λ a x b q k. search (rules, tests))
