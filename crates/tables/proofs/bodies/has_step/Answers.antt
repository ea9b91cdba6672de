use Rattle.std.proofs.Common.{nat_lt, rules}
use Rattle.std.proofs.lemmas.Iterator.{YieldsList-from_slice}
use borrow.Author.Tests.{tests}
use Rattle.systems.proofs.Joining.{any_joined}
use Rattle.tables.proofs.bodies.has_step.Goals as goal

pub returns : goal.returns
returns c = any_joined (λ b. nat_lt 0 b) c.fold.result c.fold.ensures.ran (YieldsList-from_slice c.args.row.now cc) (λ a x b q k. search (rules, tests))
