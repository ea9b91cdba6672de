use Rattle.std.proofs.Common.{rules}
use Rattle.std.proofs.lemmas.Iterator.{YieldsList-from_slice}
use borrow.Author.Tests.{tests}
use Rattle.systems.proofs.Joining.{all_joined}
use Rattle.tables.proofs.bodies.all_pass.Goals as goal

pub returns : goal.returns
returns g c = λ t h.
    all_joined t c.fold.result c.fold.ensures.ran (YieldsList-from_slice c.args.body.now cc) (λ a x b q k. let is = h x.now in search (rules, tests))
