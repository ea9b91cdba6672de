use Rattle.std.proofs.Common.{rules}
use Rattle.colouring.specs.passes.Columns.{model, marked}
use Rattle.colouring.proofs.plain.fill_mark.Goals as goal

pub returns-clause-values : goal.returns-clause-values
returns-clause-values c = λ known. c.write_each.ensures.written (marked (model c.args.columns.now) c.args.mark) (λ d s v only low says. search rules)
