use Rattle.std.proofs.Common.{rules}
use Rattle.colouring.specs.passes.Columns.{throughout}
use Rattle.colouring.proofs.plain.fill.Goals as goal

pub returns : goal.returns
returns c = c.write_each.ensures.written (throughout c.args.v) (λ d s v only low says. search rules)
