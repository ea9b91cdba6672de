use Rattle.std.proofs.Common.{rules, arith}
use borrow.Author.Tests.{tests}
use Rattle.std.specs.Prelude.{nat_lt}
use Rattle.std.specs.List.{list_any}
use Rattle.tables.proofs.Rows.{all_rows}
use Rattle.tables.proofs.bodies.Bodies.all_go.Goals as goal

pub returns : goal.returns
returns c =
    let b = c.args.self.now in
    let run = c.all.ensures.runs in
    let rows = rw (run.1, c.chunks_exact.ensures.rest, c.chunks_exact.ensures.size) at (c.chunks_exact.ensures.runs run.0 run.0.seen) in
    all_rows run.0 _ _ (list_any (λ b. nat_lt 0 b)) b.states b.steps.now (rows (omega arith)) b.steps_fill (omega arith) (λ x b q k. search (rules, tests)) c.all.result run.2
