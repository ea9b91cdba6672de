use Rattle.std.proofs.Common.{◌<◌, sym, subst, arith}
use Rattle.colouring.specs.passes.Columns.{Lies, OnlyColumn}
use Rattle.colouring.proofs.Placing.{lies_same, only_more, filled_more, written}
use Rattle.colouring.proofs.plain.write_each.Goals as goal

pub loop-s-preserved : goal.loop-s-preserved
loop-s-preserved g c =
    let p = c.args.columns.now in
    let b₀ = c.args.board.now in
    let b = c.loop-s.board in
    let s = c.loop-s.s in
    let low : s < p.states = omega arith in
    let lies : Lies p b = lies_same p b₀ b (omega arith) c.requires.lies in
    record {
      only = subst (OnlyColumn p b₀) (sym c.write.ensures) (only_more p b₀ b s _ low c.loop-s.invariant.only);
      filled = λ f says. filled_more p b₀ b c.write.new.board f s c.value-v.result lies low
          (says _ s c.value-v.result c.loop-s.invariant.only low c.value-v.ensures) c.write.ensures (c.loop-s.invariant.filled f says);
    }

pub returns-clause-written : goal.returns-clause-written
returns-clause-written g c = λ f says. written c.args.columns.now c.args.board.now c.loop-s.board f c.loop-s.s (omega arith) (c.loop-s.invariant.filled f says)
