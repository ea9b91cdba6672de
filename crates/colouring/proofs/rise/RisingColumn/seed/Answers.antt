use Rattle.std.proofs.Common.{sym, ap, ◌∙◌, arith}
use Rattle.colouring.specs.declared.columns.Columns.{Columns}
use Rattle.colouring.specs.passes.Columns.{column}
use Rattle.colouring.proofs.Loans.{kept_trans, states_kept}
use Rattle.colouring.proofs.Climbs.{starts_more, starts_all}
use Rattle.colouring.proofs.rise.RisingColumn.seed.Goals as goal

pub loop-s-preserved : goal.loop-s-preserved
loop-s-preserved c =
    let r = c.loop-s.self in
    let i = c.loop-s.invariant in
    record {
      same = kept_trans i.same c.raise.ensures.same;
      kept = λ b₀ begun. starts_more r c.raise.new.self c.raise.ensures.same b₀ c.loop-s.s c.read-here.result (omega (arith, states_kept i.same)) c.raise.ensures.lifts
          (c.read-here.ensures ∙ ap (λ (p : Columns). column r.columns r.board.now p.right c.loop-s.s) (sym i.same.columns)) (i.kept b₀ begun);
    }

pub returns-clause-kept : goal.returns-clause-kept
returns-clause-kept c = λ b₀ begun. starts_all c.args.self.now c.loop-s.self c.loop-s.invariant.same b₀ c.loop-s.s c.loop-s-test.false c.loop-s.auto.s-end (c.loop-s.invariant.kept b₀ begun)
