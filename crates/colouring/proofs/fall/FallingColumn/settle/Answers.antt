use Rattle.colouring.proofs.Loans.{kept_trans}
use Rattle.colouring.proofs.Descents.{next_falls, rests_fallen}
use Rattle.colouring.proofs.fall.FallingColumn.settle.Goals as goal

pub look_again-requires : goal.look_again-requires
look_again-requires c =
    (c.requires.0, next_falls c.loop-t.self c.next.new.self c.next.ensures.same c.requires.0 c.next.ensures.notes c.in-Some.t c.in-Some.ensures.next (c.loop-t.invariant.kept c.requires.0 c.requires.1))

pub loop-t-preserved : goal.loop-t-preserved
loop-t-preserved c = record {
  same = kept_trans c.loop-t.invariant.same (kept_trans c.next.ensures.same c.look_again.ensures.same);
  kept = λ b₀ begun. c.look_again.ensures.kept b₀
      (next_falls c.loop-t.self c.next.new.self c.next.ensures.same b₀ c.next.ensures.notes c.in-Some.t c.in-Some.ensures.next (c.loop-t.invariant.kept b₀ begun));
}

pub returns-clause-fallen : goal.returns-clause-fallen
returns-clause-fallen c = λ b₀ begun. rests_fallen c.args.self.now c.loop-t.self c.next.new.self c.loop-t.invariant.same c.in_default.ensures.next b₀ (c.loop-t.invariant.kept b₀ begun)
