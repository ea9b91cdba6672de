use Rattle.std.proofs.Common.{arith}
use Rattle.colouring.proofs.Loans.{kept_trans, states_kept}
use Rattle.colouring.proofs.Climbs.{next_low, next_rises, rests_risen}
use Rattle.colouring.proofs.rise.RisingColumn.spread.Goals as goal

pub look_back-requires : goal.look_back-requires
look_back-requires c =
    let low = next_low c.loop-t.self c.next.new.self c.next.ensures.same c.requires.0 c.in-Some.t c.in-Some.ensures.next (c.loop-t.invariant.kept c.requires.0 c.requires.1) in
    omega (arith, states_kept c.next.ensures.same)

pub loop-t-preserved : goal.loop-t-preserved
loop-t-preserved c = record {
  same = kept_trans c.loop-t.invariant.same (kept_trans c.next.ensures.same c.look_back.ensures.same);
  kept = λ b₀ begun. c.look_back.ensures.kept b₀
      (next_rises c.loop-t.self c.next.new.self c.next.ensures.same b₀ c.in-Some.t c.in-Some.ensures.next (c.loop-t.invariant.kept b₀ begun));
}

pub returns-clause-risen : goal.returns-clause-risen
returns-clause-risen c = λ b₀ begun. rests_risen c.args.self.now c.loop-t.self c.next.new.self c.loop-t.invariant.same c.in_default.ensures.next b₀ (c.loop-t.invariant.kept b₀ begun)
