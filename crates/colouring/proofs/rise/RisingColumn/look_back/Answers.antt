use Rattle.std.proofs.Common.{arith}
use Rattle.colouring.proofs.Loans.{kept_trans, states_kept}
use Rattle.colouring.proofs.Climbs.{load_more, rises_more, rises_all}
use Rattle.colouring.proofs.rise.RisingColumn.look_back.Goals as goal

pub loop-s-preserved : goal.loop-s-preserved
loop-s-preserved c =
    let i = c.loop-s.invariant in
    let e = states_kept i.same in
    record {
      same = kept_trans i.same c.pass_on.ensures.same;
      kept = λ b₀ begun. rises_more c.loop-s.self c.pass_on.new.self c.pass_on.ensures.same b₀ c.loop-s.s c.args.t (omega arith) (omega arith) c.pass_on.ensures.lifts (i.kept b₀ begun);
      load = load_more c.loop-s.self c.pass_on.new.self c.pass_on.ensures.same _ _ _ c.pass_on.ensures.lifts i.load;
    }

pub returns-clause-kept : goal.returns-clause-kept
returns-clause-kept c = λ b₀ begun. rises_all c.args.self.now c.loop-s.self c.loop-s.invariant.same b₀ c.loop-s.s c.loop-s-test.false c.args.t (c.loop-s.invariant.kept b₀ begun)
