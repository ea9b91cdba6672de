use Rattle.std.proofs.Common.{refl}
use Rattle.std.proofs.lemmas.Result.{err_from_is_err_and}
use Rattle.study.proofs.Replying.{too_small, refused_small, small_rooms, coloured_only, judge_done}
use Rattle.std.proofs.Common.{[], inl}
use Rattle.law.specs.Calls.{judge}
use Rattle.study.proofs.study.Study.judge.Goals as goal

pub returns-in_err-colour-clause-agrees : goal.returns-in_err-colour-clause-agrees
returns-in_err-colour-clause-agrees g c =
    let w = c.written-written.ensures in
    let k = err_from_is_err_and c.from_residual.result c.from_residual.ensures.1 in
    let small = refused_small w c.args.board.now c.args.queue.now c.colour.new.board c.colour.new.queue _ c.in_err-colour.ensures in
    rw (k.1, k.2, small.0)
    (too_small _ _ (judge _ _) (inl (small_rooms w c.args.board.now c.args.queue.now c.colour.new.board c.colour.new.queue _ c.in_err-colour.ensures [], refl)))

pub returns-in_err-colour-clause-lent : goal.returns-in_err-colour-clause-lent
returns-in_err-colour-clause-lent g c =
    let k = err_from_is_err_and c.from_residual.result c.from_residual.ensures.1 in
    rw k.1 (refused_small c.written-written.ensures c.args.board.now c.args.queue.now c.colour.new.board c.colour.new.queue _ c.in_err-colour.ensures).1

pub returns-clause-agrees : goal.returns-clause-agrees
returns-clause-agrees g c =
    judge_done c.written-written.ensures c.args.board.now c.args.queue.now c.colour.new.board c.colour.new.queue c.in_ok-colour.ensures _ _ _ _
    c.verdict.ensures.verdict c.count_positions-tally.ensures.t c.count_positions-tally.ensures.f c.count_positions-tally.ensures.undecided

pub returns-clause-lent : goal.returns-clause-lent
returns-clause-lent g c = coloured_only c.written-written.ensures c.args.board.now c.args.queue.now c.colour.new.board c.colour.new.queue c.in_ok-colour.ensures
