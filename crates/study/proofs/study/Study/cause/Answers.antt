use Rattle.std.proofs.Common.{[], ◌∷◌, length, refl, sym, ◌∙◌, inl, inr, subst}
use Rattle.std.proofs.lemmas.Result.{err_from_is_err_and}
use Rattle.systems.specs.Written.{table_model}
use Rattle.rules.specs.Rules.{clause_list}
use Rattle.queue.specs.Held.{room}
use Rattle.engine.specs.Causes.{CauseTold}
use Rattle.law.specs.Calls.{cause}
use Rattle.study.proofs.Replying.{too_small, not_roomy, all_roomy, refused_small, small_rooms, coloured_only, cause_decided, cause_done, found, told_some, is_undecided, is_decided, stands_alone}
use Rattle.study.proofs.study.Study.cause.Goals as goal

pub returns-in_err-fits-clause-agrees : goal.returns-in_err-fits-clause-agrees
returns-in_err-fits-clause-agrees g c =
    let k = err_from_is_err_and c.from_residual.result c.from_residual.ensures.1 in
    rw (k.1, k.2, c.in_err-fits.ensures.refused)
    (too_small _ _ (cause _ _ _ _)
    (inl (
      rw (c.capacity.ensures, c.capacity-2.ensures) at
          (not_roomy c.written-written.ensures (length c.args.board.now ∷ c.capacity.result ∷ c.capacity-2.result ∷ length c.args.chain.now ∷ []) c.in_err-fits.ensures.small),
      refl,
    )))

pub returns-in_err-colour-clause-agrees : goal.returns-in_err-colour-clause-agrees
returns-in_err-colour-clause-agrees g c =
    let w = c.written-written.ensures in
    let k = err_from_is_err_and c.from_residual-in_err-colour.result c.from_residual-in_err-colour.ensures.1 in
    let small = refused_small w c.args.board.now c.args.queue.now c.colour.new.board c.colour.new.queue _ c.in_err-colour.ensures in
    rw (k.1, k.2, small.0)
    (too_small _ _ (cause _ _ _ _)
    (inl (small_rooms w c.args.board.now c.args.queue.now c.colour.new.board c.colour.new.queue _ c.in_err-colour.ensures (room c.args.links.now ∷ length c.args.chain.now ∷ []), refl)))

pub returns-in_err-colour-clause-lent : goal.returns-in_err-colour-clause-lent
returns-in_err-colour-clause-lent g c =
    let k = err_from_is_err_and c.from_residual-in_err-colour.result c.from_residual-in_err-colour.ensures.1 in
    rw (k.1, k.2) (inr (refused_small c.written-written.ensures c.args.board.now c.args.queue.now c.colour.new.board c.colour.new.queue _ c.in_err-colour.ensures))

pub returns-then-ne-clause-agrees : goal.returns-then-ne-clause-agrees
returns-then-ne-clause-agrees g c =
    let w = c.written-written.ensures in
    let fit = rw (c.capacity.ensures, c.capacity-2.ensures) at
    (all_roomy w (length c.args.board.now ∷ c.capacity.result ∷ c.capacity-2.result ∷ length c.args.chain.now ∷ []) c.in_ok-fits.ensures.room) in
    cause_decided w c.args.board.now c.args.queue.now c.colour.new.board c.colour.new.queue c.in_ok-colour.ensures _ _ fit
    c.verdict.result c.verdict.ensures.verdict (is_decided c.verdict.result (sym c.ne.ensures ∙ c.if-ne.true))

pub returns-then-ne-clause-lent : goal.returns-then-ne-clause-lent
returns-then-ne-clause-lent g c =
    inl (refl, coloured_only c.written-written.ensures c.args.board.now c.args.queue.now c.colour.new.board c.colour.new.queue c.in_ok-colour.ensures)

pub unwrap-reason-requires : goal.unwrap-reason-requires
unwrap-reason-requires g c =
    let w = c.written-written.ensures in
    let fit = rw (c.capacity.ensures, c.capacity-2.ensures) at
    (all_roomy w (length c.args.board.now ∷ c.capacity.result ∷ c.capacity-2.result ∷ length c.args.chain.now ∷ []) c.in_ok-fits.ensures.room) in
    let undecided = is_undecided c.verdict.result (sym c.ne.ensures ∙ c.if-ne.false) in
    told_some _ _ _ c.find_cause.result
    (found w c.args.board.now c.args.queue.now c.colour.new.board c.colour.new.queue c.in_ok-colour.ensures c.verdict.result _ _ c.find_cause.new.links c.find_cause.new.chain _
    c.verdict.ensures.verdict undecided fit c.find_cause.ensures)

pub returns : goal.returns
returns g c =
    let w = c.written-written.ensures in
    let fit = rw (c.capacity.ensures, c.capacity-2.ensures) at
    (all_roomy w (length c.args.board.now ∷ c.capacity.result ∷ c.capacity-2.result ∷ length c.args.chain.now ∷ []) c.in_ok-fits.ensures.room) in
    let undecided = is_undecided c.verdict.result (sym c.ne.ensures ∙ c.if-ne.false) in
    let told = found w c.args.board.now c.args.queue.now c.colour.new.board c.colour.new.queue c.in_ok-colour.ensures c.verdict.result c.args.links.now c.args.chain.now
    c.find_cause.new.links c.find_cause.new.chain c.find_cause.result c.verdict.ensures.verdict undecided fit c.find_cause.ensures in
    let stand = subst (CauseTold (table_model c.written-written.result.table) (clause_list c.written-written.result.rule) c.find_cause.new.chain) c.unwrap-reason.ensures told in
    record {
      agrees = rw c.of.ensures
          (cause_done w c.args.board.now c.args.queue.now c.colour.new.board c.colour.new.queue c.in_ok-colour.ensures _ _ fit
          c.verdict.result c.unwrap-reason.result.0 c.unwrap-reason.result.1 c.find_cause.new.chain c.verdict.ensures.verdict undecided stand);
      lent = coloured_only w c.args.board.now c.args.queue.now c.colour.new.board c.colour.new.queue c.in_ok-colour.ensures;
      sought = (c.find_cause.ensures.room_kept, stands_alone _ _ c.find_cause.new.chain _ _ stand);
    }
