use Rattle.std.proofs.Common.{◌≡◌, ℕ, ◌<◌, List, [], ◌∷◌, length, refl, ap, ◌∙◌, inl, inr, subst, arith}
use Rattle.std.proofs.lemmas.Result.{err_from_is_err_and}
use Rattle.groupings.specs.Members.{group_of, group_count}
use Rattle.groupings.specs.laws.GroupLaws.{fitted_partition}
use Rattle.groupings.specs.Grouped.{groups_at}
use Rattle.law.specs.Calls.{look}
use Rattle.study.specs.Studies.{below, ledger}
use Rattle.study.proofs.Replying.{too_small, not_roomy, all_roomy, refused_small, small_rooms, coloured_only, look_nowhere, look_shown, look_done, shown_some}
use Rattle.study.proofs.study.Study.look.Goals.{then-state-states-via-then-state-states, then-state-states-via-else-state-states+then-clause-count}
use Rattle.study.proofs.study.Study.look.Goals as goal

pub returns-in_err-fits-clause-agrees : goal.returns-in_err-fits-clause-agrees
returns-in_err-fits-clause-agrees g c =
    let k = err_from_is_err_and c.from_residual.result c.from_residual.ensures.1 in
    rw (k.1, k.2, c.in_err-fits.ensures.refused)
    (too_small _ _ (look _ _ _ _)
    (inl (rw c.capacity.ensures at (not_roomy c.written-written.ensures (length c.args.board.now ∷ c.capacity.result ∷ []) c.in_err-fits.ensures.small), refl)))

pub returns-then-state-states-clause-agrees : goal.returns-then-state-states-clause-agrees
returns-then-state-states-clause-agrees g c =
    let w = c.written-written.ensures in
    let self = c.args.self.now in
    let fit = rw c.capacity.ensures at (all_roomy w (length c.args.board.now ∷ c.capacity.result ∷ []) c.in_ok-fits.ensures.room) in
    let lawful = g.S.System.lawful self.grouping.system in
    let states : c.states.result ≡ (below g.S.System.meaning self).states
    = c.states.ensures ∙ ap length c.members-members.ensures ∙ (fitted_partition self.grouping.members _ lawful.states_some).0 in
    look_nowhere _ _ _ _ _ _ fit (elim c.then-state-states.branch [
      | then-state-states-via-then-state-states b ↦ inl (omega (arith, states, b.if-state-states.true))
      | then-state-states-via-else-state-states+then-clause-count b ↦ inr (omega (arith, ap length w.rule, b.count.ensures.is, b.if-clause-count.true))
    ])

pub returns-in_err-colour-clause-agrees : goal.returns-in_err-colour-clause-agrees
returns-in_err-colour-clause-agrees g c =
    let w = c.written-written.ensures in
    let k = err_from_is_err_and c.from_residual-in_err-colour.result c.from_residual-in_err-colour.ensures.1 in
    let small = refused_small w c.args.board.now c.args.queue.now c.colour.new.board c.colour.new.queue _ c.in_err-colour.ensures in
    rw (k.1, k.2, small.0)
    (too_small _ _ (look _ _ _ _)
    (inl (small_rooms w c.args.board.now c.args.queue.now c.colour.new.board c.colour.new.queue _ c.in_err-colour.ensures [], refl)))

pub returns-in_err-colour-clause-lent : goal.returns-in_err-colour-clause-lent
returns-in_err-colour-clause-lent g c =
    let k = err_from_is_err_and c.from_residual-in_err-colour.result c.from_residual-in_err-colour.ensures.1 in
    rw k.1 (refused_small c.written-written.ensures c.args.board.now c.args.queue.now c.colour.new.board c.colour.new.queue _ c.in_err-colour.ensures).1

pub unwrap-requires : goal.unwrap-requires
unwrap-requires g c =
    let w = c.written-written.ensures in
    let few : c.group_of.result < group_count (groups_at g.S.System.meaning c.args.self.now.grouping)
    = subst (λ (xs : List ℕ). c.group_of.result < group_count xs) c.members-members.ensures c.group_of.ensures.below.0 in
    let part : c.args.clause < length (ledger g.S.System.meaning c.args.self.now).rule = omega (arith, ap length w.rule, c.count.ensures.is, c.if-clause-count.false) in
    shown_some _ _ (look_shown w c.args.board.now c.args.queue.now c.colour.new.board c.colour.new.queue c.in_ok-colour.ensures _ _ _ part few c.colour_at-shown.ensures.colour)

pub returns : goal.returns
returns g c =
    let w = c.written-written.ensures in
    let self = c.args.self.now in
    let lawful = g.S.System.lawful self.grouping.system in
    let states : c.states.result ≡ (below g.S.System.meaning self).states
    = c.states.ensures ∙ ap length c.members-members.ensures ∙ (fitted_partition self.grouping.members _ lawful.states_some).0 in
    let low : c.args.state < (below g.S.System.meaning self).states = omega (arith, states, c.if-state-states.false) in
    let few : c.group_of.result < group_count (groups_at g.S.System.meaning self.grouping)
    = subst (λ (xs : List ℕ). c.group_of.result < group_count xs) c.members-members.ensures c.group_of.ensures.below.0 in
    let part : c.args.clause < length (ledger g.S.System.meaning self).rule = omega (arith, ap length w.rule, c.count.ensures.is, c.if-clause-count.false) in
    let here : c.group_of.result ≡ group_of (groups_at g.S.System.meaning self.grouping) c.args.state
    = c.group_of.ensures.is ∙ ap (λ (xs : List ℕ). group_of xs c.args.state) c.members-members.ensures in
    record {
      agrees = look_done w c.args.board.now c.args.queue.now c.colour.new.board c.colour.new.queue c.in_ok-colour.ensures _ _ _ _ _ low part here few
          c.colour_at-shown.ensures.colour c.unwrap.ensures;
      lent = coloured_only w c.args.board.now c.args.queue.now c.colour.new.board c.colour.new.queue c.in_ok-colour.ensures;
    }
