-- Over an exact model nothing is undecided, and what is unknown of a group parts its members.
use Rattle.std.proofs.Common.{◌≡◌, ℕ, zero, suc, ◌<◌, Bool, true, false, cond, sym, refl, ap, ◌∙◌, subst, arith}
use Rattle.std.proofs.lemmas.Bool.{both_ways}
use Rattle.systems.specs.declared.kinds.Step.{Step}
use Rattle.systems.specs.declared.kinds.Step.TheVariants.{Absent, Unsure, Sure}
use Rattle.systems.specs.declared.kinds.Colour.{Colour}
use Rattle.systems.specs.declared.kinds.Colour.TheVariants.{Undecided, F, T}
use Rattle.systems.specs.Model.{Model, Exact}
use Rattle.rules.specs.declared.syntax.Quantifier.{Quantifier}
use Rattle.rules.specs.declared.syntax.Quantifier.TheVariants.{A, E}
use Rattle.rules.specs.declared.syntax.Operator.{Operator}
use Rattle.rules.specs.declared.syntax.Operator.TheVariants.{And, Or, AU, AV, EU, EV}
use Rattle.rules.specs.Formulas.{Formula, constant, mark, next, pair, MarksBelow}
use Rattle.colours.specs.declared.chains.Reason.{Reason}
use Rattle.colours.specs.declared.chains.Reason.TheVariants.{UnknownMark, UnsureStep}
use Rattle.colours.specs.Colours.{colouring, HasColour, HasVerdict}
use Rattle.colours.specs.Values.{join, meet, negate, rated, join_below, meet_below, listed, colour_at, next_value, until_value, release_value, rounds, pair_board, board_of, colour_of, verdict_of}
use Rattle.colours.specs.Groupings.{is_sure, is_absent, is_true, is_false, Member, strength, grouped, Parted}
use Rattle.colours.specs.Chains.{Unknown}
use Rattle.colours.specs.Theorems.{UnknownPartsMembers, SingleMembersDecide}
use Rattle.colours.proofs.Rounds.{at_listed, kept}
use Rattle.colours.proofs.Computed.{one_colour_computed}
use Rattle.colours.proofs.Verdicts.{one_verdict}
use Rattle.colours.proofs.Grouping.{strength_sure, strength_absent, unsure_group_step, unknown_group_mark}

abbrev Decided : Colour → Type 0
Decided Undecided = ⊥
Decided F = Unit {0}
Decided T = Unit {0}

join_decided : (a b : Colour) → Decided a → Decided b → Decided (join a b)
join_decided a b h k = grind arith

meet_decided : (a b : Colour) → Decided a → Decided b → Decided (meet a b)
meet_decided a b h k = grind arith

negate_decided : (a : Colour) → Decided a → Decided (negate a)
negate_decided a h = grind arith

join_below_decided : (n : ℕ) (f : ℕ → Colour) → ((t : ℕ) → t < n → Decided (f t)) → Decided (join_below n f)
unfolding join_below
join_below_decided zero f h = tt
join_below_decided (suc n) f h = join_decided (join_below n f) (f n) (join_below_decided n f (λ t b. h t (omega arith))) (h n (omega arith))

meet_below_decided : (n : ℕ) (f : ℕ → Colour) → ((t : ℕ) → t < n → Decided (f t)) → Decided (meet_below n f)
unfolding meet_below
meet_below_decided zero f h = tt
meet_below_decided (suc n) f h = meet_decided (meet_below n f) (f n) (meet_below_decided n f (λ t b. h t (omega arith))) (h n (omega arith))

known_step : (k : Step) → ¬ (k ≡ Unsure) → Decided (rated k)
known_step k n = grind arith

known_mark : (c : Colour) → ¬ (c ≡ Undecided) → Decided c
known_mark c n = grind arith

undecided_not : (c : Colour) → Decided c → ¬ (Undecided ≡ c)
undecided_not c h e = subst Decided (sym e) h

module _ (M : Model) (exact : Exact M) where
  abbrev DecidedBoard : (ℕ → Colour) → Type 0
  DecidedBoard x = (s : ℕ) → s < M.states → Decided (x s)

  listed_decided : (x : ℕ → Colour) → DecidedBoard x → DecidedBoard (colour_at (listed M.states x))
  listed_decided x h s b = subst Decided (sym (at_listed M.states x s b)) (h s b)

  next_decided : (k : Quantifier) (x : ℕ → Colour) → DecidedBoard x → DecidedBoard (next_value M k x)
  next_decided E x h s b = join_below_decided M.states (λ t. meet (rated (M.step s t)) (x t))
      (λ t c. meet_decided (rated (M.step s t)) (x t) (known_step (M.step s t) (exact.steps_known s t b c)) (h t c))
  next_decided A x h s b = meet_below_decided M.states (λ t. join (negate (rated (M.step s t))) (x t))
      (λ t c. join_decided (negate (rated (M.step s t))) (x t)
      (negate_decided (rated (M.step s t)) (known_step (M.step s t) (exact.steps_known s t b c))) (h t c))

  module _ (r q : ℕ → Colour) (dr : DecidedBoard r) (dq : DecidedBoard q) where
    rounds_decided : (value : (ℕ → Colour) → ℕ → Colour) → ((x : ℕ → Colour) → DecidedBoard x → DecidedBoard (value x))
        → (v : Colour) → Decided v → DecidedBoard (colour_at (rounds M value M.states (listed M.states (λ s. v))))
    rounds_decided value step v d =
        kept M value (λ board. DecidedBoard (colour_at board))
        (λ board h. listed_decided (value (colour_at board)) (step (colour_at board) h))
        M.states (listed M.states (λ s. v)) (listed_decided (λ s. v) (λ s b. d))

    until_decided : (k : Quantifier) (x : ℕ → Colour) → DecidedBoard x → DecidedBoard (until_value M k r q x)
    until_decided k x h s b =
        join_decided (q s) (meet (r s) (next_value M k x s)) (dq s b)
        (meet_decided (r s) (next_value M k x s) (dr s b) (next_decided k x h s b))

    release_decided : (k : Quantifier) (x : ℕ → Colour) → DecidedBoard x → DecidedBoard (release_value M k r q x)
    release_decided k x h s b =
        meet_decided (q s) (join (r s) (next_value M k x s)) (dq s b)
        (join_decided (r s) (next_value M k x s) (dr s b) (next_decided k x h s b))

    pair_decided : (o : Operator) → DecidedBoard (colour_at (pair_board M o r q))
    pair_decided And = listed_decided (λ s. meet (r s) (q s)) (λ s b. meet_decided (r s) (q s) (dr s b) (dq s b))
    pair_decided Or = listed_decided (λ s. join (r s) (q s)) (λ s b. join_decided (r s) (q s) (dr s b) (dq s b))
    pair_decided AU = rounds_decided (until_value M A r q) (until_decided A) F tt
    pair_decided EU = rounds_decided (until_value M E r q) (until_decided E) F tt
    pair_decided AV = rounds_decided (release_value M A r q) (release_decided A) T tt
    pair_decided EV = rounds_decided (release_value M E r q) (release_decided E) T tt

  colour_decided : (f : Formula) → MarksBelow M.marks f → DecidedBoard (colour_of M f)
  unfolding board_of
  colour_decided (constant true) m = listed_decided (λ s. T) (λ s b. tt)
  colour_decided (constant false) m = listed_decided (λ s. F) (λ s b. tt)
  colour_decided (mark p false) m = listed_decided (λ s. M.mark s p) (λ s b. known_mark (M.mark s p) (exact.marks_known s p b m))
  colour_decided (mark p true) m =
      listed_decided (λ s. negate (M.mark s p))
      (λ s b. negate_decided (M.mark s p) (known_mark (M.mark s p) (exact.marks_known s p b m)))
  colour_decided (next k r) m = listed_decided (next_value M k (colour_of M r)) (next_decided k (colour_of M r) (colour_decided r m))
  colour_decided (pair o r q) m = pair_decided (colour_of M r) (colour_of M q) (colour_decided r m.0) (colour_decided q m.1) o

  -- over an exact model nothing is undecided
  exact_colour : (f : Formula) → MarksBelow M.marks f → (s : ℕ) → s < M.states → ¬ HasColour (colouring M f) s Undecided
  exact_colour f m s b u = undecided_not (colour_of M f s) (colour_decided f m s b) ((one_colour_computed M f s b).1 Undecided u)

  verdict_decided : (f : Formula) → MarksBelow M.marks f → Decided (verdict_of M f)
  unfolding verdict_of
  verdict_decided f m =
      meet_below_decided M.states (λ s. cond (M.start s) (colour_of M f s) T)
      (λ s b. go (M.start s) (colour_of M f s) (colour_decided f m s b))
    where
      go : (start : Bool) (v : Colour) → Decided v → Decided (cond start v T)
      go true v h = h
      go false v h = tt

  exact_verdict : (f : Formula) → MarksBelow M.marks f → ¬ HasVerdict M f Undecided
  exact_verdict f m u = undecided_not (verdict_of M f) (verdict_decided f m) ((one_verdict M f).1 Undecided u)

  -- a strength is known
  not_sure_absent : (group : ℕ → ℕ) (s h : ℕ) → s < M.states → is_sure (strength M group s h) ≡ false
      → is_absent (strength M group s h) ≡ true
  not_sure_absent group s h b e = (strength_absent M group s h).1 (λ t m. absent_step (M.step s t) (exact.steps_known s t b m.0)
      (λ sure. both_ways (is_sure (strength M group s h)) e ((strength_sure M group s h).1 (t, m, sure))))
    where
      absent_step : (k : Step) → ¬ (k ≡ Unsure) → ¬ (k ≡ Sure) → k ≡ Absent
      absent_step Absent n m = refl
      absent_step Unsure n m = absurd (n refl)
      absent_step Sure n m = absurd (m refl)

  module _ (group : ℕ → ℕ) (groups : ℕ) where
    parted : (reason : Reason) → Unknown (grouped M group groups) reason → Parted M group reason
    parted (UnknownMark g p) u =
        let w = unknown_group_mark M group g p u.2 in (
          w.0,
          w.1,
          w.2,
          w.3,
          λ e. not_both (M.mark w.0 p)
              (known_mark (M.mark w.0 p) (exact.marks_known w.0 p w.2.0 u.1)) w.4 (ap is_false e ∙ w.5),
        )
      where
        not_both : (c : Colour) → Decided c → is_true c ≡ false → is_false c ≡ false → ⊥
        not_both Undecided h e f = h
        not_both F h e f = grind arith
        not_both T h e f = grind arith
    parted (UnsureStep g h) u =
        let w = unsure_group_step M group g h u.2 in (
          w.0,
          w.1,
          w.2,
          w.3,
          λ e. both_ways (is_absent (strength M group w.0 h)) (ap is_absent e ∙ w.5)
              (not_sure_absent group w.0 h w.2.0 w.4),
        )

    -- with no two members in a group the model of the groups is exact
    single_exact : ((g s t : ℕ) → Member M group g s → Member M group g t → s ≡ t) → Exact (grouped M group groups)
    single_exact single = record {
      steps_known = λ g h a b e. let w =
          parted (UnsureStep g h) (a, b, e) in w.4 (ap (λ s. strength M group s h) (single g w.0 w.1 w.2 w.3));
      marks_known = λ g p a b e. let w =
          parted (UnknownMark g p) (a, b, e) in w.4 (ap (λ s. M.mark s p) (single g w.0 w.1 w.2 w.3));
    }

pub unknown_parts_members : UnknownPartsMembers
unknown_parts_members M exact group groups reason u = parted M exact group groups reason u

pub single_members_decide : SingleMembersDecide
single_members_decide M exact group groups single f m =
    let known = single_exact M exact group groups single in
    (λ g b. exact_colour (grouped M group groups) known f m g b, exact_verdict (grouped M group groups) known f m)
