-- Over an exact model a cause's slip can be split, and with as many groups as states no verdict is undecided.
use Rattle.std.proofs.Common.{◌≡◌, ℕ, ◌<◌, ◌≤◌, false, List, ◌∷◌, ◌++◌, length, sym, ap, ◌∙◌, subst, inl, inr}
use Rattle.systems.specs.declared.kinds.Colour.TheVariants.{Undecided}
use Rattle.systems.specs.Model.{Model, Exact}
use Rattle.rules.specs.declared.syntax.Clause.{Clause}
use Rattle.rules.specs.declared.syntax.Clause.TheVariants.{Constant, Mark, Next, Pair}
use Rattle.rules.specs.Formulas.{Formula, MarksBelow}
use Rattle.rules.specs.Clauses.{MarkBelow}
use Rattle.colours.specs.declared.chains.Position.{Position}
use Rattle.colours.specs.declared.chains.Reason.{Reason}
use Rattle.colours.specs.declared.chains.Reason.TheVariants.{UnknownMark, UnsureStep}
use Rattle.colours.specs.Walks.{last}
use Rattle.colours.specs.Colours.{HasVerdict}
use Rattle.colours.specs.Groupings.{Member}
use Rattle.colours.specs.Chains.{clause_at, Open, Ends, EndsInStep, Cause}
use Rattle.colours.proofs.Lists.{all_at, last_of}
use Rattle.colours.proofs.Chaining.{chains_part_members}
use Rattle.colours.proofs.Exactness.{single_members_decide}
use Rattle.groupings.specs.Members.{group_of, group_count}
use Rattle.groupings.specs.Splits.{Exists, MembersDiffer}
use Rattle.law.specs.Ledgers.{Ledger, model, Sound}
use Rattle.law.specs.Calls.{split, done, caused, Reply, Agrees, accepts, refuses}
use Rattle.law.specs.Runs.{Event, Run, ledger_after}
use Rattle.law.specs.Laws.{Neither, Progress, Bounded}
use Rattle.law.proofs.Counting.{Lies, Onto, onto_single}
use Rattle.law.proofs.Soundness.{few_groups}
use Rattle.law.proofs.Causing.{explained}
use Rattle.law.proofs.Histories.{run_front, run_back, after_both, run_sound, same_groups, kept, counted}

module _ (M : Model) (l : Ledger) (w : Sound M l) where
  known_at : (i : ℕ) → i < length l.rule → MarkBelow M.marks (clause_at l.rule i)
  known_at i b = all_at (MarkBelow M.marks) l.rule i (Constant false) b w.known

  -- what a chain ends in exists
  end_exists : (p : Position) (slip : Reason) → Open (model M l) l.rule p → Ends (model M l) l.rule p slip → Exists M slip l.groups
  end_exists p (UnknownMark g m) o e = (
    subst (λ x. x < group_count l.groups) (sym e.0) o.0,
    subst (MarkBelow M.marks) e.2.1 (known_at p.clause o.1),
  )
  end_exists p (UnsureStep g h) o e = go (clause_at l.rule p.clause) e.1
    where
      go : (c : Clause) → EndsInStep (model M l) l.rule c p.clause g h → Exists M (UnsureStep g h) l.groups
      go (Constant b) x = absurd x
      go (Mark m negated) x = absurd x
      go (Next k r) x = (x.0.0, x.0.1)
      go (Pair k r q) x = (x.0.0, x.0.1)

  cause_exists : (p : Position) (ps : List Position) (slip : Reason) → Cause (model M l) l.rule p ps slip → Exists M slip l.groups
  cause_exists p ps slip c = end_exists (last p ps) slip (last_of (Open (model M l) l.rule) p ps c.chain.undecided) c.chain.ended

  module _ (exact : Exact M) where
    -- over an exact model members differ about it
    cause_parts : (p : Position) (ps : List Position) (slip : Reason) → Cause (model M l) l.rule p ps slip → MembersDiffer M slip l.groups
    cause_parts p ps slip c = chains_part_members M exact (group_of l.groups) (group_count l.groups) l.rule
        (λ i m negated b e. subst (MarkBelow M.marks) e (known_at i b)) p ps slip c.chain

    -- with as many groups as states no group has two members
    all_decided : group_count l.groups ≡ M.states → (f : Formula) → MarksBelow M.marks f → ¬ HasVerdict (model M l) f Undecided
    all_decided full f m = (single_members_decide M exact (group_of l.groups) (group_count l.groups) single f m).1
      where
        lies : (g s : ℕ) → Member M (group_of l.groups) g s → Lies l.groups g s
        lies g s x = (subst (λ n. s < n) (sym w.for_each) x.0, x.1)

        single : (g s t : ℕ) → Member M (group_of l.groups) g s → Member M (group_of l.groups) g t → s ≡ t
        single g s t a b =
            let onto = subst (λ n. Onto n l.groups) (full ∙ sym w.for_each) w.used in
            onto_single l.groups onto g s t (lies g s a) (lies g t b)

-- a split whose conditions hold is accepted
split_accepted : (M : Model) (l : Ledger) (slip : Reason) (reply : Reply) (r : Ledger) → Exists M slip l.groups → MembersDiffer M slip l.groups
    → Agrees M l (split slip) reply r → reply.answer ≡ done
split_accepted M l slip reply r x d (accepts h a) = ap (λ y. y.answer) a.0
split_accepted M l slip reply r x d (refuses e (inl f) a) = absurd (f.0 x)
split_accepted M l slip reply r x d (refuses e (inr (_, inl f)) a) = absurd (f.0 d)
split_accepted M l slip reply r x d (refuses e (inr (_, inr f)) a) = absurd f.1

cause_neither : (e : Event) (slip : Reason) (told : ℕ) (chain : List Position) → e.reply.answer ≡ caused slip told chain → Neither e
cause_neither e slip told chain c = (
  λ x. cc (sym x.2 ∙ c),
  λ x. cc (sym x.2 ∙ c),
)

module _ (M : Model) (l : Ledger) (es : List Event) (w : Sound M l) (run : Run M l es) where
  -- the events between, from the ledger that the first ones left
  module _ (first between rest : List Event) (same : es ≡ first ++ (between ++ rest)) where
    after_first : Sound M (ledger_after l first)
    after_first = run_sound M l first w (run_front M l first (between ++ rest) (subst (Run M l) same run))

    run_between : Run M (ledger_after l first) between
    run_between = run_front M (ledger_after l first) between rest (run_back M l first (between ++ rest) (subst (Run M l) same run))

    after_between : Sound M (ledger_after (ledger_after l first) between)
    after_between = run_sound M (ledger_after l first) between after_first run_between

  pub bounded : Bounded M l es
  bounded first between rest k same splits =
      let m = ledger_after l first in
      subst (λ n. n ≤ M.states) (counted M m k between (after_first first between rest same) (run_between first between rest same) splits)
      (few_groups M (ledger_after m between) (after_between first between rest same))

  pub progress : Exact M → Progress M l es
  progress exact = record {
    goes_on = λ first between rest e d same slip told chain c still call.
        let parts : Run M l (first ++ (e ∷ (between ++ (d ∷ rest)))) = subst (Run M l) same run in
        let tail = run_back M l first (e ∷ (between ++ (d ∷ rest))) parts in
        let there = run_back M e.after between (d ∷ rest) tail.2 in
        let groups : d.before.groups ≡ e.before.groups =
        ap (λ m. m.groups) there.0
        ∙ kept M e.after between (run_front M e.after between (d ∷ rest) tail.2) still
        ∙ same_groups M e (cause_neither e slip told chain c) tail.1 in
        let front = run_front M l first (e ∷ (between ++ (d ∷ rest))) parts in
        let before : Sound M e.before = subst (Sound M) (sym tail.0) (run_sound M l first w front) in
        let x = (explained M e.before e.reply e.after slip told chain e.call tail.1 c).1.1 in
        split_accepted M d.before slip d.reply d.after
        (subst (λ xs. Exists M slip xs) (sym groups) (cause_exists M e.before before x.0 x.1 slip x.3))
        (subst (λ xs. MembersDiffer M slip xs) (sym groups) (cause_parts M e.before before exact x.0 x.1 slip x.3))
        (subst (λ k. Agrees M d.before k d.reply d.after) call there.1);
    ends = λ first between rest k same splits full f marks.
        let m = ledger_after l first in
        let n = counted M m k between (after_first first between rest same) (run_between first between rest same) splits in
        subst (λ r. ¬ HasVerdict (model M r) f Undecided) (sym (after_both l first between))
        (all_decided M (ledger_after m between) (after_between first between rest same) exact (n ∙ full) f marks);
  }
