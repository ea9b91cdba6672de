-- When what a call answers agrees with the ledger. A call that colours works on a table N that agrees with the groups.
use Rattle.std.proofs.Common.{◌≡◌, ℕ, ◌<◌, ◌≤◌, true, false, not, ◌⊎◌, List, [], ◌∷◌, map, length, take, slice_index_or, count_by, nat_eq, Some, None, Ok, Err, Option, Result, sym, refl, ap, ◌∙◌, ap₂, subst, inl, inr, arith}
use mathlib.Core.Bool.{false≢true}
use denote.Enum.Bare.{sameb}
use Rattle.std.specs.List.{AllByRecursion, All, Any}
use Rattle.std.specs.Prelude.{IsSome}
use Rattle.std.proofs.lemmas.List.Elements.{All-from_recursion, recursion_from_All}
use Rattle.systems.specs.contracts.kinds.Colour.{the_type}
use Rattle.systems.specs.declared.kinds.Colour.{Colour}
use Rattle.systems.specs.declared.kinds.Colour.TheVariants.{Undecided, F, T}
use Rattle.systems.specs.declared.refusals.Refusal.{Refusal}
use Rattle.systems.specs.declared.refusals.Refusal.TheVariants.{MarkBeyondSystem, GroupList, UnusedGroup, WorkspaceTooSmall, NoSuchPosition, VerdictDecided, SlipBeyondStudy, MembersAgree}
use Rattle.systems.specs.Model.{Model}
use Rattle.systems.specs.Numbers.{refusal_number}
use Rattle.systems.specs.Written.{table_model}
use Rattle.rules.specs.declared.rule.Rule.{Rule}
use Rattle.rules.specs.declared.syntax.Clause.{Clause}
use Rattle.rules.specs.Clauses.{WellFounded, MarkBelow, formula, whole}
use Rattle.rules.specs.Rules.{clause_list}
use Rattle.rules.proofs.Rules.{every_rule}
use Rattle.colours.specs.declared.chains.Position.{Position}
use Rattle.colours.specs.declared.chains.Reason.{Reason}
use Rattle.colours.specs.Boards.{positions, Coloured}
use Rattle.colours.specs.Values.{colour_of, verdict_of}
use Rattle.colours.specs.Chains.{Cause}
use Rattle.groupings.specs.Grouped.{KeptIfRefused, Regrouped}
use Rattle.groupings.specs.Members.{group_of, group_count}
use Rattle.groupings.specs.Memberships.{RefusedList}
use Rattle.groupings.specs.Splits.{RefusedSplit}
use Rattle.queue.specs.declared.ring.Ring.{Ring}
use Rattle.queue.specs.Held.{room}
use Rattle.colouring.specs.Boards.{times}
use Rattle.colouring.specs.Colouring.{Colours}
use Rattle.engine.specs.declared.links.Link.{Link}
use Rattle.engine.specs.Causes.{CauseStands, CauseTold, Sought}
use Rattle.law.specs.Ledgers.{Ledger, model, places, verdict, colour_at_state, ColouredBytes}
use Rattle.law.specs.Calls.{Call, set_rule, regroup, judge, look, cause, split, refused, done, judged, looked, caused, count_of, Roomy, FirstFailing, conditions, Agrees, accepts, refuses}
use Rattle.study.specs.declared.study.written.Written.{Written}
use Rattle.study.specs.Studies.{clauses_for, plain_reply, standing, ColouredOnly, Untouched}
use Rattle.study.specs.Written.{WrittenFor}
use Rattle.study.proofs.Known.{clauses_kept}
use Rattle.study.proofs.Agreeing.{positions_agree, coloured_front, coloured_agrees, verdict_agrees, colour_agrees, cause_agrees, undecided_start}

abbrev pub ruled : List ℕ → List Clause → Ledger
ruled groups cs = record { rule = cs; groups = groups }

-- what the test for an undecided verdict tells
pub is_undecided : (v : Colour) → not (sameb the_type v Undecided) ≡ false → v ≡ Undecided
is_undecided Undecided e = refl
is_undecided F e = absurd (false≢true (sym e))
is_undecided T e = absurd (false≢true (sym e))

pub is_decided : (v : Colour) → not (sameb the_type v Undecided) ≡ true → ¬ (v ≡ Undecided)
is_decided v e k = false≢true (subst (λ (x : Colour). not (sameb the_type x Undecided) ≡ true) k e)

-- refusals that leave no byte coloured
module _ (M : Model) (l : Ledger) where
  pub refusing : (c : Call) (e : Refusal) → ¬ (refusal_number e ≡ 17) → FirstFailing (conditions M l c) e
      → Agrees M l c (record { answer = refused e; bytes = [] }) l
  refusing c e n f = refuses e f (refl, refl, inr (n, refl))

  pub too_small : (c : Call) → FirstFailing (conditions M l c) WorkspaceTooSmall
      → Agrees M l c (record { answer = refused WorkspaceTooSmall; bytes = [] }) l
  too_small c f = refusing c WorkspaceTooSmall (λ (k : 15 ≡ 17). omega arith) f

  pub set_refused : (r : Rule) → ¬ AllByRecursion (MarkBelow M.marks) (clause_list r)
      → Agrees M l (set_rule r) (record { answer = refused MarkBeyondSystem; bytes = [] }) l
  set_refused r k = refusing (set_rule r) MarkBeyondSystem (λ (k : 12 ≡ 17). omega arith) (inl (k, refl))

  pub set_done : (r : Rule) → AllByRecursion (MarkBelow M.marks) (clause_list r)
      → Agrees M l (set_rule r) (record { answer = done; bytes = [] }) (ruled l.groups (clauses_for M.marks r))
  set_done r h = accepts (h, tt) (refl, ap (ruled l.groups) (clauses_kept M.marks r h))

  pub split_refused : (slip : Reason) (e : Refusal) → RefusedSplit M slip l.groups e
      → Agrees M l (split slip) (record { answer = refused e; bytes = [] }) l
  split_refused slip e (inl h) =
      subst (λ (x : Refusal). Agrees M l (split slip) (record { answer = refused x; bytes = [] }) l) (sym h.0)
      (refusing (split slip) SlipBeyondStudy (λ (k : 18 ≡ 17). omega arith) (inl (h.1, refl)))
  split_refused slip e (inr h) =
      subst (λ (x : Refusal). Agrees M l (split slip) (record { answer = refused x; bytes = [] }) l) (sym h.0)
      (refusing (split slip) MembersAgree (λ (k : 19 ≡ 17). omega arith) (inr (h.1, inl (h.2, refl))))

  regroup_refused : (xs : List ℕ) (e : Refusal) → RefusedList M.states xs e
      → Agrees M l (regroup xs) (record { answer = refused e; bytes = [] }) l
  regroup_refused xs e (inl h) =
      subst (λ (x : Refusal). Agrees M l (regroup xs) (record { answer = refused x; bytes = [] }) l) (sym h.0)
      (refusing (regroup xs) GroupList (λ (k : 13 ≡ 17). omega arith) (inl (h.1, refl)))
  regroup_refused xs e (inr h) =
      subst (λ (x : Refusal). Agrees M l (regroup xs) (record { answer = refused x; bytes = [] }) l) (sym h.0)
      (refusing (regroup xs) UnusedGroup (λ (k : 14 ≡ 17). omega arith) (inr (h.1, inl (h.2, refl))))

  pub look_nowhere : (b q s c : ℕ) → Roomy M l (b ∷ q ∷ []) → (M.states ≤ s) ⊎ (length l.rule ≤ c)
      → Agrees M l (look b q s c) (record { answer = refused NoSuchPosition; bytes = [] }) l
  look_nowhere b q s c fit k =
      refusing (look b q s c) NoSuchPosition (λ (k : 16 ≡ 17). omega arith) (inr (fit, inl (nowhere k, refl)))
    where
      nowhere : (M.states ≤ s) ⊎ (length l.rule ≤ c) → ¬ ((s < M.states) × (c < length l.rule))
      nowhere (inl k) h = omega (arith, h.0)
      nowhere (inr k) h = omega (arith, h.1)

-- a regroup, of whatever has a ledger
pub regrouped : {X : Type 0} (M : Model) (ledger_of : X → Ledger) (before after : X) (xs : List ℕ) (result : Result (Unit {0}) Refusal)
    → Regrouped M.states xs (ledger_of after).groups result → (ledger_of after).rule ≡ (ledger_of before).rule → KeptIfRefused result before after
    → Agrees M (ledger_of before) (regroup xs) (plain_reply result) (ledger_of after)
regrouped M ledger_of before after xs (Ok u) h same kept =
    accepts (h.0, (h.1, tt)) (refl, ap₂ (λ (cs : List Clause) (ys : List ℕ). ruled ys cs) same h.2)
regrouped M ledger_of before after xs (Err e) h same kept =
    subst (λ x. Agrees M (ledger_of before) (regroup xs) (record { answer = refused e; bytes = [] }) (ledger_of x)) (sym kept)
    (regroup_refused M (ledger_of before) xs e h)

standing_map : (ps : List Position) → standing (map Some ps) ≡ ps
standing_map [] = refl
standing_map (p ∷ ps) = ap (λ (qs : List Position). p ∷ qs) (standing_map ps)

-- a cause stands in the first places, one position in each
pub stands_alone : (N : Model) (cs : List Clause) (list : List (Option Position)) (reason : Reason) (long : ℕ)
    → CauseStands N cs list reason long → take long list ≡ map Some (standing (take long list))
stands_alone N cs list reason long told =
    told.stands ∙ sym (ap (map Some) (ap standing told.stands ∙ standing_map (told.first ∷ told.rest)))

-- a call that colours what was written for the ledger
module _ {M : Model} {l : Ledger} {w : Written} (p : WrittenFor M l w) where
  abbrev N : Model
  N = table_model w.table

  abbrev cs : List Clause
  cs = clause_list w.rule

  some : 1 ≤ length l.rule
  some = subst (λ (r : List Clause). 1 ≤ length r) p.rule (every_rule w.rule).some

  founded : WellFounded l.rule
  founded = subst WellFounded p.rule (every_rule w.rule).founded

  known : AllByRecursion (MarkBelow M.marks) l.rule
  known = subst (AllByRecursion (MarkBelow M.marks)) p.rule p.known

  same_places : positions N cs ≡ places M l
  same_places = ap (positions N) p.rule ∙ sym (positions_agree (model M l) N l.rule p.agree)

  coloured_bytes : (b : List ℕ) → Coloured N cs b → ColouredBytes M l (take (places M l) b)
  coloured_bytes b h = coloured_front (model M l) l.rule b
      (coloured_agrees (model M l) N l.rule p.agree founded known b (subst (λ (r : List Clause). Coloured N r b) p.rule h))

  verdict_same : verdict_of N (whole cs) ≡ verdict M l
  verdict_same = ap (λ (r : List Clause). verdict_of N (whole r)) p.rule ∙ verdict_agrees (model M l) N l.rule p.agree founded known some

  colour_same : (s c g : ℕ) → g ≡ group_of l.groups s → g < group_count l.groups → c < length l.rule
      → colour_of N (formula cs c) g ≡ colour_at_state M l s c
  colour_same s c g here few part =
      ap (λ (r : List Clause). colour_of N (formula r c) g) p.rule
      ∙ sym (colour_agrees (model M l) N l.rule p.agree founded known c g part few)
      ∙ ap (colour_of (model M l) (formula l.rule c)) here

  -- what a test of the workspaces tells
  pub all_roomy : (rooms : List ℕ) → All (λ room. positions N cs ≤ room) rooms → Roomy M l rooms
  all_roomy rooms h = recursion_from_All (λ room. places M l ≤ room) rooms (λ k d b. subst (λ (n : ℕ). n ≤ slice_index_or rooms k d) same_places (h k d b))

  pub not_roomy : (rooms : List ℕ) → Any (λ room. room < positions N cs) rooms → ¬ Roomy M l rooms
  not_roomy rooms a h =
      let k : places M l ≤ slice_index_or rooms a.0 a.1 = All-from_recursion (λ room. places M l ≤ room) rooms h a.0 a.1 a.2 in
      omega (arith, k, a.3, a.4, same_places)

  module _ (b : List ℕ) (q : Ring ℕ) (b' : List ℕ) (q' : Ring ℕ) where
    -- the board was too small, or the queue
    module _ (e : Refusal) (h : Colours N cs b q b' q' (Err e)) where
      pub refused_small : (e ≡ WorkspaceTooSmall) × Untouched b q b' q'
      unfolding Colours
      refused_small = (h.0, (h.2, h.3))

      pub small_rooms : (rest : List ℕ) → ¬ Roomy M l (length b ∷ room q ∷ rest)
      unfolding Colours
      small_rooms rest roomy = elim h.1 [
        | inl k ↦ omega (arith, roomy.0, k, same_places)
        | inr k ↦ omega (arith, roomy.1.0, k, same_places)
      ]

    module _ (h : Colours N cs b q b' q' (Ok tt)) where
      coloured : Coloured N cs b'
      unfolding Colours
      coloured = h.2.coloured (subst (λ (k : ℕ). AllByRecursion (MarkBelow k) cs) p.agree.marks p.known)

      roomy : (places M l ≤ length b) × (places M l ≤ room q)
      unfolding Colours
      roomy = subst (λ (n : ℕ). (n ≤ length b) × (n ≤ room q)) same_places (h.0, h.1)

      pub coloured_only : ColouredOnly (places M l) b q b' q'
      unfolding Colours
      coloured_only = record {
        beyond = λ k m. h.2.beyond k (subst (λ (n : ℕ). n ≤ k) (sym same_places) m);
        long = h.2.long;
        room_kept = h.3;
      }

      pub judge_done : (v : Colour) (t f o : ℕ) → (Coloured N cs b' → v ≡ verdict_of N (whole cs))
          → t ≡ times 2 N cs b' → f ≡ times 1 N cs b' → o ≡ times 0 N cs b'
          → Agrees M l (judge (length b) (room q)) (record { answer = judged v t f o; bytes = take (places M l) b' }) l
      judge_done v t f o is x y z =
          let bytes = take (places M l) b' in
          let counted : (k : ℕ) → times k N cs b' ≡ count_by (nat_eq k) bytes
          = λ k. ap (λ (n : ℕ). count_by (nat_eq k) (take n b')) same_places in
          let v-is : v ≡ verdict M l = is coloured ∙ verdict_same in
          let t-is : t ≡ count_of T bytes = x ∙ counted 2 in
          let f-is : f ≡ count_of F bytes = y ∙ counted 1 in
          let o-is : o ≡ count_of Undecided bytes = z ∙ counted 0 in
          accepts ((roomy.0, (roomy.1, tt)), tt) (coloured_bytes b' coloured, refl, cc)

      -- a colour is shown
      pub look_shown : (c g : ℕ) (shown : Option Colour) → c < length l.rule → g < group_count l.groups
          → (Coloured N cs b' → g < N.states → c < length cs → shown ≡ Some (colour_of N (formula cs c) g)) → shown ≡ Some (colour_of N (formula cs c) g)
      look_shown c g shown part few is =
          is coloured (subst (λ (n : ℕ). g < n) p.agree.states few) (subst (λ (r : List Clause). c < length r) (sym p.rule) part)

      pub look_done : (s c g : ℕ) (shown : Option Colour) (v : Colour) → s < M.states → c < length l.rule → g ≡ group_of l.groups s → g < group_count l.groups
          → (Coloured N cs b' → g < N.states → c < length cs → shown ≡ Some (colour_of N (formula cs c) g)) → shown ≡ Some v
          → Agrees M l (look (length b) (room q) s c) (record { answer = looked v; bytes = take (places M l) b' }) l
      look_done s c g shown v low part here few is told =
          let same = colour_same s c g here few part in
          let there = look_shown c g shown part few is in
          let v-is : v ≡ colour_at_state M l s c = cc in
          accepts ((roomy.0, (roomy.1, tt)), ((low, part), tt)) (coloured_bytes b' coloured, refl, ap looked v-is)

      module _ (links chain : ℕ) (fit : Roomy M l (length b ∷ room q ∷ links ∷ chain ∷ [])) where
        pub cause_decided : (v : Colour) → (Coloured N cs b' → v ≡ verdict_of N (whole cs)) → ¬ (v ≡ Undecided)
            → Agrees M l (cause (length b) (room q) links chain) (record { answer = refused VerdictDecided; bytes = take (places M l) b' }) l
        cause_decided v is k =
            refuses VerdictDecided (inr (fit, inl ((λ e. k (is coloured ∙ verdict_same ∙ e)), refl)))
            (refl, refl, inl (refl, coloured_bytes b' coloured))

        pub cause_done : (v : Colour) (reason : Reason) (long : ℕ) (list : List (Option Position))
            → (Coloured N cs b' → v ≡ verdict_of N (whole cs)) → v ≡ Undecided → CauseStands N cs list reason long
            → Agrees M l (cause (length b) (room q) links chain)
            (record { answer = caused reason long (standing (take long list)); bytes = take (places M l) b' }) l
        cause_done v reason long list is undecided told =
            let same : verdict M l ≡ Undecided = sym verdict_same ∙ sym (is coloured) ∙ undecided in
            let stand : standing (take long list) ≡ told.first ∷ told.rest = ap standing told.stands ∙ standing_map (told.first ∷ told.rest) in
            let long-is = told.counted in
            accepts (fit, (same, tt)) (
              coloured_bytes b' coloured,
              refl,
              (
                reason,
                told.first,
                told.rest,
                ap₂ (λ (n : ℕ) (ps : List Position). caused reason n ps) long-is stand,
                cause_agrees (model M l) N l.rule p.agree founded known told.first told.rest reason
                    (subst (λ (r : List Clause). Cause N r told.first told.rest reason) p.rule told.cause),
              ),
            )

      -- a cause is found
      pub found : (v : Colour) (links : Ring Link) (chain : List (Option Position)) (links' : Ring Link) (chain' : List (Option Position)) (answer : Option (Reason × ℕ))
          → (Coloured N cs b' → v ≡ verdict_of N (whole cs)) → v ≡ Undecided
          → Roomy M l (length b ∷ room q ∷ room links ∷ length chain ∷ [])
          → Sought N cs b' links chain links' chain' answer → CauseTold N cs chain' answer
      found v links chain links' chain' answer is undecided fit sought =
          let o = undecided_start N (whole cs) (sym (is coloured) ∙ undecided) in
          sought.found
          (record {
            board_fits = coloured.fits;
            links_fit = subst (λ (n : ℕ). n ≤ room links) (sym same_places) fit.1.1.0;
            chain_fits = subst (λ (n : ℕ). n ≤ length chain) (sym same_places) fit.1.1.1.0;
          })
          coloured o.0 o.1 o.2

pub shown_some : (shown : Option Colour) (v : Colour) → shown ≡ Some v → IsSome shown
shown_some shown v e = subst IsSome (sym e) refl

pub told_some : (N : Model) (cs : List Clause) (list : List (Option Position)) (answer : Option (Reason × ℕ)) → CauseTold N cs list answer → IsSome answer
told_some N rule list None told = absurd told
told_some N rule list (Some r) told = refl
