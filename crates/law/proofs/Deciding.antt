-- The conditions of a call can be decided.
use Rattle.std.proofs.Common.{◌≡◌, ℕ, ◌<◌, ◌≤◌, ◌⊎◌, List, [], ◌∷◌, length, refl, inl, inr}
use native.Mathlib.Decide.{ℕ_discrete, dec_le, dec_lt, map_dec}
use Rattle.std.specs.List.{AllByRecursion}
use Rattle.systems.specs.declared.kinds.Colour.TheVariants.{Undecided}
use Rattle.systems.specs.declared.refusals.Refusal.{Refusal}
use Rattle.systems.specs.Model.{Model}
use Rattle.rules.specs.declared.syntax.Clause.{Clause}
use Rattle.rules.specs.declared.syntax.Clause.TheVariants.{Constant, Mark, Next, Pair}
use Rattle.rules.specs.Clauses.{MarkBelow}
use Rattle.rules.specs.Rules.{clause_list}
use Rattle.colours.specs.declared.chains.Reason.{Reason}
use Rattle.colours.specs.declared.chains.Reason.TheVariants.{UnknownMark, UnsureStep}
use Rattle.colours.specs.Groupings.{Alike, group_named}
use Rattle.colours.proofs.Lists.{least}
use Rattle.colours.proofs.Deciding.{not?, and?}
use Rattle.groupings.specs.Members.{group_of, group_count, OneForEach, AllUsed}
use Rattle.groupings.specs.Splits.{Exists, MembersDiffer, Concerned}
use Rattle.law.specs.Ledgers.{Ledger, places, verdict}
use Rattle.law.specs.Calls.{Call, set_rule, regroup, judge, look, cause, split, Condition, Roomy, AllHold, FirstFailing, conditions}
use Rattle.colours.proofs.Numbers.{same_colour?}
use Rattle.groupings.proofs.Splitting.{alike?}

all? : {X : Type 0} (P : X → Type 0) → ((x : X) → Dec (P x)) → (xs : List X) → Dec (AllByRecursion P xs)
all? P p? [] = yes tt
all? P p? (x ∷ xs) = and? (p? x) (all? P p? xs)

module _ (P : ℕ → Type 0) (n : ℕ) (p? : (s : ℕ) → s < n → Dec (P s)) where
  some? : Dec ((s : ℕ) × (s < n) × P s)
  some? = elim (least P n p?) [ inl f ↦ yes (f.0, f.1, f.2) | inr free ↦ no (λ h. free h.0 h.1 h.2) ]

  every? : Dec ((s : ℕ) → s < n → P s)
  every? = elim (least (λ s. ¬ P s) n (λ s b. not? (p? s b))) [
    | inl f ↦ no (λ h. f.2 (h f.0 f.1))
    | inr free ↦ yes (λ s b. elim (p? s b) [ yes p ↦ p | no k ↦ absurd (free s b k) ])
  ]

mark_below? : (n : ℕ) (c : Clause) → Dec (MarkBelow n c)
mark_below? n (Constant b) = yes tt
mark_below? n (Mark p negated) = dec_lt p n
mark_below? n (Next k r) = yes tt
mark_below? n (Pair o r q) = yes tt

-- each of the conditions holds or not
abbrev Decided : List Condition → Type 0
Decided [] = Unit {0}
Decided (c ∷ cs) = Dec c.holds × Decided cs

-- all hold, or there is a first that fails
first_or_all : (cs : List Condition) → Decided cs → AllHold cs ⊎ ((e : Refusal) × FirstFailing cs e)
first_or_all [] d = inl tt
first_or_all (c ∷ cs) (no n, d) = inr (c.refusal, inl (n, refl))
first_or_all (c ∷ cs) (yes h, d) = elim (first_or_all cs d) [ inl a ↦ inl (h, a) | inr f ↦ inr (f.0, inr (h, f.1)) ]

module _ (M : Model) (l : Ledger) where
  one_for_each? : (xs : List ℕ) → Dec (OneForEach M.states xs)
  one_for_each? xs = and? (ℕ_discrete (length xs) M.states)
      (every? (λ s. group_of xs s < M.states) M.states (λ s b. dec_lt (group_of xs s) M.states))

  all_used? : (xs : List ℕ) → Dec (AllUsed xs)
  all_used? xs = every? (λ g. (s : ℕ) × (s < length xs) × (group_of xs s ≡ g)) (group_count xs)
      (λ g b. some? (λ s. group_of xs s ≡ g) (length xs) (λ s c. ℕ_discrete (group_of xs s) g))

  roomy? : (rooms : List ℕ) → Dec (Roomy M l rooms)
  roomy? rooms = all? (λ room. places M l ≤ room) (λ room. dec_le (places M l) room) rooms

  exists? : (slip : Reason) → Dec (Exists M slip l.groups)
  exists? (UnknownMark g p) = and? (dec_lt g (group_count l.groups)) (dec_lt p M.marks)
  exists? (UnsureStep g h) = and? (dec_lt g (group_count l.groups)) (dec_lt h (group_count l.groups))

  module _ (slip : Reason) where
    pub concerned? : (s : ℕ) → Dec (Concerned M slip l.groups s)
    concerned? s = and? (dec_lt s M.states) (ℕ_discrete (group_of l.groups s) (group_named slip))

    abbrev Differ : (s t : ℕ) → Type 0
    Differ s t = Concerned M slip l.groups s × (Concerned M slip l.groups t × ¬ Alike M (group_of l.groups) slip s t)

    differ? : (s t : ℕ) → Dec (Differ s t)
    differ? s t = and? (concerned? s) (and? (concerned? t) (not? (alike? M (group_of l.groups) slip s t)))

    members_differ? : Dec (MembersDiffer M slip l.groups)
    members_differ? = map_dec
        (λ h. (h.0, h.2.0, h.2.2.0, h.2.2.1.0, h.2.2.1.1))
        (λ h. (h.0, h.2.0, (h.1, h.3.0, (h.2, (h.3, h.4)))))
        (some? (λ s. (t : ℕ) × (t < M.states) × Differ s t) M.states (λ s b. some? (Differ s) M.states (λ t c. differ? s t)))

  decided : (c : Call) → Decided (conditions M l c)
  decided (set_rule r) = (all? (MarkBelow M.marks) (mark_below? M.marks) (clause_list r), tt)
  decided (regroup xs) = (one_for_each? xs, (all_used? xs, tt))
  decided (judge board queue) = (roomy? (board ∷ queue ∷ []), tt)
  decided (look board queue s c) = (roomy? (board ∷ queue ∷ []), (and? (dec_lt s M.states) (dec_lt c (length l.rule)), tt))
  decided (cause board queue links chain) = (roomy? (board ∷ queue ∷ links ∷ chain ∷ []), (same_colour? (verdict M l) Undecided, tt))
  decided (split slip) = (exists? slip, (members_differ? slip, tt))

  -- a call is accepted, or refused by the first condition that fails
  pub all_or_first : (c : Call) → AllHold (conditions M l c) ⊎ ((e : Refusal) × FirstFailing (conditions M l c) e)
  all_or_first c = first_or_all (conditions M l c) (decided c)
