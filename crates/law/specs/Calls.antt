-- The six calls, the conditions that each puts, and when a reply agrees with the ledger.
use Rattle.std.specs.Prelude.{◌≡◌, ℕ, ◌<◌, ◌≤◌, ◌⊎◌, List, [], ◌∷◌, length, count_by, nat_eq}
use Rattle.std.specs.List.{AllByRecursion}
use Rattle.systems.specs.declared.kinds.Colour.{Colour}
use Rattle.systems.specs.declared.kinds.Colour.TheVariants.{Undecided, F, T}
use Rattle.systems.specs.declared.refusals.Refusal.{Refusal}
use Rattle.systems.specs.declared.refusals.Refusal.TheVariants.{MarkBeyondSystem, GroupList, UnusedGroup, WorkspaceTooSmall, NoSuchPosition, VerdictDecided, SlipBeyondStudy, MembersAgree}
use Rattle.systems.specs.Model.{Model}
use Rattle.systems.specs.Numbers.{colour_number, refusal_number}
use Rattle.rules.specs.declared.rule.Rule.{Rule}
use Rattle.rules.specs.Clauses.{MarkBelow}
use Rattle.rules.specs.Rules.{clause_list}
use Rattle.colours.specs.declared.chains.Position.{Position}
use Rattle.colours.specs.declared.chains.Reason.{Reason}
use Rattle.colours.specs.Chains.{Cause}
use Rattle.groupings.specs.Members.{OneForEach, AllUsed}
use Rattle.groupings.specs.Splits.{Exists, MembersDiffer, Divided}
use Rattle.law.specs.Ledgers.{Ledger, model, places, verdict, colour_at_state, ColouredBytes}

-- a call with what it hands in: of a workspace its number of places, filled or free; of a slip its reason
pub data Call : Type 0 where
  set_rule : Rule → Call
  regroup : List ℕ → Call
  judge : (board queue : ℕ) → Call
  look : (board queue state clause : ℕ) → Call
  cause : (board queue links chain : ℕ) → Call
  split : (slip : Reason) → Call

pub data Answer : Type 0 where
  refused : Refusal → Answer
  -- to set rule, regroup and split
  done : Answer
  -- the verdict, and the counts of T, F and undecided positions
  judged : (verdict : Colour) (t f undecided : ℕ) → Answer
  looked : Colour → Answer
  -- the slip, the length that is told, and the chain that stands in the first places of the chain list
  caused : (slip : Reason) (told : ℕ) (chain : List Position) → Answer

-- an answer with the bytes of the board that the call has coloured, from the first on
pub record Reply : Type 0 where
  pub answer : Answer
  pub bytes : List ℕ

-- what must hold, and the refusal where it does not
pub record Condition : Type 1 where
  pub refusal : Refusal
  pub holds : Type 0

abbrev pub condition : Refusal → Type 0 → Condition
condition e p = record { refusal = e; holds = p }

abbrev pub AllHold : List Condition → Type 0
AllHold [] = Unit {0}
AllHold (c ∷ cs) = c.holds × AllHold cs

-- e is the refusal of the first condition that fails
abbrev pub FirstFailing : List Condition → Refusal → Type 0
FirstFailing [] e = ⊥
FirstFailing (c ∷ cs) e = (¬ c.holds × (e ≡ c.refusal)) ⊎ (c.holds × FirstFailing cs e)

-- how many bytes are the colour v
abbrev pub count_of : Colour → List ℕ → ℕ
count_of v bytes = count_by (nat_eq (colour_number v)) bytes

module _ (M : Model) (l : Ledger) where
  -- each workspace has a place for every position
  abbrev pub Roomy : List ℕ → Type 0
  Roomy rooms = AllByRecursion (λ room. places M l ≤ room) rooms

  -- the conditions of a call, in their order; their refusals have the numbers 12 to 19
  abbrev pub conditions : Call → List Condition
  conditions (set_rule r) = condition MarkBeyondSystem (AllByRecursion (MarkBelow M.marks) (clause_list r)) ∷ []
  conditions (regroup xs) = condition GroupList (OneForEach M.states xs) ∷ condition UnusedGroup (AllUsed xs) ∷ []
  conditions (judge board queue) = condition WorkspaceTooSmall (Roomy (board ∷ queue ∷ [])) ∷ []
  conditions (look board queue s c) =
      condition WorkspaceTooSmall (Roomy (board ∷ queue ∷ []))
      ∷ condition NoSuchPosition ((s < M.states) × (c < length l.rule))
      ∷ []
  conditions (cause board queue links chain) =
      condition WorkspaceTooSmall (Roomy (board ∷ queue ∷ links ∷ chain ∷ []))
      ∷ condition VerdictDecided (verdict M l ≡ Undecided)
      ∷ []
  conditions (split slip) =
      condition SlipBeyondStudy (Exists M slip l.groups)
      ∷ condition MembersAgree (MembersDiffer M slip l.groups)
      ∷ []

  -- what an accepted call answers and colours, and the ledger after it
  abbrev pub Accepted : Call → Reply → Ledger → Type 0
  Accepted (set_rule r) reply after =
      (reply ≡ record { answer = done; bytes = [] })
      × (after ≡ record { rule = clause_list r; groups = l.groups })
  Accepted (regroup xs) reply after =
      (reply ≡ record { answer = done; bytes = [] })
      × (after ≡ record { rule = l.rule; groups = xs })
  Accepted (judge board queue) reply after =
      ColouredBytes M l reply.bytes × (after ≡ l)
      × (reply.answer ≡ judged (verdict M l) (count_of T reply.bytes) (count_of F reply.bytes) (count_of Undecided reply.bytes))
  Accepted (look board queue s c) reply after =
      ColouredBytes M l reply.bytes × (after ≡ l)
      × (reply.answer ≡ looked (colour_at_state M l s c))
  Accepted (cause board queue links chain) reply after =
      ColouredBytes M l reply.bytes × (after ≡ l)
      × ((slip : Reason) × (p : Position) × (ps : List Position)
      × (reply.answer ≡ caused slip (length (p ∷ ps)) (p ∷ ps)) × Cause (model M l) l.rule p ps slip)
  Accepted (split slip) reply after =
      (reply ≡ record { answer = done; bytes = [] })
      × (after.rule ≡ l.rule) × Divided M slip l.groups after.groups

  -- a refusal leaves the ledger; 17 leaves the board coloured, and no other colours a byte
  abbrev pub Refused : Refusal → Reply → Ledger → Type 0
  Refused e reply after =
      (reply.answer ≡ refused e) × (after ≡ l)
      × (((refusal_number e ≡ 17) × ColouredBytes M l reply.bytes) ⊎ (¬ (refusal_number e ≡ 17) × (reply.bytes ≡ [])))

  -- the relation of one call: on the ledger l it is replied to so, and leaves the ledger `after`
  pub data Agrees (c : Call) (reply : Reply) (after : Ledger) : Type 0 where
    accepts : AllHold (conditions c) → Accepted c reply after → Agrees c reply after
    refuses : (e : Refusal) → FirstFailing (conditions c) e → Refused e reply after → Agrees c reply after
