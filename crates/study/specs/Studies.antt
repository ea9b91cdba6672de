-- The ledger of a study, and what its calls answer as replies.
use Rattle.std.specs.Prelude.{◌≡◌, ℕ, ◌≤◌, Bool, true, cond, ◌⊎◌, List, [], ◌∷◌, map, length, take, Some, None, Ok, Err, Option, Result, ◌==◌, nat_lt, slice_index}
use Rattle.std.specs.List.{list_all}
use Rattle.systems.specs.declared.kinds.Colour.{Colour}
use Rattle.systems.specs.declared.refusals.Refusal.{Refusal}
use Rattle.systems.specs.declared.refusals.Refusal.TheVariants.{WorkspaceTooSmall, VerdictDecided}
use Rattle.systems.specs.Model.{Model}
use Rattle.systems.specs.Numbers.{refusal_number}
use Rattle.rules.specs.declared.rule.Rule.{Rule}
use Rattle.rules.specs.declared.syntax.Clause.{Clause}
use Rattle.rules.specs.declared.syntax.Clause.TheVariants.{Constant, Mark, Next, Pair}
use Rattle.rules.specs.Rules.{clause_list}
use Rattle.colours.specs.declared.chains.Position.{Position}
use Rattle.groupings.specs.Grouped.{groups_at}
use Rattle.queue.specs.declared.ring.Ring.{Ring}
use Rattle.queue.specs.Held.{room}
use Rattle.engine.specs.declared.links.Link.{Link}
use Rattle.law.specs.Ledgers.{Ledger, places}
use Rattle.law.specs.Calls.{refused, done, judged, looked, caused, Reply}
use Rattle.study.specs.declared.slip.Slip.{Slip}
use Rattle.study.specs.declared.study.Study.{Study}

-- the clause is no mark, or one below n, as a test
abbrev pub is_known : ℕ → Clause → Bool
is_known n (Constant b) = true
is_known n (Mark p negated) = nat_lt p n
is_known n (Next k r) = true
is_known n (Pair o r q) = true

-- the clauses of a rule over a system with n marks: a rule with a mark that does not exist counts as `1`
abbrev pub clauses_for : ℕ → Rule → List Clause
clauses_for n r = cond (list_all (is_known n) (clause_list r)) (clause_list r) (Constant true ∷ [])

-- the system of a study
abbrev pub system_of : {S : Type 0} → Study S → S
system_of s = s.grouping.system

-- by what the system means
module _ {S : Type 0} (meaning : S → Model) where
  -- the system below
  abbrev pub below : Study S → Model
  below s = meaning (system_of s)

  -- the rule and the states' groups
  abbrev pub ledger : Study S → Ledger
  ledger s = record { rule = clauses_for (below s).marks s.rule; groups = groups_at meaning s.grouping }

  -- how many positions there are
  abbrev pub positions_of : Study S → ℕ
  positions_of s = places (below s) (ledger s)

-- Replies. Of a board, only the first n bytes are ever coloured.

-- to set rule and regroup
abbrev pub plain_reply : Result (Unit {0}) Refusal → Reply
plain_reply (Ok _) = record { answer = done; bytes = [] }
plain_reply (Err e) = record { answer = refused e; bytes = [] }

-- to a split
abbrev pub split_reply : Result (Unit {0}) (Refusal × Slip) → Reply
split_reply (Ok _) = record { answer = done; bytes = [] }
split_reply (Err e) = record { answer = refused e.0; bytes = [] }

-- to judge, with the board after it
abbrev pub judge_reply : ℕ → List ℕ → Result (Colour × ℕ × ℕ × ℕ) Refusal → Reply
judge_reply n board (Ok r) = record { answer = judged r.0 r.1 r.2 r.3; bytes = take n board }
judge_reply n board (Err e) = record { answer = refused e; bytes = [] }

-- to look
abbrev pub look_reply : ℕ → List ℕ → Result Colour Refusal → Reply
look_reply n board (Ok v) = record { answer = looked v; bytes = take n board }
look_reply n board (Err e) = record { answer = refused e; bytes = [] }

-- the positions that stand in a list
abbrev pub standing : List (Option Position) → List Position
standing [] = []
standing (None ∷ xs) = standing xs
standing (Some p ∷ xs) = p ∷ standing xs

-- the bytes that a refused call has coloured: 17 is told after colouring
abbrev pub coloured_by : Refusal → ℕ → List ℕ → List ℕ
coloured_by e n board = cond (refusal_number e == 17) (take n board) []

-- to cause, with the board and the chain list after it
abbrev pub cause_reply : ℕ → List ℕ → List (Option Position) → Result (Slip × ℕ) Refusal → Reply
cause_reply n board chain (Ok r) = record { answer = caused r.0.reason r.1 (standing (take r.1 chain)); bytes = take n board }
cause_reply n board chain (Err e) = record { answer = refused e; bytes = coloured_by e n board }

-- What a call leaves of the workspaces that are lent to it, before and after (') it.

-- bytes from n on are as they were, and the queue has as many places, with any content
pub record ColouredOnly (n : ℕ) (board : List ℕ) (queue : Ring ℕ) (board' : List ℕ) (queue' : Ring ℕ) : Type 0 where
  pub beyond : (k : ℕ) → n ≤ k → slice_index board' k ≡ slice_index board k
  pub long : length board' ≡ length board
  pub room_kept : room queue' ≡ room queue

-- both are equal to what they were
abbrev pub Untouched : (board : List ℕ) (queue : Ring ℕ) (board' : List ℕ) (queue' : Ring ℕ) → Type 0
Untouched board queue board' queue' = (board' ≡ board) × (queue' ≡ queue)

-- judge and look
abbrev pub Lent : {A : Type 0} → ℕ → (board : List ℕ) (queue : Ring ℕ) (board' : List ℕ) (queue' : Ring ℕ) → Result A Refusal → Type 0
Lent n board queue board' queue' (Ok _) = ColouredOnly n board queue board' queue'
Lent n board queue board' queue' (Err e) = Untouched board queue board' queue'

-- the queue of links and the chain list of a cause; its chain stands in the first places, one position in each
abbrev pub SoughtIn : (links : Ring Link) (chain : List (Option Position)) (links' : Ring Link) (chain' : List (Option Position)) → Result (Slip × ℕ) Refusal → Type 0
SoughtIn links chain links' chain' (Ok r) =
    (room links' ≡ room links) × (take r.1 chain' ≡ map Some (standing (take r.1 chain')))
SoughtIn links chain links' chain' (Err e) = (links' ≡ links) × (chain' ≡ chain)

-- the board and the queue of positions of a cause
abbrev pub LentToCause : {A : Type 0} → ℕ → (board : List ℕ) (queue : Ring ℕ) (board' : List ℕ) (queue' : Ring ℕ) → Result A Refusal → Type 0
LentToCause n board queue board' queue' (Ok _) = ColouredOnly n board queue board' queue'
LentToCause n board queue board' queue' (Err e) =
    ((e ≡ VerdictDecided) × ColouredOnly n board queue board' queue')
    ⊎ ((e ≡ WorkspaceTooSmall) × Untouched board queue board' queue')

-- a refused split hands the very slip back, and leaves the study
abbrev pub HandedBack : {S : Type 0} → Slip → (before after : Study S) → Result (Unit {0}) (Refusal × Slip) → Type 0
HandedBack slip before after (Ok _) = Unit {0}
HandedBack slip before after (Err e) = (e.1 ≡ slip) × (after ≡ before)
