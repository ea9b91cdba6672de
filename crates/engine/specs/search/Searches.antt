-- A search through the positions of a graph: breadth first, with a table that tells of each position seen the one before it.
use Rattle.std.specs.Prelude.{◌≡◌, ℕ, zero, suc, ◌+◌, ◌*◌, ◌<◌, ◌≤◌, cond, ◌⊎◌, List, [], ◌∷◌, ◌++◌, length, is_some, Some, None, Option, slice_index_or, slice_set}
use Rattle.std.specs.List.{AllByRecursion}
use Rattle.systems.specs.Model.{Model}
use Rattle.rules.specs.declared.syntax.Clause.{Clause}
use Rattle.colours.specs.declared.chains.Position.{Position}
use Rattle.colours.specs.declared.chains.Reason.{Reason}
use Rattle.colours.specs.Boards.{place}
use Rattle.colours.specs.Chains.{clause_at}
use Rattle.engine.specs.declared.links.Link.{Link}
use Rattle.engine.specs.declared.cause.looking.Finding.{Finding}
use Rattle.engine.specs.declared.cause.looking.Finding.TheVariants.{End, Next}
use Rattle.engine.specs.search.Looks.{sought_by, looks_of, look_of}

-- positions, from each of which there are so many looks, and what each look shows
pub record Graph : Type 0 where
  pub groups : ℕ
  pub clauses : ℕ
  pub looks : Position → ℕ
  pub look : Position → ℕ → Option Finding

-- the positions of a rule with the looks that a board gives
abbrev pub graph : Model → List Clause → List ℕ → Graph
graph M cs board = record {
  groups = M.states;
  clauses = length cs;
  looks = λ p. looks_of M (sought_by (length cs) board p (clause_at cs p.clause));
  look = λ p k. look_of M (length cs) board p (clause_at cs p.clause) (sought_by (length cs) board p (clause_at cs p.clause)) k;
}

-- the place of a position, where there are C clauses
abbrev pub place_of : ℕ → Position → ℕ
place_of C p = place C p.group p.clause

-- a group below G and a clause below C
abbrev pub Inside : ℕ → ℕ → Position → Type 0
Inside G C p = (p.group < G) × (p.clause < C)

-- a look from p shows n
abbrev pub Leads : Graph → Position → Position → Type 0
Leads m p n = (k : ℕ) × (k < m.looks p) × (m.look p k ≡ Some (Next n))

-- a look from p shows the end of a chain
abbrev pub EndsThere : Graph → Position → Reason → Type 0
EndsThere m p reason = (k : ℕ) × (k < m.looks p) × (m.look p k ≡ Some (End reason))

-- what a table tells of a position: the one before it, if it was seen
abbrev pub before : ℕ → List (Option Position) → Position → Option Position
before C table p = slice_index_or table (place_of C p) None

abbrev pub Seen : ℕ → List (Option Position) → Position → Type 0
Seen C table p = (q : Position) × (before C table p ≡ Some q)

-- how many of the first n places have nothing
abbrev pub unseen : ℕ → List (Option Position) → ℕ
unseen zero table = 0
unseen (suc n) [] = 0
unseen (suc n) (x ∷ xs) = cond (is_some x) 0 1 + unseen n xs

-- by the table all positions seen go back to the start: a rank falls on the way back
pub record Ranked (G C : ℕ) (start : Position) (table : List (Option Position)) (rank : ℕ → ℕ) : Type 0 where
  pub wide : G * C ≤ length table
  pub inside : Inside G C start
  pub root : Seen C table start
  pub back : (p q : Position) → Inside G C p → before C table p ≡ Some q → ¬ (place_of C p ≡ place_of C start)
      → Inside G C q × Seen C table q × (rank (place_of C q) < rank (place_of C p))
  pub shallow : (p : Position) → Inside G C p → Seen C table p → rank (place_of C p) + unseen (G * C) table < G * C

abbrev pub Rooted : ℕ → ℕ → Position → List (Option Position) → Type 0
Rooted G C start table = (rank : ℕ → ℕ) × Ranked G C start table rank

-- each position seen but the start was shown by a look from the one before it
abbrev pub Led : Graph → Position → List (Option Position) → Type 0
Led m start table =
    (p q : Position) → Inside m.groups m.clauses p → before m.clauses table p ≡ Some q
    → ¬ (place_of m.clauses p ≡ place_of m.clauses start) → Leads m q p

-- the position waits in the queue
abbrev pub Waits : Position → List Link → Type 0
Waits p [] = ⊥
Waits p (l ∷ ls) = (l.at ≡ p) ⊎ Waits p ls

-- what a look showed is no end, and was seen
abbrev pub Passed : ℕ → List (Option Position) → Option Finding → Type 0
Passed C table (Some (End reason)) = ⊥
Passed C table (Some (Next n)) = Seen C table n
Passed C table None = Unit {0}

-- so did the first k looks from p
abbrev pub Tried : Graph → List (Option Position) → ℕ → Position → Type 0
Tried m table k p = (j : ℕ) → j < k → Passed m.clauses table (m.look p j)

abbrev pub Done : Graph → List (Option Position) → Position → Type 0
Done m table p = Tried m table (m.looks p) p

abbrev pub Known : Graph → List (Option Position) → Position → Type 0
Known m table p = Inside m.groups m.clauses p × Seen m.clauses table p

-- the search between two positions: what was seen waits or is done with
pub record Searching (m : Graph) (start : Position) (table : List (Option Position)) (waiting : List Link) : Type 0 where
  pub rooted : Rooted m.groups m.clauses start table
  pub led : Led m start table
  pub known : AllByRecursion (λ l. Known m table l.at) waiting
  pub closed : (p : Position) → Known m table p → Waits p waiting ⊎ Done m table p
  pub fits : unseen (m.groups * m.clauses) table + length waiting ≤ m.groups * m.clauses

-- the search at a position, from which the first k looks were taken
pub record Spreading (m : Graph) (start from : Position) (k : ℕ) (table : List (Option Position)) (waiting : List Link) : Type 0 where
  pub rooted : Rooted m.groups m.clauses start table
  pub led : Led m start table
  pub known : AllByRecursion (λ l. Known m table l.at) waiting
  pub here : Known m table from
  pub tried : Tried m table k from
  pub closed : (p : Position) → Known m table p → ¬ (place_of m.clauses p ≡ place_of m.clauses from) → Waits p waiting ⊎ Done m table p
  pub fits : unseen (m.groups * m.clauses) table + length waiting ≤ m.groups * m.clauses

-- an end was found at p, and the table leads back from there to the start
pub record Found (m : Graph) (start : Position) (table : List (Option Position)) (p : Position) (reason : Reason) : Type 0 where
  pub rooted : Rooted m.groups m.clauses start table
  pub led : Led m start table
  pub here : Known m table p
  pub end : EndsThere m p reason

-- what the looks from a position leave, from the one numbered j on: an end was found, or those below k were taken
abbrev pub Taken : Graph → Position → (j k : ℕ) → List (Option Position) → List Link → List (Option Position) → List Link → Option Reason → Type 0
Taken m from j k table waiting table' waiting' (Some reason) =
    (start : Position) → Spreading m start from j table waiting → Found m start table' from reason
Taken m from j k table waiting table' waiting' None =
    (start : Position) → Spreading m start from j table waiting → Spreading m start from k table' waiting'

-- what all of them leave: an end was found, or the search goes on
abbrev pub SpreadOut : Graph → Position → List (Option Position) → List Link → List (Option Position) → List Link → Option Reason → Type 0
SpreadOut m from table waiting table' waiting' (Some reason) =
    (start : Position) → Spreading m start from 0 table waiting → Found m start table' from reason
SpreadOut m from table waiting table' waiting' None =
    (start : Position) → Spreading m start from 0 table waiting → Searching m start table' waiting'

-- what a search answers: where an end was found; or no look leads out of what was seen
abbrev pub Searched : Graph → Position → List (Option Position) → Option (Position × Reason) → Type 0
Searched m start table (Some r) = Found m start table r.0 r.1
Searched m start table None = Searching m start table []

-- what is done with a position that was shown, by what the table tells of it: nothing if it was seen
abbrev pub Saw : Option Position → ℕ → Link → List (Option Position) → List Link → List (Option Position) → List Link → Type 0
Saw None C l table waiting table' waiting' = (table' ≡ slice_set table (place_of C l.at) (Some l.from)) × (waiting' ≡ waiting ++ l ∷ [])
Saw (Some q) C l table waiting table' waiting' = (table' ≡ table) × (waiting' ≡ waiting)

-- there is room in the queue for a position that was not seen
abbrev pub Space : Option Position → List Link → ℕ → Type 0
Space None waiting places = length waiting < places
Space (Some q) waiting places = Unit {0}

-- what follows on a look: the end that it showed is answered and nothing is changed, or it is one look more that was taken
abbrev pub Followed : Graph → Position → Option Finding → List (Option Position) → List Link → List (Option Position) → List Link → Option Reason → Type 0
Followed m from finding table waiting table' waiting' (Some reason) =
    (finding ≡ Some (End reason)) × (table' ≡ table) × (waiting' ≡ waiting)
Followed m from finding table waiting table' waiting' None =
    (start : Position) (k : ℕ) → k < m.looks from → m.look from k ≡ finding
    → Spreading m start from k table waiting → Spreading m start from (k + 1) table' waiting'
