-- Colours computed: the truth order F < undecided < T, and the board of a rule's colours.
use Rattle.std.specs.Prelude.{ℕ, zero, suc, ◌≤◌, true, false, cond, List, map, slice_index_or}
use Rattle.std.specs.List.{range_with_len}
use Rattle.systems.specs.declared.kinds.Step.{Step}
use Rattle.systems.specs.declared.kinds.Step.TheVariants.{Absent, Unsure, Sure}
use Rattle.systems.specs.declared.kinds.Colour.{Colour}
use Rattle.systems.specs.declared.kinds.Colour.TheVariants.{Undecided, F, T}
use Rattle.systems.specs.Model.{Model}
use Rattle.rules.specs.declared.syntax.Quantifier.{Quantifier}
use Rattle.rules.specs.declared.syntax.Quantifier.TheVariants.{A, E}
use Rattle.rules.specs.declared.syntax.Operator.{Operator}
use Rattle.rules.specs.declared.syntax.Operator.TheVariants.{And, Or, AU, AV, EU, EV}
use Rattle.rules.specs.Formulas.{Formula, constant, mark, next, pair}

-- how true a colour is
abbrev pub truth : Colour → ℕ
truth F = 0
truth Undecided = 1
truth T = 2

-- a is at most as true as b
abbrev pub AtMost : Colour → Colour → Type 0
AtMost a b = truth a ≤ truth b

-- the truer of two colours
abbrev pub join : Colour → Colour → Colour
join F b = b
join T b = T
join Undecided F = Undecided
join Undecided Undecided = Undecided
join Undecided T = T

-- the less true of two colours
abbrev pub meet : Colour → Colour → Colour
meet F b = F
meet T b = b
meet Undecided F = F
meet Undecided Undecided = Undecided
meet Undecided T = Undecided

abbrev pub negate : Colour → Colour
negate F = T
negate Undecided = Undecided
negate T = F

-- how true it is that there is a step
abbrev pub rated : Step → Colour
rated Absent = F
rated Unsure = Undecided
rated Sure = T

-- the join, and the meet, of f at the numbers below n
unfoldable pub join_below : ℕ → (ℕ → Colour) → Colour
join_below zero f = F
join_below (suc n) f = join (join_below n f) (f n)

unfoldable pub meet_below : ℕ → (ℕ → Colour) → Colour
meet_below zero f = T
meet_below (suc n) f = meet (meet_below n f) (f n)

-- f at the numbers below n, in order
abbrev pub listed : ℕ → (ℕ → Colour) → List Colour
listed n f = map f (range_with_len 0 n)

-- the colour that a board has at s
abbrev pub colour_at : List Colour → ℕ → Colour
colour_at board s = slice_index_or board s Undecided

module _ (M : Model) where
  -- how true it is that some state has a step from s and the colour x (E), or that every state has none or the colour x (A)
  abbrev pub next_value : Quantifier → (ℕ → Colour) → ℕ → Colour
  next_value E x s = join_below M.states (λ t. meet (rated (M.step s t)) (x t))
  next_value A x s = meet_below M.states (λ t. join (negate (rated (M.step s t))) (x t))

  -- q, or r and the next
  abbrev pub until_value : Quantifier → (r q x : ℕ → Colour) → ℕ → Colour
  until_value k r q x s = join (q s) (meet (r s) (next_value k x s))

  -- q, and r or the next
  abbrev pub release_value : Quantifier → (r q x : ℕ → Colour) → ℕ → Colour
  release_value k r q x s = meet (q s) (join (r s) (next_value k x s))

  -- n rounds, in each of which every state takes its value on the board before
  unfoldable pub rounds : ((ℕ → Colour) → ℕ → Colour) → ℕ → List Colour → List Colour
  rounds value zero board = board
  rounds value (suc n) board = rounds value n (listed M.states (value (colour_at board)))

  -- U rises from F and V falls from T, in as many rounds as there are states
  abbrev pub pair_board : Operator → (r q : ℕ → Colour) → List Colour
  pair_board And r q = listed M.states (λ s. meet (r s) (q s))
  pair_board Or r q = listed M.states (λ s. join (r s) (q s))
  pair_board AU r q = rounds (until_value A r q) M.states (listed M.states (λ s. F))
  pair_board EU r q = rounds (until_value E r q) M.states (listed M.states (λ s. F))
  pair_board AV r q = rounds (release_value A r q) M.states (listed M.states (λ s. T))
  pair_board EV r q = rounds (release_value E r q) M.states (listed M.states (λ s. T))

  -- the colours of a rule at all states
  unfoldable pub board_of : Formula → List Colour
  board_of (constant true) = listed M.states (λ s. T)
  board_of (constant false) = listed M.states (λ s. F)
  board_of (mark p false) = listed M.states (λ s. M.mark s p)
  board_of (mark p true) = listed M.states (λ s. negate (M.mark s p))
  board_of (next k r) = let x = board_of r in listed M.states (next_value k (colour_at x))
  board_of (pair o r q) = let x = board_of r in let y = board_of q in pair_board o (colour_at x) (colour_at y)

  -- the colour of a rule at the state s
  abbrev pub colour_of : Formula → ℕ → Colour
  colour_of f s = colour_at (board_of f) s

  -- the verdict: the meet of its colours at the starts
  unfoldable pub verdict_of : Formula → Colour
  verdict_of f = let x = board_of f in meet_below M.states (λ s. cond (M.start s) (colour_at x s) T)
