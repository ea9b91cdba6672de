-- What a board shows around a position, look by look.
use Rattle.std.specs.Prelude.{ℕ, ◌+◌, ◌-◌, ◌<◌, Bool, false, cond, not, List, Some, None, Option, ◌==◌, nat_lt, slice_index}
use Rattle.systems.specs.declared.kinds.Step.{Step}
use Rattle.systems.specs.declared.kinds.Step.TheVariants.{Absent, Unsure, Sure}
use Rattle.systems.specs.declared.kinds.Colour.{Colour}
use Rattle.systems.specs.declared.kinds.Colour.TheVariants.{Undecided, F, T}
use Rattle.systems.specs.Model.{Model}
use Rattle.systems.specs.Numbers.{colour_number, colour_from}
use Rattle.rules.specs.declared.syntax.Quantifier.TheVariants.{A, E}
use Rattle.rules.specs.declared.syntax.Operator.{Operator}
use Rattle.rules.specs.declared.syntax.Operator.TheVariants.{And, Or, AU, AV, EU, EV}
use Rattle.rules.specs.declared.syntax.Clause.{Clause}
use Rattle.rules.specs.declared.syntax.Clause.TheVariants.{Constant, Mark, Next as next_clause, Pair}
use Rattle.colours.specs.declared.chains.Position.{Position}
use Rattle.colours.specs.declared.chains.Reason.TheVariants.{UnknownMark, UnsureStep}
use Rattle.colours.specs.Boards.{place}
use Rattle.engine.specs.declared.cause.looking.Finding.{Finding}
use Rattle.engine.specs.declared.cause.looking.Finding.TheVariants.{End, Next}

-- below, C is the number of clauses

-- the colour that the board shows of clause c at group g; none where the byte there stands for none
abbrev pub shown_at : ℕ → List ℕ → (g c : ℕ) → Option Colour
shown_at C board g c = colour_from (slice_index board (place C g c))

-- whether what is shown is the colour v
abbrev pub is_shown : Colour → Option Colour → Bool
is_shown v (Some w) = colour_number w == colour_number v
is_shown v None = false

-- the position of clause c at group g, where it is undecided
abbrev pub opened : ℕ → List ℕ → (g c : ℕ) → Option Finding
opened C board g c = cond (is_shown Undecided (shown_at C board g c)) (Some (Next (record { group = g; clause = c }))) None

-- whether an operator looks across steps, by what is shown of its left part
abbrev pub leads_across : Operator → Option Colour → Bool
leads_across And left = false
leads_across Or left = false
leads_across AU left = not (is_shown F left)
leads_across EU left = not (is_shown F left)
leads_across AV left = not (is_shown T left)
leads_across EV left = not (is_shown T left)

-- whether an unsure step to a group ends a chain, by what is shown there of the clause that is sought
abbrev pub awaited : Clause → Option Colour → Bool
awaited (Constant v) o = false
awaited (Mark m negated) o = false
awaited (next_clause A r) o = is_shown F o
awaited (next_clause E r) o = is_shown T o
awaited (Pair And r q) o = false
awaited (Pair Or r q) o = false
awaited (Pair AV r q) o = is_shown F o
awaited (Pair EU r q) o = is_shown T o
awaited (Pair AU r q) o = not (is_shown T o)
awaited (Pair EV r q) o = not (is_shown F o)

-- the clause that is sought across the steps from p
abbrev pub sought_by : ℕ → List ℕ → Position → Clause → Option ℕ
sought_by C board p (Constant v) = None
sought_by C board p (Mark m negated) = None
sought_by C board p (next_clause k r) = Some r
sought_by C board p (Pair o r q) = cond (leads_across o (shown_at C board p.group r)) (Some p.clause) None

-- what the group of p itself shows, of which there are two
abbrev pub here : ℕ → List ℕ → Position → Clause → Bool → Option Finding
here C board p (Constant v) first = None
here C board p (Mark m negated) first = Some (End (UnknownMark p.group m))
here C board p (next_clause k r) first = None
here C board p (Pair o r q) first = opened C board p.group (cond first r q)

-- what a step from p to t shows, where clause h is sought there
abbrev pub stepped : ℕ → List ℕ → Position → Clause → (h t : ℕ) → Step → Option Finding
stepped C board p c h t Absent = None
stepped C board p c h t Unsure = cond (awaited c (shown_at C board t h)) (Some (End (UnsureStep p.group t))) (opened C board t h)
stepped C board p c h t Sure = opened C board t h

abbrev pub across : Model → ℕ → List ℕ → Position → Clause → Option ℕ → ℕ → Option Finding
across M C board p c None t = None
across M C board p c (Some h) t = stepped C board p c h t (M.step p.group t)

-- two looks at the group, and one across the step to each group where something is sought there
abbrev pub looks_of : Model → Option ℕ → ℕ
looks_of M None = 2
looks_of M (Some h) = M.states + 2

-- the look numbered k from p, which has the clause c
unfoldable pub look_of : Model → ℕ → List ℕ → Position → Clause → Option ℕ → ℕ → Option Finding
look_of M C board p c sought k = cond (nat_lt k 2) (here C board p c (k == 0)) (across M C board p c sought (k - 2))

-- a clause, if there is one, has a number below n
abbrev pub Low : ℕ → Option ℕ → Type 0
Low n None = Unit {0}
Low n (Some c) = c < n
