-- What a board shows of a rule while it is coloured clause by clause.
use Rattle.std.specs.Prelude.{◌≡◌, ℕ, ◌<◌, Bool, true, false, List, slice_index}
use Rattle.systems.specs.Model.{Model}
use Rattle.systems.specs.Numbers.{colour_number}
use Rattle.rules.specs.declared.syntax.Quantifier.{Quantifier}
use Rattle.rules.specs.declared.syntax.Quantifier.TheVariants.{A, E}
use Rattle.rules.specs.declared.syntax.Operator.{Operator}
use Rattle.rules.specs.declared.syntax.Operator.TheVariants.{And, Or, AU, AV, EU, EV}
use Rattle.rules.specs.declared.syntax.Clause.{Clause}
use Rattle.rules.specs.Formulas.{Formula}
use Rattle.rules.specs.Clauses.{tree, MarkBelow}
use Rattle.colours.specs.Boards.{place}
use Rattle.colours.specs.Values.{colour_of}

-- a clause over all paths is treated as one over some path with T and F exchanged
abbrev pub over_all : Quantifier → Bool
over_all A = true
over_all E = false

-- so | is treated as &, A V as E U, and A U as E V
abbrev pub turned : Operator → Bool
turned And = false
turned Or = true
turned EU = false
turned AV = true
turned EV = false
turned AU = true

-- column c of a board with w columns has the colours of the rule f
abbrev pub ShowsRule : Model → List ℕ → (w c : ℕ) → Formula → Type 0
ShowsRule M b w c f = (s : ℕ) → s < M.states → slice_index b (place w s c) ≡ colour_number (colour_of M f s)

-- whatever rules the columns before c of b have the colours of, column c of b' has those of the clause made of them
abbrev pub ShowsClause : Model → (w c : ℕ) → Clause → (b b' : List ℕ) → Type 0
ShowsClause M w c clause b b' =
    MarkBelow M.marks clause
    → (part : ℕ → Formula) → ((j : ℕ) → j < c → ShowsRule M b w j (part j)) → ShowsRule M b' w c (tree part clause)
