-- A board keeps the colours of a rule on the groups: byte g × C + c is the colour of clause c at group g, C being the number of clauses.
use Rattle.std.specs.Prelude.{◌≡◌, ℕ, ◌+◌, ◌*◌, ◌<◌, ◌≤◌, List, length, slice_index}
use Rattle.systems.specs.Model.{Model}
use Rattle.systems.specs.Numbers.{colour_number}
use Rattle.rules.specs.declared.syntax.Clause.{Clause}
use Rattle.rules.specs.Clauses.{formula}
use Rattle.colours.specs.Values.{colour_of}

-- the place of clause c at group g among the positions of a rule with so many clauses
abbrev pub place : (clauses g c : ℕ) → ℕ
place clauses g c = g * clauses + c

-- how many positions there are
abbrev pub positions : Model → List Clause → ℕ
positions M cs = M.states * length cs

-- the first bytes of the board are the colours of the clauses at the groups
pub record Coloured (M : Model) (cs : List Clause) (board : List ℕ) : Type 0 where
  pub fits : positions M cs ≤ length board
  pub shows : (g c : ℕ) → g < M.states → c < length cs → slice_index board (place (length cs) g c) ≡ colour_number (colour_of M (formula cs c) g)
