-- What is read off a board.
use Rattle.std.specs.Prelude.{ℕ, ◌-◌, cond, ◌&&◌, List, length, take, Some, None, count_by, Option, nat_eq, nat_lt, slice_index}
use Rattle.std.specs.List.{slice_get}
use Rattle.systems.specs.declared.kinds.Colour.{Colour}
use Rattle.systems.specs.declared.kinds.Colour.TheVariants.{T}
use Rattle.systems.specs.Model.{Model}
use Rattle.systems.specs.Numbers.{colour_from}
use Rattle.rules.specs.declared.syntax.Clause.{Clause}
use Rattle.colours.specs.Boards.{place, positions}
use Rattle.colours.specs.Values.{meet_below}
use Rattle.colouring.specs.passes.Bytes.{decode}

-- what the rule's own column says at a start, and T elsewhere
abbrev pub told_at : Model → List Clause → List ℕ → ℕ → Colour
told_at M cs b s = cond (M.start s) (decode (slice_index b (place (length cs) s (length cs - 1)))) T

-- the verdict that a board gives: the meet of the rule's colours at the starts
abbrev pub verdict_on : Model → List Clause → List ℕ → Colour
verdict_on M cs b = meet_below M.states (told_at M cs b)

abbrev pub colour_of_byte : Option ℕ → Option Colour
colour_of_byte None = None
colour_of_byte (Some byte) = colour_from byte

-- the colour that a board has at a position; none where there is no such position, or the board ends before it or has no colour there
abbrev pub colour_on : Model → List Clause → List ℕ → (g c : ℕ) → Option Colour
colour_on M cs b g c = cond (nat_lt g M.states && nat_lt c (length cs)) (colour_of_byte (slice_get b (place (length cs) g c))) None

-- at how many positions a board has a byte
abbrev pub times : ℕ → Model → List Clause → List ℕ → ℕ
times byte M cs b = count_by (nat_eq byte) (take (positions M cs) b)
