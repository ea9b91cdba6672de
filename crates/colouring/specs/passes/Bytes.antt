-- Colours as the bytes of a board: 0 undecided, 1 F, 2 T.
use Rattle.std.specs.Prelude.{ℕ, Bool, true, false, cond, ◌==◌}
use Rattle.systems.specs.declared.kinds.Colour.{Colour}
use Rattle.systems.specs.declared.kinds.Colour.TheVariants.{Undecided, F, T}
use Rattle.colours.specs.Values.{negate}

-- the colour that a byte stands for; a byte that stands for none counts as undecided
abbrev pub decode : ℕ → Colour
decode b = cond (b == 2) T (cond (b == 1) F Undecided)

-- T and F exchanged, or not
abbrev pub flipped : Bool → Colour → Colour
flipped true c = negate c
flipped false c = c
