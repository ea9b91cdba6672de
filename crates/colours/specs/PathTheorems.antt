-- What is proved of colours by maximal paths.
use Rattle.std.specs.Prelude.{◌≡◌, ℕ, ◌<◌, ◌↔◌}
use Rattle.systems.specs.declared.kinds.Colour.{Colour}
use Rattle.systems.specs.Model.{Model, Lawful}
use Rattle.rules.specs.Formulas.{Formula}
use Rattle.colours.specs.Colours.{colouring, HasVerdict}
use Rattle.colours.specs.Paths.{Path, PossiblePath, endless, path_colouring, HasPathVerdict}

-- at every state of a lawful model a rule is T by walks just if it is T by maximal paths, and F just if it is F
abbrev pub WalksAndPathsAgree : Type 0
WalksAndPathsAgree = (M : Model) → Lawful M → (f : Formula) (s : ℕ) → s < M.states →
    ((colouring M f).is_T s ↔ (path_colouring M f).is_T s) × ((colouring M f).is_F s ↔ (path_colouring M f).is_F s)

-- and the verdicts are the same
abbrev pub VerdictsByPathsAgree : Type 0
VerdictsByPathsAgree = (M : Model) → Lawful M → (f : Formula) (v : Colour) → HasVerdict M f v ↔ HasPathVerdict M f v

-- a possible path has no end, since every state has a possible step
abbrev pub PossiblePathsEndless : Type 0
PossiblePathsEndless =
    (M : Model) → Lawful M → (s : ℕ) → s < M.states → (path : Path) → PossiblePath M s path → path.length ≡ endless
