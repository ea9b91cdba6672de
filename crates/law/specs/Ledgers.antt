-- The ledger of a study: its rule, and the groups of its system's states. Colours and verdicts are the ledger's, on its groups.
use Rattle.std.specs.Prelude.{◌≡◌, ℕ, ◌≤◌, true, List, [], ◌∷◌, length, replicate}
use Rattle.std.specs.List.{AllByRecursion}
use Rattle.systems.specs.declared.kinds.Colour.{Colour}
use Rattle.systems.specs.Model.{Model}
use Rattle.rules.specs.declared.syntax.Clause.{Clause}
use Rattle.rules.specs.declared.syntax.Clause.TheVariants.{Constant}
use Rattle.rules.specs.Clauses.{WellFounded, formula, whole, MarkBelow}
use Rattle.colours.specs.Boards.{Coloured, positions}
use Rattle.colours.specs.Values.{colour_of, verdict_of}
use Rattle.groupings.specs.Members.{group_of, by_list, AllUsed}

-- the clauses of the rule, and the group of each state
pub record Ledger : Type 0 where
  pub rule : List Clause
  pub groups : List ℕ

-- the ledger of a new study: the rule `1`, all states in group 0
abbrev pub fresh : Model → Ledger
fresh M = record { rule = Constant true ∷ []; groups = replicate M.states 0 }

-- the invariant: a group for each state and a state in each group; 1 to 64 clauses, none of which uses itself or a later one, with marks that exist
pub record Sound (M : Model) (l : Ledger) : Type 0 where
  pub for_each : length l.groups ≡ M.states
  pub used : AllUsed l.groups
  pub some : 1 ≤ length l.rule
  pub few : length l.rule ≤ 64
  pub founded : WellFounded l.rule
  pub known : AllByRecursion (MarkBelow M.marks) l.rule

-- M is the model of the study's system
module _ (M : Model) (l : Ledger) where
  -- the model of the groups
  abbrev pub model : Model
  model = by_list M l.groups

  -- how many positions there are: groups times clauses
  abbrev pub places : ℕ
  places = positions model l.rule

  -- the verdict of the rule
  abbrev pub verdict : Colour
  verdict = verdict_of model (whole l.rule)

  -- the colour of a clause at the group of a state
  abbrev pub colour_at_state : (state clause : ℕ) → Colour
  colour_at_state s c = colour_of model (formula l.rule c) (group_of l.groups s)

  -- the bytes of a board, one for each position, are the colours of the positions
  abbrev pub ColouredBytes : List ℕ → Type 0
  ColouredBytes bytes = (length bytes ≡ places) × Coloured model l.rule bytes
