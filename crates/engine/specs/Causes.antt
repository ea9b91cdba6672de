-- What seeking a cause on a board answers, and what it leaves.
use Rattle.std.specs.Prelude.{◌≡◌, ℕ, ◌-◌, ◌<◌, ◌≤◌, Bool, false, ◌&&◌, List, ◌∷◌, map, length, take, Some, None, Option, ◌==◌, slice_index}
use Rattle.systems.specs.declared.kinds.Colour.TheVariants.{Undecided}
use Rattle.systems.specs.Model.{Model, Starts}
use Rattle.rules.specs.declared.syntax.Clause.{Clause}
use Rattle.rules.specs.Clauses.{whole}
use Rattle.colours.specs.declared.chains.Position.{Position}
use Rattle.colours.specs.declared.chains.Reason.{Reason}
use Rattle.colours.specs.Boards.{Coloured, place, positions}
use Rattle.colours.specs.Chains.{Cause}
use Rattle.colours.specs.Colours.{colouring, HasColour}
use Rattle.queue.specs.declared.ring.Ring.{Ring}
use Rattle.queue.specs.Held.{room}
use Rattle.engine.specs.declared.links.Link.{Link}

-- each workspace has a place for each position
pub record WorkspacesFit (M : Model) (cs : List Clause) (board links chain : ℕ) : Type 0 where
  pub board_fits : positions M cs ≤ board
  pub links_fit : positions M cs ≤ links
  pub chain_fits : positions M cs ≤ chain

-- group g is a start, and the board has 0 (undecided) there for the last of C clauses, which is the rule
abbrev pub open_start : Model → (C : ℕ) → List ℕ → ℕ → Bool
open_start M C board g = M.start g && slice_index board (place C g (C - 1)) == 0

abbrev pub NoOpenStart : Model → List Clause → List ℕ → Type 0
NoOpenStart M cs board = (g : ℕ) → g < M.states → open_start M (length cs) board g ≡ false

-- the first places of the list hold a cause, as long as told
pub record CauseStands (M : Model) (cs : List Clause) (list : List (Option Position)) (reason : Reason) (long : ℕ) : Type 0 where
  pub first : Position
  pub rest : List Position
  pub counted : long ≡ length (first ∷ rest)
  pub stands : take long list ≡ map Some (first ∷ rest)
  pub cause : Cause M cs first rest reason

-- a cause is told, and stands in the list
abbrev pub CauseTold : Model → List Clause → List (Option Position) → Option (Reason × ℕ) → Type 0
CauseTold M cs list (Some r) = CauseStands M cs list r.0 r.1
CauseTold M cs list None = ⊥

-- no cause is told, and the queue of links and the chain list are equal to what they were
pub record LeftAlone (links links' : Ring Link) (chain chain' : List (Option Position)) (answer : Option (Reason × ℕ)) : Type 0 where
  pub none : answer ≡ None
  pub same_links : links' ≡ links
  pub same_chain : chain' ≡ chain

-- What seeking a cause does, with the queue of links and the chain list before and after ('). On a board that is not coloured, where
-- neither of the first two cases holds, nothing is said of the answer and the list.
pub record Sought (M : Model) (cs : List Clause) (board : List ℕ) (links : Ring Link) (chain : List (Option Position))
    (links' : Ring Link) (chain' : List (Option Position)) (answer : Option (Reason × ℕ)) : Type 0 where
  -- a workspace is too small
  pub small : ¬ WorkspacesFit M cs (length board) (room links) (length chain) → LeftAlone links links' chain chain' answer
  -- the board has the rule undecided at no start
  pub decided : NoOpenStart M cs board → LeftAlone links links' chain chain' answer
  -- on a coloured board, where the rule is undecided at a start, a cause is always found
  pub found : WorkspacesFit M cs (length board) (room links) (length chain) → Coloured M cs board
      → (g : ℕ) → Starts M g → HasColour (colouring M (whole cs)) g Undecided → CauseTold M cs chain' answer
  pub room_kept : room links' ≡ room links
