-- What colouring a board does.
use Rattle.std.specs.Prelude.{◌≡◌, ℕ, ◌<◌, ◌≤◌, ◌⊎◌, List, length, Ok, Err, Result, slice_index}
use Rattle.std.specs.List.{AllByRecursion}
use Rattle.systems.specs.declared.refusals.Refusal.{Refusal}
use Rattle.systems.specs.declared.refusals.Refusal.TheVariants.{WorkspaceTooSmall}
use Rattle.systems.specs.Model.{Model}
use Rattle.rules.specs.declared.syntax.Clause.{Clause}
use Rattle.rules.specs.Clauses.{MarkBelow}
use Rattle.colours.specs.Boards.{positions, Coloured}
use Rattle.queue.specs.declared.ring.Ring.{Ring}
use Rattle.queue.specs.Held.{room}

-- the board b' is what becomes of b: it shows the colours of a rule whose marks the model has, and bytes beyond the positions are as they were
pub record Becomes (M : Model) (cs : List Clause) (b b' : List ℕ) : Type 0 where
  pub coloured : AllByRecursion (MarkBelow M.marks) cs → Coloured M cs b'
  pub beyond : (k : ℕ) → positions M cs ≤ k → slice_index b' k ≡ slice_index b k
  pub long : length b' ≡ length b

-- the board and the queue have a place for each position, and the board is coloured; or one of them has fewer, and both are left as they were
unfoldable pub Colours : Model → List Clause → (b : List ℕ) → Ring ℕ → (b' : List ℕ) → Ring ℕ → Result (Unit {0}) Refusal → Type 0
Colours M cs b q b' q' (Ok _) = (positions M cs ≤ length b) × (positions M cs ≤ room q) × Becomes M cs b b' × (room q' ≡ room q)
Colours M cs b q b' q' (Err e) =
    (e ≡ WorkspaceTooSmall) × ((length b < positions M cs) ⊎ (room q < positions M cs)) × (b' ≡ b) × (q' ≡ q)
