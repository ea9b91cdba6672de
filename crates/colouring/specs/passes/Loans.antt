-- What a call on a rising or falling column keeps of the board and the queue that were lent.
use Rattle.std.specs.Prelude.{◌≡◌, ℕ, ◌/◌, List, [], ◌∷◌, Some, None, Option}
use Rattle.std.specs.Borrow.{MutBor}
use Rattle.queue.specs.declared.ring.Ring.{Ring}
use Rattle.queue.specs.Held.{held, room}
use Rattle.colouring.specs.declared.columns.Columns.{Columns}

-- the same columns, the same board, and the same queue with as much room
pub record Kept (p p' : Columns) (b b' : MutBor (List ℕ)) (q q' : MutBor (Ring ℕ)) : Type 0 where
  pub columns : p' ≡ p
  pub board : b'.ghost_name ≡ b.ghost_name
  pub queue : q'.ghost_name ≡ q.ghost_name
  pub room : room q'.now ≡ room q.now

-- the state that waits longest leaves the queue; or none waits
abbrev pub Taken : Columns → (b b' : List ℕ) → (q q' : Ring ℕ) → Option ℕ → Type 0
Taken p b b' q q' (Some t) = (x : ℕ) × (held q ≡ x ∷ held q') × (t ≡ x / p.clauses) × (b' ≡ b)
Taken p b b' q q' None = (held q ≡ []) × (held q' ≡ []) × (b' ≡ b)
