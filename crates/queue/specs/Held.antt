-- What a queue holds, and what its calls do to that.
use Rattle.std.specs.Prelude.{◌≡◌, ℕ, ◌+◌, ◌<◌, List, [], ◌∷◌, ◌++◌, length, Some, None, Ok, Err, Option, Result}
use Rattle.systems.specs.declared.refusals.Refusal.{Refusal}
use Rattle.systems.specs.declared.refusals.Refusal.TheVariants.{QueueFull}
use Rattle.queue.specs.declared.ring.Ring.{Ring}

-- what a queue holds, the oldest first
abbrev pub held : {X : Type 0} → Ring X → List X
held q = q.held

-- how many elements a queue can hold
abbrev pub room : {X : Type 0} → Ring X → ℕ
room q = length q.held + q.free

-- what push does: x comes last; or the queue is full and stays as it is
abbrev pub Pushed : {X : Type 0} → Ring X → X → Ring X → Result (Unit {0}) Refusal → Type 0
Pushed q x q' (Ok _) =
    (length (held q) < room q) × (held q' ≡ held q ++ x ∷ []) × (room q' ≡ room q)
Pushed q x q' (Err e) = (length (held q) ≡ room q) × (q' ≡ q) × (e ≡ QueueFull)

-- what pop does: the oldest element leaves; or the queue is empty and stays as it is
abbrev pub Popped : {X : Type 0} → Ring X → Ring X → Option X → Type 0
Popped q q' (Some x) = (held q ≡ x ∷ held q') × (room q' ≡ room q)
Popped q q' None = (held q ≡ []) × (q' ≡ q)
