-- What callers may use of a queue, whatever it is made of.
use Rattle.std.proofs.Common.{◌≡◌, ◌+◌, ◌∷◌, length, ap, ◌∙◌, arith}
use Rattle.queue.specs.declared.ring.Ring.{Ring}
use Rattle.queue.specs.Held.{held}

-- one element fewer
pub popped_length : {X : Type 0} (q : Ring X) (x : X) (q' : Ring X) → held q ≡ x ∷ held q' → length (held q) ≡ length (held q') + 1
popped_length q x q' e = ap length e ∙ omega arith
