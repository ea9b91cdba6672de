-- What the parts of the reader do with what is left of the text, told by the outcomes of the reader of single bytes.
use Rattle.std.specs.Prelude.{◌≡◌, ℕ, ◌<◌, ◌≤◌, List, ◌∷◌, length, Some, None, Option, Ok, Err, Result, ◌==◌}
use Rattle.std.specs.Fn.{Shared, FnReturns}
use Rattle.std.specs.List.{prefix_len}
use Rattle.rules.specs.declared.syntax.Operator.{Operator}
use Rattle.rules.specs.declared.pieces.Bracket.{Bracket}
use Rattle.rules.specs.declared.pieces.Stuck.{Stuck}
use Rattle.rules.specs.Trees.{Tree}
use Rattle.rules.specs.reader.Machine.{Frame, left, right, State, want, have, stuck, outcome}

-- how many spaces the text begins with
abbrev pub spaces : List ℕ → ℕ
spaces text = prefix_len (λ b. b == 32) text

-- the first byte was taken, and this is what the closure makes of it; or there is none, or it makes nothing of it
abbrev pub Takes : {X F : Type 0} → Shared F (ℕ × Unit {0}) (Option X) → F → List ℕ → List ℕ → Result X Stuck → Type 0
Takes g f old new (Ok x) = (b : ℕ) × (old ≡ b ∷ new) × FnReturns g f (b, tt) (Some x)
Takes g f old new (Err e) = (new ≡ old) × (e.left ≡ length old) × ((b : ℕ) (bs : List ℕ) → old ≡ b ∷ bs → FnReturns g f (b, tt) None)

-- what was read leads from one state to another, whatever they stand in
abbrev pub Goes : {K X : Type 0} → (K → State) → (X → K → State) → List ℕ → List ℕ → X → Type 0
Goes σ τ old new x = (length new ≤ length old) × ((k : _) → outcome (σ k) old ≡ outcome (τ x k) new)

-- no rule goes on where so many bytes are left
abbrev pub Stops : {K : Type 0} → (K → State) → List ℕ → ℕ → Type 0
Stops σ old n = (n ≤ length old) × ((k : _) → outcome (σ k) old ≡ stuck n)

-- a piece was read, or no rule goes on
abbrev pub Reads : {K X : Type 0} → (K → State) → (X → K → State) → List ℕ → List ℕ → Result X Stuck → Type 0
Reads σ τ old new (Ok x) = (length new < length old) × ((k : _) → outcome (σ k) old ≡ outcome (τ x k) new)
Reads σ τ old new (Err e) = Stops σ old e.left

-- before and after the number of a mark
abbrev pub marked : ℕ → List Frame → State
marked n k = have (Tree.mark n) k

-- before and after the operator of two rules, the left of which has been read
abbrev pub between_rules : Bracket → Tree × List Frame → State
between_rules c k = have k.0 (left c ∷ k.1)

abbrev pub joined_by : Operator → Tree × List Frame → State
joined_by o k = want (right o k.0 ∷ k.1)

-- before and after the bracket that ends two rules: the operator and the left rule, and the right rule
abbrev pub in_bracket : (Operator × Tree) × (Tree × List Frame) → State
in_bracket k = have k.1.0 (right k.0.0 k.0.1 ∷ k.1.1)

abbrev pub closed : Unit {0} → (Operator × Tree) × (Tree × List Frame) → State
closed u k = have (Tree.binary k.0.0 k.0.1 k.1.0) k.1.1
