use Rattle.std.proofs.Common.{ℕ, List}
use Rattle.colouring.specs.passes.FallingColumns.{Same, load, Rests}
use Rattle.colouring.proofs.fall.FallingColumn.settle.Given as goal

abbrev pub invariant-loop-t : goal.invariant-loop-t
invariant-loop-t l = record {
  same : Same l.initial.self l.self;
  kept : (b₀ : List ℕ) → Rests l.initial.self b₀ → Rests l.self b₀;
}

abbrev pub decreases-loop-t : goal.decreases-loop-t
decreases-loop-t l = load l.self
