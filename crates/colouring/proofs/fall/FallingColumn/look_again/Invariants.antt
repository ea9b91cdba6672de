use Rattle.std.proofs.Common.{ℕ, ◌≤◌, List}
use Rattle.colouring.specs.passes.FallingColumns.{Same, load, Falls}
use Rattle.colouring.proofs.fall.FallingColumn.look_again.Given as goal

abbrev pub invariant-loop-s : goal.invariant-loop-s
invariant-loop-s l = record {
  same : Same l.initial.self l.self;
  kept : (b₀ : List ℕ) → Falls l.initial.self b₀ l.t 0 → Falls l.self b₀ l.t l.s;
  load : load l.self ≤ load l.initial.self;
}
