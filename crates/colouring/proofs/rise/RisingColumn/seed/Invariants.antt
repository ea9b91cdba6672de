use Rattle.std.proofs.Common.{ℕ, List}
use Rattle.colouring.specs.passes.RisingColumns.{Same, Starts}
use Rattle.colouring.proofs.rise.RisingColumn.seed.Given as goal

abbrev pub invariant-loop-s : goal.invariant-loop-s
invariant-loop-s l = record {
  same : Same l.initial.self l.self;
  kept : (b₀ : List ℕ) → Starts l.initial.self b₀ 0 → Starts l.self b₀ l.s;
}
