use Rattle.std.proofs.Common.{ℕ, ◌≤◌, List}
use Rattle.colouring.specs.passes.RisingColumns.{Same, load, Rises}
use Rattle.colouring.proofs.rise.RisingColumn.look_back.Given as goal

abbrev pub invariant-loop-s : goal.invariant-loop-s
invariant-loop-s l = record {
  same : Same l.initial.self l.self;
  kept : (b₀ : List ℕ) → Rises l.initial.self b₀ l.t 0 → Rises l.self b₀ l.t l.s;
  load : load l.self ≤ load l.initial.self;
}
