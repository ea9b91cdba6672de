use Rattle.std.proofs.Common.{ℕ}
use Rattle.systems.specs.declared.kinds.Colour.{Colour}
use Rattle.colouring.specs.passes.Columns.{OnlyColumn, Says}
use Rattle.colouring.proofs.Placing.{Filled}
use Rattle.colouring.proofs.plain.write_each.Given as goal

abbrev pub invariant-loop-s : goal.invariant-loop-s
invariant-loop-s g l = record {
  only : OnlyColumn l.columns l.initial.board l.board;
  filled : (f : ℕ → Colour) → Says l.columns l.initial.board (goal.F-post g l.value) f → Filled l.columns l.initial.board f l.s l.board;
}
