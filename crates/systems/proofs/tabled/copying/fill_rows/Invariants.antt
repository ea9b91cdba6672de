use Rattle.std.proofs.Common.{◌≡◌, ℕ}
use Rattle.systems.specs.Tabled.{Filled}
use Rattle.systems.proofs.tabled.copying.fill_rows.Given as goal

-- the rows so far are written
abbrev pub invariant-loop-row : goal.invariant-loop-row
invariant-loop-row g l =
    (t : ℕ → ℕ → _) → ((s k : ℕ) (y : _) → goal.F-post g l.answer s k y → y ≡ t s k) → Filled l.width l.row-counter l.columns t l.initial.cells l.cells
