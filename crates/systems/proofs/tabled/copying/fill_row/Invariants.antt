use Rattle.std.proofs.Common.{◌≡◌, ℕ, ◌+◌, ◌<◌, ◌≤◌, get_or}
use Rattle.systems.proofs.tabled.copying.fill_row.Given as goal

-- the places of the questions that were asked have their answers, and all others are as they were
abbrev pub invariant-loop-k : goal.invariant-loop-k
invariant-loop-k g l = record {
  row : (t : ℕ → _) → ((j : ℕ) (y : _) → goal.F-post g l.answer j y → y ≡ t j) → (j : ℕ) (d : _) → j < l.k → get_or l.cells (l.from + j) d ≡ t j;
  before : (j : ℕ) (d : _) → j < l.from → get_or l.cells j d ≡ get_or l.initial.cells j d;
  after : (j : ℕ) (d : _) → l.from + l.k ≤ j → get_or l.cells j d ≡ get_or l.initial.cells j d;
}
