-- What the methods of a falling column say of it.
use Rattle.std.specs.Prelude.{ℕ, ◌+◌, List, Option, length}
use Rattle.systems.specs.declared.kinds.Colour.{Colour}
use Rattle.queue.specs.Held.{held}
use Rattle.colouring.specs.declared.fall.FallingColumn.{FallingColumn}
use Rattle.colouring.specs.passes.Columns.{model, column}
use Rattle.colouring.specs.passes.Loans.{Kept, Taken}
use Rattle.colouring.specs.passes.Falling.{left_below, Upheld, First, witnesses, trials, Tried, Looked, Falling}

abbrev pub Same : FallingColumn → FallingColumn → Type 0
Same r r' = Kept r.columns r'.columns r.board r'.board r.queue r'.queue

abbrev pub Next : FallingColumn → FallingColumn → Option ℕ → Type 0
Next r r' = Taken r.columns r.board.now r'.board.now r.queue.now r'.queue.now

-- what waits, and all that may yet have to
abbrev pub load : FallingColumn → ℕ
load r = length (held r.queue.now) + left_below r.columns r.board.now

-- the colours of the clause
abbrev pub own : FallingColumn → ℕ → Colour
own r = column r.columns r.board.now r.columns.whole

-- the step to u upholds the colour at s; u is the first such state from `from` on; there is none before the noted one
abbrev pub Upholds : FallingColumn → (s u : ℕ) → Type 0
Upholds r = Upheld (model r.columns) (own r)

abbrev pub FirstUpholding : FallingColumn → (s from : ℕ) → Option ℕ → Type 0
FirstUpholding r = First (model r.columns) (own r)

abbrev pub AllTried : FallingColumn → Type 0
AllTried r = Tried r.columns (model r.columns) r.board.now (trials r.notes)

-- one look at s, at which it may fall
abbrev pub Looks : FallingColumn → FallingColumn → (s : ℕ) → Type 0
Looks r r' = Looked r.columns (model r.columns) r.board.now r'.board.now (held r.queue.now) (held r'.queue.now) (witnesses r.notes) (witnesses r'.notes) (trials r.notes) (trials r'.notes)

-- the column is on its way down from b₀: while those that t upheld are looked at, from the state `from` on; and when all that does not wait is upheld
abbrev pub Falls : FallingColumn → (b₀ : List ℕ) → (t from : ℕ) → Type 0
Falls r b₀ = Falling r.columns (model r.columns) b₀ r.board.now (held r.queue.now) (witnesses r.notes) (trials r.notes)

abbrev pub Rests : FallingColumn → (b₀ : List ℕ) → Type 0
Rests r b₀ = Falls r b₀ 0 (model r.columns).states
