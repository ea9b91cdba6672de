-- What the methods of a rising column say of it.
use Rattle.std.specs.Prelude.{ℕ, ◌+◌, List, Option, length}
use Rattle.systems.specs.declared.kinds.Colour.{Colour}
use Rattle.queue.specs.Held.{held}
use Rattle.colouring.specs.declared.rise.RisingColumn.{RisingColumn}
use Rattle.colouring.specs.passes.Columns.{model, column}
use Rattle.colouring.specs.passes.Loans.{Kept, Taken}
use Rattle.colouring.specs.passes.Rising.{left_above, passed, Raised, Rising}

abbrev pub Same : RisingColumn → RisingColumn → Type 0
Same r r' = Kept r.columns r'.columns r.board r'.board r.queue r'.queue

abbrev pub Next : RisingColumn → RisingColumn → Option ℕ → Type 0
Next r r' = Taken r.columns r.board.now r'.board.now r.queue.now r'.queue.now

-- what waits, and all that may yet have to
abbrev pub load : RisingColumn → ℕ
load r = length (held r.queue.now) + left_above r.columns r.board.now

-- the colour at s is raised by v
abbrev pub Lifts : RisingColumn → RisingColumn → (s : ℕ) → Colour → Type 0
Lifts r r' = Raised r.columns r.board.now r'.board.now (held r.queue.now) (held r'.queue.now)

-- what t passes on to s by a step
abbrev pub gain : RisingColumn → (s t : ℕ) → Colour
gain r = passed (model r.columns) (column r.columns r.board.now r.columns.left) (column r.columns r.board.now r.columns.whole)

-- the column is on its way up from b₀: raised by the right part below `started`; by it throughout, while t is looked back from; by all that does not wait
abbrev pub Starts : RisingColumn → (b₀ : List ℕ) → (started : ℕ) → Type 0
Starts r b₀ started = Rising r.columns (model r.columns) b₀ r.board.now (held r.queue.now) started 0 (model r.columns).states

abbrev pub Rises : RisingColumn → (b₀ : List ℕ) → (t from : ℕ) → Type 0
Rises r b₀ = Rising r.columns (model r.columns) b₀ r.board.now (held r.queue.now) (model r.columns).states

abbrev pub Rests : RisingColumn → (b₀ : List ℕ) → Type 0
Rests r b₀ = Rises r b₀ 0 (model r.columns).states
