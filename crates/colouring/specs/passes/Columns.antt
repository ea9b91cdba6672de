-- The columns of a board: the colours of one clause at all states, seen with T and F exchanged or not.
use Rattle.std.specs.Prelude.{◌≡◌, ℕ, ◌*◌, ◌<◌, ◌≤◌, not, ◌≢◌, List, length, slice_index}
use Rattle.std.specs.Borrow.{Bor}
use Rattle.systems.specs.declared.kinds.Colour.{Colour}
use Rattle.systems.specs.Model.{Model}
use Rattle.systems.specs.Numbers.{colour_number}
use Rattle.systems.specs.Written.{table_model}
use Rattle.rules.specs.declared.syntax.Clause.{Clause}
use Rattle.rules.specs.declared.syntax.Clause.TheVariants.{Constant, Mark, Next, Pair}
use Rattle.colours.specs.Boards.{place}
use Rattle.colours.specs.Values.{meet}
use Rattle.colouring.specs.declared.columns.Columns.{Columns}
use Rattle.colouring.specs.passes.Bytes.{decode, flipped}
use Rattle.colouring.specs.passes.Clauses.{over_all, turned}

-- the table whose states have the colours
abbrev pub model : Columns → Model
model p = table_model p.table.now

-- the columns are those of a clause and its parts, with T and F exchanged or not as it asks
abbrev pub LaidFor : Columns → Clause → Type 0
LaidFor p (Constant v) = p.negated ≡ not v
LaidFor p (Mark m negated) = p.negated ≡ negated
LaidFor p (Next q part) = (p.negated ≡ over_all q) × (p.left ≡ part) × (p.right ≡ part)
LaidFor p (Pair o left right) = (p.negated ≡ turned o) × (p.left ≡ left) × (p.right ≡ right)

-- where the state s stands in the column c
abbrev pub cell : Columns → ℕ → ℕ → ℕ
cell p c s = place p.clauses s c

-- the colours of a column
abbrev pub column : Columns → List ℕ → ℕ → ℕ → Colour
column p b c s = flipped p.negated (decode (slice_index b (cell p c s)))

-- the board has the clause's column
pub record Lies (p : Columns) (b : List ℕ) : Type 0 where
  pub board : p.states * p.clauses ≤ length b
  pub whole : p.whole < p.clauses

-- the parts' columns come before the clause's, which is one of the rule's
pub record Ordered (p : Columns) : Type 0 where
  pub whole : p.whole < p.clauses
  pub left : p.left < p.whole
  pub right : p.right < p.whole

-- the board has the columns, in that order
pub record Fits (p : Columns) (b : List ℕ) : Type 0 where
  pub board : p.states * p.clauses ≤ length b
  pub order : Ordered p

-- no byte is changed but those of column c, of n states in rows of w
abbrev pub OnlyAt : ℕ → ℕ → ℕ → List ℕ → List ℕ → Type 0
OnlyAt n w c b b' = (k : ℕ) → ((s : ℕ) → s < n → k ≢ place w s c) → slice_index b' k ≡ slice_index b k

abbrev pub OnlyColumn : Columns → List ℕ → List ℕ → Type 0
OnlyColumn p = OnlyAt p.states p.clauses p.whole

-- every byte of the clause's column stands for a colour
abbrev pub Clean : Columns → List ℕ → Type 0
Clean p b = (s : ℕ) → s < p.states → slice_index b (cell p p.whole s) ≤ 2

-- the colours f are written into the clause's column, and nothing else is changed
pub record Written (p : Columns) (b b' : List ℕ) (f : ℕ → Colour) : Type 0 where
  pub bytes : (s : ℕ) → s < p.states → slice_index b' (cell p p.whole s) ≡ colour_number (flipped p.negated (f s))
  pub only : OnlyColumn p b b'

-- a rule for colours may be asked of the board b, whatever its bytes, at each state
abbrev pub Askable : Columns → List ℕ → (Bor (List ℕ) → ℕ → Type 0) → Type 0
Askable p b pre = (d : Bor (List ℕ)) (s : ℕ) → length d.now ≡ length b → s < p.states → pre d s

-- it says f, whatever stands in the clause's column by then
abbrev pub Says : Columns → List ℕ → (Bor (List ℕ) → ℕ → Colour → Type 0) → (ℕ → Colour) → Type 0
Says p b post f = (d : Bor (List ℕ)) (s : ℕ) (v : Colour) → OnlyColumn p b d.now → s < p.states → post d s v → v ≡ f s

-- what is written: one colour throughout, a mark, the meet of both parts
abbrev pub throughout : Colour → ℕ → Colour
throughout v s = v

abbrev pub marked : Model → ℕ → ℕ → Colour
marked M m s = M.mark s m

abbrev pub met : Columns → List ℕ → ℕ → Colour
met p b s = meet (column p b p.left s) (column p b p.right s)
