-- A column on its way up to an until.
use Rattle.std.specs.Prelude.{◌≡◌, ℕ, zero, suc, ◌+◌, ◌<◌, ◌≤◌, T as So, ◌≢◌, ◌⊎◌, List, [], ◌∷◌, ◌++◌, length, slice_index, slice_index_or}
use Rattle.systems.specs.declared.kinds.Colour.{Colour}
use Rattle.systems.specs.declared.kinds.Colour.TheVariants.{Undecided, F, T}
use Rattle.systems.specs.Model.{Model}
use Rattle.colours.specs.Walks.{Among}
use Rattle.colours.specs.Values.{join, meet, rated}
use Rattle.colours.specs.Levels.{Level, counts, On, Untils, IsUntil}
use Rattle.colouring.specs.declared.columns.Columns.{Columns}
use Rattle.colouring.specs.passes.Columns.{model, cell, column, OnlyColumn, Clean}

-- how far a colour can still rise
abbrev pub room_above : Colour → ℕ
room_above F = 2
room_above Undecided = 1
room_above T = 0

-- and the first n of a column
abbrev pub height : ℕ → (ℕ → Colour) → ℕ
height zero x = 0
height (suc n) x = room_above (x n) + height n x

-- how far the clause's column can still rise
abbrev pub left_above : Columns → List ℕ → ℕ
left_above p b = height p.states (column p b p.whole)

-- the clause's colour at s is raised by v; where that changes it, s waits in the queue
pub record Raised (p : Columns) (b b' h h' : List ℕ) (s : ℕ) (v : Colour) : Type 0 where
  pub new : column p b' p.whole s ≡ join (column p b p.whole s) v
  pub byte : slice_index_or b (cell p p.whole s) 0 ≤ 2 → slice_index b' (cell p p.whole s) ≤ 2
  pub others : (k : ℕ) → k ≢ cell p p.whole s → slice_index b' k ≡ slice_index b k
  pub queue : ((b' ≡ b) × (h' ≡ h)) ⊎ (h' ≡ h ++ cell p p.whole s ∷ [])
  pub sum : length h' + left_above p b' ≤ length h + left_above p b

-- what t passes on to s by a step
abbrev pub passed : Model → (r x : ℕ → Colour) → (s t : ℕ) → Colour
passed M r x s t = meet (r s) (meet (rated (M.step s t)) (x t))

-- a column on its way up from the board b₀, raised by the right part at the states before `started`, while t is looked back from at the states
-- before `from`: it has only what has walks, and what a state passes on stands already or will, as that state waits
pub record Rising (p : Columns) (M : Model) (b₀ b h : List ℕ) (started t from : ℕ) : Type 0 where
  pub only : OnlyColumn p b₀ b
  pub clean : Clean p b
  pub sound : (l : Level) (s : ℕ) → s < M.states → On l (column p b p.whole) s → Untils M l (column p b₀ p.left) (column p b₀ p.right) s
  pub inside : (x : ℕ) → Among x h → (u : ℕ) × (u < M.states) × (x ≡ cell p p.whole u)
  pub has_q : (s : ℕ) → s < started → (l : Level) → On l (column p b₀ p.right) s → On l (column p b p.whole) s
  pub pending : (s u : ℕ) → s < M.states → u < M.states
      → ((u ≡ t) × (from ≤ s))
      ⊎ (Among (cell p p.whole u) h
      ⊎ ((l : Level) → So (counts l (passed M (column p b₀ p.left) (column p b p.whole) s u)) → On l (column p b p.whole) s))

-- the column has come up from the board b₀ to the until of its parts
pub record Risen (p : Columns) (b₀ b : List ℕ) : Type 0 where
  pub until : IsUntil (model p) (column p b₀ p.left) (column p b₀ p.right) (column p b p.whole)
  pub clean : Clean p b
  pub only : OnlyColumn p b₀ b
