-- A column on its way down to a release.
use Rattle.std.specs.Prelude.{◌≡◌, ℕ, ◌+◌, ◌<◌, ◌≤◌, ◌≢◌, ◌⊎◌, List, [], ◌∷◌, ◌++◌, Some, None, Option, length, map, slice_index, slice_set}
use Rattle.systems.specs.declared.kinds.Colour.{Colour}
use Rattle.systems.specs.declared.kinds.Colour.TheVariants.{Undecided, F, T}
use Rattle.systems.specs.Model.{Model}
use Rattle.colours.specs.Walks.{Among}
use Rattle.colours.specs.Values.{meet, rated, negate}
use Rattle.colours.specs.Levels.{Level, On, Releases, IsRelease}
use Rattle.colouring.specs.declared.columns.Columns.{Columns}
use Rattle.colouring.specs.declared.notes.Note.{Note}
use Rattle.colouring.specs.passes.Columns.{model, cell, column, OnlyColumn, Clean}
use Rattle.colouring.specs.passes.Rising.{height}

-- one colour lower
abbrev pub lower : Colour → Colour
lower T = Undecided
lower Undecided = F
lower F = F

-- v is no higher than w
abbrev pub Within : Colour → Colour → Type 0
Within v w = meet v w ≡ v

-- the colour at s is upheld by the step to u
abbrev pub Upheld : Model → (ℕ → Colour) → (s u : ℕ) → Type 0
Upheld M x s u = Within (x s) (meet (rated (M.step s u)) (x u))

-- the first state from `from` on to which a step upholds the colour at s, if there is one
abbrev pub First : Model → (ℕ → Colour) → (s from : ℕ) → Option ℕ → Type 0
First M x s from (Some u) = (u < M.states) × Upheld M x s u × ((v : ℕ) → from ≤ v → v < u → ¬ Upheld M x s v)
First M x s from None = (v : ℕ) → from ≤ v → v < M.states → ¬ Upheld M x s v

-- what the notes say upholds each state, and from where on to try next
abbrev pub witnesses : List Note → List ℕ
witnesses = map (λ n. n.witness)

abbrev pub trials : List Note → List ℕ
trials = map (λ n. n.tried)

-- how far the clause's column can still fall
abbrev pub left_below : Columns → List ℕ → ℕ
left_below p b = height p.states (λ s. negate (column p b p.whole s))

-- no step to a state before the one noted in k upholds the colour at s
abbrev pub Tried : Columns → Model → (b k : List ℕ) → Type 0
Tried p M b k = (s : ℕ) → s < M.states → (u : ℕ) → u < slice_index k s → ¬ Upheld M (column p b p.whole) s u

-- what a look at s finds: the left part upholds its colour; or a step does, which is noted; or nothing does, so it falls and waits
pub data Seen (p : Columns) (M : Model) (b b' h h' w w' k k' : List ℕ) (s : ℕ) : Type 0 where
  covered : b' ≡ b → h' ≡ h → w' ≡ w → k' ≡ k → Within (column p b p.whole s) (column p b p.left s) → Seen p M b b' h h' w w' k k' s
  upheld : b' ≡ b → h' ≡ h → (u : ℕ) → u < M.states → w' ≡ slice_set w s u → k' ≡ slice_set k s u
      → Upheld M (column p b p.whole) s u → ((v : ℕ) → v < u → ¬ Upheld M (column p b p.whole) s v) → Seen p M b b' h h' w w' k k' s
  fell : column p b' p.whole s ≡ lower (column p b p.whole s) → slice_index b' (cell p p.whole s) ≤ 2
      → ((j : ℕ) → j ≢ cell p p.whole s → slice_index b' j ≡ slice_index b j)
      → h' ≡ h ++ cell p p.whole s ∷ [] → w' ≡ slice_set w s s → k' ≡ slice_set k s 0
      → ¬ Within (column p b p.whole s) (column p b p.left s) → ((u : ℕ) → u < M.states → ¬ Upheld M (column p b p.whole) s u)
      → Seen p M b b' h h' w w' k k' s

pub record Looked (p : Columns) (M : Model) (b b' h h' w w' k k' : List ℕ) (s : ℕ) : Type 0 where
  pub seen : Seen p M b b' h h' w w' k k' s
  pub sum : length h' + left_below p b' ≤ length h + left_below p b

-- the colour at s is upheld by the left part, or by a step to u unless u waits
abbrev pub Stands : Columns → Model → (b₀ b h : List ℕ) → (u s : ℕ) → Type 0
Stands p M b₀ b h u s =
    Within (column p b p.whole s) (column p b₀ p.left s)
    ⊎ (Among (cell p p.whole u) h ⊎ ((u < M.states) × Upheld M (column p b p.whole) s u))

-- a column on its way down from the right part, while those that t upheld are looked at from the state `from` on: it has all that has walks, and
-- what w notes upholds each state, or waits; k notes what was tried before
pub record Falling (p : Columns) (M : Model) (b₀ b h w k : List ℕ) (t from : ℕ) : Type 0 where
  pub only : OnlyColumn p b₀ b
  pub clean : Clean p b
  pub sound : (l : Level) (s : ℕ) → s < M.states → Releases M l (column p b₀ p.left) (column p b₀ p.right) s → On l (column p b p.whole) s
  pub has_q : (l : Level) (s : ℕ) → s < M.states → On l (column p b p.whole) s → On l (column p b₀ p.right) s
  pub inside : (x : ℕ) → Among x h → (u : ℕ) × (u < M.states) × (x ≡ cell p p.whole u)
  pub long : (M.states ≤ length w) × (M.states ≤ length k)
  pub tried : Tried p M b k
  pub pending : (s : ℕ) → s < M.states → ((slice_index w s ≡ t) × (from ≤ s)) ⊎ Stands p M b₀ b h (slice_index w s) s

-- the column has come down from the board b₀ to the release of its parts
pub record Fallen (p : Columns) (b₀ b : List ℕ) : Type 0 where
  pub release : IsRelease (model p) (column p b₀ p.left) (column p b₀ p.right) (column p b p.whole)
  pub clean : Clean p b
  pub only : OnlyColumn p b₀ b
