-- The groups of a system's states as a list: the state s lies in the group at place s.
use Rattle.std.specs.Prelude.{◌≡◌, ℕ, ◌+◌, ◌<◌, ◌≤◌, max, Bool, true, false, cond, List, [], ◌∷◌, length, nat_eq, slice_index, slice_index_or}
use Rattle.systems.specs.Below.{any_below}
use Rattle.systems.specs.Model.{Model}
use Rattle.colours.specs.Groupings.{grouped}

-- the group of the state s
abbrev pub group_of : List ℕ → ℕ → ℕ
group_of xs s = slice_index xs s

abbrev pub largest : List ℕ → ℕ
largest [] = 0
largest (x ∷ xs) = max x (largest xs)

-- how many groups there are: they are numbered from 0 to the largest
abbrev pub group_count : List ℕ → ℕ
group_count xs = largest xs + 1

-- the model of the groups
abbrev pub by_list : Model → List ℕ → Model
by_list M xs = grouped M (group_of xs) (group_count xs)

-- there are n numbers, each below n
abbrev pub OneForEach : ℕ → List ℕ → Type 0
OneForEach n xs = (length xs ≡ n) × ((s : ℕ) → s < n → group_of xs s < n)

-- every number up to the largest is the group of a state
abbrev pub AllUsed : List ℕ → Type 0
AllUsed xs = (g : ℕ) → g < group_count xs → (s : ℕ) × (s < length xs) × (group_of xs s ≡ g)

-- one of the first n states lies in the group g, as a test: it has one proof, and still gives a state
abbrev pub is_used : List ℕ → ℕ → ℕ → Bool
is_used xs n g = any_below (λ s. nat_eq (group_of xs s) g) n

-- there are 128 places and 1 to 128 states, in no more groups than states
abbrev pub Sized : List ℕ → (states groups : ℕ) → Type 0
Sized numbers n groups = (length numbers ≡ 128) × (1 ≤ n) × (n ≤ 128) × (groups ≤ n)

-- the first n numbers are the groups of n states: each is below the number of groups, and each group is used
abbrev pub Numbered : List ℕ → (states groups : ℕ) → Type 0
Numbered numbers n groups =
    ((s : ℕ) → s < n → group_of numbers s < groups) × ((g : ℕ) → g < groups → is_used numbers n g ≡ true)

-- the state s is flagged
abbrev pub flagged : List Bool → ℕ → Bool
flagged flags s = slice_index_or flags s false

-- ys is xs with the flagged states in a new last group
abbrev pub Moved : List Bool → (xs ys : List ℕ) → Type 0
Moved flags xs ys = (length ys ≡ length xs) × ((s : ℕ) → s < length xs → group_of ys s ≡ cond (flagged flags s) (group_count xs) (group_of xs s))
