-- The way back from an end to the start, and the chain written in order.
use Rattle.std.specs.Prelude.{◌≡◌, ℕ, suc, ◌+◌, ◌*◌, ◌<◌, ◌≤◌, List, ◌∷◌, ◌++◌, map, reverse, length, take, drop, Some, Option}
use Rattle.std.specs.List.{AllByRecursion}
use Rattle.colours.specs.declared.chains.Position.{Position}
use Rattle.colours.specs.Walks.{Walk, last, Distinct}
use Rattle.engine.specs.declared.links.Link.{Link}
use Rattle.engine.specs.search.Searches.{place_of, Inside, before, Seen, Ranked}

-- one position stands before another in the table
abbrev pub StandsBefore : ℕ → List (Option Position) → Position → Position → Type 0
StandsBefore C table q p = before C table p ≡ Some q

-- the table leads back from a position to the start, and there is room for the positions on the way
pub record Traceable (G C : ℕ) (start : Position) (table : List (Option Position)) (end : Position) (places : ℕ) : Type 0 where
  pub rank : ℕ → ℕ
  pub ranked : Ranked G C start table rank
  pub here : Inside G C end × Seen C table end
  pub room : G * C ≤ places

-- what a link stands for in the way back
abbrev pub position_in : Link → Position
position_in l = l.at

-- the table led back from the end to `at`, and the positions after `at` stand in the queue, the end first
pub record Tracing (G C : ℕ) (start end : Position) (table : List (Option Position)) (places : ℕ) (at : Position) (kept : List Link) : Type 0 where
  pub rank : ℕ → ℕ
  pub ranked : Ranked G C start table rank
  pub room : G * C ≤ places
  pub rest : List Position
  pub walk : Walk (StandsBefore C table) at rest
  pub ends : last at rest ≡ end
  pub seen : Seen C table at
  pub inside : AllByRecursion (Inside G C) (at ∷ rest)
  pub rising : AllByRecursion (λ p. rank (place_of C at) < rank (place_of C p)) rest
  pub away : AllByRecursion (λ p. ¬ (place_of C p ≡ place_of C start)) rest
  pub distinct : Distinct (at ∷ rest)
  pub are : map position_in kept ≡ reverse rest
  pub fits : rank (place_of C at) + length rest < G * C

-- the table led back from the end to the start, and all positions on the way stand in the queue, the end first
pub record Traced (G C : ℕ) (start end : Position) (table : List (Option Position)) (kept : List Link) : Type 0 where
  pub rest : List Position
  pub walk : Walk (StandsBefore C table) start rest
  pub ends : last start rest ≡ end
  pub inside : AllByRecursion (Inside G C) (start ∷ rest)
  pub away : AllByRecursion (λ p. ¬ (place_of C p ≡ place_of C start)) rest
  pub distinct : Distinct (start ∷ rest)
  pub are : map position_in kept ≡ reverse (start ∷ rest)
  pub fits : suc (length rest) ≤ G * C

-- and in the chain list
abbrev pub some_position : Link → Option Position
some_position l = Some l.at

-- of all links those that were taken out of the queue stand as positions after the places for those kept, the last taken out first
pub record Writing (all kept : List Link) (list : List (Option Position)) : Type 0 where
  pub done : List Link
  pub split : all ≡ done ++ kept
  pub fits : length kept + length done ≤ length list
  pub written : take (length done) (drop (length kept) list) ≡ map some_position (reverse done)
