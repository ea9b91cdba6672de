-- Colours by maximal paths: the three-valued semantics of CTL over Kripke modal transition systems.
-- It is what the colours by walks are measured against.
use Rattle.std.specs.Prelude.{◌≡◌, ℕ, suc, ◌<◌, ◌≤◌, true, false}
use Rattle.systems.specs.declared.kinds.Colour.{Colour}
use Rattle.systems.specs.Model.{Model, Surely, Possibly, Starts}
use Rattle.rules.specs.Formulas.{Formula, constant, mark, next, pair}
use Rattle.rules.specs.declared.syntax.Quantifier.{Quantifier}
use Rattle.rules.specs.declared.syntax.Quantifier.TheVariants.{A, E}
use Rattle.rules.specs.declared.syntax.Operator.{Operator}
use Rattle.rules.specs.declared.syntax.Operator.TheVariants.{And, Or, AU, AV, EU, EV}
use Rattle.colours.specs.Colours.{Colouring, exchange, true_everywhere, mark_colouring, conjunction, exchanged, Told}

-- The places of a path are numbered from 0. It ends at place n, or it goes on for ever; which of the two is part of the path,
-- so that what holds along a path is said once for both.
pub data Length : Type 0 where
  ends_at : ℕ → Length
  endless : Length

-- a path of this length has a place number k
abbrev pub Place : Length → ℕ → Type 0
Place (ends_at n) k = k ≤ n
Place endless k = Unit {0}

-- the state at each place; what stands at other numbers means nothing
pub record Path : Type 0 where
  pub length : Length
  pub at : ℕ → ℕ

-- a path from s that cannot be made longer: a step leads from each state to the next, and where it ends no step leads on
pub record Maximal (step : ℕ → ℕ → Type 0) (s : ℕ) (path : Path) : Type 0 where
  pub first : path.at 0 ≡ s
  pub steps : (k : ℕ) → Place path.length (suc k) → step (path.at k) (path.at (suc k))
  pub ends : (n : ℕ) → path.length ≡ ends_at n → (t : ℕ) → ¬ step (path.at n) t

-- A sure path (must path) may end. A possible path (may path) never does, since every state of a lawful model has a possible step.
abbrev pub SurePath : Model → ℕ → Path → Type 0
SurePath M = Maximal (Surely M)

abbrev pub PossiblePath : Model → ℕ → Path → Type 0
PossiblePath M = Maximal (Possibly M)

-- q holds at some place, and r at all places before
abbrev pub UntilAlong : (ℕ → Type 0) → (ℕ → Type 0) → Path → Type 0
UntilAlong r q path =
    (k : ℕ) × Place path.length k × q (path.at k) × ((j : ℕ) → j < k → r (path.at j))

-- q holds at each place that has no r before it; and if r holds at no place, the path is endless.
-- So q throughout a path that ends is not enough: what comes after its end is not known.
abbrev pub ReleaseAlong : (ℕ → Type 0) → (ℕ → Type 0) → Path → Type 0
ReleaseAlong r q path =
    ((k : ℕ) → Place path.length k → ((j : ℕ) → j < k → ¬ r (path.at j)) → q (path.at k))
    × (((k : ℕ) → Place path.length k → ¬ r (path.at k)) → path.length ≡ endless)

-- the paths along which something is T, and those along which it is F; along others it is undecided
pub record Along : Type 1 where
  pub is_T : Path → Type 0
  pub is_F : Path → Type 0

-- the colour of r at place 1; undecided along a path that ends at place 0
abbrev pub next_along : Colouring → Along
next_along r = record {
  is_T = λ path. Place path.length 1 × r.is_T (path.at 1);
  is_F = λ path. Place path.length 1 × r.is_F (path.at 1);
}

-- T if q is T somewhere and r is T before; F if q is F at each place that has no r F before it, and r is F somewhere or the path is endless
abbrev pub until_along : Colouring → Colouring → Along
until_along r q = record {
  is_T = UntilAlong r.is_T q.is_T;
  is_F = ReleaseAlong r.is_F q.is_F;
}

-- T if q is T at each place that has no r T before it, and r is T somewhere or the path is endless; F if q is F somewhere and r is F before
abbrev pub release_along : Colouring → Colouring → Along
release_along r q = record {
  is_T = ReleaseAlong r.is_T q.is_T;
  is_F = UntilAlong r.is_F q.is_F;
}

-- E is T if it is T along some sure path, and F if it is F along all possible paths;
-- A is T if it is T along all possible paths, and F if it is F along some sure path
abbrev pub over_paths : Model → Quantifier → Along → Colouring
over_paths M E a = record {
  is_T = λ s. (path : Path) × SurePath M s path × a.is_T path;
  is_F = λ s. (path : Path) → PossiblePath M s path → a.is_F path;
}
over_paths M A a = record {
  is_T = λ s. (path : Path) → PossiblePath M s path → a.is_T path;
  is_F = λ s. (path : Path) × SurePath M s path × a.is_F path;
}

-- & and | as by walks; U and V along the paths that A or E speaks of
abbrev pub joined_by_paths : Model → Operator → Colouring → Colouring → Colouring
joined_by_paths M And r q = conjunction r q
joined_by_paths M Or r q = exchanged conjunction r q
joined_by_paths M AU r q = over_paths M A (until_along r q)
joined_by_paths M AV r q = over_paths M A (release_along r q)
joined_by_paths M EU r q = over_paths M E (until_along r q)
joined_by_paths M EV r q = over_paths M E (release_along r q)

-- the colours of a rule by maximal paths
unfoldable pub path_colouring : Model → Formula → Colouring
path_colouring M (constant true) = true_everywhere
path_colouring M (constant false) = exchange true_everywhere
path_colouring M (mark p false) = mark_colouring M p
path_colouring M (mark p true) = exchange (mark_colouring M p)
path_colouring M (next k r) = over_paths M k (next_along (path_colouring M r))
path_colouring M (pair o r q) = joined_by_paths M o (path_colouring M r) (path_colouring M q)

-- the verdict by maximal paths: T where every start has the rule T, F where some start has it F, undecided otherwise
abbrev pub HasPathVerdict : Model → Formula → Colour → Type 0
HasPathVerdict M f = Told
    ((s : ℕ) → Starts M s → (path_colouring M f).is_T s)
    ((s : ℕ) × Starts M s × (path_colouring M f).is_F s)
