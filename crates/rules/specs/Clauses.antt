-- A rule as the list of its clauses, each of which refers to earlier ones by number.
use Rattle.std.specs.Prelude.{ℕ, zero, suc, ◌+◌, ◌-◌, ◌<◌, false, List, [], ◌∷◌, ◌++◌, length, slice_index_or}
use Rattle.rules.specs.Formulas.{Formula, constant, mark, next, pair}
use Rattle.rules.specs.declared.syntax.Clause.{Clause}
use Rattle.rules.specs.declared.syntax.Clause.TheVariants.{Constant, Mark, Next, Pair}

-- the tree of a clause, from those of its parts
abbrev pub tree : (ℕ → Formula) → Clause → Formula
tree part (Constant b) = constant b
tree part (Mark p negated) = mark p negated
tree part (Next k r) = next k (part r)
tree part (Pair o r q) = pair o (part r) (part q)

-- the parts of a clause have numbers below n
abbrev pub PartsBelow : ℕ → Clause → Type 0
PartsBelow n (Constant b) = Unit {0}
PartsBelow n (Mark p negated) = Unit {0}
PartsBelow n (Next k r) = r < n
PartsBelow n (Pair o r q) = (r < n) × (q < n)

-- no clause uses itself or a later one
abbrev pub WellFounded : List Clause → Type 0
WellFounded cs = (i : ℕ) → i < length cs → PartsBelow i (slice_index_or cs i (Constant false))

-- the tree of clause i, by parts at most `depth` deep
unfoldable pub unrolled : List Clause → ℕ → ℕ → Formula
unrolled cs zero i = constant false
unrolled cs (suc depth) i = tree (unrolled cs depth) (slice_index_or cs i (Constant false))

-- the rule that clause i is
unfoldable pub formula : List Clause → ℕ → Formula
unfolding unrolled
formula cs i = unrolled cs (suc i) i

-- the rule that a list of clauses is: its last clause
abbrev pub whole : List Clause → Formula
whole cs = formula cs (length cs - 1)

-- how many clauses a formula has: one for each constant, mark and operator
abbrev pub size : Formula → ℕ
size (constant b) = 1
size (mark p negated) = 1
size (next k r) = size r + 1
size (pair o r q) = size r + (size q + 1)

-- the clauses of a formula, numbered from n: left part before right, parts before the whole
abbrev pub numbered : ℕ → Formula → List Clause
numbered n (constant b) = Constant b ∷ []
numbered n (mark p negated) = Mark p negated ∷ []
numbered n (next k r) = numbered n r ++ Next k (n + size r - 1) ∷ []
numbered n (pair o r q) = numbered n r ++ (numbered (n + size r) q ++ Pair o (n + size r - 1) (n + size r + size q - 1) ∷ [])

abbrev pub clauses : Formula → List Clause
clauses f = numbered 0 f

-- the clause is no mark, or one with a number below n
abbrev pub MarkBelow : ℕ → Clause → Type 0
MarkBelow n (Constant b) = Unit {0}
MarkBelow n (Mark p negated) = p < n
MarkBelow n (Next k r) = Unit {0}
MarkBelow n (Pair o r q) = Unit {0}
