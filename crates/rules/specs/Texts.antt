-- How a clause is shown: its parts by their numbers, after #.
use Rattle.std.specs.Prelude.{ℕ, cond, List, [], ◌++◌, codes, decimal}
use Rattle.rules.specs.declared.syntax.Clause.{Clause}
use Rattle.rules.specs.declared.syntax.Clause.TheVariants.{Constant, Mark, Next, Pair}
use Rattle.rules.specs.Grammar.{digit, letter, opening, between}

-- a part
abbrev pub reference : ℕ → List ℕ
reference i = codes "#" ++ decimal i

abbrev pub clause_text : Clause → List ℕ
clause_text (Constant b) = digit b
clause_text (Mark p negated) = cond negated (codes "!") [] ++ (codes "p" ++ decimal p)
clause_text (Next k r) = letter k ++ (codes "X " ++ reference r)
clause_text (Pair o r q) = opening o ++ (reference r ++ (codes " " ++ (between o ++ (codes " " ++ (reference q ++ codes ")")))))
