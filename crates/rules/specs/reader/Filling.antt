-- How the list of clauses is filled, under a negation or not.
use Rattle.std.specs.Prelude.{◌≡◌, ℕ, ◌+◌, Bool, cond, not, List, ◌++◌, length, take, Some, None, Option}
use Rattle.rules.specs.declared.syntax.Clause.{Clause}
use Rattle.rules.specs.declared.pieces.Prefix.{Prefix}
use Rattle.rules.specs.declared.clause_list.ClauseList.{ClauseList}
use Rattle.rules.specs.Formulas.{Formula, other_quantifier, other_operator, contrary}
use Rattle.rules.specs.Trees.{Tree, until, release, normal_form}

-- the clauses that the list keeps: the first 64
abbrev pub kept : ClauseList → List Clause
kept t = take t.count t.clauses

-- some clauses are added
abbrev pub Adds : ClauseList → ClauseList → List Clause → Type 0
Adds t u more = (u.count ≡ t.count + length more) × (kept u ≡ take 64 (kept t ++ more))

-- the formula of a tree, negated or not
abbrev pub polar : Bool → Tree → Formula
polar negated s = cond negated (contrary (normal_form s)) (normal_form s)

-- whether the rule after the prefix stands under a negation
abbrev pub flip : Prefix → Bool → Bool
flip Prefix.Not negated = not negated
flip (Prefix.Next q) negated = negated
flip (Prefix.Globally q) negated = negated
flip (Prefix.Finally q) negated = negated

-- the clause of a prefix before those of the rule after it
abbrev pub leading : Prefix → Bool → Option Clause
leading Prefix.Not negated = None
leading (Prefix.Next q) negated = None
leading (Prefix.Globally q) negated = Some (Clause.Constant negated)
leading (Prefix.Finally q) negated = Some (Clause.Constant (not negated))

-- and behind them, where the first has the number n and the rule the number m
abbrev pub trailing : Prefix → Bool → ℕ → ℕ → Option Clause
trailing Prefix.Not negated n m = None
trailing (Prefix.Next q) negated n m = Some (Clause.Next (cond negated (other_quantifier q) q) m)
trailing (Prefix.Globally q) negated n m = Some (Clause.Pair (cond negated (other_operator (release q)) (release q)) n m)
trailing (Prefix.Finally q) negated n m = Some (Clause.Pair (cond negated (other_operator (until q)) (until q)) n m)
