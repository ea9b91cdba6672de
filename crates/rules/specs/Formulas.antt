-- Rules as trees, each negation moved inward to the marks.
use Rattle.std.specs.Prelude.{ℕ, ◌<◌, Bool, not}
use Rattle.rules.specs.declared.syntax.Quantifier.{Quantifier}
use Rattle.rules.specs.declared.syntax.Quantifier.TheVariants.{A, E}
use Rattle.rules.specs.declared.syntax.Operator.{Operator}
use Rattle.rules.specs.declared.syntax.Operator.TheVariants.{And, Or, AU, AV, EU, EV}

-- a constant, a mark (negated or not), AX or EX before a rule, two rules joined
pub data Formula : Type 0 where
  constant : Bool → Formula
  mark : ℕ → (negated : Bool) → Formula
  next : Quantifier → Formula → Formula
  pair : Operator → Formula → Formula → Formula

abbrev pub other_quantifier : Quantifier → Quantifier
other_quantifier A = E
other_quantifier E = A

abbrev pub other_operator : Operator → Operator
other_operator And = Or
other_operator Or = And
other_operator AU = EV
other_operator EV = AU
other_operator AV = EU
other_operator EU = AV

-- the rule negated, the negation moved inward
unfoldable pub contrary : Formula → Formula
contrary (constant b) = constant (not b)
contrary (mark p negated) = mark p (not negated)
contrary (next k r) = next (other_quantifier k) (contrary r)
contrary (pair o r q) = pair (other_operator o) (contrary r) (contrary q)

-- the marks of the rule have numbers below n
abbrev pub MarksBelow : ℕ → Formula → Type 0
MarksBelow n (constant b) = Unit {0}
MarksBelow n (mark p negated) = p < n
MarksBelow n (next k r) = MarksBelow n r
MarksBelow n (pair o r q) = MarksBelow n r × MarksBelow n q
