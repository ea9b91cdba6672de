-- A negation moved inward twice is gone.
use Rattle.std.proofs.Common.{◌≡◌, refl, ap, ap₂}
use Rattle.std.proofs.Math.Bool.{not-not}
use Rattle.rules.specs.declared.syntax.Quantifier.{Quantifier}
use Rattle.rules.specs.declared.syntax.Operator.{Operator}
use Rattle.rules.specs.Formulas.{Formula, other_quantifier, other_operator, contrary}

other_other_quantifier : (k : Quantifier) → other_quantifier (other_quantifier k) ≡ k
other_other_quantifier = elim [ Quantifier.A ↦ refl | Quantifier.E ↦ refl ]

other_other_operator : (o : Operator) → other_operator (other_operator o) ≡ o
other_other_operator = elim [ Operator.And ↦ refl | Operator.Or ↦ refl | Operator.AU ↦ refl | Operator.AV ↦ refl | Operator.EU ↦ refl | Operator.EV ↦ refl ]

pub contrary_contrary : (f : Formula) → contrary (contrary f) ≡ f
unfolding contrary
contrary_contrary (Formula.constant b) = ap Formula.constant (not-not b)
contrary_contrary (Formula.mark p negated) = ap (Formula.mark p) (not-not negated)
contrary_contrary (Formula.next k r) = ap₂ Formula.next (other_other_quantifier k) (contrary_contrary r)
contrary_contrary (Formula.pair o r q) = cc (other_other_operator o, contrary_contrary r, contrary_contrary q)
