-- The contrary of a rule has T and F exchanged.
use Rattle.std.proofs.Common.{◌≡◌, true, false, sym, refl, ap, ◌∙◌, subst, ap₂}
use Rattle.systems.specs.Model.{Model}
use Rattle.rules.specs.declared.syntax.Quantifier.{Quantifier}
use Rattle.rules.specs.declared.syntax.Quantifier.TheVariants.{A, E}
use Rattle.rules.specs.declared.syntax.Operator.{Operator}
use Rattle.rules.specs.declared.syntax.Operator.TheVariants.{And, Or, AU, AV, EU, EV}
use Rattle.rules.specs.Formulas.{Formula, constant, mark, next, pair, other_quantifier, other_operator, contrary}
use Rattle.colours.specs.Colours.{Colouring, exchange, joined, stepped, colouring, HasColour}
use Rattle.colours.specs.Values.{negate}
use Rattle.colours.specs.Theorems.{ContraryExchanges}
use Rattle.colours.proofs.Shown.{negate_has}

other_joined : (M : Model) (o : Operator) (a b : Colouring)
    → joined M (other_operator o) (exchange a) (exchange b) ≡ exchange (joined M o a b)
other_joined M And a b = refl
other_joined M Or a b = refl
other_joined M AU a b = refl
other_joined M AV a b = refl
other_joined M EU a b = refl
other_joined M EV a b = refl

other_stepped : (M : Model) (k : Quantifier) (a : Colouring) → stepped M (other_quantifier k) (exchange a) ≡ exchange (stepped M k a)
other_stepped M A a = refl
other_stepped M E a = refl

contrary_is : (M : Model) (f : Formula) → colouring M (contrary f) ≡ exchange (colouring M f)
unfolding colouring contrary
contrary_is M (constant true) = refl
contrary_is M (constant false) = refl
contrary_is M (mark p true) = refl
contrary_is M (mark p false) = refl
contrary_is M (next k r) = ap (stepped M (other_quantifier k)) (contrary_is M r) ∙ other_stepped M k (colouring M r)
contrary_is M (pair o r q) =
    ap₂ (joined M (other_operator o)) (contrary_is M r) (contrary_is M q) ∙ other_joined M o (colouring M r) (colouring M q)

pub contrary_exchanges : ContraryExchanges
contrary_exchanges M f s v h = subst (λ c. HasColour c s (negate v)) (sym (contrary_is M f)) (negate_has (colouring M f) s v h)
