-- Colours and steps are told apart by their numbers, which give them back.
use Rattle.std.proofs.Common.{◌≡◌, ℕ, Some, Option, sym, refl, ap, ◌∙◌}
use native.Mathlib.Decide.{ℕ_discrete, map_dec}
use Rattle.systems.specs.declared.kinds.Colour.{Colour}
use Rattle.systems.specs.declared.kinds.Colour.TheVariants.{Undecided, F, T}
use Rattle.systems.specs.declared.kinds.Step.{Step}
use Rattle.systems.specs.declared.kinds.Step.TheVariants.{Absent, Unsure, Sure}
use Rattle.systems.specs.Numbers.{colour_number, colour_from, step_number, step_from}

pub colour_back : (v : Colour) → colour_from (colour_number v) ≡ Some v
colour_back Undecided = refl
colour_back F = refl
colour_back T = refl

step_back : (k : Step) → step_from (step_number k) ≡ Some k
step_back Absent = refl
step_back Unsure = refl
step_back Sure = refl

-- what its number gives back is known by it
module _ {X : Type 0} (number : X → ℕ) (from : ℕ → Option X) (back : (x : X) → from (number x) ≡ Some x) where
  known_by_number : (x y : X) → number x ≡ number y → x ≡ y
  known_by_number x y e = let both : Some x ≡ Some y = sym (back x) ∙ ap from e ∙ back y in cc

  same? : (x y : X) → Dec (x ≡ y)
  same? x y = map_dec (known_by_number x y) (ap number) (ℕ_discrete (number x) (number y))

pub same_colour : (v w : Colour) → colour_number v ≡ colour_number w → v ≡ w
same_colour = known_by_number colour_number colour_from colour_back

pub same_colour? : (v w : Colour) → Dec (v ≡ w)
same_colour? = same? colour_number colour_from colour_back

pub same_step? : (k j : Step) → Dec (k ≡ j)
same_step? = same? step_number step_from step_back
