-- What a rule carries has one proof at most.
use Rattle.std.specs.Prelude.{ℕ, List}
use Rattle.std.specs.Coded.{×_prop, Unit-prop, le_prop, Π_prop}
use Rattle.rules.specs.declared.syntax.Clause.{Clause}
use Rattle.rules.specs.declared.syntax.Clause.TheVariants.{Constant, Mark, Next, Pair}
use Rattle.rules.specs.Clauses.{PartsBelow, WellFounded, MarkBelow}

pub PartsBelow-prop : (n : ℕ) (c : Clause) → IsProp (PartsBelow n c)
PartsBelow-prop n (Constant b) = Unit-prop
PartsBelow-prop n (Mark p negated) = Unit-prop
PartsBelow-prop n (Next k r) = le_prop
PartsBelow-prop n (Pair o r q) = ×_prop le_prop le_prop

pub WellFounded-prop : (cs : List Clause) → IsProp (WellFounded cs)
WellFounded-prop cs = Π_prop (λ i. Π_prop (λ _. PartsBelow-prop i _))

pub MarkBelow-prop : (n : ℕ) (c : Clause) → IsProp (MarkBelow n c)
MarkBelow-prop n (Constant b) = Unit-prop
MarkBelow-prop n (Mark p negated) = le_prop
MarkBelow-prop n (Next k r) = Unit-prop
MarkBelow-prop n (Pair o r q) = Unit-prop
