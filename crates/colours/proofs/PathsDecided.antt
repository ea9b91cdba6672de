-- What is decided at the states of a model: its steps, and the colours of rules.
use Rattle.std.proofs.Common.{◌≡◌, ℕ, ◌<◌, refl, arith}
use native.Mathlib.Decide.{dec_lt}
use Rattle.systems.specs.declared.kinds.Step.{Step}
use Rattle.systems.specs.declared.kinds.Step.TheVariants.{Absent, Unsure, Sure}
use Rattle.systems.specs.declared.kinds.Colour.{Colour}
use Rattle.systems.specs.declared.kinds.Colour.TheVariants.{Undecided, F, T}
use Rattle.systems.specs.Model.{Model, Surely, Possibly}
use Rattle.rules.specs.Formulas.{Formula}
use Rattle.colours.specs.Colours.{Colouring, colouring, HasColour}
use Rattle.colours.proofs.Consistency.{consistent}
use Rattle.colours.specs.Values.{colour_of}
use Rattle.colours.proofs.Computed.{colours_shown}
use Rattle.colours.proofs.PathsMade.{Testable}

sure? : (k : Step) → Dec (k ≡ Sure)
sure? Absent = no (λ e. grind arith)
sure? Unsure = no (λ e. grind arith)
sure? Sure = yes refl

possible? : (k : Step) → Dec (¬ (k ≡ Absent))
possible? Absent = no (λ h. h refl)
possible? Unsure = yes (λ e. grind arith)
possible? Sure = yes (λ e. grind arith)

module _ (M : Model) where
  step? : (P : Step → Type 0) → ((k : Step) → Dec (P k)) → (s t : ℕ) → Dec ((s < M.states) × (t < M.states) × P (M.step s t))
  step? P P? s t = elim (dec_lt s M.states) [
    | no k ↦ no (λ h. k h.0)
    | yes a ↦ elim (dec_lt t M.states) [
      | no k ↦ no (λ h. k h.1)
      | yes b ↦ elim (P? (M.step s t)) [ no k ↦ no (λ h. k h.2) | yes c ↦ yes (a, b, c) ]
    ]
  ]

  pub sure_steps : Testable M.states (Surely M)
  sure_steps = record { within = λ s t h. (h.0, h.1); step? = step? (λ k. k ≡ Sure) sure? }

  pub possible_steps : Testable M.states (Possibly M)
  possible_steps = record { within = λ s t h. (h.0, h.1); step? = step? (λ k. ¬ (k ≡ Absent)) possible? }

  -- at each state it is decided whether it is T, and whether it is F
  abbrev pub Decided : Colouring → Type 0
  Decided c = (s : ℕ) → s < M.states → Dec (c.is_T s) × Dec (c.is_F s)

  pub colours_decided : (f : Formula) → Decided (colouring M f)
  colours_decided f s low = by_colour (colour_of M f s) (colours_shown M f s low)
    where
      by_colour : (v : Colour) → HasColour (colouring M f) s v → Dec ((colouring M f).is_T s) × Dec ((colouring M f).is_F s)
      by_colour T h = (yes h, no (consistent M f s h))
      by_colour F h = (no (λ t. consistent M f s t h), yes h)
      by_colour Undecided h = (no h.0, no h.1)
