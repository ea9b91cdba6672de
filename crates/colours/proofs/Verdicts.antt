-- The computed verdict is the verdict, and the only one.
use Rattle.std.proofs.Common.{◌≡◌, ℕ, zero, suc, ◌<◌, Bool, true, false, cond, sym, refl, ◌∙◌, subst, not-suc-le-zero, arith}
use native.Mathlib.Decide.{ℕ_discrete}
use Rattle.systems.specs.declared.kinds.Colour.{Colour}
use Rattle.systems.specs.declared.kinds.Colour.TheVariants.{Undecided, F, T}
use Rattle.systems.specs.Model.{Model}
use Rattle.rules.specs.Formulas.{Formula}
use Rattle.colours.specs.Colours.{colouring, Told, HasColour, HasVerdict}
use Rattle.colours.specs.Values.{meet, meet_below, colour_of, verdict_of}
use Rattle.colours.specs.Theorems.{OneVerdict}
use Rattle.colours.proofs.Consistency.{consistent, one_colour, told_once}
use Rattle.colours.proofs.Computed.{colours_shown}

-- a meet is T where all are T, and F where one is F
abbrev AllT : ℕ → (ℕ → Colour) → Type 0
AllT n f = (s : ℕ) → s < n → f s ≡ T

abbrev SomeF : ℕ → (ℕ → Colour) → Type 0
SomeF n f = (s : ℕ) × (s < n) × (f s ≡ F)

all_more : (n : ℕ) (f : ℕ → Colour) → AllT n f → f n ≡ T → AllT (suc n) f
all_more n f h e s b = elim (ℕ_discrete s n) [ yes i ↦ subst (λ z. f z ≡ T) (sym i) e | no d ↦ h s (omega arith) ]

none_more : (n : ℕ) (f : ℕ → Colour) → ¬ SomeF n f → ¬ (f n ≡ F) → ¬ SomeF (suc n) f
none_more n f h k w = elim (ℕ_discrete w.0 n)
    [ yes i ↦ k (subst (λ z. f z ≡ F) i w.2) | no d ↦ h (w.0, omega (arith, w.1), w.2) ]

T_not_F : {c : Colour} → c ≡ T → c ≡ F → ⊥
T_not_F e f = grind arith

U_is_neither : {c : Colour} → c ≡ Undecided → (¬ (c ≡ T)) × (¬ (c ≡ F))
U_is_neither e = (λ t. grind arith, λ f. grind arith)

meet_told : (n : ℕ) (f : ℕ → Colour) → Told (AllT n f) (SomeF n f) (meet_below n f)
unfolding meet_below
meet_told zero f = λ s b. absurd (not-suc-le-zero b)
meet_told (suc n) f = go (meet_below n f) (f n) refl (meet_told n f)
  where
    fewer : AllT (suc n) f → AllT n f
    fewer h s b = h s (omega arith)

    go : (v w : Colour) → f n ≡ w → Told (AllT n f) (SomeF n f) v → Told (AllT (suc n) f) (SomeF (suc n) f) (meet v w)
    go F w e h = (h.0, omega (arith, h.1), h.2)
    go T F e h = (n, omega arith, e)
    go T T e h = all_more n f h e
    go T Undecided e h = (λ a. (U_is_neither e).0 (a n (omega arith)), none_more n f (λ w. T_not_F (h w.0 w.1) w.2) (U_is_neither e).1)
    go Undecided F e h = (n, omega arith, e)
    go Undecided T e h = (λ a. h.0 (fewer a), none_more n f h.1 (T_not_F e))
    go Undecided Undecided e h = (λ a. h.0 (fewer a), none_more n f h.1 (U_is_neither e).1)

-- the same told of statements that hold together
told_like : {P Q P' Q' : Type 0} → (P → P') → (P' → P) → (Q → Q') → (Q' → Q) → (v : Colour) → Told P Q v → Told P' Q' v
told_like a b c d T h = a h
told_like a b c d F h = c h
told_like a b c d Undecided h = (λ p. h.0 (b p), λ q. h.1 (d q))

module _ (M : Model) (f : Formula) where
  abbrev at_start : ℕ → Colour
  at_start s = cond (M.start s) (colour_of M f s) T

  start_is : (b : Bool) (v : Colour) → b ≡ true → cond b v T ≡ v
  start_is b v e = grind arith

  start_F : (b : Bool) (v : Colour) → cond b v T ≡ F → (b ≡ true) × (v ≡ F)
  start_F b v e = (grind arith, grind arith)

  start_T : (b : Bool) (v : Colour) → (b ≡ true → v ≡ T) → cond b v T ≡ T
  start_T true v h = h refl
  start_T false v h = refl

  computed : (s : ℕ) → s < M.states → (v : Colour) → HasColour (colouring M f) s v → colour_of M f s ≡ v
  computed s b v h = one_colour M f s (colour_of M f s) v (colours_shown M f s b) h

  has : (s : ℕ) → s < M.states → (v : Colour) → colour_of M f s ≡ v → HasColour (colouring M f) s v
  has s b v e = subst (HasColour (colouring M f) s) e (colours_shown M f s b)

  pub verdict_right : HasVerdict M f (verdict_of M f)
  unfolding verdict_of
  verdict_right = told_like
      (λ a s k. has s k.0 T (sym (start_is (M.start s) (colour_of M f s) k.1) ∙ a s k.0))
      (λ a s b. start_T (M.start s) (colour_of M f s) (λ e. computed s b T (a s (b, e))))
      (λ w. let k = start_F (M.start w.0) (colour_of M f w.0) w.2 in (w.0, (w.1, k.0), has w.0 w.1 F k.1))
      (λ w. (w.0, w.1.0, start_is (M.start w.0) (colour_of M f w.0) w.1.1 ∙ computed w.0 w.1.0 F w.2))
      (verdict_of M f) (meet_told M.states at_start)

pub one_verdict : OneVerdict
one_verdict M f = (
  verdict_right M f,
  λ v h. told_once (λ t w. consistent M f w.0 (t w.0 w.1) w.2) v (verdict_of M f) h
      (verdict_right M f),
)
