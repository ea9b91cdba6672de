-- What is T or F in an abstraction is so below.
use Rattle.std.proofs.Common.{◌≡◌, ℕ, true, refl, inl, inr}
use Rattle.systems.specs.declared.kinds.Colour.{Colour}
use Rattle.systems.specs.declared.kinds.Colour.TheVariants.{Undecided, F, T}
use Rattle.systems.specs.Model.{Model, Surely, Possibly}
use Rattle.rules.specs.Formulas.{Formula, MarksBelow}
use Rattle.colours.specs.Colours.{Colouring, colouring, HasColour}
use Rattle.colours.specs.Abstractions.{Abstracts}
use Rattle.colours.specs.Theorems.{AbstractionPreserves}
use Rattle.colours.proofs.Lifting.{Carries, until_lift, release_lift}
use Rattle.colours.proofs.Induction.{Respected, related}

-- a T or F of the first colouring is one of the second at related states
abbrev pub Keeps : (ℕ → ℕ → Type 0) → Colouring → Colouring → Type 0
Keeps of a c = Carries of a.is_T c.is_T × Carries of a.is_F c.is_F

module _ (A C : Model) (P : ℕ) (of : ℕ → ℕ → Type 0) (abs : Abstracts A C P of) where
  abbrev Back : ℕ → ℕ → Type 0
  Back s g = of g s

  -- what is not F below is not F above
  not_F : (a c : Colouring) → Keeps of a c → Carries Back (λ s. ¬ c.is_F s) (λ g. ¬ a.is_F g)
  not_F a c k s g p n h = n (k.1 g s p h)

  kept : Respected A C P (Keeps of)
  kept = record {
    swap = λ a c k. (k.1, k.0);
    top = (λ g s p h. tt, λ g s p h. h);
    mark = λ p low. (λ g s o. abs.mark_T g s p low o, λ g s o. abs.mark_F g s p low o);
    both = λ a b c d k l. (
      λ g s p h. (k.0 g s p h.0, l.0 g s p h.1),
      λ g s p. elim [ inl h ↦ inl (k.1 g s p h) | inr h ↦ inr (l.1 g s p h) ],
    );
    next = λ a c k. (
      λ g s p h. let l = abs.sure_step g s h.0 p h.1 in (l.0, l.1, k.0 h.0 l.0 l.2 h.2),
      λ g s p h t j. let l = abs.possible_step g s t p j in k.1 l.0 t l.2 (h l.0 l.1),
    );
    until = λ a b c d k l. (
      until_lift of (Surely A) (Surely C) (λ g s. abs.sure_step g s) a.is_T b.is_T c.is_T d.is_T k.0 l.0,
      λ g s p none w. none (until_lift Back (Possibly C) (Possibly A) (λ s g. abs.possible_step g s)
          (λ t. ¬ c.is_F t) (λ t. ¬ d.is_F t) (λ t. ¬ a.is_F t) (λ t. ¬ b.is_F t) (not_F a c k) (not_F b d l) s g p w),
    );
    release = λ a b c d k l. (
      release_lift of (Surely A) (Surely C) (λ g s. abs.sure_step g s) a.is_T b.is_T c.is_T d.is_T k.0 l.0
          C.states (λ s t h. h.0),
      λ g s p none w. none (release_lift Back (Possibly C) (Possibly A) (λ s g. abs.possible_step g s)
          (λ t. ¬ c.is_F t) (λ t. ¬ d.is_F t) (λ t. ¬ a.is_F t) (λ t. ¬ b.is_F t) (not_F a c k) (not_F b d l)
          A.states (λ s t h. h.0) s g p w),
    );
  }

  -- a T or F of an abstraction holds below
  pub preserves : (f : Formula) → MarksBelow P f → Keeps of (colouring A f) (colouring C f)
  preserves f m = related A C P (Keeps of) kept f m

  pub tells : (f : Formula) → MarksBelow P f → (g s : ℕ) → of g s → (v : Colour) → ¬ (v ≡ Undecided) → HasColour (colouring A f) g v
      → HasColour (colouring C f) s v
  tells f m g s o T d h = (preserves f m).0 g s o h
  tells f m g s o F d h = (preserves f m).1 g s o h
  tells f m g s o Undecided d h = absurd (d refl)

pub abstraction_preserves : AbstractionPreserves
abstraction_preserves A C P of abs f m g s o = tells A C P (λ g s. of g s ≡ true) abs f m g s o
