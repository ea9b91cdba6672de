-- Models that agree in range colour alike.
use Rattle.std.proofs.Common.{◌≡◌, ℕ, ◌<◌, sym, refl, ap, ◌∙◌, subst}
use Rattle.systems.specs.declared.kinds.Colour.{Colour}
use Rattle.systems.specs.declared.kinds.Colour.TheVariants.{Undecided, F, T}
use Rattle.systems.specs.Model.{Model, Surely, Possibly, Starts, Agree}
use Rattle.rules.specs.Formulas.{Formula, MarksBelow}
use Rattle.colours.specs.Colours.{colouring, HasColour, HasVerdict}
use Rattle.colours.specs.Values.{colour_of, verdict_of}
use Rattle.colours.specs.Abstractions.{Abstracts}
use Rattle.colours.specs.Theorems.{AgreeingModelsColourAlike}
use Rattle.colours.proofs.Preservation.{Keeps, preserves}
use Rattle.colours.proofs.Computed.{one_colour_computed}
use Rattle.colours.proofs.Verdicts.{one_verdict}

pub agree_back : (M L : Model) → Agree M L → Agree L M
agree_back M L a = record {
  states = sym a.states;
  marks = sym a.marks;
  step = λ s t b c. sym (a.step s t (rw a.states b) (rw a.states c));
  mark = λ s p b c. sym (a.mark s p (rw a.states b) (rw a.marks c));
  start = λ s b. sym (a.start s (rw a.states b));
}

module _ (M L : Model) (a : Agree M L) where
  -- the same state, in range
  abbrev Same : ℕ → ℕ → Type 0
  Same s t = (s ≡ t) × (s < M.states)

  pub within : (s : ℕ) → s < M.states → s < L.states
  within s b = rw (sym a.states) b

  surely : (s t : ℕ) → Surely M s t → Surely L s t
  surely s t k = (within s k.0, within t k.1, sym (a.step s t k.0 k.1) ∙ k.2)

  pub possibly : (s t : ℕ) → Possibly L s t → Possibly M s t
  possibly s t k =
      let b : s < M.states = rw a.states k.0 in
      let c : t < M.states = rw a.states k.1 in
      (b, c, λ e. k.2 (sym (a.step s t b c) ∙ e))

  same_abstracts : Abstracts M L M.marks Same
  same_abstracts = record {
    sure_step = λ g s h o k. (h, surely s h (subst (λ z. Surely M z h) o.0 k), (refl, k.1));
    possible_step = λ g s t o k. let p = possibly g t (subst (λ z. Possibly L z t) (sym o.0) k) in (t, p, (refl, p.1));
    mark_T = λ g s p low o e. ap (λ z. L.mark z p) (sym o.0) ∙ sym (a.mark g p o.1 low) ∙ e;
    mark_F = λ g s p low o e. ap (λ z. L.mark z p) (sym o.0) ∙ sym (a.mark g p o.1 low) ∙ e;
  }

  keeps : (f : Formula) → MarksBelow M.marks f → Keeps Same (colouring M f) (colouring L f)
  keeps = preserves M L M.marks Same same_abstracts

  pub starts : (s : ℕ) → Starts M s → Starts L s
  starts s k = (within s k.0, sym (a.start s k.0) ∙ k.1)

module _ (M L : Model) (a : Agree M L) (f : Formula) (m : MarksBelow M.marks f) where
  there : Keeps (Same M L a) (colouring M f) (colouring L f)
  there = keeps M L a f m

  back : Keeps (Same L M (agree_back M L a)) (colouring L f) (colouring M f)
  back = keeps L M (agree_back M L a) f (subst (λ n. MarksBelow n f) a.marks m)

  pub same_colour : (v : Colour) (s : ℕ) → s < M.states → HasColour (colouring M f) s v → HasColour (colouring L f) s v
  same_colour T s b h = there.0 s s (refl, b) h
  same_colour F s b h = there.1 s s (refl, b) h
  same_colour Undecided s b h = let c = within M L a s b in (λ t. h.0 (back.0 s s (refl, c) t), λ t. h.1 (back.1 s s (refl, c) t))

  same_verdict : (v : Colour) → HasVerdict M f v → HasVerdict L f v
  same_verdict T h = λ s k. let b = starts L M (agree_back M L a) s k in there.0 s s (refl, b.0) (h s b)
  same_verdict F h = (h.0, starts M L a h.0 h.1, there.1 h.0 h.0 (refl, h.1.0) h.2)
  same_verdict Undecided h = (
    λ t. h.0 (λ s k. let b = starts M L a s k in back.0 s s (refl, b.0) (t s b)),
    λ t. h.1 (t.0, starts L M (agree_back M L a) t.0 t.1, back.1 t.0 t.0 (refl, t.1.0) t.2),
  )

pub agreeing_models_colour_alike : AgreeingModelsColourAlike
agreeing_models_colour_alike M L a f m = (
  λ s b. (one_colour_computed L f s (within M L a s b)).1 (colour_of M f s)
      (same_colour M L a f m (colour_of M f s) s b (one_colour_computed M f s b).0),
  (one_verdict L f).1 (verdict_of M f) (same_verdict M L a f m (verdict_of M f) (one_verdict M f).0),
)
