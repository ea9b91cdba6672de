-- No rule is both T and F.
use Rattle.std.proofs.Common.{◌≡◌, ℕ, refl, subst, inl, inr, arith}
use Rattle.systems.specs.declared.kinds.Colour.{Colour}
use Rattle.systems.specs.declared.kinds.Colour.TheVariants.{Undecided, F, T}
use Rattle.systems.specs.Model.{Model, Surely, Possibly}
use Rattle.rules.specs.Formulas.{Formula}
use Rattle.colours.specs.Colours.{Colouring, colouring, Told, HasColour}
use Rattle.colours.specs.Theorems.{ConsistentEverywhere}
use Rattle.colours.proofs.Lifting.{Carries, until_lift, release_lift}
use Rattle.colours.proofs.Induction.{Respected, related, marks_of, all_marks}

possible_if_sure : (M : Model) (s t : ℕ) → Surely M s t → Possibly M s t
possible_if_sure M s t h = (h.0, h.1, λ e. let k = h.2 in grind arith)

-- nowhere both T and F
abbrev pub Consistent : Colouring → Type 0
Consistent c = (s : ℕ) → c.is_T s → c.is_F s → ⊥

module _ (M : Model) where
  not_F : (c : Colouring) → Consistent c → Carries ◌≡◌ c.is_T (λ s. ¬ c.is_F s)
  not_F c k x y e t f = k y (subst c.is_T e t) f

  possible : (x y t : ℕ) → x ≡ y → Surely M x t → (u : ℕ) × Possibly M y u × (t ≡ u)
  possible x y t e h = (t, possible_if_sure M y t (subst (λ z. Surely M z t) e h), refl)

  consistency : (n : ℕ) → Respected M M n (λ a c. Consistent a)
  consistency n = record {
    swap = λ a c k s t f. k s f t;
    top = λ s t f. f;
    mark = λ p low s t f. grind arith;
    both = λ a b c d k l s t. elim [ inl f ↦ k s t.0 f | inr f ↦ l s t.1 f ];
    next = λ a c k s t f. k t.0 t.2 (f t.0 (possible_if_sure M s t.0 t.1));
    until = λ a b c d k l s t f. f (until_lift ◌≡◌ (Surely M) (Possibly M) possible
        a.is_T b.is_T (λ x. ¬ a.is_F x) (λ x. ¬ b.is_F x) (not_F a k) (not_F b l) s s refl t);
    release = λ a b c d k l s t f. f (release_lift ◌≡◌ (Surely M) (Possibly M) possible
        a.is_T b.is_T (λ x. ¬ a.is_F x) (λ x. ¬ b.is_F x) (not_F a k) (not_F b l) M.states (λ s t h. h.0) s s refl t);
  }

pub consistent : ConsistentEverywhere
consistent M f = related M M (marks_of f) (λ a c. Consistent a) (consistency M (marks_of f)) f (all_marks f)

-- what is told of two statements that exclude each other is one colour
pub told_once : {P Q : Type 0} → (P → Q → ⊥) → (v w : Colour) → Told P Q v → Told P Q w → v ≡ w
told_once apart T T h k = refl
told_once apart T F h k = absurd (apart h k)
told_once apart T Undecided h k = absurd (k.0 h)
told_once apart F T h k = absurd (apart k h)
told_once apart F F h k = refl
told_once apart F Undecided h k = absurd (k.1 h)
told_once apart Undecided T h k = absurd (h.0 k)
told_once apart Undecided F h k = absurd (h.1 k)
told_once apart Undecided Undecided h k = refl

pub one_colour : (M : Model) (f : Formula) (s : ℕ) (v w : Colour) → HasColour (colouring M f) s v → HasColour (colouring M f) s w → v ≡ w
one_colour M f s = told_once (consistent M f s)
