-- Every T and F of a reply is the value in the system below, so that no two replies contradict each other.
use Rattle.std.proofs.Common.{◌≡◌, ℕ, ◌<◌, List, length, get_or, sym, refl, ap, ◌∙◌, subst, inl, inr, not-suc-le-zero, arith}
use Rattle.systems.specs.declared.kinds.Colour.{Colour}
use Rattle.systems.specs.declared.kinds.Colour.TheVariants.{Undecided, F, T}
use Rattle.systems.specs.Model.{Model}
use Rattle.systems.specs.Numbers.{colour_number}
use Rattle.rules.specs.Formulas.{Formula}
use Rattle.rules.specs.Clauses.{formula, whole}
use Rattle.colours.specs.Colours.{colouring, HasColour, HasVerdict}
use Rattle.colours.specs.Values.{colour_of}
use Rattle.colours.proofs.Consistency.{consistent}
use Rattle.colours.proofs.Computed.{one_colour_computed}
use Rattle.colours.proofs.Grouped.{groups_tell, verdicts_tell}
use Rattle.colours.proofs.Verdicts.{one_verdict}
use Rattle.groupings.specs.Members.{group_of, group_count}
use Rattle.law.specs.Ledgers.{Ledger, model, verdict, ColouredBytes}
use Rattle.law.specs.Calls.{Call, set_rule, regroup, judge, look, cause, split, Answer, refused, done, judged, looked, caused, Reply, Agrees, accepts, refuses}
use Rattle.law.specs.Runs.{Event, Agreed}
use Rattle.law.specs.Laws.{place_at, Truthful, Compatible}
use Rattle.colours.proofs.Numbers.{same_colour}
use Rattle.law.proofs.Soundness.{fits}

-- the colour in an answer
abbrev colour_told : Answer → Colour
colour_told (refused e) = Undecided
colour_told done = Undecided
colour_told (judged v t f u) = v
colour_told (looked v) = v
colour_told (caused slip told chain) = Undecided

-- a reply with bytes has coloured the board
has_coloured : (M : Model) (l : Ledger) (c : Call) (reply : Reply) (r : Ledger) (k : ℕ) → k < length reply.bytes → Agrees M l c reply r
    → ColouredBytes M l reply.bytes
has_coloured M l c reply r k b (refuses e f a) = elim a.2 [
  | inl h ↦ h.1
  | inr h ↦ absurd (not-suc-le-zero (subst (λ xs. k < length xs) h.1 b))
]
has_coloured M l (judge m q) reply r k b (accepts h a) = a.0
has_coloured M l (look m q s n) reply r k b (accepts h a) = a.0
has_coloured M l (cause m q n o) reply r k b (accepts h a) = a.0
has_coloured M l (set_rule x) reply r k b (accepts h a) = absurd (not-suc-le-zero (subst (λ y. k < length y.bytes) a.0 b))
has_coloured M l (regroup xs) reply r k b (accepts h a) = absurd (not-suc-le-zero (subst (λ y. k < length y.bytes) a.0 b))
has_coloured M l (split slip) reply r k b (accepts h a) = absurd (not-suc-le-zero (subst (λ y. k < length y.bytes) a.0 b))

module _ (M : Model) (l : Ledger) where
  module _ (s : ℕ) (b : s < M.states) (v : Colour) (d : ¬ (v ≡ Undecided)) where
    -- what is T or F at the group of s is so at s
    below : (f : Formula) → colour_of (model M l) f (group_of l.groups s) ≡ v → HasColour (colouring M f) s v
    below f e =
        let g = group_of l.groups s in
        groups_tell M (group_of l.groups) (group_count l.groups) (fits M l) f g s (b, refl) v d
        (subst (HasColour (colouring (model M l) f) g) e (one_colour_computed (model M l) f g (fits M l s b)).0)

    board_true : (bytes : List ℕ) (c : ℕ) → ColouredBytes M l bytes → c < length l.rule
        → get_or bytes (place_at l s c) 0 ≡ colour_number v
        → HasColour (colouring M (formula l.rule c)) s v
    board_true bytes c k low e = below (formula l.rule c)
        (same_colour (colour_of (model M l) (formula l.rule c) (group_of l.groups s)) v
        (sym (k.1.shows (group_of l.groups s) c (fits M l s b) low) ∙ e))

    look_true : (m q c : ℕ) (reply : Reply) (r : Ledger) → Agrees M l (look m q s c) reply r → reply.answer ≡ looked v
        → HasColour (colouring M (formula l.rule c)) s v
    look_true m q c reply r (accepts h a) e = below (formula l.rule c) (ap colour_told (sym a.2 ∙ e))
    look_true m q c reply r (refuses x f a) e = cc (sym a.0 ∙ e)

  module _ (v : Colour) (d : ¬ (v ≡ Undecided)) (t n u : ℕ) where
    verdict_below : verdict M l ≡ v → HasVerdict M (whole l.rule) v
    verdict_below e = verdicts_tell M (group_of l.groups) (group_count l.groups) (fits M l) (whole l.rule) v d
        (subst (HasVerdict (model M l) (whole l.rule)) e (one_verdict (model M l) (whole l.rule)).0)

    verdict_true : (c : Call) (reply : Reply) (r : Ledger) → Agrees M l c reply r → reply.answer ≡ judged v t n u → HasVerdict M (whole l.rule) v
    verdict_true c reply r (refuses x f a) e = cc (sym a.0 ∙ e)
    verdict_true (judge m q) reply r (accepts h a) e = verdict_below (ap colour_told (sym a.2 ∙ e))
    verdict_true (set_rule x) reply r (accepts h a) e = cc (sym (ap (λ y. y.answer) a.0) ∙ e)
    verdict_true (regroup xs) reply r (accepts h a) e = cc (sym (ap (λ y. y.answer) a.0) ∙ e)
    verdict_true (look m q s c) reply r (accepts h a) e = cc (sym a.2 ∙ e)
    verdict_true (cause m q n c) reply r (accepts h a) e = cc (sym a.2.3 ∙ e)
    verdict_true (split slip) reply r (accepts h a) e = cc (sym (ap (λ y. y.answer) a.0) ∙ e)

pub truthful : (M : Model) (e : Event) → Agreed M e → Truthful M e
truthful M e g = record {
  colours = λ s f v b d says. elim says [
    | inl h ↦ subst (λ x. HasColour (colouring M x) s v) h.2
        (board_true M e.before s b v d e.reply.bytes h.0
        (has_coloured M e.before e.call e.reply e.after (place_at e.before s h.0) h.3 g)
        h.1 h.4)
    | inr h ↦ subst (λ x. HasColour (colouring M x) s v) h.4
        (look_true M e.before s b v d h.0 h.1 h.2 e.reply e.after
        (subst (λ c. Agrees M e.before c e.reply e.after) h.3 g) h.5)
  ];
  verdict = λ f v d h. subst (λ x. HasVerdict M x v) h.0
      (verdict_true M e.before v d h.1.0 h.1.1 h.1.2 e.call e.reply e.after g h.1.3);
}

T_decided : ¬ (T ≡ Undecided)
T_decided k = grind arith

F_decided : ¬ (F ≡ Undecided)
F_decided k = grind arith

-- two replies that tell the truth do not contradict each other
pub compatible : (M : Model) (e d : Event) → Truthful M e → Truthful M d → Compatible M e d
compatible M e d x y = record {
  colours = λ s f b t n. consistent M f s (x.colours s f T b T_decided t) (y.colours s f F b F_decided n);
  verdicts = λ f t n. let z = y.verdict f F F_decided n in consistent M f z.0 (x.verdict f T T_decided t z.0 z.1) z.2;
  starts = λ s f b t n. consistent M f s (x.verdict f T T_decided t s b) (y.colours s f F b.0 F_decided n);
}
