-- Which positions are undecided, which may follow which, and whether a chain can end at one, is decided by the computed colours.
use Rattle.std.proofs.Common.{◌≡◌, ℕ, ◌<◌, ◌⊎◌, List, length, sym, refl, ap, ◌∙◌, subst, inl, inr, arith}
use native.Mathlib.Decide.{ℕ_discrete, dec_lt, map_dec}
use Rattle.systems.specs.declared.kinds.Step.{Step}
use Rattle.systems.specs.declared.kinds.Step.TheVariants.{Absent, Unsure, Sure}
use Rattle.systems.specs.declared.kinds.Colour.{Colour}
use Rattle.systems.specs.declared.kinds.Colour.TheVariants.{Undecided, F, T}
use Rattle.systems.specs.Model.{Model, Possibly}
use Rattle.rules.specs.declared.syntax.Quantifier.{Quantifier}
use Rattle.rules.specs.declared.syntax.Quantifier.TheVariants.{A, E}
use Rattle.rules.specs.declared.syntax.Operator.{Operator}
use Rattle.rules.specs.declared.syntax.Operator.TheVariants.{And, Or, AU, AV, EU, EV}
use Rattle.rules.specs.declared.syntax.Clause.{Clause}
use Rattle.rules.specs.declared.syntax.Clause.TheVariants.{Constant, Mark, Next, Pair}
use Rattle.rules.specs.Formulas.{Formula}
use Rattle.rules.specs.Clauses.{tree, WellFounded, formula}
use Rattle.colours.specs.declared.chains.Position.{Position}
use Rattle.colours.specs.declared.chains.Reason.{Reason}
use Rattle.colours.specs.declared.chains.Reason.TheVariants.{UnknownMark, UnsureStep}
use Rattle.colours.specs.Colours.{colouring, HasColour}
use Rattle.colours.specs.Values.{colour_of}
use Rattle.colours.specs.Chains.{clause_at, Unsurely, Looks, Shown, Awaited, Open, Follows, EndsInStep, GoesOn, Ends}
use Rattle.colours.proofs.Consistency.{consistent}
use Rattle.colours.proofs.Computed.{colours_shown}
use Rattle.colours.proofs.Lists.{least}
use Rattle.colours.proofs.Numbered.{formula_tree}
use Rattle.colours.proofs.Causes.{unknown_mark}

pub not? : {P : Type 0} → Dec P → Dec (¬ P)
not? (yes p) = no (λ k. k p)
not? (no k) = yes k

pub and? : {P Q : Type 0} → Dec P → Dec Q → Dec (P × Q)
and? (yes p) (yes q) = yes (p, q)
and? (yes p) (no k) = no (λ h. k h.1)
and? (no k) d = no (λ h. k h.0)

or? : {P Q : Type 0} → Dec P → Dec Q → Dec (P ⊎ Q)
or? (yes p) d = yes (inl p)
or? (no k) (yes q) = yes (inr q)
or? (no k) (no l) = no (elim [ inl p ↦ k p | inr q ↦ l q ])

module _ (M : Model) where
  absent? : (k : Step) → Dec (k ≡ Absent)
  absent? Absent = yes refl
  absent? Unsure = no (λ e. grind arith)
  absent? Sure = no (λ e. grind arith)

  unsure? : (k : Step) → Dec (k ≡ Unsure)
  unsure? Absent = no (λ e. grind arith)
  unsure? Unsure = yes refl
  unsure? Sure = no (λ e. grind arith)

  possibly? : (s t : ℕ) → Dec (Possibly M s t)
  possibly? s t = map_dec (λ h. (h.0, h.1.0, h.1.1)) (λ h. (h.0, (h.1, h.2)))
      (and? (dec_lt s M.states) (and? (dec_lt t M.states) (not? (absent? (M.step s t)))))

  unsurely? : (s t : ℕ) → Dec (Unsurely M s t)
  unsurely? s t = map_dec (λ h. (h.0, h.1.0, h.1.1)) (λ h. (h.0, (h.1, h.2)))
      (and? (dec_lt s M.states) (and? (dec_lt t M.states) (unsure? (M.step s t))))

  module _ (f : Formula) (s : ℕ) (b : s < M.states) where
    true? : Dec ((colouring M f).is_T s)
    true? = go (colour_of M f s) (colours_shown M f s b)
      where
        go : (v : Colour) → HasColour (colouring M f) s v → Dec ((colouring M f).is_T s)
        go T h = yes h
        go F h = no (λ t. consistent M f s t h)
        go Undecided h = no h.0

    false? : Dec ((colouring M f).is_F s)
    false? = go (colour_of M f s) (colours_shown M f s b)
      where
        go : (v : Colour) → HasColour (colouring M f) s v → Dec ((colouring M f).is_F s)
        go T h = no (consistent M f s h)
        go F h = yes h
        go Undecided h = no h.1

    pub undecided? : Dec (HasColour (colouring M f) s Undecided)
    undecided? = and? (not? true?) (not? false?)

    looks? : (o : Operator) → Dec (Looks o (colouring M f) s)
    looks? And = no (λ h. h)
    looks? Or = no (λ h. h)
    looks? AU = not? false?
    looks? EU = not? false?
    looks? AV = not? true?
    looks? EV = not? true?

    shown? : (k : Quantifier) → Dec (Shown k (colouring M f) s)
    shown? A = false?
    shown? E = true?

    awaited? : (o : Operator) → Dec (Awaited o (colouring M f) s)
    awaited? And = no (λ h. h)
    awaited? Or = no (λ h. h)
    awaited? AV = false?
    awaited? EU = true?
    awaited? AU = or? false? undecided?
    awaited? EV = or? true? undecided?

  module _ (cs : List Clause) where
    pub open? : (p : Position) → Dec (Open M cs p)
    open? p = elim (dec_lt p.group M.states) [
      | no k ↦ no (λ o. k o.0)
      | yes b ↦ map_dec (λ h. (b, h.0, h.1)) (λ o. (o.1, o.2))
          (and? (dec_lt p.clause (length cs)) (undecided? (formula cs p.clause) p.group b))
    ]

    follows? : (c : Clause) (i s j t : ℕ) → s < M.states → Dec (Follows M cs c i s j t)
    follows? (Constant x) i s j t b = no (λ h. h)
    follows? (Mark p negated) i s j t b = no (λ h. h)
    follows? (Next k r) i s j t b = and? (ℕ_discrete j r) (possibly? s t)
    follows? (Pair o r q) i s j t b = or? (and? (or? (ℕ_discrete j r) (ℕ_discrete j q)) (ℕ_discrete t s))
        (map_dec (λ h. (h.0, h.1.0, h.1.1)) (λ h. (h.0, (h.1, h.2)))
        (and? (ℕ_discrete j i) (and? (looks? (formula cs r) s b o) (possibly? s t))))

    pub goes_on? : (p n : Position) → p.group < M.states → Dec (GoesOn M cs p n)
    goes_on? p n b = follows? (clause_at cs p.clause) p.clause p.group n.clause n.group b

    ends_in_step? : (c : Clause) (i s t : ℕ) → s < M.states → t < M.states → Dec (EndsInStep M cs c i s t)
    ends_in_step? (Constant x) i s t b d = no (λ h. h)
    ends_in_step? (Mark p negated) i s t b d = no (λ h. h)
    ends_in_step? (Next k r) i s t b d = and? (unsurely? s t) (shown? (formula cs r) t d k)
    ends_in_step? (Pair o r q) i s t b d =
        map_dec (λ h. (h.0, h.1.0, h.1.1)) (λ h. (h.0, (h.1, h.2)))
        (and? (unsurely? s t) (and? (looks? (formula cs r) s b o) (awaited? (formula cs i) t d o)))

    target : (c : Clause) (i s t : ℕ) → EndsInStep M cs c i s t → t < M.states
    target (Constant x) i s t h = absurd h
    target (Mark p negated) i s t h = absurd h
    target (Next k r) i s t h = h.0.1
    target (Pair o r q) i s t h = h.0.1

    -- a step in which the chain may end, or there is none
    step_end? : (c : Clause) (i s : ℕ) → s < M.states → ((t : ℕ) × EndsInStep M cs c i s t) ⊎ ((t : ℕ) → ¬ EndsInStep M cs c i s t)
    step_end? c i s b = elim (least (EndsInStep M cs c i s) M.states (λ t d. ends_in_step? c i s t b d)) [
      | inl f ↦ inl (f.0, f.2)
      | inr none ↦ inr (λ t h. none t (target c i s t h) h)
    ]

    -- a clause is a mark or not
    abbrev IsMark : Clause → Type 0
    IsMark (Constant x) = ⊥
    IsMark (Mark p negated) = Unit {0}
    IsMark (Next k r) = ⊥
    IsMark (Pair o r q) = ⊥

    -- an end of a chain at an undecided position, or there is none
    pub end? : WellFounded cs → (p : Position) → Open M cs p
        → ((reason : Reason) × Ends M cs p reason) ⊎ ((reason : Reason) → ¬ Ends M cs p reason)
    end? founded p o = go (clause_at cs p.clause) refl
      where
        by_step : (c : Clause) → clause_at cs p.clause ≡ c → ¬ IsMark c
            → ((reason : Reason) × Ends M cs p reason) ⊎ ((reason : Reason) → ¬ Ends M cs p reason)
        by_step c is other = elim (step_end? (clause_at cs p.clause) p.clause p.group o.0) [
          | inl f ↦ inl (UnsureStep p.group f.0, (refl, f.1))
          | inr none ↦ inr (elim [
            | UnknownMark g m ↦ λ e. other (subst IsMark (sym e.2.1 ∙ is) tt)
            | UnsureStep g t ↦ λ e. none t (subst (λ s. EndsInStep M cs (clause_at cs p.clause) p.clause s t) e.0 e.1)
          ])
        ]

        go : (c : Clause) → clause_at cs p.clause ≡ c
            → ((reason : Reason) × Ends M cs p reason) ⊎ ((reason : Reason) → ¬ Ends M cs p reason)
        go (Constant x) is = by_step (Constant x) is (λ h. h)
        go (Mark m negated) is = inl (
          UnknownMark p.group m,
          (
            refl,
            unknown_mark M p.group m negated
                (subst (λ f. HasColour (colouring M f) p.group Undecided)
                (formula_tree cs founded p.clause o.1 ∙ ap (tree (formula cs)) is) o.2),
            (negated, is),
          ),
        )
        go (Next k r) is = by_step (Next k r) is (λ h. h)
        go (Pair x r q) is = by_step (Pair x r q) is (λ h. h)
