-- A set of undecided positions that is closed under going on, and in which no chain can end, is empty.
use Rattle.std.proofs.Common.{◌≡◌, ℕ, zero, suc, ◌<◌, Bool, true, false, List, length, sym, refl, ap, ◌∙◌, subst, inl, inr, not-suc-le-zero, arith}
use Rattle.systems.specs.declared.kinds.Colour.{Colour}
use Rattle.systems.specs.declared.kinds.Colour.TheVariants.{Undecided, F, T}
use Rattle.systems.specs.Model.{Model}
use Rattle.rules.specs.declared.syntax.Quantifier.TheVariants.{A, E}
use Rattle.rules.specs.declared.syntax.Operator.{Operator}
use Rattle.rules.specs.declared.syntax.Operator.TheVariants.{And, Or, AU, AV, EU, EV}
use Rattle.rules.specs.declared.syntax.Clause.{Clause}
use Rattle.rules.specs.declared.syntax.Clause.TheVariants.{Constant, Mark, Next, Pair}
use Rattle.rules.specs.Formulas.{Formula, mark, pair}
use Rattle.rules.specs.Clauses.{tree, PartsBelow, WellFounded, formula}
use Rattle.colours.specs.declared.chains.Position.{Position}
use Rattle.colours.specs.declared.chains.Reason.{Reason}
use Rattle.colours.specs.declared.chains.Reason.TheVariants.{UnknownMark, UnsureStep}
use Rattle.colours.specs.Colours.{exchange, colouring, HasColour}
use Rattle.colours.specs.Values.{negate, colour_of}
use Rattle.colours.specs.Chains.{clause_at, Awaited, colours, Open, Follows, EndsInStep, GoesOn, Ends}
use Rattle.colours.proofs.Shown.{Shows, negate_shows}
use Rattle.colours.proofs.Computed.{colours_shown}
use Rattle.colours.proofs.Numbered.{formula_tree}
use Rattle.colours.proofs.Stuck.{and_stuck, next_stuck, until_stuck, release_stuck}

neither : (c : Colour) → ¬ (c ≡ T) → ¬ (c ≡ F) → c ≡ Undecided
neither c a b = grind arith

-- a mark that is undecided is unknown
pub unknown_mark : (M : Model) (s p : ℕ) (negated : Bool) → HasColour (colouring M (mark p negated)) s Undecided → M.mark s p ≡ Undecided
unfolding colouring
unknown_mark M s p false u = neither (M.mark s p) u.0 u.1
unknown_mark M s p true u = neither (M.mark s p) u.1 u.0

module _ (M : Model) (cs : List Clause) (founded : WellFounded cs) (V : Position → Type 0)
    (opened : (p : Position) → V p → Open M cs p)
    (on : (p n : Position) → V p → GoesOn M cs p n → Open M cs n → V n)
    (no_end : (p : Position) (reason : Reason) → V p → Ends M cs p reason → ⊥) where
  -- the set has clause i at s
  abbrev At : ℕ → ℕ → Type 0
  At i s = V (record { group = s; clause = i })

  inside : (i s : ℕ) → At i s → s < M.states
  inside i s v = (opened (record { group = s; clause = i }) v).0

  -- with T and F exchanged
  turned : (f : Formula) → Shows M (exchange (colouring M f)) (λ s. negate (colour_of M f s))
  turned f = negate_shows M (colouring M f) (colour_of M f) (colours_shown M f)

  -- the set has no clause before i
  module _ (i : ℕ) (low : i < length cs) (none : (j : ℕ) → j < i → (s : ℕ) → ¬ At j s) where
    -- clause i is c
    module _ (c : Clause) (is : clause_at cs i ≡ c) where
      made : formula cs i ≡ tree (formula cs) c
      made = formula_tree cs founded i low ∙ ap (tree (formula cs)) is

      undecided : (s : ℕ) → At i s → HasColour (colouring M (tree (formula cs) c)) s Undecided
      undecided s v = subst (λ f. HasColour (colouring M f) s Undecided) made (opened (record { group = s; clause = i }) v).2

      goes : (s j t : ℕ) → At i s → Follows M cs c i s j t → t < M.states → j < length cs → HasColour (colours M cs j) t Undecided
          → At j t
      goes s j t v h b k u =
          on (record { group = s; clause = i }) (record { group = t; clause = j }) v (subst (λ x. Follows M cs x i s j t) (sym is) h)
          (b, k, u)

      part : (s j t : ℕ) → At i s → Follows M cs c i s j t → t < M.states → j < i → ¬ HasColour (colours M cs j) t Undecided
      part s j t v h b k u = none j k t (goes s j t v h b (omega arith) u)

      same : (s t : ℕ) → At i s → Follows M cs c i s i t → t < M.states → HasColour (colouring M (tree (formula cs) c)) t Undecided
          → At i t
      same s t v h b u = goes s i t v h b low (subst (λ f. HasColour (colouring M f) t Undecided) (sym made) u)

      step_end : (s t : ℕ) → At i s → EndsInStep M cs c i s t → ⊥
      step_end s t v h = no_end (record { group = s; clause = i }) (UnsureStep s t) v
          (refl, subst (λ x. EndsInStep M cs x i s t) (sym is) h)

      mark_end : (s m : ℕ) (negated : Bool) → At i s → c ≡ Mark m negated → M.mark s m ≡ Undecided → ⊥
      mark_end s m negated v e u = no_end (record { group = s; clause = i }) (UnknownMark s m) v (refl, u, (negated, is ∙ e))

      awaits : (o : Operator) (t : ℕ) → Awaited o (colouring M (tree (formula cs) c)) t → Awaited o (colours M cs i) t
      awaits o t h = subst (λ f. Awaited o (colouring M f) t) (sym made) h

    -- the parts of a pair are decided where the set has it
    parts_decided : (o : Operator) (r q : ℕ) → clause_at cs i ≡ Pair o r q → PartsBelow i (Pair o r q) → (s : ℕ) → At i s
        → (¬ HasColour (colours M cs r) s Undecided) × (¬ HasColour (colours M cs q) s Undecided)
    parts_decided o r q is k s v =
        let c = Pair o r q in (
          part c is s r s v (inl (inl refl, refl)) (inside i s v) k.0,
          part c is s q s v (inl (inr refl, refl)) (inside i s v) k.1,
        )

    -- clause i is nowhere in the set: for A from E with T and F exchanged
    nowhere : (c : Clause) → clause_at cs i ≡ c → PartsBelow i c → (s : ℕ) → ¬ At i s
    unfolding colouring
    nowhere (Constant true) is k = λ s v. (undecided (Constant true) is s v).0 tt
    nowhere (Constant false) is k = λ s v. (undecided (Constant false) is s v).1 tt
    nowhere (Mark p negated) is k = λ s v.
        mark_end (Mark p negated) is s p negated v refl (unknown_mark M s p negated (undecided (Mark p negated) is s v))
    nowhere (Next E r) is k =
        let c = Next E r in
        next_stuck M (colours M cs r) (colour_of M (formula cs r)) (colours_shown M (formula cs r)) (At i) (undecided c is)
        (λ s t v h. part c is s r t v (refl, h) h.1 k)
        (λ s t v u h. step_end c is s t v (u, h))
    nowhere (Next A r) is k =
        let c = Next A r in
        next_stuck M (exchange (colours M cs r)) (λ s. negate (colour_of M (formula cs r) s)) (turned (formula cs r)) (At i)
        (λ s v. let u = undecided c is s v in (u.1, u.0))
        (λ s t v h u. part c is s r t v (refl, h) h.1 k (u.1, u.0))
        (λ s t v u h. step_end c is s t v (u, h))
    nowhere (Pair And r q) is k =
        let c = Pair And r q in let parts = parts_decided And r q is k in
        and_stuck M (colours M cs r) (colours M cs q) (colour_of M (formula cs r)) (colour_of M (formula cs q)) (colours_shown M (formula cs r))
        (colours_shown M (formula cs q)) (At i) (inside i)
        (λ s v. (parts s v).0) (λ s v. (parts s v).1)
        (undecided c is)
    nowhere (Pair Or r q) is k =
        let c = Pair Or r q in let parts = parts_decided Or r q is k in
        and_stuck M (exchange (colours M cs r)) (exchange (colours M cs q)) (λ s. negate (colour_of M (formula cs r) s))
        (λ s. negate (colour_of M (formula cs q) s))
        (turned (formula cs r)) (turned (formula cs q)) (At i) (inside i)
        (λ s v u. (parts s v).0 (u.1, u.0)) (λ s v u. (parts s v).1 (u.1, u.0))
        (λ s v. let u = undecided c is s v in (u.1, u.0))
    nowhere (Pair EU r q) is k =
        let c = Pair EU r q in let parts = parts_decided EU r q is k in let f = pair EU (formula cs r) (formula cs q) in
        until_stuck M (colours M cs r) (colours M cs q) (colour_of M (formula cs r)) (colour_of M (formula cs q)) (colours_shown M (formula cs r))
        (colours_shown M (formula cs q)) (At i) (inside i)
        (λ s v. (parts s v).0) (λ s v. (parts s v).1)
        (colour_of M f) (colours_shown M f) (undecided c is)
        (λ s t v n h. same c is s t v (inr (refl, n, h)) h.1)
        (λ s t v n u h. step_end c is s t v (u, n, awaits c is EU t h))
    nowhere (Pair AV r q) is k =
        let c = Pair AV r q in let parts = parts_decided AV r q is k in let f = pair AV (formula cs r) (formula cs q) in
        until_stuck M (exchange (colours M cs r)) (exchange (colours M cs q)) (λ s. negate (colour_of M (formula cs r) s))
        (λ s. negate (colour_of M (formula cs q) s))
        (turned (formula cs r)) (turned (formula cs q)) (At i) (inside i)
        (λ s v u. (parts s v).0 (u.1, u.0)) (λ s v u. (parts s v).1 (u.1, u.0))
        (λ s. negate (colour_of M f s)) (turned f) (λ s v. let u = undecided c is s v in (u.1, u.0))
        (λ s t v n h u. same c is s t v (inr (refl, n, h)) h.1 (u.1, u.0))
        (λ s t v n u h. step_end c is s t v (u, n, awaits c is AV t h))
    nowhere (Pair EV r q) is k =
        let c = Pair EV r q in let parts = parts_decided EV r q is k in let f = pair EV (formula cs r) (formula cs q) in
        release_stuck M (colours M cs r) (colours M cs q) (colour_of M (formula cs r)) (colour_of M (formula cs q)) (colours_shown M (formula cs r))
        (colours_shown M (formula cs q)) (At i) (inside i)
        (λ s v. (parts s v).0) (λ s v. (parts s v).1)
        (colour_of M f) (colours_shown M f) (undecided c is)
        (λ s t v n h. same c is s t v (inr (refl, n, h)) h.1)
        (λ s t v n u h. step_end c is s t v (u, n, awaits c is EV t h))
    nowhere (Pair AU r q) is k =
        let c = Pair AU r q in let parts = parts_decided AU r q is k in let f = pair AU (formula cs r) (formula cs q) in
        release_stuck M (exchange (colours M cs r)) (exchange (colours M cs q)) (λ s. negate (colour_of M (formula cs r) s))
        (λ s. negate (colour_of M (formula cs q) s))
        (turned (formula cs r)) (turned (formula cs q)) (At i) (inside i)
        (λ s v u. (parts s v).0 (u.1, u.0)) (λ s v u. (parts s v).1 (u.1, u.0))
        (λ s. negate (colour_of M f s)) (turned f) (λ s v. let u = undecided c is s v in (u.1, u.0))
        (λ s t v n h u. same c is s t v (inr (refl, n, h)) h.1 (u.1, u.0))
        (λ s t v n u h. step_end c is s t v (u, n, awaits c is AU t (elim h [ inl x ↦ inl x | inr x ↦ inr (x.1, x.0) ])))

  before : (n i : ℕ) → i < n → i < length cs → (s : ℕ) → ¬ At i s
  before zero i h b = absurd (not-suc-le-zero h)
  before (suc n) i h b = nowhere i b (λ j k. before n j (omega arith) (omega arith)) (clause_at cs i) refl (founded i b)

  pub closed_is_empty : (p : Position) → ¬ V p
  closed_is_empty p v = before (suc p.clause) p.clause (omega arith) (opened p v).1 p.group v
