-- The computed board has the colours.
use Rattle.std.proofs.Common.{◌≡◌, ℕ, ◌<◌, Bool, true, false, not, T as So, List, sym, refl, ap, ◌∙◌, subst, arith}
use Rattle.systems.specs.declared.kinds.Colour.{Colour}
use Rattle.systems.specs.declared.kinds.Colour.TheVariants.{Undecided, F, T}
use Rattle.systems.specs.Model.{Model}
use Rattle.rules.specs.declared.syntax.Quantifier.{Quantifier}
use Rattle.rules.specs.declared.syntax.Quantifier.TheVariants.{A, E}
use Rattle.rules.specs.declared.syntax.Operator.{Operator}
use Rattle.rules.specs.declared.syntax.Operator.TheVariants.{And, Or, AU, AV, EU, EV}
use Rattle.rules.specs.Formulas.{Formula, constant, mark, next, pair}
use Rattle.colours.specs.Colours.{Colouring, exchange, true_everywhere, mark_colouring, conjunction, E_next, joined, stepped, colouring, HasColour}
use Rattle.colours.specs.Values.{join, meet, negate, next_value, until_value, release_value, listed, colour_at, rounds, pair_board, board_of, colour_of}
use Rattle.colours.specs.Levels.{counts, On, Untils, Releases, IsUntil, IsRelease}
use Rattle.colours.specs.Theorems.{OneColour, ByTruthOrder}
use Rattle.colours.proofs.Consistency.{Consistent, consistent, one_colour}
use Rattle.colours.proofs.Levels.{F_counts_not, T_counts, negate_join}
use Rattle.colours.proofs.Boards.{until_raise, until_rest, until_grows, release_lower, release_rest, release_grows, negate_next, negate_until, negate_release, next_same}
use Rattle.colours.proofs.Shown.{Shows, negate_shows, unnegate_shows, meet_shows, next_shown, until_shown, release_shown}
use Rattle.colours.proofs.Rounds.{at_listed, LitWithin, comes_to_rest, kept, negated}

contra : (a b : Bool) → (So (not a) → So (not b)) → So b → So a
contra a b h k = grind arith

uncontra : (a b : Bool) → (So b → So a) → So (not a) → So (not b)
uncontra a b h k = grind arith

module _ (M : Model) (r q : ℕ → Colour) where
  -- the boards of E(r U q) and E(r V q), and those of A(r U q) and A(r V q)
  unfoldable pub rising : Quantifier → List Colour
  rising k = rounds M (until_value M k r q) M.states (listed M.states (λ s. F))

  unfoldable pub falling : Quantifier → List Colour
  falling k = rounds M (release_value M k r q) M.states (listed M.states (λ s. T))

  pub rising_is : IsUntil M r q (colour_at (rising E))
  unfolding rising
  rising_is l s b = (
    kept M (until_value M E r q) (λ board. (t : ℕ) → t < M.states → On l (colour_at board) t → Untils M l r q t)
        (λ board sound t c h. until_raise M l r q (colour_at board) sound t c
        (subst (λ v. So (counts l v)) (at_listed M.states (until_value M E r q (colour_at board)) t c) h))
        M.states (listed M.states (λ s. F)) (λ t c h. absurd (start t c h)) s b,
    until_rest M l r q (colour_at (rising E))
        (comes_to_rest (counts l) M (until_value M E r q) (until_grows M l r q) (listed M.states (λ s. F)) start) s b,
  )
    where
      start : (t : ℕ) → t < M.states → ¬ So (counts l (colour_at (listed M.states (λ s. F)) t))
      start t c h = F_counts_not l (subst (λ v. So (counts l v)) (at_listed M.states (λ s. F) t c) h)

  pub falling_is : IsRelease M r q (colour_at (falling E))
  unfolding falling
  falling_is l s b = (
    release_rest M l r q (colour_at (falling E))
        (λ t c. contra (counts l (release_value M E r q (colour_at (falling E)) t)) (counts l (colour_at (falling E) t))
        (comes_to_rest (λ v. not (counts l v)) M (release_value M E r q) grows (listed M.states (λ s. T)) start t c)) s b,
    kept M (release_value M E r q) (λ board. (t : ℕ) → t < M.states → Releases M l r q t → On l (colour_at board) t)
        (λ board complete t c w. subst (λ v. So (counts l v)) (sym (at_listed M.states (release_value M E r q (colour_at board)) t c))
        (release_lower M l r q (colour_at board) complete t c w))
        M.states (listed M.states (λ s. T)) (λ t c w. all t c) s b,
  )
    where
      all : (t : ℕ) → t < M.states → So (counts l (colour_at (listed M.states (λ s. T)) t))
      all t c = subst (λ v. So (counts l v)) (sym (at_listed M.states (λ s. T) t c)) (T_counts l)

      grows : (x y : ℕ → Colour) → LitWithin (λ v. not (counts l v)) M.states x y
          → LitWithin (λ v. not (counts l v)) M.states (release_value M E r q x) (release_value M E r q y)
      grows x y h s b = uncontra (counts l (release_value M E r q x s)) (counts l (release_value M E r q y s))
          (release_grows M l r q y x (λ t c. contra (counts l (x t)) (counts l (y t)) (h t c)) s b)

      start : (t : ℕ) → t < M.states → ¬ So (not (counts l (colour_at (listed M.states (λ s. T)) t)))
      start t c h = let k = all t c in grind arith

-- what a round gives depends on the states below
until_same : (M : Model) (k : Quantifier) (r q x y : ℕ → Colour) (s : ℕ) → s < M.states → ((t : ℕ) → t < M.states → x t ≡ y t)
    → until_value M k r q x s ≡ until_value M k r q y s
until_same M k r q x y s b h = ap (λ n. join (q s) (meet (r s) n)) (next_same M k x y s b (λ t p. h t p.1))

release_same : (M : Model) (k : Quantifier) (r q x y : ℕ → Colour) (s : ℕ) → s < M.states → ((t : ℕ) → t < M.states → x t ≡ y t)
    → release_value M k r q x s ≡ release_value M k r q y s
release_same M k r q x y s b h = ap (λ n. meet (q s) (join (r s) n)) (next_same M k x y s b (λ t p. h t p.1))

module _ (M : Model) (r q : ℕ → Colour) where
  abbrev not_r : ℕ → Colour
  not_r s = negate (r s)

  abbrev not_q : ℕ → Colour
  not_q s = negate (q s)

  -- A(r U q) is E(r V q) with T and F exchanged, and A(r V q) is E(r U q)
  negated_rising : (s : ℕ) → s < M.states → colour_at (falling M not_r not_q E) s ≡ negate (colour_at (rising M r q A) s)
  unfolding rising falling
  negated_rising = negated M (until_value M A r q) (release_value M E not_r not_q) (λ x s. negate_until M x s r q)
      (release_same M E not_r not_q)
      M.states (listed M.states (λ s. F)) (listed M.states (λ s. T))
      (λ s b. at_listed M.states (λ s. T) s b ∙ ap negate (sym (at_listed M.states (λ s. F) s b)))

  negated_falling : (s : ℕ) → s < M.states → colour_at (rising M not_r not_q E) s ≡ negate (colour_at (falling M r q A) s)
  unfolding rising falling
  negated_falling = negated M (release_value M A r q) (until_value M E not_r not_q) (λ x s. negate_release M x s r q)
      (until_same M E not_r not_q)
      M.states (listed M.states (λ s. T)) (listed M.states (λ s. F))
      (λ s b. at_listed M.states (λ s. F) s b ∙ ap negate (sym (at_listed M.states (λ s. T) s b)))

  pub rising_A_is : IsRelease M not_r not_q (λ s. negate (colour_at (rising M r q A) s))
  rising_A_is l s b = subst (λ v. (So (counts l v) → Releases M l not_r not_q s) × (Releases M l not_r not_q s → So (counts l v)))
      (negated_rising s b) (falling_is M not_r not_q l s b)

  pub falling_A_is : IsUntil M not_r not_q (λ s. negate (colour_at (falling M r q A) s))
  falling_A_is l s b = subst (λ v. (So (counts l v) → Untils M l not_r not_q s) × (Untils M l not_r not_q s → So (counts l v)))
      (negated_falling s b) (rising_is M not_r not_q l s b)

module _ (M : Model) where
  -- a board that agrees with one that shows the colours
  shows_listed : (c : Colouring) (f : ℕ → Colour) → Shows M c f → Shows M c (colour_at (listed M.states f))
  shows_listed c f h s b = subst (HasColour c s) (sym (at_listed M.states f s b)) (h s b)

  mark_shows : (p s : ℕ) (v : Colour) → M.mark s p ≡ v → HasColour (mark_colouring M p) s v
  mark_shows p s T e = e
  mark_shows p s F e = e
  mark_shows p s Undecided e = ((λ i. distinct T (sym e ∙ i)), (λ i. distinct F (sym e ∙ i)))
    where
      Unknown : Colour → Type 0
      Unknown Undecided = Unit {0}
      Unknown F = ⊥
      Unknown T = ⊥

      distinct : (v : Colour) → Undecided ≡ v → Unknown v
      distinct v i = subst Unknown i tt

  next_shows : (k : Quantifier) (c : Colouring) (x : ℕ → Colour) → Consistent c → Shows M c x → Shows M (stepped M k c) (next_value M k x)
  next_shows E c x apart h = next_shown M c x apart h
  next_shows A c x apart h = unnegate_shows M (stepped M A c) (next_value M A x) (λ s b.
      subst (HasColour (E_next M (exchange c)) s) (sym (negate_next M x s))
      (next_shown M (exchange c) (λ t. negate (x t)) (λ s t f. apart s f t) (negate_shows M c x h) s b))

  module _ (cr cq : Colouring) (r q : ℕ → Colour) (shows_r : Shows M cr r) (shows_q : Shows M cq q) (apart_r : Consistent cr)
      (apart_q : Consistent cq) where
    -- the parts with T and F exchanged
    not_shows_r : Shows M (exchange cr) (λ s. negate (r s))
    not_shows_r = negate_shows M cr r shows_r

    not_shows_q : Shows M (exchange cq) (λ s. negate (q s))
    not_shows_q = negate_shows M cq q shows_q

    pair_shows : (o : Operator) → Shows M (joined M o cr cq) (colour_at (pair_board M o r q))
    unfolding rising falling
    pair_shows And = shows_listed (conjunction cr cq) (λ s. meet (r s) (q s))
        (λ s b. meet_shows cr cq s apart_r apart_q (r s) (q s) (shows_r s b) (shows_q s b))
    pair_shows Or = shows_listed (joined M Or cr cq) (λ s. join (r s) (q s))
        (unnegate_shows M (joined M Or cr cq) (λ s. join (r s) (q s)) (λ s b.
        subst (HasColour (conjunction (exchange cr) (exchange cq)) s) (sym (negate_join (r s) (q s)))
        (meet_shows (exchange cr) (exchange cq) s (λ s t f. apart_r s f t) (λ s t f. apart_q s f t) (negate (r s)) (negate (q s))
        (not_shows_r s b) (not_shows_q s b))))
    pair_shows EU = until_shown M cr cq r q (colour_at (rising M r q E)) shows_r shows_q apart_r apart_q (rising_is M r q)
    pair_shows EV = release_shown M cr cq r q (colour_at (falling M r q E)) shows_r shows_q apart_r apart_q (falling_is M r q)
    pair_shows AU = unnegate_shows M (joined M AU cr cq) (colour_at (rising M r q A))
        (release_shown M (exchange cr) (exchange cq) (λ s. negate (r s)) (λ s. negate (q s))
        (λ s. negate (colour_at (rising M r q A) s)) not_shows_r not_shows_q
        (λ s t f. apart_r s f t) (λ s t f. apart_q s f t) (rising_A_is M r q))
    pair_shows AV = unnegate_shows M (joined M AV cr cq) (colour_at (falling M r q A))
        (until_shown M (exchange cr) (exchange cq) (λ s. negate (r s)) (λ s. negate (q s))
        (λ s. negate (colour_at (falling M r q A) s)) not_shows_r not_shows_q
        (λ s t f. apart_r s f t) (λ s t f. apart_q s f t) (falling_A_is M r q))

  pub colours_shown : (f : Formula) → Shows M (colouring M f) (colour_of M f)
  unfolding colouring board_of
  colours_shown (constant true) = shows_listed true_everywhere (λ s. T) (λ s b. tt)
  colours_shown (constant false) = shows_listed (exchange true_everywhere) (λ s. F) (λ s b. tt)
  colours_shown (mark p false) = shows_listed (mark_colouring M p) (λ s. M.mark s p) (λ s b. mark_shows p s (M.mark s p) refl)
  colours_shown (mark p true) = shows_listed (exchange (mark_colouring M p)) (λ s. negate (M.mark s p))
      (negate_shows M (mark_colouring M p) (λ s. M.mark s p) (λ s b. mark_shows p s (M.mark s p) refl))
  colours_shown (next k r) = shows_listed (stepped M k (colouring M r)) (next_value M k (colour_of M r))
      (next_shows k (colouring M r) (colour_of M r) (consistent M r) (colours_shown r))
  colours_shown (pair o r q) = pair_shows (colouring M r) (colouring M q) (colour_of M r) (colour_of M q)
      (colours_shown r) (colours_shown q) (consistent M r) (consistent M q) o

pub one_colour_computed : OneColour
one_colour_computed M f s b = (colours_shown M f s b, λ v h. one_colour M f s v (colour_of M f s) h (colours_shown M f s b))

pub by_truth_order : ByTruthOrder
unfolding board_of
by_truth_order M r q s b = (
  at_listed M.states (λ s. meet (colour_of M r s) (colour_of M q s)) s b,
  at_listed M.states (λ s. join (colour_of M r s) (colour_of M q s)) s b,
  λ k. at_listed M.states (next_value M k (colour_of M r)) s b,
)
