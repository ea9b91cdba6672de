-- A pass over columns, with T and F exchanged or not, writes the colours of a clause.
use Rattle.std.proofs.Common.{◌≡◌, ℕ, zero, suc, ◌<◌, ◌≤◌, Bool, true, false, not, ◌⊎◌, List, get_or, sym, refl, ap, ◌∙◌, subst, ap₂, inl, inr, arith}
use Rattle.systems.specs.declared.kinds.Colour.{Colour}
use Rattle.systems.specs.declared.kinds.Colour.TheVariants.{F, T}
use Rattle.systems.specs.Model.{Model}
use Rattle.systems.specs.Numbers.{colour_number}
use Rattle.rules.specs.declared.syntax.Quantifier.{Quantifier}
use Rattle.rules.specs.declared.syntax.Quantifier.TheVariants.{A, E}
use Rattle.rules.specs.declared.syntax.Operator.{Operator}
use Rattle.rules.specs.declared.syntax.Operator.TheVariants.{And, Or, AU, AV, EU, EV}
use Rattle.rules.specs.declared.syntax.Clause.TheVariants.{Constant, Mark, Next, Pair}
use Rattle.rules.specs.Formulas.{Formula, constant, mark, next, pair}
use Rattle.colours.specs.Colours.{Colouring, exchange, E_until, E_release, HasColour, colouring}
use Rattle.colours.specs.Levels.{IsUntil, IsRelease}
use Rattle.colours.specs.Values.{join, meet, negate, next_value, board_of, colour_of}
use Rattle.colours.proofs.Boards as boards
use Rattle.colours.proofs.Computed.{colours_shown, one_colour_computed, by_truth_order}
use Rattle.colours.proofs.Consistency.{Consistent, consistent}
use Rattle.colours.proofs.Levels.{negate_join, negate_negate}
use Rattle.colours.proofs.Rounds.{at_listed}
use Rattle.colours.proofs.Shown.{Shows, negate_shows, unnegate_shows, until_shown, release_shown}
use Rattle.colouring.specs.declared.columns.Columns.{Columns}
use Rattle.colouring.specs.passes.Bytes.{decode, flipped}
use Rattle.colouring.specs.passes.Columns.{cell, column, Fits, Clean, Written, throughout, marked, met}
use Rattle.colouring.specs.passes.Clauses.{over_all, turned, ShowsRule, ShowsClause}
use Rattle.colouring.proofs.Placing.{number_decodes}

-- the operators that a pass is for, and the quantifiers
abbrev meet_by : Bool → Operator
meet_by true = Or
meet_by false = And

abbrev until_by : Bool → Operator
until_by true = AV
until_by false = EU

abbrev release_by : Bool → Operator
release_by true = AU
release_by false = EV

abbrev next_by : Bool → Quantifier
next_by true = A
next_by false = E

module _ (o : Operator) (f : Bool) (is : f ≡ turned o) where
  pub by_meet : (o ≡ And) ⊎ (o ≡ Or) → meet_by f ≡ o
  by_meet (inl e) = ap meet_by (is ∙ ap turned e) ∙ sym e
  by_meet (inr e) = ap meet_by (is ∙ ap turned e) ∙ sym e

  pub by_until : (o ≡ EU) ⊎ (o ≡ AV) → until_by f ≡ o
  by_until (inl e) = ap until_by (is ∙ ap turned e) ∙ sym e
  by_until (inr e) = ap until_by (is ∙ ap turned e) ∙ sym e

  pub by_release : (o ≡ EV) ⊎ (o ≡ AU) → release_by f ≡ o
  by_release (inl e) = ap release_by (is ∙ ap turned e) ∙ sym e
  by_release (inr e) = ap release_by (is ∙ ap turned e) ∙ sym e

pub by_next : (q : Quantifier) (f : Bool) → f ≡ over_all q → next_by f ≡ q
by_next A f is = ap next_by is
by_next E f is = ap next_by is

-- the colours that are written for a rule
module _ (M : Model) (s : ℕ) (h : s < M.states) where
  constant_colour : (v : Bool) → flipped (not v) T ≡ colour_of M (constant v) s
  unfolding board_of
  constant_colour true = sym (at_listed M.states (λ s. T) s h)
  constant_colour false = sym (at_listed M.states (λ s. F) s h)

  mark_colour : (m : ℕ) (f : Bool) → flipped f (M.mark s m) ≡ colour_of M (mark m f) s
  unfolding board_of
  mark_colour m true = sym (at_listed M.states (λ s. negate (M.mark s m)) s h)
  mark_colour m false = sym (at_listed M.states (λ s. M.mark s m) s h)

  meet_colour : (f : Bool) (r q : Formula) → flipped f (meet (flipped f (colour_of M r s)) (flipped f (colour_of M q s))) ≡ colour_of M (pair (meet_by f) r q) s
  meet_colour true r q =
      ap negate (sym (negate_join (colour_of M r s) (colour_of M q s))) ∙ negate_negate (join (colour_of M r s) (colour_of M q s)) ∙ sym (by_truth_order M r q s h).1
  meet_colour false r q = sym (by_truth_order M r q s h).0

  next_colour : (f : Bool) (r : Formula) → flipped f (next_value M E (λ t. flipped f (colour_of M r t)) s) ≡ colour_of M (next (next_by f) r) s
  next_colour true r =
      ap negate (sym (boards.negate_next M (colour_of M r) s)) ∙ negate_negate (next_value M A (colour_of M r) s) ∙ sym ((by_truth_order M r r s h).2 A)
  next_colour false r = sym ((by_truth_order M r r s h).2 E)

-- a colouring with T and F exchanged, or not
abbrev turning : Bool → Colouring → Colouring
turning true c = exchange c
turning false c = c

there : (f : Bool) (M : Model) (c : Colouring) (x : ℕ → Colour) → Shows M c x → Shows M (turning f c) (λ s. flipped f (x s))
there true M c x h = negate_shows M c x h
there false M c x h = h

back : (f : Bool) (M : Model) (c : Colouring) (x : ℕ → Colour) → Shows M c (λ s. flipped f (x s)) → Shows M (turning f c) x
back true M c x h = unnegate_shows M (exchange c) x h
back false M c x h = h

turning_consistent : (f : Bool) (c : Colouring) → Consistent c → Consistent (turning f c)
turning_consistent true c h = λ s t g. h s g t
turning_consistent false c h = h

-- the colours of E(r U q) and E(r V q) where f is false, those of A(r V q) and A(r U q) where it is true
as_until : (M : Model) (f : Bool) (r q : Formula) (y : ℕ → Colour)
    → Shows M (turning f (E_until M (turning f (colouring M r)) (turning f (colouring M q)))) y → Shows M (colouring M (pair (until_by f) r q)) y
unfolding colouring
as_until M true r q y h = h
as_until M false r q y h = h

as_release : (M : Model) (f : Bool) (r q : Formula) (y : ℕ → Colour)
    → Shows M (turning f (E_release M (turning f (colouring M r)) (turning f (colouring M q)))) y → Shows M (colouring M (pair (release_by f) r q)) y
unfolding colouring
as_release M true r q y h = h
as_release M false r q y h = h

-- a byte that stands for a colour is that colour's number
number_again : (n : ℕ) → n ≤ 2 → n ≡ colour_number (decode n)
number_again zero h = refl
number_again (suc zero) h = refl
number_again (suc (suc zero)) h = refl
number_again (suc (suc (suc n))) h = absurd (let i = h in omega arith)

module _ (M : Model) (p : Columns) (b b' : List ℕ) (states : p.states ≡ M.states) where
  -- a column of a part
  part_column : (c : ℕ) (f : Formula) → ShowsRule M b p.clauses c f → (s : ℕ) → s < M.states → column p b c s ≡ flipped p.negated (colour_of M f s)
  part_column c f shows s h = ap (flipped p.negated) (ap decode (shows s h) ∙ number_decodes false (colour_of M f s))

  pub constant_clause : (v : Bool) → p.negated ≡ not v → Written p b b' (throughout T) → ShowsClause M p.clauses p.whole (Constant v) b b'
  constant_clause v e w known part shows s h =
      w.bytes s (omega arith) ∙ ap colour_number (ap (λ f. flipped f T) e ∙ constant_colour M s h v)

  pub mark_clause : (m : ℕ) (f : Bool) → p.negated ≡ f → (m < M.marks → Written p b b' (marked M m)) → ShowsClause M p.clauses p.whole (Mark m f) b b'
  mark_clause m f e w known part shows s h =
      (w known).bytes s (omega arith) ∙ ap colour_number (ap (λ f. flipped f (M.mark s m)) e ∙ mark_colour M s h m f)

  module _ (fit : Fits p b) where
    pub meet_clause : Written p b b' (met p b) → ShowsClause M p.clauses p.whole (Pair (meet_by p.negated) p.left p.right) b b'
    meet_clause w known part shows s h =
        w.bytes s (omega arith) ∙ ap (λ v. colour_number (flipped p.negated v))
        (ap₂ meet (part_column p.left (part p.left) (shows p.left fit.order.left) s h) (part_column p.right (part p.right) (shows p.right fit.order.right) s h))
        ∙ ap colour_number (meet_colour M s h p.negated (part p.left) (part p.right))

    pub next_clause : Written p b b' (next_value M E (column p b p.left)) → ShowsClause M p.clauses p.whole (Next (next_by p.negated) p.left) b b'
    next_clause w known part shows s h =
        w.bytes s (omega arith) ∙ ap (λ v. colour_number (flipped p.negated v))
        (boards.next_same M E (column p b p.left) (λ t. flipped p.negated (colour_of M (part p.left) t)) s h
        (λ t k. part_column p.left (part p.left) (shows p.left fit.order.left) t k.1))
        ∙ ap colour_number (next_colour M s h p.negated (part p.left))

    -- the bytes of the clause's column as colours
    abbrev shown : ℕ → Colour
    shown s = decode (get_or b' (cell p p.whole s) 0)

    -- a column that shows the colours of a rule has them as bytes
    as_bytes : Clean p b' → (f : Formula) → Shows M (colouring M f) shown → ShowsRule M b' p.clauses p.whole f
    as_bytes clean f shows s h =
        number_again (get_or b' (cell p p.whole s) 0) (clean s (omega arith)) ∙ ap colour_number ((one_colour_computed M f s h).1 (shown s) (shows s h))

    module _ (f : Formula) where
      part_shows : (c : ℕ) → ShowsRule M b p.clauses c f → Shows M (turning p.negated (colouring M f)) (column p b c)
      part_shows c h = there p.negated M (colouring M f) (λ s. decode (get_or b (cell p c s) 0)) (λ s k.
          subst (HasColour (colouring M f) s) (sym (ap decode (h s k) ∙ number_decodes false (colour_of M f s))) (colours_shown M f s k))

      part_consistent : Consistent (turning p.negated (colouring M f))
      part_consistent = turning_consistent p.negated (colouring M f) (consistent M f)

    pub until_clause : IsUntil M (column p b p.left) (column p b p.right) (column p b' p.whole) → Clean p b'
        → ShowsClause M p.clauses p.whole (Pair (until_by p.negated) p.left p.right) b b'
    until_clause is clean known part shows =
        let fr = part p.left in
        let fq = part p.right in
        let cr = turning p.negated (colouring M fr) in
        let cq = turning p.negated (colouring M fq) in
        as_bytes clean (pair (until_by p.negated) fr fq) (as_until M p.negated fr fq shown (back p.negated M (E_until M cr cq) shown
        (until_shown M cr cq (column p b p.left) (column p b p.right) (column p b' p.whole)
        (part_shows fr p.left (shows p.left fit.order.left)) (part_shows fq p.right (shows p.right fit.order.right))
        (part_consistent fr) (part_consistent fq) is)))

    pub release_clause : IsRelease M (column p b p.left) (column p b p.right) (column p b' p.whole) → Clean p b'
        → ShowsClause M p.clauses p.whole (Pair (release_by p.negated) p.left p.right) b b'
    release_clause is clean known part shows =
        let fr = part p.left in
        let fq = part p.right in
        let cr = turning p.negated (colouring M fr) in
        let cq = turning p.negated (colouring M fq) in
        as_bytes clean (pair (release_by p.negated) fr fq) (as_release M p.negated fr fq shown (back p.negated M (E_release M cr cq) shown
        (release_shown M cr cq (column p b p.left) (column p b p.right) (column p b' p.whole)
        (part_shows fr p.left (shows p.left fit.order.left)) (part_shows fq p.right (shows p.right fit.order.right))
        (part_consistent fr) (part_consistent fq) is)))
