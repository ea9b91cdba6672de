-- What a coloured board shows is what the rule means.
use Rattle.std.proofs.Common.{◌≡◌, ℕ, ◌+◌, ◌-◌, ◌<◌, ◌≤◌, Bool, true, false, cond, not, eqb, ◌⊎◌, List, length, Some, None, Option, sym, refl, ap, ◌∙◌, subst, subst₂, inl, inr, arith}
use native.Mathlib.Decide.{dec_lt}
use Rattle.std.proofs.lemmas.Bool.{true≢false, false≢true, not-true, not_from_false, false_from_ne_true}
use Rattle.std.proofs.lemmas.Option.{cond_some}
use Rattle.systems.specs.declared.kinds.Step.{Step}
use Rattle.systems.specs.declared.kinds.Step.TheVariants.{Absent, Unsure, Sure}
use Rattle.systems.specs.declared.kinds.Colour.{Colour}
use Rattle.systems.specs.declared.kinds.Colour.TheVariants.{Undecided, F, T}
use Rattle.systems.specs.Model.{Model, Possibly}
use Rattle.systems.specs.Numbers.{colour_number, colour_from}
use Rattle.std.specs.Prelude.{slice_index}
use Rattle.rules.specs.declared.syntax.Quantifier.{Quantifier}
use Rattle.rules.specs.declared.syntax.Quantifier.TheVariants.{A, E}
use Rattle.rules.specs.declared.syntax.Operator.{Operator}
use Rattle.rules.specs.declared.syntax.Operator.TheVariants.{And, Or, AU, AV, EU, EV}
use Rattle.rules.specs.declared.syntax.Clause.{Clause}
use Rattle.rules.specs.declared.syntax.Clause.TheVariants.{Constant, Mark, Next as next_clause, Pair}
use Rattle.rules.specs.Clauses.{PartsBelow, WellFounded, tree, formula}
use Rattle.colours.specs.declared.chains.Position.{Position}
use Rattle.colours.specs.declared.chains.Reason.{Reason}
use Rattle.colours.specs.declared.chains.Reason.TheVariants.{UnknownMark, UnsureStep}
use Rattle.colours.specs.Boards.{Coloured, place}
use Rattle.colours.specs.Colours.{colouring, HasColour}
use Rattle.colours.specs.Values.{colour_of}
use Rattle.colours.specs.Chains.{clause_at, Looks, Shown, Awaited, colours, Open, Follows, EndsInStep, Ends}
use Rattle.colours.proofs.Computed.{colours_shown}
use Rattle.colours.proofs.Consistency.{one_colour}
use Rattle.colours.proofs.Numbered.{formula_tree}
use Rattle.colours.proofs.Numbers.{colour_back, same_colour}
use Rattle.colours.proofs.Causes.{unknown_mark}
use Rattle.engine.specs.declared.cause.looking.Finding.{Finding}
use Rattle.engine.specs.declared.cause.looking.Finding.TheVariants.{End, Next}
use Rattle.engine.specs.search.Looks.{shown_at, is_shown, opened, awaited, leads_across, sought_by, here, stepped, across, looks_of, look_of}
use Rattle.engine.specs.search.Searches.{Inside, Passed, Seen}
use Rattle.engine.proofs.Looks.{shown_same, same_shown, look_here, look_across, look_to, looks_to, two_looks, Opens, here_next, here_end, stepped_next, stepped_end}

not_false : (b : Bool) → ¬ (b ≡ true) → not b ≡ true
not_false b h = not_from_false b (false_from_ne_true b h)

not_true : (b : Bool) → not b ≡ true → ¬ (b ≡ true)
not_true b h e = true≢false (sym e ∙ not-true b h)

module _ (M : Model) (cs : List Clause) (board : List ℕ) (coloured : Coloured M cs board) where
  module _ (g c : ℕ) (low : g < M.states) (few : c < length cs) where
    abbrev byte : ℕ
    byte = slice_index board (place (length cs) g c)

    abbrev seen : Option Colour
    seen = shown_at (length cs) board g c

    coloured_at : HasColour (colours M cs c) g (colour_of M (formula cs c) g)
    coloured_at = colours_shown M (formula cs c) g low

    -- the byte of a position tells its colour
    pub colour_byte : (v : Colour) → HasColour (colours M cs c) g v → byte ≡ colour_number v
    colour_byte v h = coloured.shows g c low few ∙ ap colour_number (one_colour M (formula cs c) g (colour_of M (formula cs c) g) v coloured_at h)

    -- what is shown at a position is its colour
    pub colour_shown : (v : Colour) → HasColour (colours M cs c) g v → seen ≡ Some v
    colour_shown v h = ap colour_from (colour_byte v h) ∙ colour_back v

    seen_is : seen ≡ Some (colour_of M (formula cs c) g)
    seen_is = colour_shown (colour_of M (formula cs c) g) coloured_at

    pub byte_colour : (v : Colour) → byte ≡ colour_number v → HasColour (colours M cs c) g v
    byte_colour v e =
        subst (HasColour (colours M cs c) g) (same_colour (colour_of M (formula cs c) g) v (sym (coloured.shows g c low few) ∙ e)) coloured_at

    pub shown_colour : (v : Colour) → seen ≡ Some v → HasColour (colours M cs c) g v
    shown_colour v e =
        let same : colour_of M (formula cs c) g ≡ v = cc seen_is in
        byte_colour v (coloured.shows g c low few ∙ ap colour_number same)

    test_colour : (v : Colour) → is_shown v seen ≡ true → HasColour (colours M cs c) g v
    test_colour v h = shown_colour v (shown_same v seen h)

    colour_test : (v : Colour) → HasColour (colours M cs c) g v → is_shown v seen ≡ true
    colour_test v h = same_shown v seen (colour_shown v h)

    looks_sound : (o : Operator) → leads_across o seen ≡ true → Looks o (colours M cs c) g
    looks_sound And h = absurd (false≢true h)
    looks_sound Or h = absurd (false≢true h)
    looks_sound AU h = λ k. not_true _ h (colour_test F k)
    looks_sound EU h = λ k. not_true _ h (colour_test F k)
    looks_sound AV h = λ k. not_true _ h (colour_test T k)
    looks_sound EV h = λ k. not_true _ h (colour_test T k)

    looks_complete : (o : Operator) → Looks o (colours M cs c) g → leads_across o seen ≡ true
    looks_complete And h = absurd h
    looks_complete Or h = absurd h
    looks_complete AU h = not_false _ (λ e. h (test_colour F e))
    looks_complete EU h = not_false _ (λ e. h (test_colour F e))
    looks_complete AV h = not_false _ (λ e. h (test_colour T e))
    looks_complete EV h = not_false _ (λ e. h (test_colour T e))

    not_T : ¬ (is_shown T seen ≡ true) → (colours M cs c).is_F g ⊎ HasColour (colours M cs c) g Undecided
    not_T n = go (colour_of M (formula cs c) g) coloured_at
      where
        go : (v : Colour) → HasColour (colours M cs c) g v → (colours M cs c).is_F g ⊎ HasColour (colours M cs c) g Undecided
        go Undecided h = inr h
        go F h = inl h
        go T h = absurd (n (colour_test T h))

    not_F : ¬ (is_shown F seen ≡ true) → (colours M cs c).is_T g ⊎ HasColour (colours M cs c) g Undecided
    not_F n = go (colour_of M (formula cs c) g) coloured_at
      where
        go : (v : Colour) → HasColour (colours M cs c) g v → (colours M cs c).is_T g ⊎ HasColour (colours M cs c) g Undecided
        go Undecided h = inr h
        go F h = absurd (n (colour_test F h))
        go T h = inl h

    shown_sound : (k : Quantifier) (r : ℕ) → awaited (next_clause k r) seen ≡ true → Shown k (colours M cs c) g
    shown_sound A r h = test_colour F h
    shown_sound E r h = test_colour T h

    shown_complete : (k : Quantifier) (r : ℕ) → Shown k (colours M cs c) g → awaited (next_clause k r) seen ≡ true
    shown_complete A r h = colour_test F h
    shown_complete E r h = colour_test T h

    awaited_sound : (o : Operator) (r q : ℕ) → awaited (Pair o r q) seen ≡ true → Awaited o (colours M cs c) g
    awaited_sound And r q h = absurd (false≢true h)
    awaited_sound Or r q h = absurd (false≢true h)
    awaited_sound AV r q h = test_colour F h
    awaited_sound EU r q h = test_colour T h
    awaited_sound AU r q h = not_T (not_true _ h)
    awaited_sound EV r q h = not_F (not_true _ h)

    awaited_complete : (o : Operator) (r q : ℕ) → Awaited o (colours M cs c) g → awaited (Pair o r q) seen ≡ true
    awaited_complete And r q h = absurd h
    awaited_complete Or r q h = absurd h
    awaited_complete AV r q h = colour_test F h
    awaited_complete EU r q h = colour_test T h
    awaited_complete AU r q (inl h) = ap (λ o. not (is_shown T o)) (colour_shown F h)
    awaited_complete AU r q (inr h) = ap (λ o. not (is_shown T o)) (colour_shown Undecided h)
    awaited_complete EV r q (inl h) = ap (λ o. not (is_shown F o)) (colour_shown T h)
    awaited_complete EV r q (inr h) = ap (λ o. not (is_shown F o)) (colour_shown Undecided h)

  -- what stands open on the board is undecided
  opens_open : (g c : ℕ) (n : Position) → g < M.states → c < length cs → Opens (length cs) board g c n → Open M cs n
  opens_open g c n low few o = subst (Open M cs) (sym o.0) (low, few, shown_colour g c low few Undecided o.1)

  open_shown_at : (n : Position) → Open M cs n → shown_at (length cs) board n.group n.clause ≡ Some Undecided
  open_shown_at n o = colour_shown n.group n.clause o.0 o.1 Undecided o.2

-- the looks from p, which has the clause c
module _ (M : Model) (cs : List Clause) (board : List ℕ) (p : Position) (c : Clause) where
  abbrev sought : Option ℕ
  sought = sought_by (length cs) board p c

  abbrev shows : ℕ → Option Finding
  shows k = look_of M (length cs) board p c sought k

  -- where a clause is sought, a look goes across the step to t
  sought_look : (h t : ℕ) → sought ≡ Some h → t < M.states
      → (k : ℕ) × (k < looks_of M sought) × (shows k ≡ stepped (length cs) board p c h t (M.step p.group t))
  sought_look h t e low = (t + 2, omega (arith, looks_to M sought h e), look_to M (length cs) board p c sought h t e)

module _ (M : Model) (cs : List Clause) (board : List ℕ) (coloured : Coloured M cs board) (p : Position)
    (inside : Inside M.states (length cs) p) where
  abbrev C : ℕ
  C = length cs

  -- what is sought across a step may follow
  sought_sound : (c : Clause) → PartsBelow p.clause c → (h : ℕ) → sought M cs board p c ≡ Some h
      → (h < C) × ((t : ℕ) → Possibly M p.group t → Follows M cs c p.clause p.group h t)
  sought_sound (Constant v) u h e = cc
  sought_sound (Mark m negated) u h e = cc
  sought_sound (next_clause k r) u h e = let i : r ≡ h = cc in (omega (arith, i, u, inside.1), λ t w. (sym i, w))
  sought_sound (Pair o r q) u h e =
      let i = cond_some (leads_across o (shown_at C board p.group r)) p.clause h e in (
        omega (arith, i.1, inside.1),
        λ t w. inr (sym i.1, looks_sound M cs board coloured p.group r inside.0 (omega (arith, u.0, inside.1)) o i.0, w),
      )

  -- an unsure step to what is awaited ends a chain
  awaited_ends : (c : Clause) → PartsBelow p.clause c → (h t : ℕ) → sought M cs board p c ≡ Some h → t < M.states
      → M.step p.group t ≡ Unsure → awaited c (shown_at C board t h) ≡ true → EndsInStep M cs c p.clause p.group t
  awaited_ends (Constant v) u h t e low s a = cc
  awaited_ends (Mark m negated) u h t e low s a = cc
  awaited_ends (next_clause k r) u h t e low s a =
      let b = subst (λ x. awaited (next_clause k r) (shown_at C board t x) ≡ true) (let i : h ≡ r = cc in i) a in
      ((inside.0, low, s), shown_sound M cs board coloured t r low (omega (arith, u, inside.1)) k r b)
  awaited_ends (Pair o r q) u h t e low s a =
      let i = cond_some (leads_across o (shown_at C board p.group r)) p.clause h e in
      let b = subst (λ x. awaited (Pair o r q) (shown_at C board t x) ≡ true) (sym i.1) a in (
        (inside.0, low, s),
        looks_sound M cs board coloured p.group r inside.0 (omega (arith, u.0, inside.1)) o i.0,
        awaited_sound M cs board coloured t p.clause low inside.1 o r q b,
      )

  module _ (c : Clause) (parts : PartsBelow p.clause c) where
    -- n may follow and is undecided
    abbrev Sound : Position → Type 0
    Sound n = Follows M cs c p.clause p.group n.clause n.group × Open M cs n

    pub next_sound : (k : ℕ) (n : Position) → k < looks_of M (sought M cs board p c) → shows M cs board p c k ≡ Some (Next n) → Sound n
    next_sound k n low e = elim (dec_lt k 2) [
      | yes h ↦ within (here_next C board p c (eqb k 0) n (sym (look_here M C board p c (sought M cs board p c) k h) ∙ e))
      | no h ↦ beyond (omega arith) (sought M cs board p c) refl low
          (sym (look_across M C board p c (sought M cs board p c) k (omega arith)) ∙ e)
    ]
      where
        part : (o : Operator) (r q : ℕ) → c ≡ Pair o r q → (first : Bool) → Opens C board p.group (cond first r q) n → Sound n
        part o r q i first s =
            let u : PartsBelow p.clause (Pair o r q) = subst (PartsBelow p.clause) i parts in (
              subst (λ x. Follows M cs x p.clause p.group n.clause n.group) (sym i)
                  (inl (which first (ap (λ x. x.clause) s.0), ap (λ x. x.group) s.0)),
              opens_open M cs board coloured p.group (cond first r q) n inside.0 (few first u) s,
            )
          where
            which : (first : Bool) → n.clause ≡ cond first r q → (n.clause ≡ r) ⊎ (n.clause ≡ q)
            which true x = inl x
            which false x = inr x

            few : (first : Bool) → PartsBelow p.clause (Pair o r q) → cond first r q < length cs
            few true u = omega (arith, u.0, inside.1)
            few false u = omega (arith, u.1, inside.1)

        within : ((o : _) × (r : ℕ) × (q : ℕ) × (c ≡ Pair o r q) × Opens C board p.group (cond (eqb k 0) r q) n) → Sound n
        within s = part s.0 s.1 s.2 s.3 (eqb k 0) s.4

        beyond : 2 ≤ k → (o : Option ℕ) → sought M cs board p c ≡ o → k < looks_of M o → across M C board p c o (k - 2) ≡ Some (Next n) → Sound n
        beyond two None i l f = cc
        beyond two (Some h) i l f =
            let t = k - 2 in
            let s = stepped_next C board p c h t (M.step p.group t) n f in
            let a = sought_sound c parts h i in
            let b : t < M.states = omega arith in (
              subst (λ x. Follows M cs c p.clause p.group x.clause x.group) (sym s.1.0) (a.1 t (inside.0, b, s.0)),
              opens_open M cs board coloured t h n b a.0 s.1,
            )

    pub end_sound : WellFounded cs → c ≡ clause_at cs p.clause → Open M cs p → (k : ℕ) (r : Reason) → k < looks_of M (sought M cs board p c)
        → shows M cs board p c k ≡ Some (End r) → Ends M cs p r
    end_sound founded is o k r low e = elim (dec_lt k 2) [
      | yes h ↦ at_mark (here_end C board p c (eqb k 0) r (sym (look_here M C board p c (sought M cs board p c) k h) ∙ e))
      | no h ↦ at_step (omega arith) (sought M cs board p c) refl low
          (sym (look_across M C board p c (sought M cs board p c) k (omega arith)) ∙ e)
    ]
      where
        at_mark : ((m : ℕ) × (negated : Bool) × (c ≡ Mark m negated) × (r ≡ UnknownMark p.group m)) → Ends M cs p r
        at_mark s =
            let i : clause_at cs p.clause ≡ Mark s.0 s.1 = sym is ∙ s.2 in
            let f = formula_tree cs founded p.clause inside.1 ∙ ap (tree (formula cs)) i in
            let u = unknown_mark M p.group s.0 s.1 (subst (λ x. HasColour (colouring M x) p.group Undecided) f o.2) in
            subst (Ends M cs p) (sym s.3) (refl, u, (s.1, i))

        at_step : 2 ≤ k → (o : Option ℕ) → sought M cs board p c ≡ o → k < looks_of M o → across M C board p c o (k - 2) ≡ Some (End r) → Ends M cs p r
        at_step two None i l f = cc
        at_step two (Some h) i l f =
            let t = k - 2 in
            let s = stepped_end C board p c h t (M.step p.group t) r f in
            subst (Ends M cs p) (sym s.2)
            (refl, subst (λ x. EndsInStep M cs x p.clause p.group t) is (awaited_ends c parts h t i (omega arith) s.0 s.1))

  -- what was shown, or an end in its place, is passed only where it was seen
  opened_passed : (g h : ℕ) → shown_at C board g h ≡ Some Undecided → (table : List (Option Position)) → Passed C table (opened C board g h)
      → Seen C table (record { group = g; clause = h })
  opened_passed g h e table s =
      subst (λ b. Passed C table (cond b (Some (Next (record { group = g; clause = h }))) None)) (same_shown Undecided (shown_at C board g h) e) s

  stepped_passed : (c : Clause) (h t : ℕ) (k : Step) → ¬ (k ≡ Absent) → shown_at C board t h ≡ Some Undecided → (table : List (Option Position))
      → Passed C table (stepped C board p c h t k) → Seen C table (record { group = t; clause = h })
  stepped_passed c h t Absent n e table s = absurd (n refl)
  stepped_passed c h t Unsure n e table s = go (awaited c (shown_at C board t h)) s
    where
      go : (b : Bool) → Passed C table (cond b (Some (End (UnsureStep p.group t))) (opened C board t h)) → Seen C table (record { group = t; clause = h })
      go true x = absurd x
      go false x = opened_passed t h e table x
  stepped_passed c h t Sure n e table s = opened_passed t h e table s

  -- some look is passed only where n was seen
  abbrev ShownNext : Clause → Position → Type 0
  ShownNext c n =
      (k : ℕ) × (k < looks_of M (sought M cs board p c))
      × ((table : List (Option Position)) → Passed C table (shows M cs board p c k) → Seen C table n)

  across_shown : (c : Clause) (n : Position) → sought M cs board p c ≡ Some n.clause → Possibly M p.group n.group → Open M cs n → ShownNext c n
  across_shown c n e w o =
      let l = sought_look M cs board p c n.clause n.group e w.1 in (
        l.0,
        l.1,
        λ table s. stepped_passed c n.clause n.group (M.step p.group n.group) w.2 (open_shown_at M cs board coloured n o) table
            (subst (Passed C table) l.2 s),
      )

  part_shown : (o : Operator) (r q : ℕ) (n : Position) (k : ℕ) → k < 2 → n.clause ≡ cond (eqb k 0) r q → n.group ≡ p.group → Open M cs n
      → ShownNext (Pair o r q) n
  part_shown o r q n k low e f u = (
    k,
    omega (arith, two_looks M (sought M cs board p (Pair o r q))),
    λ table s. opened_passed n.group n.clause (open_shown_at M cs board coloured n u) table
        (subst₂ (λ g h. Passed C table (opened C board g h)) (sym f) (sym e)
        (subst (Passed C table) (look_here M C board p (Pair o r q) (sought M cs board p (Pair o r q)) k low) s)),
  )

  pub next_complete : (c : Clause) → PartsBelow p.clause c → (n : Position) → Follows M cs c p.clause p.group n.clause n.group
      → Open M cs n → ShownNext c n
  next_complete (Constant v) u n f o = absurd f
  next_complete (Mark m negated) u n f o = absurd f
  next_complete (next_clause k r) u n f o = across_shown (next_clause k r) n (ap Some (sym f.0)) f.1 o
  next_complete (Pair x r q) u n (inl (inl e, f)) o = part_shown x r q n 0 (omega arith) e f o
  next_complete (Pair x r q) u n (inl (inr e, f)) o = part_shown x r q n 1 (omega arith) e f o
  next_complete (Pair x r q) u n (inr f) o =
      let l = looks_complete M cs board coloured p.group r inside.0 (omega (arith, u.0, inside.1)) x f.1 in
      across_shown (Pair x r q) n (ap (λ b. cond b (Some p.clause) None) l ∙ ap Some (sym f.0)) f.2 o

  -- some look is never passed
  abbrev ShownEnd : Clause → Type 0
  ShownEnd c =
      (k : ℕ) × (k < looks_of M (sought M cs board p c)) × ((table : List (Option Position)) → ¬ Passed C table (shows M cs board p c k))

  across_end : (c : Clause) (h t : ℕ) → sought M cs board p c ≡ Some h → t < M.states → M.step p.group t ≡ Unsure
      → awaited c (shown_at C board t h) ≡ true → ShownEnd c
  across_end c h t e low s a =
      let l = sought_look M cs board p c h t e low in (
        l.0,
        l.1,
        λ table x. subst (λ b. Passed C table (cond b (Some (End (UnsureStep p.group t))) (opened C board t h))) a
            (subst (λ k. Passed C table (stepped C board p c h t k)) s (subst (Passed C table) l.2 x)),
      )

  step_shown : (c : Clause) → PartsBelow p.clause c → (t : ℕ) → EndsInStep M cs c p.clause p.group t → ShownEnd c
  step_shown (Constant v) u t e = absurd e
  step_shown (Mark m negated) u t e = absurd e
  step_shown (next_clause k r) u t e =
      across_end (next_clause k r) r t refl e.0.1 e.0.2
      (shown_complete M cs board coloured t r e.0.1 (omega (arith, u, inside.1)) k r e.1)
  step_shown (Pair o r q) u t e =
      let l = looks_complete M cs board coloured p.group r inside.0 (omega (arith, u.0, inside.1)) o e.1 in
      across_end (Pair o r q) p.clause t (ap (λ b. cond b (Some p.clause) None) l) e.0.1 e.0.2
      (awaited_complete M cs board coloured t p.clause e.0.1 inside.1 o r q e.2)

  mark_shown : (c : Clause) (m : ℕ) (negated : Bool) → c ≡ Mark m negated → ShownEnd c
  mark_shown c m negated e = (
    0,
    omega (arith, two_looks M (sought M cs board p c)),
    λ table s. subst (λ x. Passed C table (here C board p x true)) e
        (subst (Passed C table) (look_here M C board p c (sought M cs board p c) 0 (omega arith)) s),
  )

  pub end_complete : WellFounded cs → (r : Reason) → Ends M cs p r → ShownEnd (clause_at cs p.clause)
  end_complete founded (UnknownMark g m) e = mark_shown (clause_at cs p.clause) m e.2.0 e.2.1
  end_complete founded (UnsureStep g t) e =
      step_shown (clause_at cs p.clause) (founded p.clause inside.1) t
      (subst (λ x. EndsInStep M cs (clause_at cs p.clause) p.clause x t) e.0 e.1)
