-- What the tests of a grouping decide.
use Rattle.std.proofs.Common.{◌≡◌, ℕ, zero, suc, ◌<◌, Bool, true, false, cond, ◌&&◌, ◌||◌, eqb, Decides, sym, refl, ◌∙◌, inl, inr, arith}
use Rattle.std.proofs.lemmas.Bool.Decides.{Decides-eqb, Decides-like, Decides-and, Decides-below_and, Decides-below_or, not_from_Decides}
use Rattle.std.proofs.lemmas.Bool.{and_cases}
use Rattle.systems.specs.declared.kinds.Step.{Step}
use Rattle.systems.specs.declared.kinds.Step.TheVariants.{Absent, Unsure, Sure}
use Rattle.systems.specs.declared.kinds.Colour.{Colour}
use Rattle.systems.specs.declared.kinds.Colour.TheVariants.{Undecided, F, T}
use Rattle.systems.specs.Model.{Model}
use Rattle.systems.specs.Below.{all_below, any_below}
use Rattle.colours.specs.Groupings.{is_sure, is_absent, is_true, is_false, surer, surest, Member, step_into, strength, if_member, every_member, sure_into, absent_into, true_at, false_at, start_in, group_step, group_mark, group_start}

-- the tests of a step and of a colour
decides_sure : (k : Step) → Decides (is_sure k) (k ≡ Sure)
decides_sure k = (λ e. grind arith, λ e. grind arith)

decides_absent : (k : Step) → Decides (is_absent k) (k ≡ Absent)
decides_absent k = (λ e. grind arith, λ e. grind arith)

decides_true : (c : Colour) → Decides (is_true c) (c ≡ T)
decides_true c = (λ e. grind arith, λ e. grind arith)

decides_false : (c : Colour) → Decides (is_false c) (c ≡ F)
decides_false c = (λ e. grind arith, λ e. grind arith)

-- the surest of steps is sure if one is, and absent if all are
sure_or : (a b : Step) → is_sure (surer a b) ≡ (is_sure b || is_sure a)
sure_or a b = grind arith

absent_and : (a b : Step) → is_absent (surer a b) ≡ (is_absent b && is_absent a)
absent_and a b = grind arith

surest_sure : (step : ℕ → Step) (n : ℕ) → Decides (is_sure (surest step n)) ((t : ℕ) × (t < n) × (step t ≡ Sure))
surest_sure step n = Decides-below_or (λ t. is_sure (step t)) (λ t. step t ≡ Sure) (λ n. is_sure (surest step n))
    (λ t. decides_sure (step t)) refl (λ n. sure_or (surest step n) (step n)) n

surest_absent : (step : ℕ → Step) (n : ℕ) → Decides (is_absent (surest step n)) ((t : ℕ) → t < n → step t ≡ Absent)
surest_absent step n =
    Decides-below_and (λ t. is_absent (step t)) (λ t. step t ≡ Absent) (λ n. is_absent (surest step n)) (λ t. decides_absent (step t)) refl
    (λ n. absent_and (surest step n) (step n)) n

-- a test that is put to members only
decides_if : {P Q : Type 0} (a b : Bool) → Decides a P → Decides b Q → Decides (cond a b true) (P → Q)
decides_if true b h k = (λ e p. k.0 e, λ i. k.1 (i (h.0 refl)))
decides_if false b h k = (λ e p. absurd (not_from_Decides false h refl p), λ i. refl)

cond_sure : (a : Bool) (k : Step) → cond a k Absent ≡ Sure → (a ≡ true) × (k ≡ Sure)
cond_sure a k e = (grind arith, grind arith)

fails_below : (test : ℕ → Bool) (n : ℕ) → all_below test n ≡ false → (s : ℕ) × (s < n) × (test s ≡ false)
fails_below test zero e = grind arith
fails_below test (suc n) e = elim (and_cases (test n) (all_below test n) e)
    [ inl h ↦ (n, omega arith, h) | inr h ↦ let w = fails_below test n h in (w.0, omega (arith, w.1), w.2) ]

cond_fails : (a b : Bool) → cond a b true ≡ false → (a ≡ true) × (b ≡ false)
cond_fails a b e = (grind arith, grind arith)

module _ (M : Model) (group : ℕ → ℕ) where
  every_decides : (g : ℕ) (test : ℕ → Bool) (P : ℕ → Type 0) → ((s : ℕ) → Decides (test s) (P s))
      → Decides (every_member M group g test) ((s : ℕ) → Member M group g s → P s)
  every_decides g test P each =
      Decides-like (every_member M group g test) (λ h s m. h s m.0 m.1) (λ h s b e. h s (b, e))
      (Decides-below_and (if_member M group g test) (λ s. group s ≡ g → P s)
      (all_below (if_member M group g test))
      (λ s. decides_if (eqb (group s) g) (test s) (Decides-eqb (group s) g) (each s)) refl (λ n. refl) M.states)

  some_fails : (g : ℕ) (test : ℕ → Bool) → every_member M group g test ≡ false → (s : ℕ) × Member M group g s × (test s ≡ false)
  some_fails g test e =
      let w = fails_below (if_member M group g test) M.states e in
      let k = cond_fails (eqb (group w.0) g) (test w.0) w.2 in
      (w.0, (w.1, (Decides-eqb (group w.0) g).0 k.0), k.1)

  -- a strength is sure if some step there is, and absent if all are
  pub strength_sure : (s h : ℕ) → Decides (is_sure (strength M group s h)) ((t : ℕ) × Member M group h t × (M.step s t ≡ Sure))
  unfolding strength
  strength_sure s h = Decides-like (is_sure (strength M group s h))
      (λ w. let k = cond_sure (eqb (group w.0) h) (M.step s w.0) w.2 in
      (w.0, (w.1, (Decides-eqb (group w.0) h).0 k.0), k.1))
      (λ w. (w.0, w.1.0, rw ((Decides-eqb (group w.0) h).1 w.1.1) w.2))
      (surest_sure (step_into M group s h) M.states)

  pub strength_absent : (s h : ℕ) → Decides (is_absent (strength M group s h)) ((t : ℕ) → Member M group h t → M.step s t ≡ Absent)
  unfolding strength
  strength_absent s h = Decides-like (is_absent (strength M group s h))
      (λ all t m. sym (there t (eqb (group t) h) ((Decides-eqb (group t) h).1 m.1)) ∙ all t m.0)
      (λ all t b. cond_absent (eqb (group t) h) (M.step s t) (λ e. all t (b, (Decides-eqb (group t) h).0 e)))
      (surest_absent (step_into M group s h) M.states)
    where
      there : (t : ℕ) (a : Bool) → a ≡ true → cond a (M.step s t) Absent ≡ M.step s t
      there t true e = refl
      there t false e = grind arith

      cond_absent : (a : Bool) (k : Step) → (a ≡ true → k ≡ Absent) → cond a k Absent ≡ Absent
      cond_absent true k h = h refl
      cond_absent false k h = refl

  -- the tests of a step between groups
  abbrev all_sure : ℕ → ℕ → Bool
  all_sure g h = every_member M group g (sure_into M group h)

  abbrev all_absent : ℕ → ℕ → Bool
  all_absent g h = every_member M group g (absent_into M group h)

  pub sure_group_step : (g h : ℕ) → group_step M group g h ≡ Sure → (s : ℕ) → Member M group g s
      → (t : ℕ) × Member M group h t × (M.step s t ≡ Sure)
  unfolding group_step
  sure_group_step g h e =
      (every_decides g (sure_into M group h) (λ s. (t : ℕ) × Member M group h t × (M.step s t ≡ Sure))
      (λ s. strength_sure s h)).0
      (grind (arith, e))

  pub absent_group_step : (g h : ℕ) → group_step M group g h ≡ Absent → (s : ℕ) → Member M group g s → (t : ℕ) → Member M group h t
      → M.step s t ≡ Absent
  unfolding group_step
  absent_group_step g h e =
      (every_decides g (absent_into M group h) (λ s. (t : ℕ) → Member M group h t → M.step s t ≡ Absent)
      (λ s. strength_absent s h)).0
      (grind (arith, e))

  -- of an unsure step one member has no sure strength, and one has some strength
  pub unsure_group_step : (g h : ℕ) → group_step M group g h ≡ Unsure
      → (s : ℕ) × (t : ℕ) × Member M group g s × Member M group g t × (is_sure (strength M group s h) ≡ false) ×
      (is_absent (strength M group t h) ≡ false)
  unfolding group_step
  unsure_group_step g h e =
      let k : (all_sure g h ≡ false) × (all_absent g h ≡ false) = (grind (arith, e), grind (arith, e)) in
      let s = some_fails g (sure_into M group h) k.0 in
      let t = some_fails g (absent_into M group h) k.1 in
      (s.0, t.0, s.1, t.1, s.2, t.2)

  abbrev all_true : ℕ → ℕ → Bool
  all_true g p = every_member M group g (true_at M p)

  abbrev all_false : ℕ → ℕ → Bool
  all_false g p = every_member M group g (false_at M p)

  pub true_group_mark : (g p : ℕ) → group_mark M group g p ≡ T → (s : ℕ) → Member M group g s → M.mark s p ≡ T
  unfolding group_mark
  true_group_mark g p e = (every_decides g (true_at M p) (λ s. M.mark s p ≡ T) (λ s. decides_true (M.mark s p))).0
      (grind (arith, e))

  pub false_group_mark : (g p : ℕ) → group_mark M group g p ≡ F → (s : ℕ) → Member M group g s → M.mark s p ≡ F
  unfolding group_mark
  false_group_mark g p e = (every_decides g (false_at M p) (λ s. M.mark s p ≡ F) (λ s. decides_false (M.mark s p))).0
      (grind (arith, e))

  -- of an unknown mark one member has no T, and one no F
  pub unknown_group_mark : (g p : ℕ) → group_mark M group g p ≡ Undecided
      → (s : ℕ) × (t : ℕ) × Member M group g s × Member M group g t × (is_true (M.mark s p) ≡ false) × (is_false (M.mark t p) ≡ false)
  unfolding group_mark
  unknown_group_mark g p e =
      let k : (all_true g p ≡ false) × (all_false g p ≡ false) = (grind (arith, e), grind (arith, e)) in
      let s = some_fails g (true_at M p) k.0 in
      let t = some_fails g (false_at M p) k.1 in
      (s.0, t.0, s.1, t.1, s.2, t.2)

  pub group_start_decides : (g : ℕ) → Decides (group_start M group g) ((s : ℕ) × Member M group g s × (M.start s ≡ true))
  unfolding group_start
  group_start_decides g =
      Decides-like (group_start M group g) (λ w. (w.0, (w.1, w.2.0), w.2.1)) (λ w. (w.0, w.1.0, (w.1.1, w.2)))
      (Decides-below_or (start_in M group g) (λ s. (group s ≡ g) × (M.start s ≡ true))
      (any_below (start_in M group g))
      (λ s. Decides-and (eqb (group s) g) (M.start s) (Decides-eqb (group s) g) (λ e. e, λ e. e)) refl (λ n. refl) M.states)
