-- Boards of colours against walks: what rising by "q, or r and the next" and falling by "q, and r or the next" keep, and what a board at rest has.
use Rattle.std.proofs.Common.{◌≡◌, ℕ, zero, suc, ◌<◌, T as So, ◌⊎◌, sym, refl, ap, ◌∙◌, subst, ap₂, inl, inr, arith}
use Rattle.systems.specs.declared.kinds.Step.{Step}
use Rattle.systems.specs.declared.kinds.Step.TheVariants.{Absent, Unsure, Sure}
use Rattle.systems.specs.declared.kinds.Colour.{Colour}
use Rattle.systems.specs.Model.{Model, Possibly}
use Rattle.rules.specs.declared.syntax.Quantifier.{Quantifier}
use Rattle.rules.specs.declared.syntax.Quantifier.TheVariants.{A, E}
use Rattle.colours.specs.Values.{join, meet, negate, rated, join_below, meet_below, next_value, until_value, release_value}
use Rattle.colours.specs.Levels.{Level, surely, possibly, counts, On, Steps, Untils, Releases}
use Rattle.colours.proofs.Fixpoints.{until_here, until_step, until_least, release_greatest, release_unfold}
use Rattle.colours.proofs.Levels.{join_parts, join_left, join_right, meet_parts, meet_both, found_below, holds_below, negate_join, negate_meet, negate_negate}

pub rated_step : (l : Level) (M : Model) (s t : ℕ) → s < M.states → t < M.states → So (counts l (rated (M.step s t))) → Steps l M s t
rated_step l M s t a b h = go l (M.step s t) refl h
  where
    present : (k : Step) → M.step s t ≡ k → So (counts possibly (rated k)) → Possibly M s t
    present k e h = (a, b, λ i. subst (λ k. So (counts possibly (rated k))) (sym e ∙ i) h)

    go : (l : Level) (k : Step) → M.step s t ≡ k → So (counts l (rated k)) → Steps l M s t
    go surely Absent e h = absurd h
    go surely Unsure e h = absurd h
    go surely Sure e h = (a, b, e)
    go possibly k e h = present k e h

pub step_rated : (l : Level) (M : Model) (s t : ℕ) → Steps l M s t → So (counts l (rated (M.step s t)))
step_rated surely M s t h = subst (λ k. So (counts surely (rated k))) (sym h.2) tt
step_rated possibly M s t h = go (M.step s t) refl
  where
    go : (k : Step) → M.step s t ≡ k → So (counts possibly (rated k))
    go Absent e = absurd (h.2 e)
    go Unsure e = tt
    go Sure e = tt

pub steps_below : (l : Level) (M : Model) (s t : ℕ) → Steps l M s t → (s < M.states) × (t < M.states)
steps_below surely M s t h = (h.0, h.1)
steps_below possibly M s t h = (h.0, h.1)

module _ (M : Model) where
  module _ (l : Level) (x : ℕ → Colour) (s : ℕ) where
    pub next_found : s < M.states → On l (next_value M E x) s → (t : ℕ) × Steps l M s t × On l x t
    next_found b h =
        let w = found_below l M.states (λ t. meet (rated (M.step s t)) (x t)) h in
        let p = meet_parts l (rated (M.step s w.0)) (x w.0) w.2 in
        (w.0, rated_step l M s w.0 b w.1 p.0, p.1)

    pub next_holds : (t : ℕ) → Steps l M s t → On l x t → On l (next_value M E x) s
    next_holds t k h = holds_below l M.states (λ t. meet (rated (M.step s t)) (x t)) t (steps_below l M s t k).1
        (meet_both l (rated (M.step s t)) (x t) (step_rated l M s t k) h)

  -- the states that count on x count on y
  abbrev pub Within : Level → (x y : ℕ → Colour) → Type 0
  Within l x y = (s : ℕ) → s < M.states → On l x s → On l y s

  module _ (l : Level) (r q : ℕ → Colour) where
    -- a board that has only what has walks has only such after it is raised
    pub until_raise : (x : ℕ → Colour) → ((t : ℕ) → t < M.states → On l x t → Untils M l r q t)
        → (s : ℕ) → s < M.states → On l (until_value M E r q x) s → Untils M l r q s
    until_raise x sound s b h = elim (join_parts l (q s) (meet (r s) (next_value M E x s)) h) [
      | inl k ↦ until_here (Steps l M) (On l r) (On l q) s k
      | inr k ↦ (let p = meet_parts l (r s) (next_value M E x s) k in
          let w = next_found l x s b p.1 in
          until_step (Steps l M) (On l r) (On l q) s w.0 p.0 w.1 (sound w.0 (steps_below l M s w.0 w.1).1 w.2))
    ]

    -- a board that raising leaves alone has all that has walks
    pub until_rest : (x : ℕ → Colour) → Within l (until_value M E r q x) x → (s : ℕ) → s < M.states → Untils M l r q s → On l x s
    until_rest x rests s b w = until_least (Steps l M) (On l r) (On l q) (λ s. s < M.states → On l x s)
        (λ s h b. rests s b (join_left l (q s) (meet (r s) (next_value M E x s)) h))
        (λ s t h k on b. rests s b (join_right l (q s) (meet (r s) (next_value M E x s))
        (meet_both l (r s) (next_value M E x s) h (next_holds l x s t k (on (steps_below l M s t k).1)))))
        s w b

    -- a board that has all that has walks has all such after it is lowered
    pub release_lower : (x : ℕ → Colour) → ((t : ℕ) → t < M.states → Releases M l r q t → On l x t)
        → (s : ℕ) → s < M.states → Releases M l r q s → On l (release_value M E r q x) s
    release_lower x complete s b w =
        let u = release_unfold (Steps l M) (On l r) (On l q) M.states (λ s t k. (steps_below l M s t k).0) s w in
        meet_both l (q s) (join (r s) (next_value M E x s)) u.0 (elim u.1 [
          | inl h ↦ join_left l (r s) (next_value M E x s) h
          | inr t ↦ join_right l (r s) (next_value M E x s)
              (next_holds l x s t.0 t.1 (complete t.0 (steps_below l M s t.0 t.1).1 t.2))
        ])

    -- a board that lowering leaves alone has only what has walks
    pub release_rest : (x : ℕ → Colour) → Within l x (release_value M E r q x) → (s : ℕ) → s < M.states → On l x s → Releases M l r q s
    release_rest x rests s b h =
        release_greatest (Steps l M) (On l r) (On l q) M.states (λ s t k. (steps_below l M s t k).0) (λ s. (s < M.states) × On l x s)
        (λ s v. let p = meet_parts l (q s) (join (r s) (next_value M E x s)) (rests s v.0 v.1) in (
          p.0,
          elim (join_parts l (r s) (next_value M E x s) p.1) [
            | inl k ↦ inl k
            | inr k ↦ (let w = next_found l x s v.0 k in inr (w.0, w.1, ((steps_below l M s w.0 w.1).1, w.2)))
          ],
        ))
        s (b, h)

    next_grows : (x y : ℕ → Colour) → Within l x y → Within l (next_value M E x) (next_value M E y)
    next_grows x y h s b k = let w =
        next_found l x s b k in next_holds l y s w.0 w.1 (h w.0 (steps_below l M s w.0 w.1).1 w.2)

    pub until_grows : (x y : ℕ → Colour) → Within l x y → Within l (until_value M E r q x) (until_value M E r q y)
    until_grows x y h s b k = elim (join_parts l (q s) (meet (r s) (next_value M E x s)) k) [
      | inl a ↦ join_left l (q s) (meet (r s) (next_value M E y s)) a
      | inr a ↦ (let p = meet_parts l (r s) (next_value M E x s) a in
          join_right l (q s) (meet (r s) (next_value M E y s))
          (meet_both l (r s) (next_value M E y s) p.0 (next_grows x y h s b p.1)))
    ]

    pub release_grows : (x y : ℕ → Colour) → Within l x y → Within l (release_value M E r q x) (release_value M E r q y)
    release_grows x y h s b k = let p = meet_parts l (q s) (join (r s) (next_value M E x s)) k in
        meet_both l (q s) (join (r s) (next_value M E y s)) p.0 (elim (join_parts l (r s) (next_value M E x s) p.1) [
          | inl a ↦ join_left l (r s) (next_value M E y s) a
          | inr a ↦ join_right l (r s) (next_value M E y s) (next_grows x y h s b a)
        ])

  -- A from E with T and F exchanged
  negate_below : (n : ℕ) (f g : ℕ → Colour) → ((t : ℕ) → negate (f t) ≡ g t) → negate (meet_below n f) ≡ join_below n g
  unfolding meet_below join_below
  negate_below zero f g h = refl
  negate_below (suc n) f g h = negate_meet (meet_below n f) (f n) ∙ ap₂ join (negate_below n f g h) (h n)

  module _ (x : ℕ → Colour) (s : ℕ) where
    pub negate_next : negate (next_value M A x s) ≡ next_value M E (λ t. negate (x t)) s
    negate_next = negate_below M.states (λ t. join (negate (rated (M.step s t))) (x t)) (λ t. meet (rated (M.step s t)) (negate (x t)))
        (λ t. negate_join (negate (rated (M.step s t))) (x t) ∙ ap (λ k. meet k (negate (x t))) (negate_negate (rated (M.step s t))))

    pub negate_until : (r q : ℕ → Colour)
        → negate (until_value M A r q x s) ≡ release_value M E (λ t. negate (r t)) (λ t. negate (q t)) (λ t. negate (x t)) s
    negate_until r q = negate_join (q s) (meet (r s) (next_value M A x s)) ∙ ap (meet (negate (q s)))
        (negate_meet (r s) (next_value M A x s) ∙ ap (join (negate (r s))) negate_next)

    pub negate_release : (r q : ℕ → Colour)
        → negate (release_value M A r q x s) ≡ until_value M E (λ t. negate (r t)) (λ t. negate (q t)) (λ t. negate (x t)) s
    negate_release r q = negate_meet (q s) (join (r s) (next_value M A x s)) ∙ ap (join (negate (q s)))
        (negate_join (r s) (next_value M A x s) ∙ ap (meet (negate (r s))) negate_next)

  -- the value of the next states depends on those to which a step may lead
  join_same : (n : ℕ) (f g : ℕ → Colour) → ((t : ℕ) → t < n → f t ≡ g t) → join_below n f ≡ join_below n g
  unfolding join_below
  join_same zero f g h = refl
  join_same (suc n) f g h = ap₂ join (join_same n f g (λ t b. h t (omega arith))) (h n (omega arith))

  absent_or_possible : (s t : ℕ) → s < M.states → t < M.states → (M.step s t ≡ Absent) ⊎ Possibly M s t
  absent_or_possible s t a b = go (M.step s t) refl
    where
      go : (k : Step) → M.step s t ≡ k → (M.step s t ≡ Absent) ⊎ Possibly M s t
      go Absent e = inl e
      go Unsure e = inr (a, b, λ i. grind arith)
      go Sure e = inr (a, b, λ i. grind arith)

  next_same_E : (x y : ℕ → Colour) (s : ℕ) → s < M.states → ((t : ℕ) → Possibly M s t → x t ≡ y t)
      → next_value M E x s ≡ next_value M E y s
  next_same_E x y s b h = join_same M.states (λ t. meet (rated (M.step s t)) (x t)) (λ t. meet (rated (M.step s t)) (y t)) (λ t c.
      elim (absent_or_possible s t b c) [ inl e ↦ rw e | inr k ↦ ap (meet (rated (M.step s t))) (h t k) ])

  pub next_same : (k : Quantifier) (x y : ℕ → Colour) (s : ℕ) → s < M.states → ((t : ℕ) → Possibly M s t → x t ≡ y t)
      → next_value M k x s ≡ next_value M k y s
  next_same E x y s b h = next_same_E x y s b h
  next_same A x y s b h =
      sym (negate_negate (next_value M A x s)) ∙ ap negate
      (negate_next x s ∙ next_same_E (λ t. negate (x t)) (λ t. negate (y t)) s b (λ t k. ap negate (h t k)) ∙ sym (negate_next y s))
      ∙ negate_negate (next_value M A y s)
