-- `Until` is the least and `Release` the greatest set of states that its law allows.
use Rattle.std.proofs.Common.{◌≡◌, ℕ, zero, suc, ◌<◌, ◌≤◌, ◌⊎◌, List, [], ◌∷◌, length, sym, refl, subst, inl, inr, arith}
use Rattle.std.specs.List.{AllByRecursion}
use Rattle.colours.specs.Walks.{Walk, last, before, Among, Until, Release}
use Rattle.colours.proofs.Lists.{all_among, below, among_below, drop_at, length_drop_at, move}

among_walk : (ts : List ℕ) (s x : ℕ) → Among x (s ∷ ts) → (x ≡ last s ts) ⊎ Among x (before s ts)
among_walk [] s x (inl e) = inl e
among_walk [] s x (inr m) = absurd m
among_walk (t ∷ ts) s x (inl e) = inr (inl e)
among_walk (t ∷ ts) s x (inr m) = elim (among_walk ts t x m) [ inl e ↦ inl e | inr k ↦ inr (inr k) ]

module _ (step : ℕ → ℕ → Type 0) (r q : ℕ → Type 0) where
  pub until_here : (s : ℕ) → q s → Until step r q s
  until_here s h = ([], tt, h, tt)

  pub until_step : (s t : ℕ) → r s → step s t → Until step r q t → Until step r q s
  until_step s t h k u = (t ∷ u.0, (k, u.1), u.2, (h, u.3))

  pub until_least : (X : ℕ → Type 0) → ((s : ℕ) → q s → X s) → ((s t : ℕ) → r s → step s t → X t → X s) → (s : ℕ) → Until step r q s → X s
  until_least X here next s u = go u.0 s u.1 u.2 u.3
    where
      go : (ts : List ℕ) (s : ℕ) → Walk step s ts → q (last s ts) → AllByRecursion r (before s ts) → X s
      go [] s w e b = here s e
      go (t ∷ ts) s w e b = next s t b.0 w.0 (go ts t w.1 e b.1)

  -- each member of X has q, and r or a step into X
  abbrev pub HoldsOut : (ℕ → Type 0) → Type 0
  HoldsOut X = (s : ℕ) → X s → q s × (r s ⊎ ((t : ℕ) × step s t × X t))

  step_on : (ts : List ℕ) (s x : ℕ) → Walk step s ts → Among x (before s ts) → (t : ℕ) × step x t × Among t (s ∷ ts)
  step_on [] s x w m = absurd m
  step_on (t ∷ ts) s x w (inl e) = (t, subst (λ y. step y t) (sym e) w.0, inr (inl refl))
  step_on (t ∷ ts) s x w (inr m) = let n = step_on ts t x w.1 m in (n.0, n.1, inr n.2)

  -- the states of a walk that shows `Release` hold out
  pub release_holds_out : (s : ℕ) (w : Release step r q s) → HoldsOut (λ x. Among x (s ∷ w.0))
  release_holds_out s w x m = (all_among q x (s ∷ w.0) w.2 m, go (among_walk w.0 s x m) w.3)
    where
      Goal : Type 0
      Goal = r x ⊎ ((t : ℕ) × step x t × Among t (s ∷ w.0))

      go : (x ≡ last s w.0) ⊎ Among x (before s w.0) → r (last s w.0) ⊎ Among (last s w.0) (before s w.0) → Goal
      go (inl e) (inl h) = inl (subst r (sym e) h)
      go (inl e) (inr k) = inr (step_on w.0 s x w.1 (subst (λ y. Among y (before s w.0)) (sym e) k))
      go (inr k) c = inr (step_on w.0 s x w.1 k)

  pub release_here : (s : ℕ) → q s → r s → Release step r q s
  release_here s h k = ([], tt, (h, tt), inl k)

  pub release_step : (s t : ℕ) → q s → step s t → Release step r q t → Release step r q s
  release_step s t h k w = (t ∷ w.0, (k, w.1), (h, w.2), elim w.3 [ inl a ↦ inl a | inr m ↦ inr (inr m) ])

  -- steps lead from numbers below n only
  module _ (n : ℕ) (bounded : (s t : ℕ) → step s t → s < n) (X : ℕ → Type 0) (out : HoldsOut X) where
    -- a walk as for `Release`, whose last state may also be one seen before
    Joins : List ℕ → ℕ → Type 0
    Joins seen s = (ts : List ℕ) × Walk step s ts × AllByRecursion q (s ∷ ts) ×
        (r (last s ts) ⊎ (Among (last s ts) (before s ts) ⊎ Among (last s ts) seen))

    -- every number below n has been seen or not
    Parted : List ℕ → List ℕ → Type 0
    Parted seen unseen = (y : ℕ) → y < n → Among y seen ⊎ Among y unseen

    -- the walk ends at s, or goes on from s, which was not seen
    look : (seen unseen : List ℕ) → Parted seen unseen → (s : ℕ) → X s → Joins seen s ⊎ (((t : ℕ) × step s t × X t) × Among s unseen)
    unfolding Joins Parted
    look seen unseen parted s x = elim (out s x).1 [
      | inl h ↦ inl ([], tt, ((out s x).0, tt), inl h)
      | inr e ↦ elim (parted s (bounded s e.0 e.1)) [
        | inl m ↦ inl ([], tt, ((out s x).0, tt), inr (inr m))
        | inr m ↦ inr (e, m)
      ]
    ]

    go_on : (seen : List ℕ) (s t : ℕ) → q s → step s t → Joins (s ∷ seen) t → Joins seen s
    unfolding Joins
    go_on seen s t h k j = (
      t ∷ j.0,
      (k, j.1),
      (h, j.2),
      elim j.3 [
        | inl a ↦ inl a
        | inr (inl m) ↦ inr (inl (inr m))
        | inr (inr (inl e)) ↦ inr (inl (inl e))
        | inr (inr (inr m)) ↦ inr (inr m)
      ],
    )

    seek : (k : ℕ) (seen unseen : List ℕ) → length unseen ≤ k → Parted seen unseen → (s : ℕ) → X s → Joins seen s
    unfolding Parted
    seek zero seen unseen short parted s x = elim (look seen unseen parted s x) [
      | inl j ↦ j
      | inr e ↦ absurd (omega (arith, length_drop_at s unseen e.1))
    ]
    seek (suc k) seen unseen short parted s x = elim (look seen unseen parted s x) [
      | inl j ↦ j
      | inr e ↦ go_on seen s e.0.0 (out s x).0 e.0.1
          (seek k (s ∷ seen) (drop_at s unseen e.1) (omega (arith, length_drop_at s unseen e.1))
          (λ y b. move y s seen unseen e.1 (parted y b)) e.0.0 e.0.2)
    ]

    -- every member of a set that holds out has such a walk
    pub release_greatest : (s : ℕ) → X s → Release step r q s
    unfolding Joins Parted
    release_greatest s x =
        let j : Joins [] s = seek (length (below n)) [] (below n) (omega arith) (λ y h. inr (among_below n y h)) s x in
        (j.0, j.1, j.2, elim j.3 [ inl a ↦ inl a | inr (inl m) ↦ inr m | inr (inr m) ↦ absurd m ])

  -- what has such a walk has q, and r or a step to what has one
  pub release_unfold : (n : ℕ) → ((s t : ℕ) → step s t → s < n) → HoldsOut (Release step r q)
  release_unfold n bounded s w =
      let h = release_holds_out s w in
      let here = h s (inl refl) in (
        here.0,
        elim here.1 [
          | inl a ↦ inl a
          | inr e ↦ inr (e.0, e.1, release_greatest n bounded (λ x. Among x (s ∷ w.0)) h e.0 e.2)
        ],
      )
