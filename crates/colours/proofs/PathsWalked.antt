-- Walks turned into maximal paths, and maximal paths into walks.
use Rattle.std.proofs.Common.{◌≡◌, ℕ, zero, suc, ◌+◌, ◌<◌, ◌≤◌, ◌⊎◌, List, length, sym, refl, ap, ◌∙◌, subst, inl, inr, arith}
use native.Mathlib.Decide.{dec_lt}
use Rattle.colours.specs.Walks.{Among, Until, Release}
use Rattle.colours.specs.Paths.{Length, ends_at, endless, Place, Path, Maximal, UntilAlong, ReleaseAlong}
use Rattle.colours.proofs.Lists.{below, among_below, drop_at, length_drop_at, among_drop_at}
use Rattle.colours.proofs.Fixpoints.{until_here, until_step, until_least, HoldsOut, release_here, release_step, release_greatest}
use Rattle.colours.proofs.PathsMade.{
  first_place,
  place_down,
  not_endless,
  place_in,
  after,
  in_front,
  all_parts,
  Testable,
  in_front_maximal,
  stay_among,
  from_below,
  states_below,
  some_path,
}

-- A sequence of numbers below n takes one of them twice. From place k on, those not yet taken stand in the list `rest`.
twice_from : (n : ℕ) (f : ℕ → ℕ) → ((k : ℕ) → f k < n) → (fuel k : ℕ) (rest : List ℕ) → length rest ≤ fuel
    → ((y : ℕ) → y < n → ((i : ℕ) × (i < k) × (f i ≡ y)) ⊎ Among y rest)
    → (i : ℕ) × (j : ℕ) × (i < j) × (f i ≡ f j)
twice_from n f low zero k rest short parted = elim (parted (f k) (low k)) [
  | inl h ↦ (h.0, k, h.1, h.2)
  | inr m ↦ absurd (omega (arith, length_drop_at (f k) rest m))
]
twice_from n f low (suc fuel) k rest short parted = elim (parted (f k) (low k)) [
  | inl h ↦ (h.0, k, h.1, h.2)
  | inr m ↦ twice_from n f low fuel (suc k) (drop_at (f k) rest m) (omega (arith, length_drop_at (f k) rest m))
      (λ y b. elim (parted y b) [
        | inl h ↦ inl (h.0, omega (arith, h.1), h.2)
        | inr a ↦ elim (among_drop_at (f k) y rest m a) [ inl e ↦ inl (k, omega arith, sym e) | inr d ↦ inr d ]
      ])
]

twice : (n : ℕ) (f : ℕ → ℕ) → ((k : ℕ) → f k < n) → (i : ℕ) × (j : ℕ) × (i < j) × (f i ≡ f j)
twice n f low = twice_from n f low (length (below n)) 0 (below n) (omega arith) (λ y b. inr (among_below n y b))

abbrev pub Not : (ℕ → Type 0) → ℕ → Type 0
Not P s = ¬ P s

abbrev Both : (ℕ → Type 0) → (ℕ → Type 0) → ℕ → Type 0
Both P Q s = P s × Q s

module _ {step : ℕ → ℕ → Type 0} {n : ℕ} (tests : Testable n step) where
  module _ (r q : ℕ → Type 0) where
    -- a walk that shows `Until`, taken on to a maximal path
    pub until_path : (s : ℕ) → Until step r q s → (path : Path) × Maximal step s path × UntilAlong r q path
    until_path = until_least step r q (λ s. (path : Path) × Maximal step s path × UntilAlong r q path)
        (λ s h. let m = some_path tests s in
        (m.0, m.1, (0, first_place m.0.length, subst q (sym m.1.first) h, λ j b. absurd (omega arith))))
        (λ s t h k m. (
          in_front s m.0,
          in_front_maximal step s t m.0 k m.1,
          (suc m.2.0, place_in m.0.length m.2.0 m.2.1, m.2.2, earlier s h m.0 m.2.0 m.2.3),
        ))
      where
        earlier : (s : ℕ) → r s → (path : Path) (k : ℕ) → ((j : ℕ) → j < k → r (path.at j)) → (j : ℕ) → j < suc k → r (after s path.at j)
        earlier s h path k g zero b = h
        earlier s h path k g (suc j) b = g j (omega arith)

    pub path_until : (s : ℕ) (path : Path) → Maximal step s path → UntilAlong r q path → Until step r q s
    path_until s path m u = subst (Until step r q) m.first (from u.0 0 (omega arith))
      where
        -- the walk from place i, with d steps to go
        from : (d i : ℕ) → i + d ≡ u.0 → Until step r q (path.at i)
        from zero i e = until_here step r q (path.at i) (subst (λ k. q (path.at k)) (omega (arith, e)) u.2)
        from (suc d) i e = until_step step r q (path.at i) (path.at (suc i)) (u.3 i (omega (arith, e)))
            (m.steps i (place_down path.length (suc i) u.0 (omega (arith, e)) u.1))
            (from d (suc i) (omega (arith, e)))

  module _ (r q : ℕ → Type 0) where
    release_if_until : (s : ℕ) → Until step q (Both q r) s → Release step r q s
    release_if_until = until_least step q (Both q r) (Release step r q)
        (λ s h. release_here step r q s h.0 h.1) (release_step step r q)

    along_if_until : (path : Path) → UntilAlong q (Both q r) path → ReleaseAlong r q path
    along_if_until path u = (
      λ k p none. elim (dec_lt u.0 k) [
        | yes b ↦ absurd (none u.0 b u.2.1)
        | no b ↦ elim (dec_lt k u.0) [
          | yes c ↦ u.3 k c
          | no c ↦ subst (λ i. q (path.at i)) (omega arith) u.2.0
        ]
      ],
      λ never. absurd (never u.0 u.1 u.2.1),
    )

    -- a walk that shows `Release` comes to r, or one can stay among its states for ever
    pub release_path : (s : ℕ) → Release step r q s → (path : Path) × Maximal step s path × ReleaseAlong r q path
    release_path s w = elim w.3 [
      | inl h ↦
          let b = all_parts q s w.0 w.2 in
          let p = until_path q (Both q r) s (w.0, w.1, (b.1, h), b.0) in
          (p.0, p.1, along_if_until p.0 p.2)
      | inr m ↦
          let p = stay_among step q s (w.0, w.1, w.2, m) in (p.0, p.1, (λ k l none. p.3 k, λ never. p.2))
    ]

    -- the states of the path, up to the first that has r, hold out
    pub path_release : ((s : ℕ) → s < n → Dec (r s))
        → (s : ℕ) → s < n → (path : Path) → Maximal step s path → ReleaseAlong r q path → Release step r q s
    path_release r? s low path m h =
        release_greatest step r q n (from_below tests) X out s (0, first_place path.length, (λ j b. absurd (omega arith)), sym m.first)
      where
        NoneBefore : ℕ → Type 0
        NoneBefore k = (j : ℕ) → j < k → ¬ r (path.at j)

        X : ℕ → Type 0
        X x = (k : ℕ) × Place path.length k × NoneBefore k × (x ≡ path.at k)

        more : (l : Length) → path.length ≡ l → (k : ℕ) → Place l k → NoneBefore (suc k) → Place l (suc k)
        more (ends_at e) d k p none = elim (dec_lt k e) [
          | yes b ↦ omega arith
          | no b ↦ absurd (not_endless e (sym (h.1 (λ i a. let c = subst (λ l. Place l i) d a in none i (omega arith))) ∙ d))
        ]
        more endless d k p none = tt

        out : HoldsOut step r q X
        out x y = (
          subst q (sym y.3) (h.0 y.0 y.1 y.2),
          elim (r? (path.at y.0) (states_below tests s low path m y.0 y.1)) [
            | yes a ↦ inl (subst r (sym y.3) a)
            | no a ↦
                let none : NoneBefore (suc y.0) = λ j b. elim (dec_lt j y.0) [
                  | yes c ↦ y.2 j c
                  | no c ↦ subst (λ i. ¬ r (path.at i)) (omega arith) a
                ] in
                let p = more path.length refl y.0 y.1 none in
                inr (
                  path.at (suc y.0),
                  subst (λ z. step z (path.at (suc y.0))) (sym y.3) (m.steps y.0 p),
                  (suc y.0, p, none, refl),
                )
          ],
        )

  -- if no walk shows `Release` for the opposites of r and q, every endless path shows `Until` for r and q, since it takes a state twice
  pub endless_until : (r q : ℕ → Type 0) → ((s : ℕ) → s < n → Dec (r s)) → ((s : ℕ) → s < n → Dec (q s))
      → (s : ℕ) → ¬ Release step (Not r) (Not q) s → (path : Path) → Maximal step s path → path.length ≡ endless → UntilAlong r q path
  endless_until r q r? q? s none path m forever =
      let again = twice n path.at low in
      elim (seek again.1) [ inl u ↦ u | inr g ↦ absurd (looped again.0 again.1 again.2 again.3 g) ]
    where
      place : (k : ℕ) → Place path.length k
      place k = subst (λ l. Place l k) (sym forever) tt

      low : (k : ℕ) → path.at k < n
      low k = from_below tests (path.at k) (path.at (suc k)) (m.steps k (place (suc k)))

      -- not q, but r, at each place before k
      Waits : ℕ → Type 0
      Waits k = (i : ℕ) → i < k → Both (Not q) r (path.at i)

      seek : (k : ℕ) → UntilAlong r q path ⊎ Waits k
      seek zero = inr (λ i b. absurd (omega arith))
      seek (suc k) = elim (seek k) [
        | inl u ↦ inl u
        | inr g ↦ elim (q? (path.at k) (low k)) [
          | yes a ↦ inl (k, place k, a, λ j b. (g j b).1)
          | no a ↦ elim (r? (path.at k) (low k)) [
            | no b ↦
                let u = path_until (Not q) (Both (Not q) (Not r)) s path m (k, place k, (a, b), λ j c. (g j c).0) in
                absurd (none (release_if_until (Not r) (Not q) s u))
            | yes b ↦ inr (λ i c. elim (dec_lt i k) [
              | yes d ↦ g i d
              | no d ↦ subst (λ i. Both (Not q) r (path.at i)) (omega arith) (a, b)
            ])
          ]
        ]
      ]

      looped : (i j : ℕ) → i < j → path.at i ≡ path.at j → Waits j → ⊥
      looped i j b e g = none (release_greatest step (Not r) (Not q) n (from_below tests) X out s (0, omega arith, sym m.first))
        where
          X : ℕ → Type 0
          X x = (k : ℕ) × (k < j) × (x ≡ path.at k)

          out : HoldsOut step (Not r) (Not q) X
          out x y = (
            subst (Not q) (sym y.2) (g y.0 y.1).0,
            inr (
              path.at (suc y.0),
              subst (λ z. step z (path.at (suc y.0))) (sym y.2) (m.steps y.0 (place (suc y.0))),
              elim (dec_lt (suc y.0) j) [
                | yes c ↦ (suc y.0, c, refl)
                | no c ↦ (i, b, ap path.at (omega (arith, y.1)) ∙ sym e)
              ],
            ),
          )
