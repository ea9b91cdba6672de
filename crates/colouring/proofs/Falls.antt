-- A board on its way down to a release.
use Rattle.std.proofs.Common.{◌≡◌, ℕ, ◌+◌, ◌/◌, ◌<◌, ◌≤◌, T as So, ◌≢◌, ◌⊎◌, List, [], ◌∷◌, ◌++◌, length, get_or, set, sym, refl, ap, ◌∙◌, subst, subst₂, inl, inr, not-suc-le-zero, arith, length-set, get_or-set_other, get_or-set_same}
use native.Mathlib.Decide.{ℕ_discrete}
use mathlib.Core.Path.{subst₃}
use Rattle.systems.specs.declared.kinds.Colour.{Colour}
use Rattle.systems.specs.declared.kinds.Colour.TheVariants.{Undecided, F, T}
use Rattle.systems.specs.Model.{Model}
use Rattle.colours.specs.Walks.{Among, Release}
use Rattle.colours.specs.Values.{meet, rated}
use Rattle.colours.specs.Levels.{Level, surely, possibly, counts, On, Steps, IsRelease}
use Rattle.colours.proofs.Fixpoints.{release_unfold, release_greatest}
use Rattle.colours.proofs.Levels.{meet_parts, meet_both}
use Rattle.colours.proofs.Boards.{rated_step, step_rated, steps_below}
use Rattle.colouring.specs.declared.columns.Columns.{Columns}
use Rattle.colouring.specs.passes.Columns.{cell, column, Ordered, Written}
use Rattle.colouring.specs.passes.Falling.{lower, Within, Upheld, Seen, covered, upheld, fell, Stands, Falling}
use Rattle.colouring.proofs.Placing.{column_others, state_apart, waits_else, state_again, part_same, written_column, written_clean}
use Rattle.colouring.proofs.Rises.{in_push, push_in}

within_counts : (l : Level) (v w : Colour) → Within v w → So (counts l v) → So (counts l w)
within_counts l v w e h = (meet_parts l v w (subst (λ z. So (counts l z)) (sym e) h)).1

lower_counts : (l : Level) (v : Colour) → So (counts l (lower v)) → So (counts l v)
lower_counts surely Undecided h = absurd h
lower_counts surely F h = absurd h
lower_counts surely T h = absurd h
lower_counts possibly Undecided h = absurd h
lower_counts possibly F h = absurd h
lower_counts possibly T h = tt

-- what is not within w falls no lower than w
falls_to : (l : Level) (v w : Colour) → ¬ Within v w → So (counts l v) → So (counts l w) → So (counts l (lower v))
falls_to l F w n h k = absurd (n refl)
falls_to surely T T n h k = absurd (n refl)
falls_to surely T F n h k = absurd k
falls_to surely T Undecided n h k = absurd k
falls_to possibly T w n h k = tt
falls_to surely Undecided w n h k = absurd h
falls_to possibly Undecided F n h k = absurd k
falls_to possibly Undecided Undecided n h k = absurd (n refl)
falls_to possibly Undecided T n h k = absurd (n refl)

-- what is upheld when another colour is lower was upheld before
was_within : (v a w : Colour) → Within v (meet a (lower w)) → Within v (meet a w)
was_within v a w e = grind arith

module _ (p : Columns) (M : Model) (b₀ : List ℕ) (order : Ordered p) (states : p.states ≡ M.states) where
  abbrev r : ℕ → Colour
  r = column p b₀ p.left

  abbrev q : ℕ → Colour
  q = column p b₀ p.right

  abbrev X : List ℕ → ℕ → Colour
  X b = column p b p.whole

  abbrev Releases : Level → ℕ → Type 0
  Releases l s = Release (Steps l M) (On l r) (On l q) s

  unfolded : (l : Level) (s : ℕ) → Releases l s → On l q s × (On l r s ⊎ ((t : ℕ) × Steps l M s t × Releases l t))
  unfolded l s w = release_unfold (Steps l M) (On l r) (On l q) M.states (λ s t z. (steps_below l M s t z).0) s w

  -- nothing upholds the colour at s, so no walk asks for more than the next lower
  falls_sound : (b : List ℕ) (s : ℕ) → s < M.states
      → ((l : Level) (z : ℕ) → z < M.states → Releases l z → On l (X b) z)
      → ¬ Within (X b s) (r s) → ((u : ℕ) → u < M.states → ¬ Upheld M (X b) s u)
      → (l : Level) → Releases l s → So (counts l (lower (X b s)))
  falls_sound b s low sound no_r no_u l w =
      let here = sound l s low w in
      elim (unfolded l s w).1 [
        | inl o ↦ falls_to l (X b s) (r s) no_r here o
        | inr e ↦ (let u = e.0 in let c = (steps_below l M s u e.1).1 in
            falls_to l (X b s) (meet (rated (M.step s u)) (X b u)) (no_u u c) here
            (meet_both l (rated (M.step s u)) (X b u) (step_rated l M s u e.1) (sound l u c e.2)))
      ]

  module _ (b b' h h' w w' k k' : List ℕ) (t s : ℕ) (low : s < M.states) (i : Falling p M b₀ b h w k t s) where
    -- a look at s settles it, and leaves the others
    look_covered : Within (X b s) (column p b p.left s) → Falling p M b₀ b h w k t (s + 1)
    look_covered c = record {
      only = i.only;
      clean = i.clean;
      sound = i.sound;
      has_q = i.has_q;
      inside = i.inside;
      long = i.long;
      tried = i.tried;
      pending = λ z a. elim (ℕ_discrete z s) [
        | yes e ↦ inr (inl (subst (λ y. Within (X b y) (r y)) (sym e) (subst (λ y. Within (X b s) y) (part_same p b₀ b order.whole i.only p.left s order.left) c)))
        | no d ↦ elim (i.pending z a) [ inl f ↦ inl (f.0, omega (arith, f.1)) | inr f ↦ inr f ]
      ];
    }

    look_upheld : (u : ℕ) → u < M.states → Upheld M (X b) s u → ((v : ℕ) → v < u → ¬ Upheld M (X b) s v) → Falling p M b₀ b h (set w s u) (set k s u) t (s + 1)
    look_upheld u a c before = record {
      only = i.only;
      clean = i.clean;
      sound = i.sound;
      has_q = i.has_q;
      inside = i.inside;
      long = (omega (arith, i.long.0, length-set w s u), omega (arith, i.long.1, length-set k s u));
      tried = λ z g v. elim (ℕ_discrete z s) [
        | yes e ↦ subst (λ y. v < get_or (set k s u) y 0 → ¬ Upheld M (X b) y v) (sym e)
            (subst (λ y. v < y → ¬ Upheld M (X b) s v) (sym (get_or-set_same k s u 0 (omega (arith, i.long.1)))) (before v))
        | no d ↦ subst (λ y. v < y → ¬ Upheld M (X b) z v) (sym (get_or-set_other k s z u 0 d)) (i.tried z g v)
      ];
      pending = λ z g. elim (ℕ_discrete z s) [
        | yes e ↦ inr (subst (λ y. Stands p M b₀ b h (get_or (set w s u) y 0) y) (sym e)
            (subst (λ y. Stands p M b₀ b h y s) (sym (get_or-set_same w s u 0 (omega (arith, i.long.0)))) (inr (inr (a, c)))))
        | no d ↦ subst (λ y. ((y ≡ t) × (s + 1 ≤ z)) ⊎ Stands p M b₀ b h y z) (sym (get_or-set_other w s z u 0 d))
            (elim (i.pending z g) [ inl f ↦ inl (f.0, omega (arith, f.1)) | inr f ↦ inr f ])
      ];
    }

    module _ (new : X b' s ≡ lower (X b s)) (byte : get_or b' (cell p p.whole s) 0 ≤ 2) (others : (j : ℕ) → j ≢ cell p p.whole s → get_or b' j 0 ≡ get_or b j 0) where
      same : (z : ℕ) → z ≢ s → X b' z ≡ X b z
      same = column_others p b b' p.whole s order.whole others

      -- what upholds another state after the fall did so before
      upheld_before : (z u : ℕ) → z ≢ s → Upheld M (X b') z u → Upheld M (X b) z u
      upheld_before z u d c =
          let e : Within (X b z) (meet (rated (M.step z u)) (X b' u)) = subst (λ y. Within y (meet (rated (M.step z u)) (X b' u))) (same z d) c in
          elim (ℕ_discrete u s) [
            | yes g ↦ subst (λ y. Upheld M (X b) z y) (sym g) (was_within (X b z) (rated (M.step z s)) (X b s)
                (subst (λ y. Within (X b z) (meet (rated (M.step z s)) y)) new (subst (λ y. Within (X b z) (meet (rated (M.step z y)) (X b' y))) g e)))
            | no g ↦ subst (λ y. Within (X b z) (meet (rated (M.step z u)) y)) (same u g) e
          ]

      look_fell : ¬ Within (X b s) (column p b p.left s) → ((u : ℕ) → u < M.states → ¬ Upheld M (X b) s u)
          → Falling p M b₀ b' (h ++ cell p p.whole s ∷ []) (set w s s) (set k s 0) t (s + 1)
      look_fell no_r no_u =
          let no_r₀ : ¬ Within (X b s) (r s) = subst (λ y. ¬ Within (X b s) y) (part_same p b₀ b order.whole i.only p.left s order.left) no_r in
          record {
            only = λ j d. others j (d s (omega arith)) ∙ i.only j d;
            clean = λ z c. elim (ℕ_discrete z s) [
              | yes e ↦ subst (λ y. get_or b' (cell p p.whole y) 0 ≤ 2) (sym e) byte
              | no d ↦ subst (λ y. y ≤ 2) (sym (others (cell p p.whole z) (state_apart p p.whole s z order.whole d))) (i.clean z c)
            ];
            sound = λ l z c x. elim (ℕ_discrete z s) [
              | yes e ↦ subst (λ y. On l (X b') y) (sym e) (subst (λ y. So (counts l y)) (sym new) (falls_sound b s low i.sound no_r₀ no_u l (subst (Releases l) e x)))
              | no d ↦ subst (λ y. So (counts l y)) (sym (same z d)) (i.sound l z c x)
            ];
            has_q = λ l z c o. elim (ℕ_discrete z s) [
              | yes e ↦ subst (λ y. On l q y) (sym e) (i.has_q l s low (lower_counts l (X b s) (subst (λ y. So (counts l y)) new (subst (λ y. On l (X b') y) e o))))
              | no d ↦ i.has_q l z c (subst (λ y. So (counts l y)) (same z d) o)
            ];
            inside = λ u m. elim (in_push u (cell p p.whole s) h m) [ inl a ↦ i.inside u a | inr a ↦ (s, low, a) ];
            long = (omega (arith, i.long.0, length-set w s s), omega (arith, i.long.1, length-set k s 0));
            tried = λ z g v. elim (ℕ_discrete z s) [
              | yes e ↦ subst (λ y. v < get_or (set k s 0) y 0 → ¬ Upheld M (X b') y v) (sym e)
                  (subst (λ y. v < y → ¬ Upheld M (X b') s v) (sym (get_or-set_same k s 0 0 (omega (arith, i.long.1)))) (λ x. absurd (not-suc-le-zero x)))
              | no d ↦ subst (λ y. v < y → ¬ Upheld M (X b') z v) (sym (get_or-set_other k s z 0 0 d)) (λ x c. i.tried z g v x (upheld_before z v d c))
            ];
            pending = λ z c. elim (ℕ_discrete z s) [
              | yes e ↦ inr (subst (λ y. Stands p M b₀ b' (h ++ cell p p.whole s ∷ []) (get_or (set w s s) y 0) y) (sym e)
                  (subst (λ y. Stands p M b₀ b' (h ++ cell p p.whole s ∷ []) y s) (sym (get_or-set_same w s s 0 (omega (arith, i.long.0)))) (inr (inl (push_in (cell p p.whole s) (cell p p.whole s) h (inr refl))))))
              | no d ↦ subst (λ y. ((y ≡ t) × (s + 1 ≤ z)) ⊎ Stands p M b₀ b' (h ++ cell p p.whole s ∷ []) y z) (sym (get_or-set_other w s z s 0 d))
                  (elim (i.pending z c) [
                    | inl f ↦ inl (f.0, omega (arith, f.1))
                    | inr (inl f) ↦ inr (inl (subst (λ y. Within y (r z)) (sym (same z d)) f))
                    | inr (inr (inl m)) ↦ inr (inr (inl (push_in (cell p p.whole (get_or w z 0)) (cell p p.whole s) h (inl m))))
                    | inr (inr (inr f)) ↦ elim (ℕ_discrete (get_or w z 0) s) [
                      | yes e ↦ inr (inr (inl (push_in (cell p p.whole (get_or w z 0)) (cell p p.whole s) h (inr (ap (cell p p.whole) e)))))
                      | no g ↦ inr (inr (inr (
                        f.0,
                        subst (λ y. Within y (meet (rated (M.step z (get_or w z 0))) (X b' (get_or w z 0)))) (sym (same z d))
                            (subst (λ y. Within (X b z) (meet (rated (M.step z (get_or w z 0))) y)) (sym (same (get_or w z 0) g)) f.1),
                      )))
                    ]
                  ])
            ];
          }

    pub falling_look : Seen p M b b' h h' w w' k k' s → Falling p M b₀ b' h' w' k' t (s + 1)
    falling_look (covered eb eh ew ek c) = moved eb eh ew ek (look_covered c)
      where
        moved : b' ≡ b → h' ≡ h → w' ≡ w → k' ≡ k → Falling p M b₀ b h w k t (s + 1) → Falling p M b₀ b' h' w' k' t (s + 1)
        moved eb eh ew ek f = subst₂ (λ x y. Falling p M b₀ x y w' k' t (s + 1)) (sym eb) (sym eh) (subst₂ (λ x y. Falling p M b₀ b h x y t (s + 1)) (sym ew) (sym ek) f)
    falling_look (upheld eb eh u a ew ek c before) =
        subst₂ (λ x y. Falling p M b₀ x y w' k' t (s + 1)) (sym eb) (sym eh) (subst₂ (λ x y. Falling p M b₀ b h x y t (s + 1)) (sym ew) (sym ek) (look_upheld u a c before))
    falling_look (fell new byte others eh ew ek no_r no_u) =
        subst₃ (λ x y z. Falling p M b₀ b' x y z t (s + 1)) (sym eh) (sym ew) (sym ek) (look_fell new byte others no_r no_u)

  -- t does not uphold s
  pub falling_skip : (b h w k : List ℕ) (t s : ℕ) → Falling p M b₀ b h w k t s → get_or w s 0 ≢ t → Falling p M b₀ b h w k t (s + 1)
  falling_skip b h w k t s i n = record {
    only = i.only;
    clean = i.clean;
    sound = i.sound;
    has_q = i.has_q;
    inside = i.inside;
    long = i.long;
    tried = i.tried;
    pending = λ z c. elim (i.pending z c) [
      | inr f ↦ inr f
      | inl f ↦ elim (ℕ_discrete z s) [
        | yes e ↦ absurd (n (sym (ap (λ y. get_or w y 0) e) ∙ f.0))
        | no d ↦ inl (f.0, omega (arith, f.1))
      ]
    ];
  }

  pub falling_pop : (b h h' w k : List ℕ) (x t : ℕ) → h ≡ x ∷ h' → x ≡ cell p p.whole t → Falling p M b₀ b h w k 0 M.states → Falling p M b₀ b h' w k t 0
  falling_pop b h h' w k x t e at i = record {
    only = i.only;
    clean = i.clean;
    sound = i.sound;
    has_q = i.has_q;
    long = i.long;
    tried = i.tried;
    inside = λ u m. i.inside u (subst (λ z. Among u z) (sym e) (inr m));
    pending = λ z c. elim (i.pending z c) [
      | inl f ↦ absurd (omega (arith, f.1))
      | inr (inl f) ↦ inr (inl f)
      | inr (inr (inr f)) ↦ inr (inr (inr f))
      | inr (inr (inl m)) ↦ elim (waits_else p order.whole x t at h' (get_or w z 0) (subst (λ y. Among (cell p p.whole (get_or w z 0)) y) e m)) [ inl g ↦ inl (g, omega arith) | inr g ↦ inr (inr (inl g)) ]
    ];
  }

  -- what waits is a position of the clause
  pub falling_waits : (b h h' w k : List ℕ) (x t : ℕ) → h ≡ x ∷ h' → t ≡ x / p.clauses → Falling p M b₀ b h w k 0 M.states → x ≡ cell p p.whole t
  falling_waits b h h' w k x t e f i =
      let u = i.inside x (subst (λ z. Among x z) (sym e) (inl refl)) in
      u.2 ∙ ap (cell p p.whole) (sym (state_again p p.whole u.0 x t order.whole u.2 f))

  pub falling_done : (b h w k : List ℕ) (t n : ℕ) → M.states ≤ n → Falling p M b₀ b h w k t n → Falling p M b₀ b h w k 0 M.states
  falling_done b h w k t n end i = record {
    only = i.only;
    clean = i.clean;
    sound = i.sound;
    has_q = i.has_q;
    inside = i.inside;
    long = i.long;
    tried = i.tried;
    pending = λ z c. elim (i.pending z c) [ inl f ↦ absurd (omega (arith, f.1)) | inr f ↦ inr f ];
  }

  -- nothing waits: the board shows the release
  pub falling_rest : (b w k : List ℕ) → Falling p M b₀ b [] w k 0 M.states → IsRelease M r q (X b)
  falling_rest b w k i l s c = (λ o. release_greatest (Steps l M) (On l r) (On l q) M.states (λ s t z. (steps_below l M s t z).0) (λ z. (z < M.states) × On l (X b) z) out s (c, o), i.sound l s c)
    where
      out : (z : ℕ) → (z < M.states) × On l (X b) z → On l q z × (On l r z ⊎ ((u : ℕ) × Steps l M z u × ((u < M.states) × On l (X b) u)))
      out z o = (
        i.has_q l z o.0 o.1,
        elim (i.pending z o.0) [
          | inl f ↦ absurd (omega (arith, f.1, o.0))
          | inr (inl f) ↦ inl (within_counts l (X b z) (r z) f o.1)
          | inr (inr (inl m)) ↦ absurd m
          | inr (inr (inr f)) ↦
              (let u = get_or w z 0 in
              let m = meet_parts l (rated (M.step z u)) (X b u) (within_counts l (X b z) (meet (rated (M.step z u)) (X b u)) f.1 o.1) in
              inr (u, rated_step l M z u o.0 f.0 m.0, (f.0, m.1)))
        ],
      )

  -- all is as the right part is, nothing waits, and 0 upholds all
  pub falling_begun : (b h w k : List ℕ) → h ≡ [] → (M.states ≤ length w) × (M.states ≤ length k) → ((s : ℕ) → get_or w s 0 ≡ 0) × ((s : ℕ) → get_or k s 0 ≡ 0)
      → Written p b₀ b q → Falling p M b₀ b h w k 0 0
  falling_begun b h w k e long zero written = record {
    only = written.only;
    clean = written_clean p b₀ b q written;
    long = long;
    tried = λ s c u. subst (λ y. u < y → ¬ Upheld M (X b) s u) (sym (zero.1 s)) (λ x. absurd (not-suc-le-zero x));
    sound = λ l s c k. subst (λ z. So (counts l z)) (sym (same s c)) (unfolded l s k).0;
    has_q = λ l s c o. subst (λ z. So (counts l z)) (same s c) o;
    inside = λ u m. absurd (subst (λ z. Among u z) e m);
    pending = λ s c. inl (zero.0 s, omega arith);
  }
    where
      same : (s : ℕ) → s < M.states → X b s ≡ q s
      same s c = written_column p b₀ b q written s (omega arith)
