-- A board on its way up to an until.
use Rattle.std.proofs.Common.{◌≡◌, ℕ, ◌+◌, ◌/◌, ◌<◌, ◌≤◌, T as So, ◌≢◌, ◌⊎◌, List, [], ◌∷◌, ◌++◌, get_or, sym, refl, ap, ◌∙◌, subst, inl, inr, not-suc-le-zero, arith}
use native.Mathlib.Decide.{ℕ_discrete}
use Rattle.systems.specs.declared.kinds.Colour.{Colour}
use Rattle.systems.specs.declared.kinds.Colour.TheVariants.{F}
use Rattle.systems.specs.Model.{Model}
use Rattle.colours.specs.Walks.{Among}
use Rattle.colours.specs.Values.{meet, rated}
use Rattle.colours.specs.Levels.{Level, counts, On, Steps, Untils, IsUntil}
use Rattle.colours.proofs.Fixpoints.{until_here, until_step, until_least}
use Rattle.colours.proofs.Levels.{F_counts_not, join_parts, join_left, join_right, meet_parts, meet_both}
use Rattle.colours.proofs.Boards.{rated_step, step_rated, steps_below}
use Rattle.colouring.specs.declared.columns.Columns.{Columns}
use Rattle.colouring.specs.passes.Columns.{cell, column, Ordered, OnlyColumn, Clean, Written, throughout}
use Rattle.colouring.specs.passes.Rising.{Raised, passed, Rising}
use Rattle.colouring.proofs.Placing.{column_others, state_apart, waits_else, state_again, written_column, written_clean}

pub in_push : (u s : ℕ) (h : List ℕ) → Among u (h ++ s ∷ []) → Among u h ⊎ (u ≡ s)
in_push u s [] (inl e) = inr e
in_push u s [] (inr m) = absurd m
in_push u s (x ∷ h) (inl e) = inl (inl e)
in_push u s (x ∷ h) (inr m) = elim (in_push u s h m) [ inl k ↦ inl (inr k) | inr e ↦ inr e ]

pub push_in : (u s : ℕ) (h : List ℕ) → Among u h ⊎ (u ≡ s) → Among u (h ++ s ∷ [])
push_in u s [] (inl m) = absurd m
push_in u s [] (inr e) = inl e
push_in u s (x ∷ h) (inl (inl e)) = inl e
push_in u s (x ∷ h) (inl (inr m)) = inr (push_in u s h (inl m))
push_in u s (x ∷ h) (inr e) = inr (push_in u s h (inr e))

module _ (p : Columns) (M : Model) (b₀ : List ℕ) (order : Ordered p) (states : p.states ≡ M.states) where
  abbrev r : ℕ → Colour
  r = column p b₀ p.left

  abbrev q : ℕ → Colour
  q = column p b₀ p.right

  abbrev X : List ℕ → ℕ → Colour
  X b = column p b p.whole

  -- what t passes on to s by a step has a walk where t has one
  passed_walk : (x : ℕ → Colour) → ((l : Level) (s : ℕ) → s < M.states → On l x s → Untils M l r q s)
      → (s t : ℕ) → s < M.states → t < M.states → (l : Level) → So (counts l (passed M r x s t)) → Untils M l r q s
  passed_walk x sound s t a c l h =
      let m = meet_parts l (r s) (meet (rated (M.step s t)) (x t)) h in
      let n = meet_parts l (rated (M.step s t)) (x t) m.1 in
      until_step (Steps l M) (On l r) (On l q) s t m.0 (rated_step l M s t a c n.0) (sound l t c n.1)

  module _ (b b' h h' : List ℕ) (s : ℕ) (v : Colour) (low : s < M.states) (k : Raised p b b' h h' s v) where
    others : (t : ℕ) → t ≢ s → X b' t ≡ X b t
    others = column_others p b b' p.whole s order.whole k.others

    higher : (l : Level) (t : ℕ) → On l (X b) t → On l (X b') t
    higher l t i = elim (ℕ_discrete t s) [
      | yes e ↦ subst (λ z. On l (X b') z) (sym e) (subst (λ z. So (counts l z)) (sym k.new) (join_left l (X b s) v (subst (λ z. On l (X b) z) e i)))
      | no d ↦ subst (λ z. So (counts l z)) (sym (others t d)) i
    ]

    still_waits : (u : ℕ) → Among u h → Among u h'
    still_waits u m = elim k.queue [ inl e ↦ subst (λ z. Among u z) (sym e.1) m | inr e ↦ subst (λ z. Among u z) (sym e) (push_in u (cell p p.whole s) h (inl m)) ]

    -- either nothing changed at u, or u waits
    same_or_waits : (u : ℕ) → (X b' u ≡ X b u) ⊎ Among (cell p p.whole u) h'
    same_or_waits u = elim (ℕ_discrete u s) [
      | yes e ↦ elim k.queue [ inl i ↦ inl (ap (λ z. X z u) i.0) | inr i ↦ inr (subst (λ z. Among (cell p p.whole u) z) (sym i) (push_in (cell p p.whole u) (cell p p.whole s) h (inr (ap (cell p p.whole) e)))) ]
      | no d ↦ inl (others u d)
    ]

    pub rising_raise : (started t from : ℕ) → ((l : Level) → So (counts l v) → Untils M l r q s)
        → Rising p M b₀ b h started t from → Rising p M b₀ b' h' started t from
    rising_raise started t from walk i = record {
      only = λ j d. k.others j (d s (omega arith)) ∙ i.only j d;
      clean = λ z c. elim (ℕ_discrete z s) [
        | yes e ↦ subst (λ w. get_or b' (cell p p.whole w) 0 ≤ 2) (sym e) (k.byte (i.clean s (omega arith)))
        | no d ↦ subst (λ w. w ≤ 2) (sym (k.others (cell p p.whole z) (state_apart p p.whole s z order.whole d))) (i.clean z c)
      ];
      sound = λ l z c o. elim (ℕ_discrete z s) [
        | yes e ↦ subst (Untils M l r q) (sym e)
            (elim (join_parts l (X b s) v (subst (λ w. So (counts l w)) k.new (subst (λ w. On l (X b') w) e o)))
            [ inl a ↦ i.sound l s low a | inr a ↦ walk l a ])
        | no d ↦ i.sound l z c (subst (λ w. So (counts l w)) (others z d) o)
      ];
      inside = λ u m. elim k.queue [
        | inl e ↦ i.inside u (subst (λ z. Among u z) e.1 m)
        | inr e ↦ elim (in_push u (cell p p.whole s) h (subst (λ z. Among u z) e m)) [ inl a ↦ i.inside u a | inr a ↦ (s, low, a) ]
      ];
      has_q = λ z c l o. higher l z (i.has_q z c l o);
      pending = λ z u c d. elim (i.pending z u c d) [
        | inl e ↦ inl e
        | inr (inl m) ↦ inr (inl (still_waits (cell p p.whole u) m))
        | inr (inr f) ↦ inr (elim (same_or_waits u) [
          | inr m ↦ inl m
          | inl e ↦ inr (λ l o. higher l z (f l (subst (λ w. So (counts l (meet (r z) (meet (rated (M.step z u)) w)))) e o)))
        ])
      ];
    }

    -- raised by q
    pub rising_start : v ≡ q s → Rising p M b₀ b h s 0 M.states → Rising p M b₀ b' h' (s + 1) 0 M.states
    rising_start e i =
        let n = rising_raise s 0 M.states (λ l o. until_here (Steps l M) (On l r) (On l q) s (subst (λ z. So (counts l z)) e o)) i in
        record {
          only = n.only;
          clean = n.clean;
          sound = n.sound;
          inside = n.inside;
          pending = n.pending;
          has_q = λ z c l o. elim (ℕ_discrete z s) [
            | yes a ↦ subst (λ w. On l (X b') w) (sym a) (subst (λ w. So (counts l w)) (sym k.new) (join_right l (X b s) v (subst (λ w. So (counts l w)) (sym e) (subst (λ w. On l q w) a o))))
            | no a ↦ n.has_q z (omega arith) l o
          ];
        }

    -- raised by what t passes on
    pub rising_step : (t : ℕ) → t < M.states → v ≡ passed M r (X b) s t → Rising p M b₀ b h M.states t s → Rising p M b₀ b' h' M.states t (s + 1)
    rising_step t c e i =
        let n = rising_raise M.states t s (λ l o. passed_walk (X b) i.sound s t low c l (subst (λ z. So (counts l z)) e o)) i in
        record {
          only = n.only;
          clean = n.clean;
          sound = n.sound;
          inside = n.inside;
          has_q = n.has_q;
          pending = λ z u a d. elim (n.pending z u a d) [
            | inr f ↦ inr f
            | inl f ↦ elim (ℕ_discrete z s) [
              | no g ↦ inl (f.0, omega (arith, f.1))
              | yes g ↦ inr (elim (same_or_waits u) [
                | inr m ↦ inl m
                | inl j ↦ inr (λ l o. subst (λ w. On l (X b') w) (sym g) (subst (λ w. So (counts l w)) (sym k.new) (join_right l (X b s) v (subst (λ w. So (counts l w)) (sym e)
                    (subst (λ w. So (counts l (passed M r (X b) s w))) f.0
                    (subst (λ w. So (counts l (meet (r s) (meet (rated (M.step s u)) w)))) j
                    (subst (λ w. So (counts l (passed M r (X b') w u))) g o)))))))
              ])
            ]
          ];
        }

  -- t is taken out of the queue
  pub rising_pop : (b h h' : List ℕ) (x t : ℕ) → h ≡ x ∷ h' → x ≡ cell p p.whole t → Rising p M b₀ b h M.states 0 M.states → Rising p M b₀ b h' M.states t 0
  rising_pop b h h' x t e at i = record {
    only = i.only;
    clean = i.clean;
    sound = i.sound;
    has_q = i.has_q;
    inside = λ u m. i.inside u (subst (λ z. Among u z) (sym e) (inr m));
    pending = λ z u a d. elim (i.pending z u a d) [
      | inl f ↦ absurd (omega (arith, f.1))
      | inr (inr f) ↦ inr (inr f)
      | inr (inl m) ↦ elim (waits_else p order.whole x t at h' u (subst (λ z. Among (cell p p.whole u) z) e m)) [ inl g ↦ inl (g, omega arith) | inr g ↦ inr (inl g) ]
    ];
  }

  -- what waits is a position of the clause
  pub rising_waits : (b h h' : List ℕ) (x t st : ℕ) → h ≡ x ∷ h' → t ≡ x / p.clauses → Rising p M b₀ b h st 0 M.states → (x ≡ cell p p.whole t) × (t < M.states)
  rising_waits b h h' x t st e f i =
      let u = i.inside x (subst (λ z. Among x z) (sym e) (inl refl)) in
      let g = state_again p p.whole u.0 x t order.whole u.2 f in
      (u.2 ∙ ap (cell p p.whole) (sym g), subst (λ z. z < M.states) (sym g) u.1)

  -- t has been looked back from at all states
  pub rising_done : (b h : List ℕ) (t n : ℕ) → M.states ≤ n → Rising p M b₀ b h M.states t n → Rising p M b₀ b h M.states 0 M.states
  rising_done b h t n end i = record {
    only = i.only;
    clean = i.clean;
    sound = i.sound;
    has_q = i.has_q;
    inside = i.inside;
    pending = λ z u a d. elim (i.pending z u a d) [ inl f ↦ absurd (omega (arith, f.1)) | inr f ↦ inr f ];
  }

  -- nothing waits: the board shows the until
  pub rising_rest : (b : List ℕ) → Rising p M b₀ b [] M.states 0 M.states → IsUntil M r q (X b)
  rising_rest b i l s c = (
    i.sound l s c,
    λ w.
        until_least (Steps l M) (On l r) (On l q) (λ z. z < M.states → On l (X b) z)
        (λ z o d. i.has_q z d l o)
        (λ z u o k on d.
        let e = (steps_below l M z u k).1 in
        elim (i.pending z u d e) [
          | inl f ↦ absurd (omega (arith, f.1))
          | inr (inl m) ↦ absurd m
          | inr (inr f) ↦ f l (meet_both l (r z) (meet (rated (M.step z u)) (X b u)) o (meet_both l (rated (M.step z u)) (X b u) (step_rated l M z u k) (on e)))
        ])
        s w c,
  )

  meet_F : (a c : Colour) → meet a (meet c F) ≡ F
  meet_F a c = grind arith

  -- all is F, and nothing waits
  rising_first : (b : List ℕ) → OnlyColumn p b₀ b → Clean p b → ((s : ℕ) → s < M.states → X b s ≡ F) → Rising p M b₀ b [] 0 0 M.states
  rising_first b only clean low = record {
    only = only;
    clean = clean;
    sound = λ l s c o. absurd (F_counts_not l (subst (λ w. So (counts l w)) (low s c) o));
    inside = λ u m. absurd m;
    has_q = λ s c. absurd (not-suc-le-zero c);
    pending = λ s u c d. inr (inr (λ l o. absurd (F_counts_not l (subst (λ w. So (counts l w)) (meet_F (r s) (rated (M.step s u)))
        (subst (λ w. So (counts l (meet (r s) (meet (rated (M.step s u)) w)))) (low u d) o)))));
  }

  pub rising_begun : (b h : List ℕ) → h ≡ [] → Written p b₀ b (throughout F) → Rising p M b₀ b h 0 0 M.states
  rising_begun b h e w = subst (λ z. Rising p M b₀ b z 0 0 M.states) (sym e)
      (rising_first b w.only (written_clean p b₀ b (throughout F) w) (λ s c. written_column p b₀ b (throughout F) w s (omega arith)))
