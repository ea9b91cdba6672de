-- For one operator: a set V of states where it is undecided, closed under the ways in which a chain goes on and with no end of a chain, is empty.
use Rattle.std.proofs.Common.{◌≡◌, ℕ, ◌<◌, ◌⊎◌, refl, subst, inl, inr, arith}
use Rattle.systems.specs.declared.kinds.Step.{Step}
use Rattle.systems.specs.declared.kinds.Step.TheVariants.{Absent, Unsure, Sure}
use Rattle.systems.specs.declared.kinds.Colour.{Colour}
use Rattle.systems.specs.declared.kinds.Colour.TheVariants.{Undecided, F, T}
use Rattle.systems.specs.Model.{Model, Surely, Possibly}
use Rattle.colours.specs.Walks.{Until}
use Rattle.colours.specs.Colours.{Colouring, conjunction, E_next, E_until, E_release, HasColour}
use Rattle.colours.specs.Chains.{Unsurely}
use Rattle.colours.proofs.Fixpoints.{until_here, until_step, until_least, release_here, release_step, release_greatest, release_unfold}
use Rattle.colours.proofs.Lists.{least}
use Rattle.colours.proofs.Shown.{Shows}

-- a possible step is sure or unsure
sure_or_unsure : (M : Model) (s t : ℕ) → Possibly M s t → Surely M s t ⊎ Unsurely M s t
sure_or_unsure M s t h = go (M.step s t) refl
  where
    go : (k : Step) → M.step s t ≡ k → Surely M s t ⊎ Unsurely M s t
    go Absent e = absurd (h.2 e)
    go Unsure e = inr (h.0, h.1, e)
    go Sure e = inl (h.0, h.1, e)

-- what is shown and not undecided is T or F
decided : (M : Model) (c : Colouring) (board : ℕ → Colour) → Shows M c board → (s : ℕ) → s < M.states → ¬ HasColour c s Undecided
    → c.is_T s ⊎ c.is_F s
decided M c board k s b n = go (board s) (k s b)
  where
    go : (v : Colour) → HasColour c s v → c.is_T s ⊎ c.is_F s
    go T h = inl h
    go F h = inr h
    go Undecided h = absurd (n h)

-- a possible step to a state that the board does not show F
Hopeful : Model → (ℕ → Colour) → ℕ → ℕ → Type 0
Hopeful M board s t = Possibly M s t × ¬ (board t ≡ F)

hopeful? : (M : Model) (board : ℕ → Colour) (s t : ℕ) → s < M.states → t < M.states → Dec (Hopeful M board s t)
unfolding Hopeful
hopeful? M board s t a b = go (M.step s t) (board t) refl refl
  where
    go : (k : Step) (c : Colour) → M.step s t ≡ k → board t ≡ c → Dec (Hopeful M board s t)
    go Absent c e f = no (λ h. h.0.2 e)
    go Unsure F e f = no (λ h. h.1 f)
    go Unsure T e f = yes ((a, b, λ g. grind arith), λ g. grind arith)
    go Unsure Undecided e f = yes ((a, b, λ g. grind arith), λ g. grind arith)
    go Sure F e f = no (λ h. h.1 f)
    go Sure T e f = yes ((a, b, λ g. grind arith), λ g. grind arith)
    go Sure Undecided e f = yes ((a, b, λ g. grind arith), λ g. grind arith)

module _ (M : Model) (r q : Colouring) (board_r board_q : ℕ → Colour) (known_r : Shows M r board_r) (known_q : Shows M q board_q)
    (V : ℕ → Type 0)
    (below : (s : ℕ) → V s → s < M.states) (r_decided : (s : ℕ) → V s → ¬ HasColour r s Undecided)
    (q_decided : (s : ℕ) → V s → ¬ HasColour q s Undecided) where
  -- & with decided parts is decided
  pub and_stuck : ((s : ℕ) → V s → HasColour (conjunction r q) s Undecided) → (s : ℕ) → V s → ⊥
  and_stuck und s v = elim (decided M r board_r known_r s (below s v) (r_decided s v)) [
    | inr f ↦ (und s v).1 (inl f)
    | inl t ↦ elim (decided M q board_q known_q s (below s v) (q_decided s v)) [
      | inr f ↦ (und s v).1 (inr f)
      | inl u ↦ (und s v).0 (t, u)
    ]
  ]

  module _ (board : ℕ → Colour) (known : Shows M (E_until M r q) board) (und : (s : ℕ) → V s → HasColour (E_until M r q) s Undecided)
      (on : (s t : ℕ) → V s → ¬ r.is_F s → Possibly M s t → HasColour (E_until M r q) t Undecided → V t)
      (end : (s t : ℕ) → V s → ¬ r.is_F s → Unsurely M s t → (E_until M r q).is_T t → ⊥) where
    -- along a possible walk to a q that is not F nothing is in the set, as each state before would be T or have an end
    pub until_stuck : (s : ℕ) → V s → ⊥
    until_stuck s v = (und s v).1 (λ w. (until_least (Possibly M) (λ t. ¬ r.is_F t) (λ t. ¬ q.is_F t) Free here ahead s w).1 v)
      where
        Walks : ℕ → Type 0
        Walks s = Until (Possibly M) (λ t. ¬ r.is_F t) (λ t. ¬ q.is_F t) s

        Free : ℕ → Type 0
        Free s = Walks s × (V s → ⊥)

        here : (s : ℕ) → ¬ q.is_F s → Free s
        here s n = (
          until_here (Possibly M) (λ t. ¬ r.is_F t) (λ t. ¬ q.is_F t) s n,
          λ v. elim (decided M q board_q known_q s (below s v) (q_decided s v))
              [ inl t ↦ (und s v).0 (until_here (Surely M) r.is_T q.is_T s t) | inr f ↦ n f ],
        )

        free_ahead : (s t : ℕ) → ¬ r.is_F s → Possibly M s t → Free t → V s → r.is_T s → (c : Colour) → HasColour (E_until M r q) t c → ⊥
        free_ahead s t n k next v y T h = elim (sure_or_unsure M s t k)
            [ inl a ↦ (und s v).0 (until_step (Surely M) r.is_T q.is_T s t y a h) | inr u ↦ end s t v n u h ]
        free_ahead s t n k next v y F h = h next.0
        free_ahead s t n k next v y Undecided h = next.1 (on s t v n k h)

        ahead : (s t : ℕ) → ¬ r.is_F s → Possibly M s t → Free t → Free s
        ahead s t n k next = (
          until_step (Possibly M) (λ t. ¬ r.is_F t) (λ t. ¬ q.is_F t) s t n k next.0,
          λ v. elim (decided M r board_r known_r s (below s v) (r_decided s v))
              [ inl y ↦ free_ahead s t n k next v y (board t) (known t k.1) | inr f ↦ n f ],
        )

  module _ (board : ℕ → Colour) (known : Shows M (E_release M r q) board) (und : (s : ℕ) → V s → HasColour (E_release M r q) s Undecided)
      (on : (s t : ℕ) → V s → ¬ r.is_T s → Possibly M s t → HasColour (E_release M r q) t Undecided → V t)
      (end : (s t : ℕ) → V s → ¬ r.is_T s → Unsurely M s t → (E_release M r q).is_T t ⊎ HasColour (E_release M r q) t Undecided → ⊥) where
    -- each state of the set has a sure step into the set, so it would be T
    pub release_stuck : (s : ℕ) → V s → ⊥
    unfolding Hopeful
    release_stuck s v = (und s v).0 (release_greatest (Surely M) r.is_T q.is_T M.states (λ s t h. h.0) V out s v)
      where
        sure_ahead : (s t : ℕ) → V s → q.is_T s → ¬ r.is_T s → Possibly M s t → ¬ (board t ≡ F) → (c : Colour) → board t ≡ c
            → HasColour (E_release M r q) t c → (t : ℕ) × Surely M s t × V t
        sure_ahead s t v y n k h F e w = absurd (h e)
        sure_ahead s t v y n k h T e w = elim (sure_or_unsure M s t k)
            [ inl a ↦ absurd ((und s v).0 (release_step (Surely M) r.is_T q.is_T s t y a w)) | inr u ↦ absurd (end s t v n u (inl w)) ]
        sure_ahead s t v y n k h Undecided e w = elim (sure_or_unsure M s t k)
            [ inl a ↦ (t, a, on s t v n k w) | inr u ↦ absurd (end s t v n u (inr w)) ]

        none_ahead : (s : ℕ) → V s → r.is_F s → ((t : ℕ) → t < M.states → ¬ Hopeful M board s t) → ⊥
        none_ahead s v f none =
            (und s v).1 (λ w. elim (release_unfold (Possibly M) (λ t. ¬ r.is_F t) (λ t. ¬ q.is_F t) M.states (λ s t h. h.0) s w).1 [
              | inl n ↦ n f
              | inr a ↦ none a.0 a.1.1
                  (a.1, λ e. subst (HasColour (E_release M r q) a.0) e (known a.0 a.1.1) a.2)
            ])

        ahead : (s : ℕ) → V s → q.is_T s → r.is_F s → (t : ℕ) × Surely M s t × V t
        ahead s v y f = elim (least (Hopeful M board s) M.states (λ t b. hopeful? M board s t (below s v) b)) [
          | inl a ↦ sure_ahead s a.0 v y (λ z. (und s v).0 (release_here (Surely M) r.is_T q.is_T s y z)) a.2.0 a.2.1
              (board a.0) refl (known a.0 a.2.0.1)
          | inr none ↦ absurd (none_ahead s v f none)
        ]

        q_true : (s : ℕ) → V s → q.is_T s
        q_true s v = elim (decided M q board_q known_q s (below s v) (q_decided s v)) [
          | inl t ↦ t
          | inr f ↦ absurd ((und s v).1 (λ w. w.2.0 f))
        ]

        out : (s : ℕ) → V s → q.is_T s × (r.is_T s ⊎ ((t : ℕ) × Surely M s t × V t))
        out s v = (
          q_true s v,
          elim
              (decided M r board_r known_r s (below s v) (r_decided s v)) [ inl t ↦ inl t | inr f ↦ inr (ahead s v (q_true s v) f) ],
        )

module _ (M : Model) (r : Colouring) (board : ℕ → Colour) (known : Shows M r board) (V : ℕ → Type 0)
    (und : (s : ℕ) → V s → HasColour (E_next M r) s Undecided)
    (decided_ahead : (s t : ℕ) → V s → Possibly M s t → ¬ HasColour r t Undecided)
    (end : (s t : ℕ) → V s → Unsurely M s t → r.is_T t → ⊥) where
  -- a possible step to T would make it T or be an end
  pub next_stuck : (s : ℕ) → V s → ⊥
  next_stuck s v = (und s v).1 (λ t k. elim (decided M r board known t k.1 (decided_ahead s t v k)) [
    | inr f ↦ f
    | inl h ↦ elim (sure_or_unsure M s t k) [ inl a ↦ absurd ((und s v).0 (t, a, h)) | inr u ↦ absurd (end s t v u h) ]
  ])
