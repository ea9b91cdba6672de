-- Boards that show the colours of colourings.
use Rattle.std.proofs.Common.{◌≡◌, ℕ, ◌<◌, T as So, sym, refl, subst, inl, inr}
use Rattle.systems.specs.declared.kinds.Colour.{Colour}
use Rattle.systems.specs.declared.kinds.Colour.TheVariants.{Undecided, F, T}
use Rattle.systems.specs.Model.{Model, Possibly}
use Rattle.rules.specs.declared.syntax.Quantifier.TheVariants.{E}
use Rattle.colours.specs.Walks.{Until, Release}
use Rattle.colours.specs.Colours.{Colouring, exchange, conjunction, E_next, E_until, E_release, Told, HasColour}
use Rattle.colours.specs.Values.{meet, negate, next_value}
use Rattle.colours.specs.Levels.{Level, surely, possibly, counts, On, Steps, Has, Untils, Releases, IsUntil, IsRelease}
use Rattle.colours.proofs.Lifting.{Lifts, Carries, until_lift, release_lift}
use Rattle.colours.proofs.Consistency.{Consistent}
use Rattle.colours.proofs.Levels.{negate_negate}
use Rattle.colours.proofs.Boards.{steps_below, next_found, next_holds}

-- the board has the colour of each state
abbrev pub Shows : Model → Colouring → (ℕ → Colour) → Type 0
Shows M c x = (s : ℕ) → s < M.states → HasColour c s (x s)

-- the board counts at a level what the colouring has there
pub same_level : (l : Level) (c : Colouring) (s : ℕ) (v : Colour) → Consistent c → HasColour c s v
    → (So (counts l v) → Has l c s) × (Has l c s → So (counts l v))
same_level surely c s Undecided apart h = (λ k. absurd k, λ t. h.0 t)
same_level surely c s F apart h = (λ k. absurd k, λ t. apart s t h)
same_level surely c s T apart h = (λ k. h, λ t. tt)
same_level possibly c s Undecided apart h = (λ k. h.1, λ n. tt)
same_level possibly c s F apart h = (λ k. absurd k, λ n. n h)
same_level possibly c s T apart h = (λ k f. apart s h f, λ n. tt)

told_by_levels : (P Q : Type 0) (v : Colour) → (So (counts surely v) → P) → (P → So (counts surely v)) → (So (counts possibly v) → Q)
    → (Q → So (counts possibly v)) → Told P (¬ Q) v
told_by_levels P Q T a b c d = a tt
told_by_levels P Q F a b c d = d
told_by_levels P Q Undecided a b c d = (b, λ n. n (c tt))

-- T and F exchanged
pub negate_has : (c : Colouring) (s : ℕ) (v : Colour) → HasColour c s v → HasColour (exchange c) s (negate v)
negate_has c s Undecided k = (k.1, k.0)
negate_has c s F k = k
negate_has c s T k = k

pub negate_shows : (M : Model) (c : Colouring) (x : ℕ → Colour) → Shows M c x → Shows M (exchange c) (λ s. negate (x s))
negate_shows M c x h s b = negate_has c s (x s) (h s b)

pub unnegate_shows : (M : Model) (c : Colouring) (x : ℕ → Colour) → Shows M (exchange c) (λ s. negate (x s)) → Shows M c x
unnegate_shows M c x h s b = subst (HasColour c s) (negate_negate (x s)) (negate_shows M (exchange c) (λ s. negate (x s)) h s b)

-- & is the meet
pub meet_shows : (r q : Colouring) (s : ℕ) → Consistent r → Consistent q → (v w : Colour) → HasColour r s v → HasColour q s w
    → HasColour (conjunction r q) s (meet v w)
meet_shows r q s a b F w h k = inl h
meet_shows r q s a b T F h k = inr k
meet_shows r q s a b T T h k = (h, k)
meet_shows r q s a b T Undecided h k = (λ p. k.0 p.1, elim [ inl f ↦ a s h f | inr f ↦ k.1 f ])
meet_shows r q s a b Undecided F h k = inr k
meet_shows r q s a b Undecided T h k = (λ p. h.0 p.0, elim [ inl f ↦ h.1 f | inr f ↦ b s k f ])
meet_shows r q s a b Undecided Undecided h k = (λ p. h.0 p.0, elim [ inl f ↦ h.1 f | inr f ↦ k.1 f ])

module _ (M : Model) where
  -- EX is the value of the next states
  pub next_shown : (c : Colouring) (x : ℕ → Colour) → Consistent c → Shows M c x → Shows M (E_next M c) (next_value M E x)
  next_shown c x apart shows s b = go (next_value M E x s) refl
    where
      kept : (l : Level) (t : ℕ) → Steps l M s t → Has l c t → So (counts l (next_value M E x s))
      kept l t k h = next_holds M l x s t k ((same_level l c t (x t) apart (shows t (steps_below l M s t k).1)).1 h)

      found : (l : Level) → So (counts l (next_value M E x s)) → (t : ℕ) × Steps l M s t × Has l c t
      found l h = let w = next_found M l x s b h in
          (w.0, w.1, (same_level l c w.0 (x w.0) apart (shows w.0 (steps_below l M s w.0 w.1).1)).0 w.2)

      false_at : (t : ℕ) → Possibly M s t → ¬ So (counts possibly (next_value M E x s)) → (v : Colour) → x t ≡ v → HasColour c t v
          → c.is_F t
      false_at t k n Undecided e h = absurd (n (next_holds M possibly x s t k (subst (λ v. So (counts possibly v)) (sym e) tt)))
      false_at t k n F e h = h
      false_at t k n T e h = absurd (n (next_holds M possibly x s t k (subst (λ v. So (counts possibly v)) (sym e) tt)))

      go : (v : Colour) → next_value M E x s ≡ v → HasColour (E_next M c) s v
      go T e = found surely (subst (λ v. So (counts surely v)) (sym e) tt)
      go F e = λ t k. false_at t k (subst (λ v. So (counts possibly v)) e) (x t) refl (shows t k.1)
      go Undecided e = (
        λ w. subst (λ v. So (counts surely v)) e (kept surely w.0 w.1 w.2),
        λ all. let w = found possibly (subst (λ v. So (counts possibly v)) (sym e) tt) in w.2 (all w.0 w.1),
      )

  -- the same state, in range
  abbrev Same : ℕ → ℕ → Type 0
  Same a b = (a ≡ b) × (a < M.states)

  same_step : (l : Level) → Lifts Same (Steps l M) (Steps l M)
  same_step l x y t e k = (t, subst (λ z. Steps l M z t) e.0 k, (refl, (steps_below l M x t k).1))

  module _ (c : Colouring) (x : ℕ → Colour) (shows : Shows M c x) (apart : Consistent c) where
    to_colour : (l : Level) → Carries Same (On l x) (Has l c)
    to_colour l a b e o = subst (Has l c) e.0 ((same_level l c a (x a) apart (shows a e.1)).0 o)

    to_board : (l : Level) → Carries Same (Has l c) (On l x)
    to_board l a b e o = subst (On l x) e.0 ((same_level l c a (x a) apart (shows a e.1)).1 o)

  module _ (cr cq : Colouring) (r q x : ℕ → Colour) (shows_r : Shows M cr r) (shows_q : Shows M cq q) (apart_r : Consistent cr)
      (apart_q : Consistent cq) where
    module _ (l : Level) (s : ℕ) (b : s < M.states) where
      until_there : Untils M l r q s → Until (Steps l M) (Has l cr) (Has l cq) s
      until_there = until_lift Same (Steps l M) (Steps l M) (same_step l) (On l r) (On l q) (Has l cr) (Has l cq)
          (to_colour cr r shows_r apart_r l) (to_colour cq q shows_q apart_q l) s s (refl, b)

      until_back : Until (Steps l M) (Has l cr) (Has l cq) s → Untils M l r q s
      until_back = until_lift Same (Steps l M) (Steps l M) (same_step l) (Has l cr) (Has l cq) (On l r) (On l q)
          (to_board cr r shows_r apart_r l) (to_board cq q shows_q apart_q l) s s (refl, b)

      release_there : Releases M l r q s → Release (Steps l M) (Has l cr) (Has l cq) s
      release_there = release_lift Same (Steps l M) (Steps l M) (same_step l) (On l r) (On l q) (Has l cr) (Has l cq)
          (to_colour cr r shows_r apart_r l) (to_colour cq q shows_q apart_q l) M.states (λ s t k. (steps_below l M s t k).0) s s
          (refl, b)

      release_back : Release (Steps l M) (Has l cr) (Has l cq) s → Releases M l r q s
      release_back = release_lift Same (Steps l M) (Steps l M) (same_step l) (Has l cr) (Has l cq) (On l r) (On l q)
          (to_board cr r shows_r apart_r l) (to_board cq q shows_q apart_q l) M.states (λ s t k. (steps_below l M s t k).0) s s (refl, b)

    pub until_shown : IsUntil M r q x → Shows M (E_until M cr cq) x
    until_shown is s b = told_by_levels (Until (Steps surely M) (Has surely cr) (Has surely cq) s)
        (Until (Steps possibly M) (Has possibly cr) (Has possibly cq) s) (x s)
        (λ o. until_there surely s b ((is surely s b).0 o)) (λ w. (is surely s b).1 (until_back surely s b w))
        (λ o. until_there possibly s b ((is possibly s b).0 o)) (λ w. (is possibly s b).1 (until_back possibly s b w))

    pub release_shown : IsRelease M r q x → Shows M (E_release M cr cq) x
    release_shown is s b =
        told_by_levels (Release (Steps surely M) (Has surely cr) (Has surely cq) s)
        (Release (Steps possibly M) (Has possibly cr) (Has possibly cq) s) (x s)
        (λ o. release_there surely s b ((is surely s b).0 o)) (λ w. (is surely s b).1 (release_back surely s b w))
        (λ o. release_there possibly s b ((is possibly s b).0 o)) (λ w. (is possibly s b).1 (release_back possibly s b w))
