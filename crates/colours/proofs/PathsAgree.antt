-- Colours by walks are colours by maximal paths.
use Rattle.std.proofs.Common.{◌≡◌, ℕ, ◌<◌, true, false, ◌↔◌, sym, refl, subst, inl, inr, arith}
use Rattle.systems.specs.declared.kinds.Colour.{Colour}
use Rattle.systems.specs.declared.kinds.Colour.TheVariants.{Undecided, F, T}
use Rattle.systems.specs.Model.{Model, Lawful, Surely, Possibly, Starts}
use Rattle.rules.specs.Formulas.{Formula, constant, mark, next, pair}
use Rattle.rules.specs.declared.syntax.Quantifier.TheVariants.{A, E}
use Rattle.rules.specs.declared.syntax.Operator.{Operator}
use Rattle.rules.specs.declared.syntax.Operator.TheVariants.{And, Or, AU, AV, EU, EV}
use Rattle.colours.specs.Colours.{Colouring, exchange, true_everywhere, mark_colouring, conjunction, E_next, E_until, E_release, exchanged, joined, colouring, Told}
use Rattle.colours.specs.Paths.{Length, ends_at, endless, Place, Path, UntilAlong, ReleaseAlong, Along, next_along, until_along, release_along, over_paths, joined_by_paths, path_colouring}
use Rattle.colours.specs.PathTheorems.{WalksAndPathsAgree, VerdictsByPathsAgree, PossiblePathsEndless}
use Rattle.colours.proofs.PathsMade.{place_down, states_below, path_by_step}
use Rattle.colours.proofs.PathsWalked.{Not, until_path, path_until, release_path, path_release, endless_until}
use Rattle.colours.proofs.PathsDecided.{sure_steps, possible_steps, Decided, colours_decided}

pub possible_paths_endless : PossiblePathsEndless
possible_paths_endless M lawful s low path m = by_length path.length refl
  where
    by_length : (l : Length) → path.length ≡ l → path.length ≡ endless
    by_length endless e = e
    by_length (ends_at n) e =
        let p = subst (λ l. Place l n) (sym e) (omega arith) in
        let on = lawful.goes_on (path.at n) (states_below (possible_steps M) s low path m n p) in
        absurd (m.ends n e on.0 on.1)

-- what holds along a path goes on to hold where r and q hold at more of its states
module _ (path : Path) (r q r' q' : ℕ → Type 0)
    (rr : (k : ℕ) → Place path.length k → r (path.at k) → r' (path.at k))
    (qq : (k : ℕ) → Place path.length k → q (path.at k) → q' (path.at k)) where
  until_carried : UntilAlong r q path → UntilAlong r' q' path
  until_carried u =
      (u.0, u.1, qq u.0 u.1 u.2, λ j b. rr j (place_down path.length j u.0 (omega arith) u.1) (u.3 j b))

  release_carried : ReleaseAlong r q path → ReleaseAlong r' q' path
  release_carried h = (
    λ k p none. qq k p (h.0 k p (λ j b a. none j b (rr j (place_down path.length j k (omega arith) p) a))),
    λ never. h.1 (λ k p a. never k p (rr k p a)),
  )

module _ (M : Model) (lawful : Lawful M) where
  -- where a is T or F, c is so too
  Into : Colouring → Colouring → Type 0
  Into a c = (s : ℕ) → s < M.states → (a.is_T s → c.is_T s) × (a.is_F s → c.is_F s)

  over_into : (a c : Along)
      → ((path : Path) → ((k : ℕ) → Place path.length k → path.at k < M.states)
      → (a.is_T path → c.is_T path) × (a.is_F path → c.is_F path))
      → Into (over_paths M E a) (over_paths M E c)
  unfolding Into
  over_into a c h s low = (
    λ p. (p.0, p.1, (h p.0 (states_below (sure_steps M) s low p.0 p.1)).0 p.2),
    λ all path m. (h path (states_below (possible_steps M) s low path m)).1 (all path m),
  )

  -- the operators by paths keep `Into`
  next_into : (a c : Colouring) → Into a c → Into (over_paths M E (next_along a)) (over_paths M E (next_along c))
  unfolding Into
  next_into a c ac = over_into (next_along a) (next_along c) (λ path low. (
    λ h. (h.0, (ac (path.at 1) (low 1 h.0)).0 h.1),
    λ h. (h.0, (ac (path.at 1) (low 1 h.0)).1 h.1),
  ))

  module _ (a b c d : Colouring) (ac : Into a c) (bd : Into b d) where
    and_into : Into (conjunction a b) (conjunction c d)
    unfolding Into
    and_into s low =
        (λ h. ((ac s low).0 h.0, (bd s low).0 h.1), elim [ inl h ↦ inl ((ac s low).1 h) | inr h ↦ inr ((bd s low).1 h) ])

    until_into : Into (over_paths M E (until_along a b)) (over_paths M E (until_along c d))
    unfolding Into
    until_into = over_into (until_along a b) (until_along c d) (λ path low. (
      until_carried path a.is_T b.is_T c.is_T d.is_T (λ k p. (ac (path.at k) (low k p)).0) (λ k p. (bd (path.at k) (low k p)).0),
      release_carried path a.is_F b.is_F c.is_F d.is_F (λ k p. (ac (path.at k) (low k p)).1) (λ k p. (bd (path.at k) (low k p)).1),
    ))

    release_into : Into (over_paths M E (release_along a b)) (over_paths M E (release_along c d))
    unfolding Into
    release_into = over_into (release_along a b) (release_along c d) (λ path low. (
      release_carried path a.is_T b.is_T c.is_T d.is_T (λ k p. (ac (path.at k) (low k p)).0) (λ k p. (bd (path.at k) (low k p)).0),
      until_carried path a.is_F b.is_F c.is_F d.is_F (λ k p. (ac (path.at k) (low k p)).1) (λ k p. (bd (path.at k) (low k p)).1),
    ))

  -- each operator by walks, and the same by paths
  walks_next : (a : Colouring) → Into (E_next M a) (over_paths M E (next_along a))
  unfolding Into
  walks_next a s low = (
    λ h. let p = path_by_step (sure_steps M) s h.0 h.1 in (p.0, p.1, (p.2, subst a.is_T (sym p.3) h.2)),
    λ all path m.
        let p : Place path.length 1 = subst (λ l. Place l 1) (sym (possible_paths_endless M lawful s low path m)) tt in
        (p, all (path.at 1) (subst (λ x. Possibly M x (path.at 1)) m.first (m.steps 0 p))),
  )

  paths_next : (a : Colouring) → Into (over_paths M E (next_along a)) (E_next M a)
  unfolding Into
  paths_next a s low = (
    λ h. (h.0.at 1, subst (λ x. Surely M x (h.0.at 1)) h.1.first (h.1.steps 0 h.2.0), h.2.1),
    λ all t k. let p = path_by_step (possible_steps M) s t k in subst a.is_F p.3 (all p.0 p.1).1,
  )

  module _ (a b : Colouring) (a? : Decided M a) (b? : Decided M b) where
    walks_until : Into (E_until M a b) (over_paths M E (until_along a b))
    unfolding Into
    walks_until s low = (
      until_path (sure_steps M) a.is_T b.is_T s,
      λ none path m. (
        λ k p before. elim (b? (path.at k) (states_below (possible_steps M) s low path m k p)).1 [
          | yes f ↦ f
          | no f ↦ absurd (none (path_until (possible_steps M) (Not a.is_F) (Not b.is_F) s path m (k, p, f, before)))
        ],
        λ never. possible_paths_endless M lawful s low path m,
      ),
    )

    paths_until : Into (over_paths M E (until_along a b)) (E_until M a b)
    unfolding Into
    paths_until s low = (
      λ p. path_until (sure_steps M) a.is_T b.is_T s p.0 p.1 p.2,
      λ all w.
          let p = until_path (possible_steps M) (Not a.is_F) (Not b.is_F) s w in
          p.2.2 ((all p.0 p.1).0 p.2.0 p.2.1 p.2.3),
    )

    walks_release : Into (E_release M a b) (over_paths M E (release_along a b))
    unfolding Into
    walks_release s low = (
      release_path (sure_steps M) a.is_T b.is_T s,
      λ none path m. endless_until (possible_steps M) a.is_F b.is_F (λ s low. (a? s low).1) (λ s low. (b? s low).1) s none path m
          (possible_paths_endless M lawful s low path m),
    )

    paths_release : Into (over_paths M E (release_along a b)) (E_release M a b)
    unfolding Into
    paths_release s low = (
      λ p. path_release (sure_steps M) a.is_T b.is_T (λ s low. (a? s low).0) s low p.0 p.1 p.2,
      λ all w.
          let p = release_path (possible_steps M) (Not a.is_F) (Not b.is_F) s w in
          let u = all p.0 p.1 in
          p.2.0 u.0 u.1 (λ j b k. k (u.3 j b)) u.2,
    )

  -- the same T and the same F
  Same : Colouring → Colouring → Type 0
  Same a c = Into a c × Into c a

  itself : (a : Colouring) → Same a a
  unfolding Same Into
  itself a = (λ s low. (λ h. h, λ h. h), λ s low. (λ h. h, λ h. h))

  swap : (a c : Colouring) → Same a c → Same (exchange a) (exchange c)
  unfolding Same Into
  swap a c h = (λ s low. ((h.0 s low).1, (h.0 s low).0), λ s low. ((h.1 s low).1, (h.1 s low).0))

  through : (a b c : Colouring) → Into a b → Into b a → Into b c → Into c b → Same a c
  unfolding Same Into
  through a b c ab ba bc cb = (
    λ s low. (λ h. (bc s low).0 ((ab s low).0 h), λ h. (bc s low).1 ((ab s low).1 h)),
    λ s low. (λ h. (ba s low).0 ((cb s low).0 h), λ h. (ba s low).1 ((cb s low).1 h)),
  )

  next_same : (a c : Colouring) → Same a c → Same (E_next M a) (over_paths M E (next_along c))
  unfolding Same
  next_same a c h = through (E_next M a) (over_paths M E (next_along a)) (over_paths M E (next_along c))
      (walks_next a) (paths_next a) (next_into a c h.0) (next_into c a h.1)

  -- one operator by walks and one by paths make the same of the same parts
  Alike : (Colouring → Colouring → Colouring) → (Colouring → Colouring → Colouring) → Type 1
  Alike walks paths = (a b c d : Colouring) → Decided M a → Decided M b → Same a c → Same b d → Same (walks a b) (paths c d)

  and_alike : Alike conjunction conjunction
  unfolding Alike Same
  and_alike a b c d a? b? h k = (and_into a b c d h.0 k.0, and_into c d a b h.1 k.1)

  until_alike : Alike (E_until M) (joined_by_paths M EU)
  unfolding Alike Same
  until_alike a b c d a? b? h k = through (E_until M a b) (joined_by_paths M EU a b) (joined_by_paths M EU c d)
      (walks_until a b a? b?) (paths_until a b a? b?) (until_into a b c d h.0 k.0) (until_into c d a b h.1 k.1)

  release_alike : Alike (E_release M) (joined_by_paths M EV)
  unfolding Alike Same
  release_alike a b c d a? b? h k = through (E_release M a b) (joined_by_paths M EV a b) (joined_by_paths M EV c d)
      (walks_release a b a? b?) (paths_release a b a? b?) (release_into a b c d h.0 k.0) (release_into c d a b h.1 k.1)

  dual : (walks paths : Colouring → Colouring → Colouring) → Alike walks paths → Alike (exchanged walks) (exchanged paths)
  unfolding Alike
  dual walks paths alike a b c d a? b? h k = swap (walks (exchange a) (exchange b)) (paths (exchange c) (exchange d))
      (alike (exchange a) (exchange b) (exchange c) (exchange d) (λ s low. ((a? s low).1, (a? s low).0)) (λ s low. ((b? s low).1, (b? s low).0)) (swap a c h) (swap b d k))

  joined_alike : (o : Operator) → Alike (joined M o) (joined_by_paths M o)
  unfolding Alike
  joined_alike And = and_alike
  joined_alike Or = dual conjunction conjunction and_alike
  joined_alike EU = until_alike
  joined_alike AV = dual (E_until M) (joined_by_paths M EU) until_alike
  joined_alike EV = release_alike
  joined_alike AU = dual (E_release M) (joined_by_paths M EV) release_alike

  same : (f : Formula) → Same (colouring M f) (path_colouring M f)
  unfolding colouring path_colouring Alike
  same (constant true) = itself true_everywhere
  same (constant false) = itself (exchange true_everywhere)
  same (mark p false) = itself (mark_colouring M p)
  same (mark p true) = itself (exchange (mark_colouring M p))
  same (next E r) = next_same (colouring M r) (path_colouring M r) (same r)
  same (next A r) = swap (E_next M (exchange (colouring M r))) (over_paths M E (next_along (exchange (path_colouring M r))))
      (next_same (exchange (colouring M r)) (exchange (path_colouring M r)) (swap (colouring M r) (path_colouring M r) (same r)))
  same (pair o r q) = joined_alike o (colouring M r) (colouring M q) (path_colouring M r) (path_colouring M q)
      (colours_decided M r) (colours_decided M q) (same r) (same q)

pub walks_and_paths_agree : WalksAndPathsAgree
unfolding Same Into
walks_and_paths_agree M lawful f s low =
    let h = same M lawful f in (((h.0 s low).0, (h.1 s low).0), ((h.0 s low).1, (h.1 s low).1))

-- colours told by statements that imply each other
told_alike : (P Q P' Q' : Type 0) → P ↔ P' → Q ↔ Q' → (c : Colour) → Told P Q c ↔ Told P' Q' c
told_alike P Q P' Q' p q T = p
told_alike P Q P' Q' p q F = q
told_alike P Q P' Q' p q Undecided =
    (λ h. (λ x. h.0 (p.1 x), λ x. h.1 (q.1 x)), λ h. (λ x. h.0 (p.0 x), λ x. h.1 (q.0 x)))

pub verdicts_by_paths_agree : VerdictsByPathsAgree
verdicts_by_paths_agree M lawful f =
    let at = walks_and_paths_agree M lawful f in
    told_alike
    ((s : ℕ) → Starts M s → (colouring M f).is_T s) ((s : ℕ) × Starts M s × (colouring M f).is_F s)
    ((s : ℕ) → Starts M s → (path_colouring M f).is_T s) ((s : ℕ) × Starts M s × (path_colouring M f).is_F s)
    (λ h s a. (at s a.0).0.0 (h s a), λ h s a. (at s a.0).0.1 (h s a))
    (λ h. (h.0, h.1, (at h.0 h.1.0).1.0 h.2), λ h. (h.0, h.1, (at h.0 h.1.0).1.1 h.2))
