-- Maximal paths are made by a step in front of one, and by going on for ever; so every state has one.
use Rattle.std.proofs.Common.{◌≡◌, ℕ, zero, suc, ◌<◌, ◌≤◌, ◌⊎◌, List, [], ◌∷◌, sym, refl, subst, inl, inr, arith}
use Rattle.std.specs.List.{AllByRecursion}
use Rattle.colours.specs.Walks.{Walk, last, before, Among, Release}
use Rattle.colours.specs.Paths.{Length, ends_at, endless, Place, Path, Maximal}
use Rattle.colours.proofs.Lists.{find, below, among_below}
use Rattle.colours.proofs.Fixpoints.{until_least, release_holds_out, release_greatest}

pub first_place : (l : Length) → Place l 0
first_place (ends_at n) = omega arith
first_place endless = tt

pub place_down : (l : Length) (j k : ℕ) → j ≤ k → Place l k → Place l j
place_down (ends_at n) j k h p = omega arith
place_down endless j k h p = tt

pub not_endless : (n : ℕ) → endless ≡ ends_at n → ⊥
not_endless n e = grind arith

-- a length with one place more
abbrev pub longer : Length → Length
longer (ends_at n) = ends_at (suc n)
longer endless = endless

pub place_in : (l : Length) (k : ℕ) → Place l k → Place (longer l) (suc k)
place_in (ends_at n) k p = omega arith
place_in endless k p = tt

place_out : (l : Length) (k : ℕ) → Place (longer l) (suc k) → Place l k
place_out (ends_at n) k p = omega arith
place_out endless k p = tt

-- the states of a path with s put in front
abbrev pub after : ℕ → (ℕ → ℕ) → ℕ → ℕ
after s at zero = s
after s at (suc k) = at k

abbrev pub in_front : ℕ → Path → Path
in_front s path = record { length = longer path.length; at = after s path.at }

abbrev pub Any : ℕ → Type 0
Any s = Unit {0}

pub all_parts : (P : ℕ → Type 0) (s : ℕ) (ts : List ℕ) → AllByRecursion P (s ∷ ts) → AllByRecursion P (before s ts) × P (last s ts)
all_parts P s [] a = (tt, a.0)
all_parts P s (t ∷ ts) a = let b = all_parts P t ts a.1 in ((a.0, b.0), b.1)

-- steps between numbers below n, which can be tested
pub record Testable (n : ℕ) (step : ℕ → ℕ → Type 0) : Type 0 where
  pub within : (s t : ℕ) → step s t → (s < n) × (t < n)
  pub step? : (s t : ℕ) → Dec (step s t)

module _ (step : ℕ → ℕ → Type 0) where
  pub in_front_maximal : (s t : ℕ) (path : Path) → step s t → Maximal step t path → Maximal step s (in_front s path)
  in_front_maximal s t path h m = record { first = refl; steps = steps; ends = ends path.length refl }
    where
      steps : (k : ℕ) → Place (longer path.length) (suc k) → step (after s path.at k) (path.at k)
      steps zero p = subst (step s) (sym m.first) h
      steps (suc k) p = m.steps k (place_out path.length (suc k) p)

      ends : (l : Length) → path.length ≡ l → (n : ℕ) → longer l ≡ ends_at n → (u : ℕ) → ¬ step (after s path.at n) u
      ends (ends_at k) e n d u =
          let same : suc k ≡ n = grind arith in subst (λ n. ¬ step (after s path.at n) u) same (m.ends k e u)
      ends endless e n d u = absurd (not_endless n d)

  -- from a set that one can always stay in, an endless path
  module _ (X : ℕ → Type 0) (on : (s : ℕ) → X s → (t : ℕ) × step s t × X t) where
    abbrev visit : (s : ℕ) → X s → ℕ → (t : ℕ) × X t
    visit s x zero = (s, x)
    visit s x (suc k) = let v = visit s x k in let n = on v.0 v.1 in (n.0, n.2)

    stay : (s : ℕ) → X s → (path : Path) × Maximal step s path × (path.length ≡ endless) × ((k : ℕ) → X (path.at k))
    stay s x = (
      record { length = endless; at = λ k. (visit s x k).0 },
      record {
        first = refl;
        steps = λ k p. (on (visit s x k).0 (visit s x k).1).1;
        ends = λ n e t h. not_endless n e;
      },
      refl,
      λ k. (visit s x k).1,
    )

  -- the states of a walk whose last state stood earlier can always be stayed in
  pub stay_among : (q : ℕ → Type 0) (s : ℕ)
      → ((ts : List ℕ) × Walk step s ts × AllByRecursion q (s ∷ ts) × Among (last s ts) (before s ts))
      → (path : Path) × Maximal step s path × (path.length ≡ endless) × ((k : ℕ) → q (path.at k))
  stay_among q s w =
      let out = release_holds_out step (λ x. ⊥) q s (w.0, w.1, w.2, inr w.3) in
      let p = stay (λ x. Among x (s ∷ w.0)) (λ x a. elim (out x a).1 [ inl k ↦ absurd k | inr e ↦ e ]) s (inl refl) in
      (p.0, p.1, p.2, λ k. (out (p.0.at k) (p.3 k)).0)

-- no step leads from s
abbrev Dead : (ℕ → ℕ → Type 0) → ℕ → Type 0
Dead step s = (t : ℕ) → ¬ step s t

module _ {step : ℕ → ℕ → Type 0} {n : ℕ} (tests : Testable n step) where
  pub from_below : (s t : ℕ) → step s t → s < n
  from_below s t h = (tests.within s t h).0

  pub states_below : (s : ℕ) → s < n → (path : Path) → Maximal step s path → (k : ℕ) → Place path.length k → path.at k < n
  states_below s low path m zero p = subst (λ t. t < n) (sym m.first) low
  states_below s low path m (suc k) p = (tests.within (path.at k) (path.at (suc k)) (m.steps k p)).1

  leads_on : (s : ℕ) → Dead step s ⊎ ((t : ℕ) × step s t)
  leads_on s = elim (find (step s) (λ t. ¬ step s t) (below n) (λ t m. elim (tests.step? s t) [ yes h ↦ inl h | no k ↦ inr k ])) [
    | inl f ↦ inr (f.0, f.2)
    | inr none ↦ inl (λ t h. none t (among_below n t (tests.within s t h).1) h)
  ]

  -- a walk that comes to an end, or to a state that stood earlier
  walk_out : (s : ℕ) → Release step (Dead step) Any s
  walk_out s = release_greatest step (Dead step) Any n from_below Any
      (λ s x. (tt, elim (leads_on s) [ inl d ↦ inl d | inr h ↦ inr (h.0, h.1, tt) ])) s tt

  -- every state has a maximal path: such a walk, or among its states for ever
  pub some_path : (s : ℕ) → (path : Path) × Maximal step s path
  some_path s =
      let w = walk_out s in
      elim w.3 [
        | inl d ↦ until_least step Any (Dead step) (λ s. (path : Path) × Maximal step s path)
            (λ s d. (record { length = ends_at 0; at = λ k. s }, record { first = refl; steps = λ k p. absurd (omega arith); ends = λ k e. d }))
            (λ s t h k m. (in_front s m.0, in_front_maximal step s t m.0 k m.1))
            s (w.0, w.1, d, (all_parts Any s w.0 w.2).0)
        | inr m ↦ let p = stay_among step Any s (w.0, w.1, w.2, m) in (p.0, p.1)
      ]

  -- one whose second state is t
  pub path_by_step : (s t : ℕ) → step s t → (path : Path) × Maximal step s path × Place path.length 1 × (path.at 1 ≡ t)
  path_by_step s t h =
      let m = some_path t in
      (in_front s m.0, in_front_maximal step s t m.0 h m.1, place_in m.0.length 0 (first_place m.0.length), m.1.first)
