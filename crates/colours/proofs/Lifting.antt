-- Walks carried from one relation of steps to another, along a relation of states.
use Rattle.std.proofs.Common.{ℕ, ◌<◌, ◌∷◌, refl, inl, inr}
use Rattle.colours.specs.Walks.{Among, Until, Release}
use Rattle.colours.proofs.Fixpoints.{until_here, until_step, until_least, HoldsOut, release_holds_out, release_greatest}

-- what P says of a state, Q says of the related ones
abbrev pub Carries : (ℕ → ℕ → Type 0) → (ℕ → Type 0) → (ℕ → Type 0) → Type 0
Carries of P Q = (x y : ℕ) → of x y → P x → Q y

-- a step is matched by a step from each related state
abbrev pub Lifts : (ℕ → ℕ → Type 0) → (ℕ → ℕ → Type 0) → (ℕ → ℕ → Type 0) → Type 0
Lifts of step step' = (x y t : ℕ) → of x y → step x t → (u : ℕ) × step' y u × of t u

module _ (of step step' : ℕ → ℕ → Type 0) (lift : Lifts of step step') (r q r' q' : ℕ → Type 0)
    (rr : Carries of r r') (qq : Carries of q q') where
  pub until_lift : Carries of (Until step r q) (Until step' r' q')
  until_lift x y p w =
      until_least step r q (λ x. (y : ℕ) → of x y → Until step' r' q' y)
      (λ x h y p. until_here step' r' q' y (qq x y p h))
      (λ x t h k on y p. let l = lift x y t p k in until_step step' r' q' y l.0 (rr x y p h) l.1 (on l.0 l.2))
      x w y p

  pub release_lift : (n : ℕ) → ((s t : ℕ) → step' s t → s < n) → Carries of (Release step r q) (Release step' r' q')
  release_lift n bounded x y p w = release_greatest step' r' q' n bounded Image out y (x, p, inl refl)
    where
      Image : ℕ → Type 0
      Image y = (z : ℕ) × of z y × Among z (x ∷ w.0)

      out : HoldsOut step' r' q' Image
      out y i =
          let h = release_holds_out step r q x w i.0 i.2 in (
            qq i.0 y i.1 h.0,
            elim h.1 [
              | inl a ↦ inl (rr i.0 y i.1 a)
              | inr e ↦ let l = lift i.0 y e.0 i.1 e.1 in inr (l.0, l.1, (e.0, l.2, e.2))
            ],
          )
