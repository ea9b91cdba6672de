-- A board of colours as two sets of states: where it is T, and where it is not F.
use Rattle.std.specs.Prelude.{ℕ, ◌<◌, Bool, true, false, T as So}
use Rattle.systems.specs.declared.kinds.Colour.{Colour}
use Rattle.systems.specs.declared.kinds.Colour.TheVariants.{Undecided, F, T}
use Rattle.systems.specs.Model.{Model, Surely, Possibly}
use Rattle.colours.specs.Walks.{Until, Release}
use Rattle.colours.specs.Colours.{Colouring}

-- what is so for sure, and what may be so
pub data Level : Type 0 where
  surely possibly : Level

-- T counts at both levels, undecided at the second only
abbrev pub counts : Level → Colour → Bool
counts surely Undecided = false
counts surely F = false
counts surely T = true
counts possibly Undecided = true
counts possibly F = false
counts possibly T = true

-- the state s counts on the board x
abbrev pub On : Level → (ℕ → Colour) → ℕ → Type 0
On l x s = So (counts l (x s))

-- the steps of a level, and the states that a colouring has there
abbrev pub Steps : Level → Model → ℕ → ℕ → Type 0
Steps surely M = Surely M
Steps possibly M = Possibly M

abbrev pub Has : Level → Colouring → ℕ → Type 0
Has surely c s = c.is_T s
Has possibly c s = ¬ c.is_F s

-- a walk of the level has q at its last state and r before; has q throughout and a last state that has r or stood earlier
abbrev pub Untils : Model → Level → (r q : ℕ → Colour) → ℕ → Type 0
Untils M l r q = Until (Steps l M) (On l r) (On l q)

abbrev pub Releases : Model → Level → (r q : ℕ → Colour) → ℕ → Type 0
Releases M l r q = Release (Steps l M) (On l r) (On l q)

-- at both levels the board x has exactly the states with such a walk
abbrev pub IsUntil : Model → (r q x : ℕ → Colour) → Type 0
IsUntil M r q x = (l : Level) (s : ℕ) → s < M.states → (On l x s → Untils M l r q s) × (Untils M l r q s → On l x s)

abbrev pub IsRelease : Model → (r q x : ℕ → Colour) → Type 0
IsRelease M r q x = (l : Level) (s : ℕ) → s < M.states → (On l x s → Releases M l r q s) × (Releases M l r q s → On l x s)
