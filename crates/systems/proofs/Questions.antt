-- Questions whose numbers are in range.
use Rattle.std.proofs.Common.{◌≡◌, ℕ, ◌<◌, refl}
use Rattle.std.proofs.lemmas.Bool.{lt-ltb}
use Rattle.systems.specs.Model.{Model, step_or_absent, mark_or_unknown, is_start}

module _ (m : Model) (s : ℕ) (l : s < m.states) where
  pub step_in_range : (t : ℕ) → t < m.states → step_or_absent m s t ≡ m.step s t
  step_in_range t k = let a = lt-ltb s m.states l in let b = lt-ltb t m.states k in rw (a, b) refl

  pub mark_in_range : (p : ℕ) → p < m.marks → mark_or_unknown m s p ≡ m.mark s p
  mark_in_range p k = let a = lt-ltb s m.states l in let b = lt-ltb p m.marks k in rw (a, b) refl

  pub start_in_range : is_start m s ≡ m.start s
  start_in_range = let a = lt-ltb s m.states l in rw a refl
