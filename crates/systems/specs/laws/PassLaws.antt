-- The pass store keeps the laws of a system.
use Rattle.std.specs.Prelude.{◌≡◌, ℕ, ◌+◌, ◌*◌, ◌/◌, ◌%◌, ◌<◌, ◌≤◌, refl}
use Rattle.std.proofs.Common.{arith, ⊎_elim}
use Rattle.std.proofs.lemmas.Bool.{cases_lt, lt-ltb, le-ltb, eq-eqb}
use Rattle.systems.specs.Model.{Lawful, Possibly}
use Rattle.systems.specs.Passes.{pass_model, pass_step}
use Rattle.systems.specs.declared.kinds.Step.{Step}
use Rattle.systems.specs.declared.kinds.Step.TheVariants.{Absent, Sure}

sure_is_possible : (k : Step) → k ≡ Sure → ¬ (k ≡ Absent)
sure_is_possible k e n = let z : ◌≡◌ {A = ℕ} 0 1 = cc in omega arith

-- below the limit a state goes on by a pass that changes nothing else, at the limit to itself
goes : (l s : ℕ) → s < 2 * l + 2 → (t : ℕ) × Possibly (pass_model l) s t
goes l s h =
    ⊎_elim
    (λ (lt : s / 2 < l).
    let a = lt-ltb (s / 2) l lt in
    let b = eq-eqb ((s + 2) / 2) (s / 2 + 1) (omega arith) in
    let d = eq-eqb (s % 2) ((s + 2) % 2) (omega arith) in
    (s + 2, (h, omega arith, sure_is_possible (pass_step l s (s + 2)) (rw (a, b, d) refl))))
    (λ (ge : l ≤ s / 2).
    let a = le-ltb (s / 2) l ge in
    let b = eq-eqb s s refl in
    (s, (h, h, sure_is_possible (pass_step l s s) (rw (a, b) refl))))
    (cases_lt (s / 2) l)

pub pass_lawful : (l : ℕ) → 1 ≤ l → l ≤ 30 → Lawful (pass_model l)
pass_lawful l lo hi = record {
  states_some = omega arith;
  states_few = omega arith;
  marks_some = omega arith;
  marks_few = omega arith;
  goes_on = goes l;
  starts = (0, (omega arith, refl));
}
