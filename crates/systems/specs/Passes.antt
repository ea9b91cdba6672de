-- The pass store: how many downlink passes were taken, and whether the scene was received in one of them.
-- State 2k + r has k passes taken, and r is 1 when the scene was received.
use Rattle.std.specs.Prelude.{ℕ, ◌+◌, ◌*◌, ◌/◌, ◌%◌, Bool, cond, ◌==◌, nat_lt}
use Rattle.systems.specs.Model.{Model}
use Rattle.systems.specs.declared.kinds.Step.{Step}
use Rattle.systems.specs.declared.kinds.Step.TheVariants.{Absent, Unsure, Sure}
use Rattle.systems.specs.declared.kinds.Colour.{Colour}
use Rattle.systems.specs.declared.kinds.Colour.TheVariants.{T, F}

abbrev pub passes : ℕ → ℕ
passes s = s / 2

abbrev pub received : ℕ → ℕ
received s = s % 2

-- what one pass does: what was received stays so, and a scene that was not may be
abbrev pub by_a_pass : ℕ → ℕ → Step
by_a_pass r q = cond (r == q) Sure (cond (nat_lt r q) Unsure Absent)

-- below the limit one pass more is taken; at the limit a state stays as it is
abbrev pub pass_step : ℕ → ℕ → ℕ → Step
pass_step limit s t =
    cond (nat_lt (passes s) limit)
    (cond (passes t == passes s + 1) (by_a_pass (received s) (received t)) Absent)
    (cond (s == t) Sure Absent)

abbrev pub known : Bool → Colour
known b = cond b T F

-- mark 0 is that the scene was received, mark 1 that the limit is reached
abbrev pub pass_mark : ℕ → ℕ → ℕ → Colour
pass_mark limit s p = cond (p == 0) (known (received s == 1)) (known (passes s == limit))

abbrev pub pass_model : ℕ → Model
pass_model limit = record {
  states = 2 * limit + 2;
  marks = 2;
  step = pass_step limit;
  mark = pass_mark limit;
  start = λ s. (s == 0);
}
