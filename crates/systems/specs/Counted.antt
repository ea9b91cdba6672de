-- How much of a system is known, by counting.
use Rattle.std.specs.Prelude.{◌≡◌, ℕ, Bool, true, ◌==◌}
use Rattle.systems.specs.Below.{count_below, count_cells}
use Rattle.systems.specs.Model.{Model, Exact}
use Rattle.systems.specs.Numbers.{step_number, colour_number}
use Rattle.systems.specs.declared.counting.Census.{Census}
use Rattle.systems.specs.declared.kinds.Step.{Step}
use Rattle.systems.specs.declared.kinds.Step.TheVariants.{Absent, Unsure, Sure}
use Rattle.systems.specs.declared.kinds.Colour.{Colour}
use Rattle.systems.specs.declared.kinds.Colour.TheVariants.{Undecided, F, T}

abbrev pub is_step : Model → Step → ℕ → ℕ → Bool
is_step m k s t = step_number (m.step s t) == step_number k

abbrev pub is_mark : Model → Colour → ℕ → ℕ → Bool
is_mark m v s p = colour_number (m.mark s p) == colour_number v

-- over the pairs of states
abbrev pub steps_of : Model → Step → ℕ
steps_of m k = count_cells (is_step m k) m.states m.states

-- over the states and their marks
abbrev pub marks_of : Model → Colour → ℕ
marks_of m v = count_cells (is_mark m v) m.states m.marks

pub record Counted (m : Model) (c : Census) : Type 0 where
  pub states : c.states ≡ m.states
  pub marks : c.marks ≡ m.marks
  pub starts : c.starts ≡ count_below m.start m.states
  pub sure : c.steps_sure ≡ steps_of m Sure
  pub unsure : c.steps_unsure ≡ steps_of m Unsure
  pub absent : c.steps_absent ≡ steps_of m Absent
  pub marks_T : c.marks_t ≡ marks_of m T
  pub marks_F : c.marks_f ≡ marks_of m F
  pub unknown : c.marks_unknown ≡ marks_of m Undecided
  -- told exact just where it is
  pub exact_true : c.exact ≡ true → Exact m
  pub exact_told : Exact m → c.exact ≡ true
