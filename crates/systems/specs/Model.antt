-- What a system is, and the laws that every system keeps.
use Rattle.std.specs.Prelude.{◌≡◌, ℕ, ◌<◌, ◌≤◌, Bool, true, false, cond, ◌&&◌, Ok, Err, Result, nat_lt}
use Rattle.systems.specs.declared.kinds.Step.{Step}
use Rattle.systems.specs.declared.kinds.Step.TheVariants.{Absent, Unsure, Sure}
use Rattle.systems.specs.declared.kinds.Colour.{Colour}
use Rattle.systems.specs.declared.kinds.Colour.TheVariants.{Undecided}
use Rattle.systems.specs.declared.refusals.Refusal.{Refusal}
use Rattle.systems.specs.declared.refusals.Refusal.TheVariants.{OutOfRange}

-- N states and P marks, both numbered from 0, the steps between states, the marks at states, and the starts.
-- Only numbers below N and P mean something.
pub record Model : Type 0 where
  pub states : ℕ
  pub marks : ℕ
  pub step : ℕ → ℕ → Step
  pub mark : ℕ → ℕ → Colour
  pub start : ℕ → Bool

-- there is a step from s to t
abbrev pub Surely : Model → ℕ → ℕ → Type 0
Surely m s t = (s < m.states) × (t < m.states) × (m.step s t ≡ Sure)

-- there may be a step from s to t: it is unsure or sure
abbrev pub Possibly : Model → ℕ → ℕ → Type 0
Possibly m s t = (s < m.states) × (t < m.states) × ¬ (m.step s t ≡ Absent)

abbrev pub Starts : Model → ℕ → Type 0
Starts m s = (s < m.states) × (m.start s ≡ true)

-- the laws of a system
pub record Lawful (m : Model) : Type 0 where
  pub states_some : 1 ≤ m.states
  pub states_few : m.states ≤ 128
  pub marks_some : 1 ≤ m.marks
  pub marks_few : m.marks ≤ 16
  -- every state has a possible step out
  pub goes_on : (s : ℕ) → s < m.states → (t : ℕ) × Possibly m s t
  -- some state is a start
  pub starts : (s : ℕ) × Starts m s

-- fully known: no unsure step and no unknown mark
pub record Exact (m : Model) : Type 0 where
  pub steps_known : (s t : ℕ) → s < m.states → t < m.states → ¬ (m.step s t ≡ Unsure)
  pub marks_known : (s p : ℕ) → s < m.states → p < m.marks → ¬ (m.mark s p ≡ Undecided)

-- two systems that nobody can tell apart by questions
pub record Agree (m n : Model) : Type 0 where
  pub states : m.states ≡ n.states
  pub marks : m.marks ≡ n.marks
  pub step : (s t : ℕ) → s < m.states → t < m.states → m.step s t ≡ n.step s t
  pub mark : (s p : ℕ) → s < m.states → p < m.marks → m.mark s p ≡ n.mark s p
  pub start : (s : ℕ) → s < m.states → m.start s ≡ n.start s

-- the answer where the numbers of a question are in range, else the refusal
abbrev pub asked : {A : Type 0} → Bool → A → Result A Refusal
asked true a = Ok a
asked false a = Err OutOfRange

abbrev pub step_answer : Model → ℕ → ℕ → Result Step Refusal
step_answer m s t = asked (nat_lt s m.states && nat_lt t m.states) (m.step s t)

abbrev pub mark_answer : Model → ℕ → ℕ → Result Colour Refusal
mark_answer m s p = asked (nat_lt s m.states && nat_lt p m.marks) (m.mark s p)

abbrev pub start_answer : Model → ℕ → Result Bool Refusal
start_answer m s = asked (nat_lt s m.states) (m.start s)

-- the same where a number out of range is not refused: there is no step, the mark is unknown, and it is no start
abbrev pub step_or_absent : Model → ℕ → ℕ → Step
step_or_absent m s t = cond (nat_lt s m.states && nat_lt t m.states) (m.step s t) Absent

abbrev pub mark_or_unknown : Model → ℕ → ℕ → Colour
mark_or_unknown m s p = cond (nat_lt s m.states && nat_lt p m.marks) (m.mark s p) Undecided

abbrev pub is_start : Model → ℕ → Bool
is_start m s = nat_lt s m.states && m.start s
