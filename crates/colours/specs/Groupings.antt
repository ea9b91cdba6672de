-- States gathered into groups: the model of the groups.
use Rattle.std.specs.Prelude.{◌≡◌, ℕ, zero, suc, ◌<◌, Bool, true, false, cond, ◌&&◌, ◌==◌}
use Rattle.systems.specs.declared.kinds.Step.{Step}
use Rattle.systems.specs.declared.kinds.Step.TheVariants.{Absent, Unsure, Sure}
use Rattle.systems.specs.declared.kinds.Colour.{Colour}
use Rattle.systems.specs.declared.kinds.Colour.TheVariants.{Undecided, F, T}
use Rattle.systems.specs.Below.{all_below, any_below}
use Rattle.systems.specs.Model.{Model}
use Rattle.colours.specs.declared.chains.Reason.{Reason}
use Rattle.colours.specs.declared.chains.Reason.TheVariants.{UnknownMark, UnsureStep}

abbrev pub is_sure : Step → Bool
is_sure Absent = false
is_sure Unsure = false
is_sure Sure = true

abbrev pub is_absent : Step → Bool
is_absent Absent = true
is_absent Unsure = false
is_absent Sure = false

abbrev pub is_true : Colour → Bool
is_true Undecided = false
is_true F = false
is_true T = true

abbrev pub is_false : Colour → Bool
is_false Undecided = false
is_false F = true
is_false T = false

-- the mark p is T at s, and F
abbrev pub true_at : Model → ℕ → ℕ → Bool
true_at M p s = is_true (M.mark s p)

abbrev pub false_at : Model → ℕ → ℕ → Bool
false_at M p s = is_false (M.mark s p)

-- the surer of two steps, and the surest of the first n
abbrev pub surer : Step → Step → Step
surer Absent k = k
surer Unsure Absent = Unsure
surer Unsure Unsure = Unsure
surer Unsure Sure = Sure
surer Sure k = Sure

abbrev pub surest : (ℕ → Step) → ℕ → Step
surest step zero = Absent
surest step (suc n) = surer (surest step n) (step n)

-- the group that a reason speaks of
abbrev pub group_named : Reason → ℕ
group_named (UnknownMark g p) = g
group_named (UnsureStep g h) = g

-- `group s` is the group of the state s of M
module _ (M : Model) (group : ℕ → ℕ) where
  -- s is a member of the group g
  abbrev pub Member : ℕ → ℕ → Type 0
  Member g s = (s < M.states) × (group s ≡ g)

  -- the strength of s into the group h: the best that its steps to the members of h offer
  abbrev pub step_into : ℕ → ℕ → ℕ → Step
  step_into s h t = cond (group t == h) (M.step s t) Absent

  unfoldable pub strength : ℕ → ℕ → Step
  strength s h = surest (step_into s h) M.states

  -- the test passes at every member of the group g
  abbrev pub if_member : ℕ → (ℕ → Bool) → ℕ → Bool
  if_member g test s = cond (group s == g) (test s) true

  abbrev pub every_member : ℕ → (ℕ → Bool) → Bool
  every_member g test = all_below (if_member g test) M.states

  -- the strength of s into h is sure, and absent
  abbrev pub sure_into : ℕ → ℕ → Bool
  sure_into h s = is_sure (strength s h)

  abbrev pub absent_into : ℕ → ℕ → Bool
  absent_into h s = is_absent (strength s h)

  -- s is a member of g and a start
  abbrev pub start_in : ℕ → ℕ → Bool
  start_in g s = group s == g && M.start s

  -- sure where no member of g lacks a sure strength into h, absent where no member has any, unsure otherwise
  unfoldable pub group_step : ℕ → ℕ → Step
  group_step g h = cond (every_member g (sure_into h)) Sure (cond (every_member g (absent_into h)) Absent Unsure)

  -- the known value that all members share, and unknown where there is none
  unfoldable pub group_mark : ℕ → ℕ → Colour
  group_mark g p = cond (every_member g (true_at M p)) T (cond (every_member g (false_at M p)) F Undecided)

  -- one start among its members makes a group a start
  unfoldable pub group_start : ℕ → Bool
  group_start g = any_below (start_in g) M.states

  -- the model of so many groups
  abbrev pub grouped : ℕ → Model
  grouped groups = record { states = groups; marks = M.marks; step = group_step; mark = group_mark; start = group_start }

  -- every state has a group
  abbrev pub Fits : ℕ → Type 0
  Fits groups = (s : ℕ) → s < M.states → group s < groups

  -- s and t answer alike: they have the same mark, or the same strength into the target
  abbrev pub Alike : Reason → ℕ → ℕ → Type 0
  Alike (UnknownMark g p) s t = M.mark s p ≡ M.mark t p
  Alike (UnsureStep g h) s t = strength s h ≡ strength t h

  -- two members answer differently
  abbrev pub Parted : Reason → Type 0
  Parted reason = (s : ℕ) × (t : ℕ) × Member (group_named reason) s × Member (group_named reason) t × ¬ Alike reason s t
