-- A system that is written out in full: a row of 128 places for the steps from each state, a row of 16 for its marks.
use Rattle.std.specs.Prelude.{◌≡◌, ℕ, ◌+◌, ◌*◌, ◌<◌, ◌≤◌, Bool, true, false, cond, ◌&&◌, List, Some, None, Option, nat_le, nat_lt, slice_index_or}
use Rattle.systems.specs.Below.{all_below, any_below}
use Rattle.systems.specs.Model.{Model}
use Rattle.systems.specs.Numbers.{is_possible}
use Rattle.systems.specs.declared.kinds.Step.{Step}
use Rattle.systems.specs.declared.kinds.Step.TheVariants.{Absent}
use Rattle.systems.specs.declared.kinds.Colour.{Colour}
use Rattle.systems.specs.declared.kinds.Colour.TheVariants.{Undecided}
use Rattle.systems.specs.declared.refusals.Refusal.{Refusal}
use Rattle.systems.specs.declared.refusals.Refusal.TheVariants.{CountRange, NoStepOut, NoStart}

abbrev pub step_at : List Step → ℕ → ℕ → Step
step_at steps s t = slice_index_or steps (s * 128 + t) Absent

abbrev pub value_at : List Colour → ℕ → ℕ → Colour
value_at values s p = slice_index_or values (s * 16 + p) Undecided

abbrev pub start_at : List Bool → ℕ → Bool
start_at starts s = slice_index_or starts s false

-- so many rows of `width` places have an answer in their first columns, and the other places are as they were
abbrev pub Filled : {A : Type 0} → (width rows columns : ℕ) → (ℕ → ℕ → A) → (old new : List A) → Type 0
Filled width rows columns answer old new =
    (s k : ℕ) (d : _) → k < width → slice_index_or new (s * width + k) d ≡ cond (nat_lt s rows && nat_lt k columns) (answer s k) (slice_index_or old (s * width + k) d)

abbrev pub written_model : (states marks : ℕ) → List Step → List Colour → List Bool → Model
written_model n p steps values starts = record {
  states = n;
  marks = p;
  step = step_at steps;
  mark = value_at values;
  start = start_at starts;
}

abbrev pub leads : List Step → ℕ → ℕ → Bool
leads steps s t = is_possible (step_at steps s t)

abbrev pub leads_on : List Step → ℕ → ℕ → Bool
leads_on steps n s = any_below (leads steps s) n

-- the counts are in range
abbrev pub InRange : (states marks : ℕ) → Type 0
InRange n p = (1 ≤ n) × (n ≤ 128) × (1 ≤ p) × (p ≤ 16)

-- no state is without a possible step out, and there is a start
abbrev pub GoesAndStarts : (states : ℕ) → List Step → List Bool → Type 0
GoesAndStarts n steps starts = (all_below (leads_on steps n) n ≡ true) × (any_below (start_at starts) n ≡ true)

-- the first of the laws that such arrays break
abbrev pub written_fault : (states marks : ℕ) → List Step → List Bool → Option Refusal
written_fault n p steps starts =
    cond ((nat_le 1 n && nat_le n 128) && (nat_le 1 p && nat_le p 16))
    (cond (all_below (leads_on steps n) n)
    (cond (any_below (start_at starts) n) None (Some NoStart))
    (Some NoStepOut))
    (Some CountRange)
