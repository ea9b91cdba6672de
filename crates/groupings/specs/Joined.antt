-- What the members of a group have in common, member by member.
use Rattle.std.specs.Prelude.{◌≡◌, ℕ, ◌<◌, ◌≤◌, Bool, cond, ◌&&◌, map, filter, Some, None, Option}
use Rattle.std.specs.List.{reduce, range_with_len}
use Rattle.systems.specs.Model.{Model, step_or_absent, mark_or_unknown, is_start}
use Rattle.systems.specs.declared.kinds.Step.{Step}
use Rattle.systems.specs.declared.kinds.Step.TheVariants.{Absent, Unsure, Sure}
use Rattle.systems.specs.declared.kinds.Colour.{Colour}
use Rattle.systems.specs.declared.kinds.Colour.TheVariants.{Undecided, F, T}
use Rattle.colours.specs.Groupings.{is_sure, is_absent, is_true, is_false}

-- sure or absent only as long as all strengths are
abbrev pub joined_step : (so_far next : Step) → Step
joined_step a k = cond (is_sure a && is_sure k) Sure (cond (is_absent a && is_absent k) Absent Unsure)

-- T or F only as long as all marks are
abbrev pub joined_mark : (so_far next : Colour) → Colour
joined_mark a v = cond (is_true a && is_true v) T (cond (is_false a && is_false v) F Undecided)

-- the first member's answer is taken as it is, a later one is joined to those before
abbrev pub joined_with : {A : Type 0} → (A → A → A) → (so_far : Option A) → (next : A) → A
joined_with join None x = x
joined_with join (Some a) x = join a x

-- what the members among the first n states have in common, if there is a member: the first one's answer as it is, each later one joined to it
abbrev pub shared : {A : Type 0} → (A → A → A) → (member : ℕ → Bool) → (answer : ℕ → A) → ℕ → Option A
shared join member answer n = reduce join (map answer (filter member (range_with_len 0 n)))

-- beyond the first `width` of so many places all rows say the same, which stays when it is joined
abbrev pub AlikeFrom : {A : Type 0} → (A → A → A) → (width places : ℕ) → (says : ℕ → ℕ → A) → (rest : A) → Type 0
AlikeFrom join width places says rest = (join rest rest ≡ rest) × ((s k : ℕ) → width ≤ k → k < places → says s k ≡ rest)

-- a system whose questions have an answer out of range too: there is no step, the mark is unknown, and it is no start
abbrev pub asked : Model → Model
asked M = record { states = M.states; marks = M.marks; step = step_or_absent M; mark = mark_or_unknown M; start = is_start M }
