-- The number of each answer and of each refusal, and the way back from a byte.
use Rattle.std.specs.Prelude.{◌≡◌, ℕ, Bool, true, false, cond, Some, None, Option, Ok, Err, Result, ◌==◌}
use Rattle.systems.specs.declared.kinds.Step.{Step}
use Rattle.systems.specs.declared.kinds.Step.TheVariants.{Absent, Unsure, Sure}
use Rattle.systems.specs.declared.kinds.Colour.{Colour}
use Rattle.systems.specs.declared.kinds.Colour.TheVariants.{Undecided, F, T}
use Rattle.systems.specs.declared.kinds.UnlistedByte.{UnlistedByte}
use Rattle.systems.specs.declared.refusals.Refusal.{Refusal}
use Rattle.systems.specs.declared.refusals.Refusal.TheVariants.{FileLength, CountRange, ContentsEntry, BodiesOverlap, BodyByte, NoStepOut, NoStart, RuleLength, NotARule, NestingDepth, TooManyClauses, MarkBeyondSystem, GroupList, UnusedGroup, WorkspaceTooSmall, NoSuchPosition, VerdictDecided, SlipBeyondStudy, MembersAgree, OpenListFull, OutOfRange, QueueFull, PassLimit}

abbrev pub step_number : Step → ℕ
step_number Absent = 0
step_number Unsure = 1
step_number Sure = 2

-- an unsure step and a sure one
abbrev pub is_possible : Step → Bool
is_possible Absent = false
is_possible Unsure = true
is_possible Sure = true

abbrev pub step_from : ℕ → Option Step
step_from b = cond (b == 0) (Some Absent) (cond (b == 1) (Some Unsure) (cond (b == 2) (Some Sure) None))

abbrev pub colour_number : Colour → ℕ
colour_number Undecided = 0
colour_number F = 1
colour_number T = 2

abbrev pub colour_from : ℕ → Option Colour
colour_from b = cond (b == 0) (Some Undecided) (cond (b == 1) (Some F) (cond (b == 2) (Some T) None))

-- the answer for a byte: what it stands for, or the byte itself where it stands for nothing
abbrev pub Decodes : {A : Type 0} → (ℕ → Option A) → ℕ → Result A UnlistedByte → Type 0
Decodes from byte (Ok a) = from byte ≡ Some a
Decodes from byte (Err e) = (from byte ≡ None) × (e.0 ≡ byte)

abbrev pub refusal_number : Refusal → ℕ
refusal_number FileLength = 1
refusal_number CountRange = 2
refusal_number ContentsEntry = 3
refusal_number BodiesOverlap = 4
refusal_number BodyByte = 5
refusal_number NoStepOut = 6
refusal_number NoStart = 7
refusal_number RuleLength = 8
refusal_number NotARule = 9
refusal_number NestingDepth = 10
refusal_number TooManyClauses = 11
refusal_number MarkBeyondSystem = 12
refusal_number GroupList = 13
refusal_number UnusedGroup = 14
refusal_number WorkspaceTooSmall = 15
refusal_number NoSuchPosition = 16
refusal_number VerdictDecided = 17
refusal_number SlipBeyondStudy = 18
refusal_number MembersAgree = 19
refusal_number OpenListFull = 20
refusal_number OutOfRange = 21
refusal_number QueueFull = 22
refusal_number PassLimit = 23
