-- What is printed for a colour, for a refusal and for a fault.
use Rattle.std.specs.Prelude.{ℕ, List, [], ◌++◌, Option, Some, None, codes, decimal}
use Rattle.systems.specs.Numbers.{refusal_number}
use Rattle.systems.specs.declared.kinds.Colour.{Colour}
use Rattle.systems.specs.declared.kinds.Colour.TheVariants.{Undecided, F, T}
use Rattle.systems.specs.declared.refusals.Fault.{Fault}
use Rattle.systems.specs.declared.refusals.Refusal.{Refusal}
use Rattle.systems.specs.declared.refusals.Refusal.TheVariants.{FileLength, CountRange, ContentsEntry, BodiesOverlap, BodyByte, NoStepOut, NoStart, RuleLength, NotARule, NestingDepth, TooManyClauses, MarkBeyondSystem, GroupList, UnusedGroup, WorkspaceTooSmall, NoSuchPosition, VerdictDecided, SlipBeyondStudy, MembersAgree, OpenListFull, OutOfRange, QueueFull, PassLimit}

abbrev pub colour_letter : Colour → List ℕ
colour_letter T = codes "T"
colour_letter F = codes "F"
colour_letter Undecided = codes "?"

-- what a refusal means, for a person
abbrev pub refusal_words : Refusal → List ℕ
refusal_words FileLength = codes "the file must have 14 to 32768 bytes"
refusal_words CountRange = codes "there must be 1 to 128 states and 1 to 16 marks"
refusal_words ContentsEntry = codes "an entry of the contents has a wrong length, an offset below 14 or an end beyond the file"
refusal_words BodiesOverlap = codes "two bodies share a byte"
refusal_words BodyByte = codes "a byte of a body has a value that is not listed for it"
refusal_words NoStepOut = codes "a state has no step out of it"
refusal_words NoStart = codes "no state is a start"
refusal_words RuleLength = codes "the rule must have 1 to 512 bytes"
refusal_words NotARule = codes "the text is not a rule"
refusal_words NestingDepth = codes "the rule is nested more than 32 deep"
refusal_words TooManyClauses = codes "the rule has more than 64 clauses"
refusal_words MarkBeyondSystem = codes "the rule names a mark that the system does not have"
refusal_words GroupList = codes "there must be one group for each state, each below the number of states"
refusal_words UnusedGroup = codes "a group below the largest has no member"
refusal_words WorkspaceTooSmall = codes "a workspace has fewer places than there are positions"
refusal_words NoSuchPosition = codes "there is no such state or no such clause"
refusal_words VerdictDecided = codes "the verdict is not undecided"
refusal_words SlipBeyondStudy = codes "the slip names a group, a mark or a target that does not exist"
refusal_words MembersAgree = codes "all members of the group answer alike"
refusal_words OpenListFull = codes "the open list has no free place"
refusal_words OutOfRange = codes "a state or a mark is out of range"
refusal_words QueueFull = codes "the queue has no free place"
refusal_words PassLimit = codes "the limit of passes must be 1 to 30"

-- the number of a refusal
abbrev pub number_told : Refusal → List ℕ
number_told r = codes "refused " ++ decimal (refusal_number r)

-- and the place, where one is told
abbrev pub place_told : Option ℕ → List ℕ
place_told None = []
place_told (Some k) = codes " at " ++ decimal k

abbrev pub fault_text : Fault → List ℕ
fault_text f = number_told f.refusal ++ place_told f.place
