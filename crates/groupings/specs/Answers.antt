-- What a state answers to a reason.
use Rattle.std.specs.Prelude.{ℕ}
use Rattle.systems.specs.Model.{Model}
use Rattle.colours.specs.Groupings.{strength}
use Rattle.colours.specs.declared.chains.Reason.{Reason}
use Rattle.colours.specs.declared.chains.Reason.TheVariants.{UnknownMark, UnsureStep}
use Rattle.groupings.specs.declared.groups.answers.Answer.{Answer}
use Rattle.groupings.specs.declared.groups.answers.Answer.TheVariants.{Mark, Strength}

-- the value of its mark, or its strength into the target
abbrev pub answer_of : Model → (ℕ → ℕ) → Reason → ℕ → Answer
answer_of M group (UnknownMark g p) s = Mark (M.mark s p)
answer_of M group (UnsureStep g h) s = Strength (strength M group s h)
