-- Splitting a group by a reason: an unknown mark, or an unsure step to a target.
use Rattle.std.specs.Prelude.{◌≡◌, ℕ, ◌<◌, Bool, ◌⊎◌, List, length, Decides}
use Rattle.systems.specs.Model.{Model}
use Rattle.systems.specs.declared.refusals.Refusal.{Refusal}
use Rattle.systems.specs.declared.refusals.Refusal.TheVariants.{SlipBeyondStudy, MembersAgree}
use Rattle.colours.specs.Groupings.{Member, Alike, group_named, Parted}
use Rattle.colours.specs.declared.chains.Reason.{Reason}
use Rattle.colours.specs.declared.chains.Reason.TheVariants.{UnknownMark, UnsureStep}
use Rattle.groupings.specs.Members.{group_of, group_count, flagged}

-- the group of the reason and its mark or target exist, among so many groups and marks
abbrev pub Within : (groups marks : ℕ) → Reason → Type 0
Within groups marks (UnknownMark g p) = (g < groups) × (p < marks)
Within groups marks (UnsureStep g h) = (g < groups) × (h < groups)

module _ (M : Model) (reason : Reason) (xs : List ℕ) where
  abbrev pub Exists : Type 0
  Exists = Within (group_count xs) M.marks reason

  -- two members answer differently
  abbrev pub MembersDiffer : Type 0
  MembersDiffer = Parted M (group_of xs) reason

  -- s is a member of the reason's group
  abbrev pub Concerned : ℕ → Type 0
  Concerned s = Member M (group_of xs) (group_named reason) s

  -- ys are the groups after the split: who answers as the lowest-numbered member does stays, all others are the new last group
  pub record Divided (ys : List ℕ) : Type 0 where
    pub same_states : length ys ≡ length xs
    pub lead : ℕ
    pub member : Concerned lead
    pub lowest : (s : ℕ) → s < lead → ¬ Concerned s
    pub others : (s : ℕ) → s < M.states → ¬ Concerned s → group_of ys s ≡ group_of xs s
    pub stays : (s : ℕ) → Concerned s → Alike M (group_of xs) reason lead s → group_of ys s ≡ group_of xs s
    pub leaves : (s : ℕ) → Concerned s → ¬ Alike M (group_of xs) reason lead s → group_of ys s ≡ group_count xs

  -- the flags tell who answers otherwise than the lowest-numbered member
  pub record Told (flags : List Bool) : Type 0 where
    pub lead : ℕ
    pub member : Concerned lead
    pub lowest : (s : ℕ) → s < lead → ¬ Concerned s
    pub at : (s : ℕ) → Decides (flagged flags s) (Concerned s × ¬ Alike M (group_of xs) reason lead s)

  -- the first condition that a split breaks
  abbrev pub RefusedSplit : Refusal → Type 0
  RefusedSplit e =
      ((e ≡ SlipBeyondStudy) × ¬ Exists) ⊎ ((e ≡ MembersAgree) × Exists × ¬ MembersDiffer)
