-- What a grouping of a system is, and what changing its groups answers.
use Rattle.std.specs.Prelude.{◌≡◌, ℕ, List, Ok, Err, Result}
use Rattle.systems.specs.Model.{Model}
use Rattle.systems.specs.declared.refusals.Refusal.{Refusal}
use Rattle.colours.specs.declared.chains.Reason.{Reason}
use Rattle.groupings.specs.Members.{by_list, OneForEach, AllUsed}
use Rattle.groupings.specs.Memberships.{groups_in, RefusedList}
use Rattle.groupings.specs.Splits.{Exists, MembersDiffer, Divided, RefusedSplit}
use Rattle.groupings.specs.declared.groups.Grouping.{Grouping}

-- by what the system below means
module _ {S : Type 0} (meaning : S → Model) where
  -- the groups of the states below
  abbrev pub groups_at : Grouping S → List ℕ
  groups_at g = groups_in g.members (meaning g.system).states

  -- the system of the groups
  abbrev pub grouping_model : Grouping S → Model
  grouping_model g = by_list (meaning g.system) (groups_at g)

-- a refusal leaves everything as it was
abbrev pub KeptIfRefused : {A X : Type 0} → Result A Refusal → (before after : X) → Type 0
KeptIfRefused (Ok _) before after = Unit {0}
KeptIfRefused (Err e) before after = after ≡ before

-- the groups of n states after they are replaced by a list, or why they are not
abbrev pub Regrouped : (n : ℕ) (list after : List ℕ) → Result (Unit {0}) Refusal → Type 0
Regrouped n list after (Ok _) = OneForEach n list × AllUsed list × (after ≡ list)
Regrouped n list after (Err e) = RefusedList n list e

-- the groups after a split by the reason, or why there is none
abbrev pub Split : Model → Reason → (before after : List ℕ) → Result (Unit {0}) Refusal → Type 0
Split M reason before after (Ok _) = Exists M reason before × MembersDiffer M reason before × Divided M reason before after
Split M reason before after (Err e) = RefusedSplit M reason before e
