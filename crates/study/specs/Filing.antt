-- What filing a slip does.
use Rattle.std.specs.Prelude.{◌≡◌, ℕ, List, Some, None, Ok, Err, Option, Result, is_none, position, slice_set}
use Rattle.systems.specs.declared.refusals.Refusal.{Refusal}
use Rattle.systems.specs.declared.refusals.Refusal.TheVariants.{OpenListFull}
use Rattle.colours.specs.declared.chains.Reason.{Reason}
use Rattle.study.specs.declared.slip.Slip.{Slip}

-- what the slip says is written at the first free place; or none is free, the list is as it was, and the slip is handed back
abbrev pub Filed : Slip → (before after : List (Option Reason)) → Result (Unit {0}) (Refusal × Slip) → Type 0
Filed slip xs ys (Ok _) = (k : ℕ) × (position is_none xs ≡ Some k) × (ys ≡ slice_set xs k (Some slip.reason))
Filed slip xs ys (Err e) = (position is_none xs ≡ None) × (e.0 ≡ OpenListFull) × (e.1 ≡ slip) × (ys ≡ xs)
