-- What the recursive reader does with what is left of a text, and with a whole text.
use Rattle.std.specs.Prelude.{◌≡◌, ℕ, ◌+◌, ◌*◌, ◌≤◌, Bool, false, List, [], length, Ok, Err, Result}
use Rattle.rules.specs.declared.pieces.Stuck.{Stuck}
use Rattle.rules.specs.declared.reader.Reader.{Reader}
use Rattle.rules.specs.Trees.{Tree, nesting}
use Rattle.rules.specs.Clauses.{size, numbered}
use Rattle.rules.specs.reader.Machine.{Frame, want, have, accepted, stuck, outcome}
use Rattle.rules.specs.reader.Scans.{Stops}
use Rattle.rules.specs.reader.Filling.{polar, Adds}

-- a rule was read, and its clauses were added, at most two for a byte
pub record PartRead (negated : Bool) (r q : Reader) (depth : ℕ) : Type 0 where
  pub spelled : Tree
  pub leads : (k : List Frame) → outcome (want k) r.rest ≡ outcome (have spelled k) q.rest
  pub nested : depth ≡ nesting spelled
  pub adds : Adds r.list q.list (numbered r.list.count (polar negated spelled))
  pub few : size (polar negated spelled) + 2 * length q.rest ≤ 2 * length r.rest
  pub shallow : nesting spelled + length q.rest ≤ length r.rest

-- or no rule goes on at a place
abbrev pub ReadsPart : Bool → Reader → Reader → Result ℕ Stuck → Type 0
ReadsPart negated r q (Ok depth) = PartRead negated r q depth
ReadsPart negated r q (Err e) = Stops want r.rest e.left

abbrev pub ReadsWhole : Reader → Reader → Result ℕ Stuck → Type 0
ReadsWhole r q (Ok depth) = (s : Tree) × (outcome (want []) r.rest ≡ accepted s) × (depth ≡ nesting s) × Adds r.list q.list (numbered r.list.count (polar false s))
ReadsWhole r q (Err e) = (e.left ≤ length r.rest) × (outcome (want []) r.rest ≡ stuck e.left)
