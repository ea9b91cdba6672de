use Rattle.std.proofs.Common.{◌≡◌, ℕ, map, length}
use Rattle.std.specs.List.{range_with_len}
use Rattle.groupings.specs.Joined.{AlikeFrom}
use Rattle.groupings.specs.Members.{group_of}
use Rattle.groupings.specs.Memberships.{groups_of}
use Rattle.groupings.proofs.Rows.{Joined}
use Rattle.groupings.proofs.groups.fitted.Fitted.share_all.Given as goal

abbrev pub invariant-loop-state : goal.invariant-loop-state
invariant-loop-state g l =
    let join = g.A.Shared.joined in
    (length l.found ≡ 128)
    × ((says : ℕ → ℕ → _) (rest : _) → ((s : ℕ) (r : _) → goal.F-post g l.row s r → g.R.Row.answers r ≡ map (says s) (range_with_len 0 g.row.W))
    → AlikeFrom join l.width g.row.W says rest → Joined join (group_of (groups_of l.self.members)) g.row.W g.A.Shared.of_none says l.state l.found l.initial.places l.places)
