use Rattle.std.proofs.Common.{get_or}
use Rattle.std.specs.Bool.{then_some}
use Rattle.groupings.specs.Joined.{joined_with}
use Rattle.groupings.proofs.Rows.{Changed}
use Rattle.groupings.proofs.groups.sharing.join_row.Given as goal

abbrev pub invariant-loop-k : goal.invariant-loop-k
invariant-loop-k g l =
    let d = g.A.Shared.of_none in
    Changed d l.start (λ k a. joined_with g.A.Shared.joined (then_some l.found a) (get_or l.row k d)) l.initial.places l.k l.places
