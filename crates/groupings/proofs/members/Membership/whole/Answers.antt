use Rattle.std.proofs.Common.{ℕ, replicate, ap, ◌∙◌}
use Rattle.std.proofs.lemmas.List.{take-replicate}
use Rattle.groupings.proofs.Lists.{zeros_numbered}
use Rattle.groupings.proofs.members.Membership.whole.Goals as goal

pub invariant_of-result : goal.invariant_of-result
invariant_of-result c =
    let n = c.nearest.result in
    let range = c.nearest.ensures.range in
    record { sized = (zeros_numbered n range.0 range.1).0; numbered = (zeros_numbered n range.0 range.1).1 }

pub returns : goal.returns
returns c = take-replicate c.nearest.result 128 0 c.nearest.ensures.range.1 ∙ ap (λ (n : ℕ). replicate n 0) c.nearest.ensures.is
