use Rattle.std.proofs.Common.{rules, ◌==◌, tests}
use Rattle.std.specs.List.{list_any}
use Rattle.systems.proofs.Ranges.{all_in_range}
use Rattle.groupings.proofs.members.listing.all_used.Goals as goal

pub returns : goal.returns
returns c = all_in_range (λ g. list_any (λ b. b == g) c.args.bytes.now) c.args.groups _ _ _ c.all.ensures.ran (cc) (λ x b q k. search (rules, tests))
