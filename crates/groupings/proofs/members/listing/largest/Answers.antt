use Rattle.std.proofs.lemmas.Iterator.{YieldsList-from_slice}
use Rattle.std.proofs.lemmas.Iterator.Adapters.{option_map_id}
use Rattle.std.proofs.lemmas.Iterator.Consumers.{max_from_yields_List, YieldsList-from_copied}
use Rattle.groupings.proofs.Lists.{largest_is}
use Rattle.groupings.proofs.members.listing.largest.Goals as goal

pub returns : goal.returns
returns c =
    let best = max_from_yields_List _ c.max.result c.max.ensures.ran (YieldsList-from_copied (YieldsList-from_slice c.args.bytes.now cc)) in
    let whole = largest_is c.args.bytes.now in
    let id = option_map_id c.max.result in
    cc
