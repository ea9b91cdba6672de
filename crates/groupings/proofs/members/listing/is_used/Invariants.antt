use Rattle.std.proofs.Common.{◌≡◌, ◌==◌, take}
use Rattle.std.specs.List.{list_any}
use Rattle.groupings.proofs.members.listing.is_used.Given as goal

-- what was found so far is found among the bytes gone through
abbrev pub invariant-loop-byte : goal.invariant-loop-byte
invariant-loop-byte l = l.used ≡ list_any (λ b. b == l.group) (take l.byte-index l.bytes)
