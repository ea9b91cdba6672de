use Rattle.std.proofs.Common.{◌≡◌, ◌≤◌, nat_eq, take, count_by}
use Rattle.colouring.proofs.boards.count.Given as goal

-- the count so far is that of the bytes gone through
abbrev pub invariant-loop-byte : goal.invariant-loop-byte
invariant-loop-byte l = (l.count ≡ count_by (nat_eq l.sought) (take l.byte-index l.places)) × (l.count ≤ l.byte-index)
