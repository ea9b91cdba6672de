-- The conditions that a table file meets, in the order in which they are put, and the first that fails.
use Rattle.std.specs.Prelude.{◌≡◌, ℕ, ◌+◌, ◌*◌, Bool, true, cond, ◌&&◌, ◌||◌, List, length, Some, None, Option, ◌==◌, nat_le, nat_lt}
use Rattle.std.specs.List.{between, list_all, list_any}
use Rattle.systems.specs.Below.{all_below}
use Rattle.systems.specs.Faults.{without_place}
use Rattle.systems.specs.declared.refusals.Fault.{Fault}
use Rattle.systems.specs.declared.refusals.Refusal.{Refusal}
use Rattle.systems.specs.declared.refusals.Refusal.TheVariants.{FileLength, CountRange, ContentsEntry, BodiesOverlap, BodyByte, NoStepOut, NoStart}
use Rattle.tables.specs.Files.{states_of, marks_of, offset, size, steps_in, marks_in, starts_in}

-- from 14 to 32,768 bytes
abbrev pub sized : List ℕ → Bool
sized bytes = nat_le 14 (length bytes) && nat_le (length bytes) 32768

-- N is 1 to 128 and P is 1 to 16
abbrev pub counted : (n p : ℕ) → Bool
counted n p = (nat_le 1 n && nat_le n 128) && (nat_le 1 p && nat_le p 16)

-- the entry tells this length, and its body begins behind the contents and ends with the file or before
abbrev pub placed : List ℕ → (entry len : ℕ) → Bool
placed bytes entry len =
    (size bytes entry == len) && (nat_le 14 (offset bytes entry) && nat_le (offset bytes entry + len) (length bytes))

abbrev pub all_placed : List ℕ → (n p : ℕ) → Bool
all_placed bytes n p = placed bytes 0 (n * n) && (placed bytes 1 (n * p) && placed bytes 2 n)

-- two bodies share no byte
abbrev pub apart : (a m b n : ℕ) → Bool
apart a m b n = nat_le (a + m) b || nat_le (b + n) a

abbrev pub all_apart : (n p steps marks starts : ℕ) → Bool
all_apart n p steps marks starts =
    apart steps (n * n) marks (n * p) && (apart steps (n * n) starts n && apart marks (n * p) starts n)

-- each byte of a body is below the limit
abbrev pub listed : (limit : ℕ) → List ℕ → Bool
listed limit body = list_all (λ b. nat_lt b limit) body

-- steps are 0 to 2, marks 0 to 2, starts 0 or 1
abbrev pub all_listed : (steps marks starts : List ℕ) → Bool
all_listed steps marks starts = listed 3 steps && (listed 3 marks && listed 2 starts)

-- some byte in the row of the state is not 0
abbrev pub goes : (steps : List ℕ) → (n s : ℕ) → Bool
goes steps n s = list_any (λ b. nat_lt 0 b) (between (s * n) (s * n + n) steps)

abbrev pub any_start : (starts : List ℕ) → Bool
any_start starts = list_any (λ b. b == 1) starts

-- the refusal where a condition fails, and else what comes after
abbrev pub unless : Bool → Refusal → Option Fault → Option Fault
unless holds refusal after = cond holds after (Some (without_place refusal))

-- the fault that stands first
abbrev pub first : Option Fault → Option Fault → Option Fault
first None after = after
first (Some e) after = Some e

abbrev pub header_fault : List ℕ → Option Fault
header_fault bytes =
    unless (sized bytes) FileLength
    (unless (counted (states_of bytes) (marks_of bytes)) CountRange
    None)

abbrev pub contents_fault : List ℕ → (n p : ℕ) → Option Fault
contents_fault bytes n p =
    unless (all_placed bytes n p) ContentsEntry
    (unless (all_apart n p (offset bytes 0) (offset bytes 1) (offset bytes 2)) BodiesOverlap
    None)

abbrev pub bodies_fault : (n : ℕ) → (steps marks starts : List ℕ) → Option Fault
bodies_fault n steps marks starts =
    unless (all_listed steps marks starts) BodyByte
    (unless (all_below (goes steps n) n) NoStepOut
    (unless (any_start starts) NoStart
    None))

-- the first condition that fails: of the header, then of the contents, then of the bodies
abbrev pub file_fault : List ℕ → Option Fault
file_fault bytes =
    first (header_fault bytes)
    (first (contents_fault bytes (states_of bytes) (marks_of bytes))
    (bodies_fault (states_of bytes) (steps_in bytes) (marks_in bytes) (starts_in bytes)))

-- what is kept of the bodies of a file that was accepted: steps are listed, each state has a step, and there is a start
abbrev pub LawfulBodies : (n : ℕ) → (steps starts : List ℕ) → Type 0
LawfulBodies n steps starts = (listed 3 steps ≡ true) × (all_below (goes steps n) n ≡ true) × (any_start starts ≡ true)
