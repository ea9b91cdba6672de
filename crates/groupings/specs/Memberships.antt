-- What a membership says of the states' groups, and when a list is one.
use Rattle.std.specs.Prelude.{◌≡◌, ℕ, ◌≤◌, cond, ◌⊎◌, List, take, replicate, Ok, Err, Result, ◌==◌, nat_lt}
use Rattle.systems.specs.declared.refusals.Refusal.{Refusal}
use Rattle.systems.specs.declared.refusals.Refusal.TheVariants.{GroupList, UnusedGroup}
use Rattle.groupings.specs.Members.{OneForEach, AllUsed}
use Rattle.groupings.specs.declared.members.Membership.{Membership}

-- the groups of its states
abbrev pub groups_of : Membership → List ℕ
groups_of m = take m.states m.numbers

-- the groups of the states of a system with n: where a membership is for another number, all lie in group 0
abbrev pub groups_in : Membership → ℕ → List ℕ
groups_in m n = cond (m.states == n) (groups_of m) (replicate n 0)

-- the nearest number of states that a system can have
abbrev pub nearest : ℕ → ℕ
nearest n = cond (nat_lt n 1) 1 (cond (nat_lt 128 n) 128 n)

-- the first condition that a list of the groups of n states breaks
abbrev pub RefusedList : ℕ → List ℕ → Refusal → Type 0
RefusedList n xs e =
    ((e ≡ GroupList) × ¬ OneForEach n xs)
    ⊎ ((e ≡ UnusedGroup) × OneForEach n xs × ¬ AllUsed xs)

-- the answer to a list of the groups of n states; a number of states that no system has is refused as such a list
abbrev pub Listed : ℕ → List ℕ → Result Membership Refusal → Type 0
Listed n xs (Ok m) = (1 ≤ n) × (n ≤ 128) × OneForEach n xs × AllUsed xs × (groups_of m ≡ xs)
Listed n xs (Err e) =
    ((e ≡ GroupList) × ¬ ((1 ≤ n) × (n ≤ 128) × OneForEach n xs))
    ⊎ ((e ≡ UnusedGroup) × OneForEach n xs × ¬ AllUsed xs)
