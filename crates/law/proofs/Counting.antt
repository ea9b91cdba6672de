-- Lists of groups: how many numbers stand in them.
use Rattle.std.proofs.Common.{◌≡◌, ℕ, ◌+◌, ◌-◌, ◌<◌, ◌≤◌, List, length, replicate, sym, ap, ◌∙◌, inl, inr, arith}
use native.Mathlib.Decide.{ℕ_discrete}
use Rattle.std.specs.List.{remove}
use Rattle.std.proofs.lemmas.List.Edits.{length-remove, get_or-remove_below, get_or-remove_above}
use Rattle.std.proofs.lemmas.List.{length-replicate, get_or-replicate}
use Rattle.std.proofs.lemmas.Bool.Decides.{leb_tells}
use Rattle.groupings.specs.Members.{group_of, group_count}
use Rattle.std.proofs.lemmas.Bool.{cases_lt}
use Rattle.std.proofs.lemmas.List.{get_or_past}
use Rattle.groupings.specs.laws.GroupLaws.{largest_above, count_is as counted}
use Rattle.groupings.proofs.Pigeons.{enough}

-- the number g stands at place s
abbrev pub Lies : List ℕ → ℕ → ℕ → Type 0
Lies xs g s = (s < length xs) × (group_of xs s ≡ g)

-- each number below n stands somewhere
abbrev pub Onto : ℕ → List ℕ → Type 0
Onto n xs = (g : ℕ) → g < n → (s : ℕ) × (s < length xs) × (group_of xs s ≡ g)

-- each number is below n
abbrev pub Below : ℕ → List ℕ → Type 0
Below n xs = (s : ℕ) → s < length xs → group_of xs s < n

-- a number that stands at another place than k stands in the list without k
stays_used : (xs : List ℕ) (k j g : ℕ) → k < length xs → Lies xs g j → ¬ (j ≡ k)
    → (i : ℕ) × (i < length (remove xs k)) × (group_of (remove xs k) i ≡ g)
stays_used xs k j g lk lies ne =
    let lj = lies.0 in
    let n = length-remove xs k lk in
    elim (leb_tells k j) [
      | inl h ↦ (
          let up : k ≤ j - 1 = omega arith in
          let back : j - 1 + 1 ≡ j = omega arith in
          (j - 1, omega arith, get_or-remove_above xs k 0 (j - 1) up lk ∙ ap (group_of xs) back ∙ lies.1))
      | inr h ↦ (j, omega arith, get_or-remove_below xs k 0 j h.1 lk ∙ lies.1)
    ]

-- a list in which each number below n stands has n places or more
pub onto_length : (n : ℕ) (xs : List ℕ) → Onto n xs → n ≤ length xs
onto_length n xs = enough (group_of xs) n (length xs)

-- with no more places than numbers, no number stands twice
pub onto_single : (xs : List ℕ) → Onto (length xs) xs → (g i j : ℕ) → Lies xs g i → Lies xs g j → i ≡ j
onto_single xs o g i j a b = elim (ℕ_discrete i j) [ yes e ↦ e | no d ↦ absurd (twice d) ]
  where
    rest : ¬ (i ≡ j) → Onto (length xs) (remove xs j)
    rest d h l =
        let w = o h l in
        elim (ℕ_discrete w.0 j) [
          | no n ↦ stays_used xs j w.0 h b.0 (w.1, w.2) n
          | yes e ↦ stays_used xs j i h b.0 (a.0, a.1 ∙ sym b.1 ∙ ap (group_of xs) (sym e) ∙ w.2) d
        ]

    twice : ¬ (i ≡ j) → ⊥
    twice d =
        let more = onto_length (length xs) (remove xs j) (rest d) in
        let less = length-remove xs j b.0 in
        let there = b.0 in
        omega arith

pub below_count : (xs : List ℕ) (s : ℕ) → group_of xs s < group_count xs
below_count xs s = elim (cases_lt s (length xs)) [
  | inl low ↦ omega (arith, largest_above xs s low)
  | inr past ↦ omega (arith, get_or_past xs s 0 past)
]

-- the count of a list whose numbers are those up to n
pub count_is : (n : ℕ) (xs : List ℕ) → Below (n + 1) xs → Onto (n + 1) xs → group_count xs ≡ n + 1
count_is n xs b o = let u = o n (omega arith) in counted xs (n + 1) b u.0 u.1 (omega (arith, u.2))

pub zeros_below : (n : ℕ) → Below 1 (replicate n 0)
zeros_below n k h = let e : k < n = rw length-replicate at h in omega (arith, get_or-replicate {A = ℕ} n k 0 0 e)

pub zeros_onto : (n : ℕ) → 1 ≤ n → Onto 1 (replicate n 0)
zeros_onto n h g l = (0, rw length-replicate h, omega (arith, get_or-replicate {A = ℕ} n 0 0 0 h))
