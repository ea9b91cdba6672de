-- Lists of the states' groups.
use Rattle.std.proofs.Common.{◌≡◌, ℕ, ◌+◌, ◌<◌, ◌≤◌, ◌==◌, max, Bool, true, false, eqb, List, [], ◌∷◌, length, take, replicate, Option, Some, None, IsSome, MatchOption, unwrap_or, Err, inl, inr, sym, refl, ap, ◌∙◌, ⊎_elim, arith}
use Rattle.std.specs.List.{fold, reduce, list_any}
use Rattle.std.proofs.lemmas.Bool.Decides.{Decides-by_or, Decides-eqb}
use Rattle.std.proofs.lemmas.List.Folds.{list_any_at}
use Rattle.systems.specs.Below.{all_below}
use Rattle.std.proofs.lemmas.List.{get_or-replicate, get_or-take, get_or_past}
use Rattle.std.proofs.lemmas.Bool.{cases_lt, eq-eqb, both_ways}
use Rattle.systems.specs.laws.TableLaws.{all_at, all_from, any_from}
use Rattle.groupings.specs.Members.{group_of, group_count, largest, Sized, Numbered, OneForEach, AllUsed}
use Rattle.systems.specs.declared.refusals.Refusal.{Refusal}
use Rattle.groupings.specs.Memberships.{groups_of, Listed, RefusedList}
use Rattle.groupings.specs.laws.GroupLaws.{largest_above, largest_below, number_at, states_are, groups_are, partition}
use Rattle.groupings.specs.declared.members.Membership.{Membership}

-- all states in group 0
pub zeros_numbered : (n : ℕ) → 1 ≤ n → n ≤ 128 → Sized (replicate 128 0) n 1 × Numbered (replicate 128 0) n 1
zeros_numbered n some few = (
  (refl, some, few, some),
  (
    λ s l. let z = get_or-replicate {A = ℕ} 128 s 0 0 (omega arith) in omega arith,
    λ g l. any_from (λ s. eqb (group_of (replicate 128 0) s) g) n 0 some (eq-eqb 0 g (omega arith)),
  ),
)

largest_from : (a : ℕ) (xs : List ℕ) → fold max a xs ≡ max a (largest xs)
largest_from a [] = omega arith
largest_from a (x ∷ xs) = let h = largest_from (max a x) xs in omega arith

pub largest_is : (xs : List ℕ) → unwrap_or (reduce max xs) 0 ≡ largest xs
largest_is [] = refl
largest_is (x ∷ xs) = largest_from x xs

-- whether the group g is used, by the numbers themselves
abbrev pub has : List ℕ → ℕ → Bool
has xs g = list_any (λ x. x == g) xs

module _ (xs : List ℕ) (g : ℕ) where
  pub has_at : has xs g ≡ true → (s : ℕ) × (s < length xs) × (group_of xs s ≡ g)
  has_at e =
      let u = (Decides-by_or (λ x. x == g) (λ x. x ≡ g) (λ ys. has ys g) (λ x. Decides-eqb x g) refl (λ _ _. refl) xs).0 e in
      (u.0, u.1, u.2 0)

  pub has_from : (s : ℕ) → s < length xs → group_of xs s ≡ g → has xs g ≡ true
  has_from s l e = list_any_at (λ x. x == g) xs s 0 l (eq-eqb (group_of xs s) g e)

-- a list of the groups of n states whose largest number is `last`
module _ (bytes : List ℕ) (last : ℕ) (is : last ≡ largest bytes) where
  pub each_below : (n : ℕ) → length bytes ≡ n → last < n → OneForEach n bytes
  each_below n all l = (all, λ s k. omega (arith, largest_above bytes s (omega arith)))

  pub not_each_below : (n : ℕ) → 1 ≤ n → n ≤ last → ¬ OneForEach n bytes
  not_each_below n some l h = omega (arith, largest_below bytes n some (λ s k. h.1 s (omega arith)))

  pub each_used : all_below (has bytes) (last + 1) ≡ true → AllUsed bytes
  each_used e g l = has_at bytes g (all_at (has bytes) (last + 1) g e (omega arith))

  pub not_each_used : all_below (has bytes) (last + 1) ≡ false → ¬ AllUsed bytes
  not_each_used e used =
      both_ways (all_below (has bytes) (last + 1)) e
      (all_from (has bytes) (last + 1) (λ g l. let u = used g (omega arith) in has_from bytes g u.0 u.1 u.2))

  -- its numbers in the first places of an array
  pub list_numbered :
      (n : ℕ) → 1 ≤ n → n ≤ 128 → length bytes ≡ n → last < n → AllUsed bytes → (numbers : List ℕ) → length numbers ≡ 128 → take (length bytes) numbers ≡ bytes
      → Sized numbers n (last + 1) × Numbered numbers n (last + 1)
  list_numbered n some few all l used numbers long same =
      let at : (s : ℕ) → s < n → group_of numbers s ≡ group_of bytes s = λ s k.
      sym (get_or-take (length bytes) numbers s 0 (omega arith)) ∙ ap (λ (xs : List ℕ). group_of xs s) same in (
        (long, some, few, omega arith),
        (
          λ s k. omega (arith, at s k, largest_above bytes s (omega arith)),
          λ g k.
              let u = used g (omega arith) in
              any_from (λ s. eqb (group_of numbers s) g) n u.0 (omega (arith, u.1)) (eq-eqb (group_of numbers u.0) g (at u.0 (omega (arith, u.1)) ∙ u.2)),
        ),
      )

-- the group of a state, and of a number beyond the states
pub group_below : (m : Membership) (s r : ℕ) → r ≡ group_of (groups_of m) s → (r < group_count (groups_of m)) × (r < 128)
group_below m s r is =
    ⊎_elim
    (λ (low : s < m.states).
    let at = number_at m s low in
    (omega (arith, m.numbered.0 s low, groups_are m), omega (arith, m.numbered.0 s low, m.sized.2, m.sized.3)))
    (λ (high : m.states ≤ s).
    let none = get_or_past (groups_of m) s 0 (omega (arith, states_are m)) in
    (omega arith, omega arith))
    (cases_lt s m.states)

-- a search for the lowest-numbered member of a group that there is finds one
pub lowest_there : (m : Membership) (g : ℕ) → g < group_count (groups_of m) → (r : Option ℕ) (Found : ℕ → Type 0) → MatchOption r ((s : ℕ) → 0 ≤ s → s < m.states → group_of (groups_of m) s ≡ g → ⊥) Found → IsSome r
lowest_there m g l None Found h = let u = (partition m).2 g l in absurd (h u.0 (omega arith) (omega (arith, u.1, states_are m)) u.2)
lowest_there m g l (Some s) Found h = refl

-- a list refused for a number of states that a system has is refused for what it says
pub refused_list : (n : ℕ) (xs : List ℕ) (e : Refusal) → 1 ≤ n → n ≤ 128 → Listed n xs (Err e) → RefusedList n xs e
refused_list n xs e some few h = ⊎_elim (λ a. inl (a.0, λ one. a.1 (some, few, one))) inr h
