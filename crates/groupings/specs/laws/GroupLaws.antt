-- A grouping keeps the laws of a system.
use Rattle.std.specs.Prelude.{◌≡◌, ℕ, zero, suc, ◌+◌, ◌-◌, ◌<◌, ◌≤◌, Bool, true, false, cond, ◌&&◌, List, [], ◌∷◌, length, replicate, ◌==◌, nat_eq}
use Rattle.std.proofs.Common.{le_of_suc-le-suc, not-suc-le-zero, eq-or-lt_of_le, arith, sym, ap, subst, ◌∙◌, ⊎_elim}
use Rattle.std.proofs.Math.Path.{refl}
use Rattle.std.proofs.lemmas.List.{length-take-le, length-replicate, get_or-take, get_or-replicate}
use Rattle.std.proofs.lemmas.Bool.{eq-eqb, ne_eqb, eqb-true, cases_eq, cases_Bool, both_ways}
use Rattle.systems.specs.Below.{all_below}
use Rattle.systems.specs.Model.{Model, Lawful}
use Rattle.systems.specs.laws.TableLaws.{all_at, any_at, any_from}
use Rattle.systems.specs.declared.kinds.Step.{Step}
use Rattle.systems.specs.declared.kinds.Step.TheVariants.{Absent, Unsure, Sure}
use Rattle.colours.specs.Groupings.{is_absent, surer, surest, strength, group_step, group_start}
use Rattle.groupings.specs.Members.{group_of, largest, group_count, by_list, AllUsed, is_used}
use Rattle.groupings.specs.Memberships.{groups_of, groups_in}
use Rattle.groupings.specs.declared.members.Membership.{Membership}

-- the largest number of a list
pub largest_above : (xs : List ℕ) (s : ℕ) → s < length xs → group_of xs s ≤ largest xs
largest_above [] s l = absurd (not-suc-le-zero l)
largest_above (x ∷ xs) zero l = omega arith
largest_above (x ∷ xs) (suc s) l = let h = largest_above xs s (le_of_suc-le-suc l) in omega arith

pub largest_below : (xs : List ℕ) (c : ℕ) → 0 < c → ((s : ℕ) → s < length xs → group_of xs s < c) → largest xs < c
largest_below [] c l h = l
largest_below (x ∷ xs) c l h =
    let here : x < c = h 0 (omega arith) in
    let rest = largest_below xs c l (λ s k. h (suc s) (omega arith)) in
    omega arith

-- where the numbers are below c and the last of those is used, there are c groups
pub count_is : (xs : List ℕ) (c : ℕ) → ((s : ℕ) → s < length xs → group_of xs s < c) → (last : ℕ) → last < length xs → group_of xs last + 1 ≡ c → group_count xs ≡ c
count_is xs c below last l e =
    let a = largest_above xs last l in
    let b = largest_below xs c (omega arith) below in
    omega arith

pub used_by : (xs : List ℕ) (n g : ℕ) → is_used xs n g ≡ true → (s : ℕ) × (s < n) × (group_of xs s ≡ g)
used_by xs n g e = let u = any_at (λ s. nat_eq (group_of xs s) g) n e in (u.0, u.1, eqb-true (group_of xs u.0) g u.2)

-- the list puts n states into groups, none of them empty
abbrev pub Partition : ℕ → List ℕ → Type 0
Partition n xs = (length xs ≡ n) × (group_count xs ≤ n) × AllUsed xs

module _ (m : Membership) where
  pub states_are : length (groups_of m) ≡ m.states
  states_are = length-take-le m.states m.numbers (omega (arith, m.sized.0, m.sized.2))

  pub number_at : (s : ℕ) → s < m.states → group_of (groups_of m) s ≡ group_of m.numbers s
  number_at s l = get_or-take m.states m.numbers s 0 l

  used : (g : ℕ) → g < m.groups → (s : ℕ) × (s < length (groups_of m)) × (group_of (groups_of m) s ≡ g)
  used g l =
      let u = used_by m.numbers m.states g (m.numbered.1 g l) in
      (u.0, omega (arith, u.1, states_are), number_at u.0 u.1 ∙ u.2)

  below : (s : ℕ) → s < length (groups_of m) → group_of (groups_of m) s < m.groups
  below s l = let k : s < m.states = omega (arith, states_are) in omega (arith, number_at s k, m.numbered.0 s k)

  pub groups_are : group_count (groups_of m) ≡ m.groups
  groups_are =
      let some = m.numbered.0 0 m.sized.1 in
      let last = used (m.groups - 1) (omega arith) in
      count_is (groups_of m) m.groups below last.0 last.1 (omega (arith, last.2))

  pub partition : Partition m.states (groups_of m)
  partition = (
    states_are,
    omega (arith, groups_are, m.sized.3),
    λ g l. used g (omega (arith, groups_are)),
  )

largest_zeros : (n : ℕ) → largest (replicate n 0) ≡ 0
largest_zeros zero = refl
largest_zeros (suc n) = let h = largest_zeros n in omega arith

pub whole_partition : (n : ℕ) → 1 ≤ n → Partition n (replicate n 0)
whole_partition n l =
    let z = largest_zeros n in
    (length-replicate n 0, omega arith, λ g k. (0, omega (arith, length-replicate {A = ℕ} n 0), get_or-replicate n 0 0 0 l ∙ omega arith))

pub fitted_partition : (m : Membership) (n : ℕ) → 1 ≤ n → Partition n (groups_in m n)
fitted_partition m n l =
    ⊎_elim
    (λ (e : m.states ≡ n). rw (eq-eqb m.states n e) (subst (λ (k : ℕ). Partition k (groups_of m)) e (partition m)))
    (λ (e : m.states ≡ n → ⊥). rw (ne_eqb m.states n e) (whole_partition n l))
    (cases_eq m.states n)

-- a test that fails at one number fails of all
not_all : (test : ℕ → Bool) (n k : ℕ) → k < n → test k ≡ false → all_below test n ≡ false
not_all test n k l e = ⊎_elim (λ t. absurd (both_ways (test k) e (all_at test n k t l))) (λ f. f) (cases_Bool (all_below test n))

is_absent_not : (k : Step) → ¬ (k ≡ Absent) → is_absent k ≡ false
is_absent_not Absent n = absurd (n refl)
is_absent_not Unsure n = refl
is_absent_not Sure n = refl

surer_left : (a b : Step) → is_absent a ≡ false → is_absent (surer a b) ≡ false
surer_left Absent b e = let z : ◌≡◌ {A = ℕ} 0 1 = cc in absurd (omega arith)
surer_left Unsure Absent e = refl
surer_left Unsure Unsure e = refl
surer_left Unsure Sure e = refl
surer_left Sure b e = refl

surer_right : (a b : Step) → is_absent b ≡ false → is_absent (surer a b) ≡ false
surer_right Absent b e = e
surer_right Unsure Absent e = refl
surer_right Unsure Unsure e = refl
surer_right Unsure Sure e = refl
surer_right Sure b e = refl

surest_there : (step : ℕ → Step) (n t : ℕ) → t < n → is_absent (step t) ≡ false → is_absent (surest step n) ≡ false
surest_there step zero t l e = absurd (not-suc-le-zero l)
surest_there step (suc n) t l e =
    ⊎_elim
    (λ (q : t ≡ n). surer_right (surest step n) (step n) (ap (λ (k : ℕ). is_absent (step k)) (sym q) ∙ e))
    (λ (lt : t < n). surer_left (surest step n) (step n) (surest_there step n t lt e))
    (eq-or-lt_of_le (le_of_suc-le-suc l))

there : (sures absents : Bool) → absents ≡ false → ¬ (cond sures Sure (cond absents Absent Unsure) ≡ Absent)
there true absents e n = let z : ◌≡◌ {A = ℕ} 0 1 = cc in omega arith
there false true e n = let z : ◌≡◌ {A = ℕ} 0 1 = cc in omega arith
there false false e n = let z : ◌≡◌ {A = ℕ} 0 1 = cc in omega arith

module _ (M : Model) (group : ℕ → ℕ) where
  -- a possible step of a state is one of its group
  step_lifts : (s t : ℕ) → s < M.states → t < M.states → ¬ (M.step s t ≡ Absent) → ¬ (group_step M group (group s) (group t) ≡ Absent)
  unfolding group_step strength
  step_lifts s t l k n =
      let into : ℕ → Step = λ u. cond (group u == group t) (M.step s u) Absent in
      let here : into t ≡ M.step s t = rw (eq-eqb (group t) (group t) refl) refl in
      let strong : is_absent (surest into M.states) ≡ false = surest_there into M.states t k (ap is_absent here ∙ is_absent_not (M.step s t) n) in
      there _ _
      (not_all (λ u. cond (group u == group s) (is_absent (strength M group u (group t))) true) M.states s l
      (rw (eq-eqb (group s) (group s) refl) strong))

  start_lifts : (s : ℕ) → s < M.states → M.start s ≡ true → group_start M group (group s) ≡ true
  unfolding group_start
  start_lifts s l e = any_from (λ u. (group u == group s) && M.start u) M.states s l (rw (eq-eqb (group s) (group s) refl) e)

pub partition_lawful : (M : Model) (xs : List ℕ) → Lawful M → Partition M.states xs → Lawful (by_list M xs)
partition_lawful M xs law part =
    let low : (s : ℕ) → s < M.states → group_of xs s < group_count xs = λ s l. omega (arith, largest_above xs s (omega (arith, part.0))) in
    record {
      states_some = omega arith;
      states_few = omega (arith, part.1, law.states_few);
      marks_some = law.marks_some;
      marks_few = law.marks_few;
      goes_on = λ g l.
          let member = part.2 g l in
          let on = law.goes_on member.0 (omega (arith, member.1, part.0)) in
          let t = on.0 in (
            group_of xs t,
            (
              l,
              low t on.1.1,
              subst (λ (k : ℕ). ¬ (group_step M (group_of xs) k (group_of xs t) ≡ Absent)) member.2 (step_lifts M (group_of xs) member.0 t on.1.0 on.1.1 on.1.2),
            ),
          );
      starts =
          let first = law.starts in
          (group_of xs first.0, (low first.0 first.1.0, start_lifts M (group_of xs) first.0 first.1.0 first.1.1));
    }

-- whatever the membership, also where it is for another number of states
pub grouping_lawful : (M : Model) (m : Membership) → Lawful M → Lawful (by_list M (groups_in m M.states))
grouping_lawful M m law = partition_lawful M (groups_in m M.states) law (fitted_partition m M.states law.states_some)
