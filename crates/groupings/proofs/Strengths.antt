-- The strengths of a state: the greatest steps to the members of the groups.
use Rattle.std.proofs.Common.{◌≡◌, ℕ, zero, suc, ◌+◌, ◌<◌, Bool, true, false, cond, eqb, List, [], ◌∷◌, length, map, filter, get_or, set, Option, unwrap_or, sym, refl, ap, ◌∙◌, subst, ⊎_elim, add-one, arith, get_or-set_other}
use native.Mathlib.Decide.{ℕ_discrete}
use Rattle.std.specs.List.{fold, reduce, range_with_len}
use Rattle.std.specs.Ordering.{max_by_ordering}
use Rattle.std.proofs.lemmas.Bool.{cases_Bool, eq-eqb, ne_eqb, cond-false}
use Rattle.std.proofs.lemmas.Grind.{get_or-set_at}
use Rattle.systems.specs.Model.{Model}
use Rattle.systems.specs.contracts.kinds.StepOrd.TheImpl.{ghosts}
use Rattle.systems.specs.declared.kinds.Step.{Step}
use Rattle.systems.specs.declared.kinds.Step.TheVariants.{Absent}
use Rattle.systems.proofs.Questions.{step_in_range}
use Rattle.colours.specs.Groupings.{surer, surest, step_into, strength}
use Rattle.groupings.specs.Joined.{asked}

surer_absent : (k : Step) → surer k Absent ≡ k
surer_absent k = grind arith

-- the greater of two steps: a search for the greatest takes the later one where they are equal
pub later_max_is : (a b : Step) → max_by_ordering (ghosts.cmp a b) a b ≡ surer a b
later_max_is a b = grind arith

surest_same : (a b : ℕ → Step) (n : ℕ) → ((t : ℕ) → t < n → a t ≡ b t) → surest a n ≡ surest b n
surest_same a b zero same = refl
surest_same a b (suc n) same =
    let here = same n (omega arith) in
    let rest = surest_same a b n (λ t l. same t (omega arith)) in
    cc

-- a state that there is has the strengths that it is asked for
pub strength_known : (M : Model) (group : ℕ → ℕ) (s h : ℕ) → s < M.states → strength (asked M) group s h ≡ strength M group s h
unfolding strength
strength_known M group s h l =
    surest_same (step_into (asked M) group s h) (step_into M group s h) M.states (λ t k. ap (λ x. cond (eqb (group t) h) x Absent) (step_in_range M s l t k))

surest_absent : (a : ℕ → Step) (n : ℕ) → ((t : ℕ) → t < n → a t ≡ Absent) → surest a n ≡ Absent
surest_absent a zero none = refl
surest_absent a (suc n) none = rw (surest_absent a n (λ t l. none t (omega arith)), none n (omega arith)) refl

-- no state has a strength into a group with no member
pub none_into : (M : Model) (group : ℕ → ℕ) (s h : ℕ) → ((t : ℕ) → t < M.states → ¬ (group t ≡ h)) → strength M group s h ≡ Absent
unfolding strength
none_into M group s h none = surest_absent (step_into M group s h) M.states (λ t l. cond-false _ _ _ (ne_eqb (group t) h (none t l)))

-- the greatest of the steps to the members
module _ (pick : Step → Step → Step) (is : (a b : Step) → pick a b ≡ surer a b) where
  fold_is : (a : Step) (ks : List Step) → fold pick a ks ≡ fold surer a ks
  fold_is a [] = refl
  fold_is a (k ∷ ks) = fold_is (pick a k) ks ∙ ap (λ (b : Step). fold surer b ks) (is a k)

  reduce_is : (ks : List Step) → unwrap_or (reduce pick ks) Absent ≡ fold surer Absent ks
  reduce_is [] = refl
  reduce_is (k ∷ ks) = fold_is k ks

  module _ (member : ℕ → Bool) (step : ℕ → Step) where
    abbrev into : ℕ → Step
    into t = cond (member t) (step t) Absent

    fold_from : (k m : ℕ) → fold surer (surest into k) (map step (filter member (range_with_len k m))) ≡ surest into (k + m)
    fold_from k zero = let same : k ≡ k + 0 = omega arith in ap (surest into) same
    fold_from k (suc m) =
        let more : surest into (k + 1) ≡ surer (surest into k) (into k) = rw (add-one k) refl in
        let same : k + 1 + m ≡ k + suc m = omega arith in
        let rest = fold_from (k + 1) m ∙ ap (surest into) same in
        ⊎_elim
        (λ (e : member k ≡ true).
        let here : into k ≡ step k = rw e refl in
        rw e (subst (λ (a : Step). fold surer a (map step (filter member (range_with_len (k + 1) m))) ≡ surest into (k + suc m)) (more ∙ ap (surer (surest into k)) here) rest))
        (λ (e : member k ≡ false).
        let here : into k ≡ Absent = rw e refl in
        rw e (subst (λ (a : Step). fold surer a (map step (filter member (range_with_len (k + 1) m))) ≡ surest into (k + suc m)) (more ∙ ap (surer (surest into k)) here ∙ surer_absent (surest into k)) rest))
        (cases_Bool (member k))

    pub best_is : (n : ℕ) (r : Option Step) → r ≡ reduce pick (map step (filter member (range_with_len 0 n))) → unwrap_or r Absent ≡ surest into n
    best_is n r e =
        let same : 0 + n ≡ n = omega arith in
        ap (λ (o : Option Step). unwrap_or o Absent) e ∙ reduce_is (map step (filter member (range_with_len 0 n))) ∙ fold_from 0 n ∙ ap (surest into) same

module _ (M : Model) (group : ℕ → ℕ) (s h t : ℕ) (best : Step) (is : best ≡ surest (step_into M group s h) t) where
  more : surest (step_into M group s h) (t + 1) ≡ surer (surest (step_into M group s h) t) (step_into M group s h t)
  more = rw (add-one t) refl

  pub into_hit : group t ≡ h → surer best (M.step s t) ≡ surest (step_into M group s h) (t + 1)
  into_hit e =
      let here : step_into M group s h t ≡ M.step s t = rw (eq-eqb (group t) h e) refl in
      let next = more in
      cc

  pub into_miss : (group t ≡ h → ⊥) → best ≡ surest (step_into M group s h) (t + 1)
  into_miss e =
      let here : step_into M group s h t ≡ Absent = rw (ne_eqb (group t) h e) refl in
      let next = more in
      let same = surer_absent best in
      cc

get_d_set_at : {X : Type 0} (xs : List X) (i : ℕ) (v d : X) (k : ℕ) → k ≡ i → i < length xs → get_or (set xs i v) k d ≡ v
get_d_set_at xs i v d k = get_or-set_at xs i k v d

-- a row of strengths after the steps to t states
module _ (M : Model) (group : ℕ → ℕ) (s : ℕ) where
  abbrev pub Gathered : ℕ → List Step → Type 0
  Gathered t row = (h : ℕ) → h < 128 → get_or row h Absent ≡ surest (step_into M group s h) t

  pub gathered_more :
      (t : ℕ) (row : List Step) (g : ℕ) (v : Step) → g ≡ group t → g < length row → v ≡ surer (get_or row g Absent) (M.step s t)
      → Gathered t row → Gathered (t + 1) (set row g v)
  gathered_more t row g v at low is r h l = elim (ℕ_discrete h g) [
    | yes e ↦
        get_d_set_at row g v Absent h e low ∙ is
        ∙ subst (λ (k : ℕ). surer (get_or row k Absent) (M.step s t) ≡ surest (step_into M group s h) (t + 1)) e
        (into_hit M group s h t (get_or row h Absent) (r h l) (sym (e ∙ at)))
    | no n ↦ get_or-set_other row g h v Absent n ∙ into_miss M group s h t (get_or row h Absent) (r h l) (λ e. n (sym (at ∙ e)))
  ]
