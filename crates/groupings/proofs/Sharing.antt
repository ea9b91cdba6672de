-- What the members of a group have in common is what the group is said to be.
use Rattle.std.proofs.Common.{◌≡◌, ℕ, ◌<◌, Bool, true, false, cond, ◌&&◌, ◌||◌, eqb, List, [], ◌∷◌, map, filter, unwrap_or, sym, refl, ap, ◌∙◌, arith, zero, suc, ◌+◌, ◌++◌, Some, None, add-one}
use Rattle.std.specs.List.{fold, reduce, list_all, list_any, range_with_len}
use Rattle.std.proofs.Math.Bool.{and-true, and_assoc}
use Rattle.std.proofs.lemmas.Bool.{and_parts}
use Rattle.systems.specs.Below.{all_below}
use Rattle.systems.specs.Model.{Model, mark_or_unknown, is_start}
use Rattle.systems.specs.declared.kinds.Step.{Step}
use Rattle.systems.specs.declared.kinds.Step.TheVariants.{Absent, Unsure, Sure}
use Rattle.systems.specs.declared.kinds.Colour.{Colour}
use Rattle.systems.specs.declared.kinds.Colour.TheVariants.{Undecided, F, T}
use Rattle.systems.proofs.Questions.{mark_in_range, start_in_range}
use Rattle.systems.proofs.Ranges.{all_over, all_alike, any_over, any_alike}
use Rattle.colours.specs.Groupings.{is_sure, is_absent, is_true, is_false, strength, group_step, group_mark, group_start, start_in}
use Rattle.groupings.specs.Joined.{joined_step, joined_mark, joined_with, shared, asked}
use Rattle.groupings.proofs.Strengths.{strength_known}

-- an answer that all members must give for it to be the group's: one of two, else a third
pub record Kind (X : Type 0) : Type 0 where
  pub is_one : X → Bool
  pub is_other : X → Bool
  pub one : X
  pub other : X
  pub mixed : X
  pub one_of : (p q : Bool) → is_one (cond p one (cond q other mixed)) ≡ p
  pub other_of : (p q : Bool) → (p ≡ true → q ≡ true → ⊥) → is_other (cond p one (cond q other mixed)) ≡ q
  pub apart : (x : X) → is_one x ≡ true → is_other x ≡ true → ⊥
  pub alone : (x : X) → cond (is_one x) one (cond (is_other x) other mixed) ≡ x

-- for steps, and for marks
pub sure_of : (p q : Bool) → is_sure (cond p Sure (cond q Absent Unsure)) ≡ p
sure_of p q = grind arith

pub absent_of : (p q : Bool) → (p ≡ true → q ≡ true → ⊥) → is_absent (cond p Sure (cond q Absent Unsure)) ≡ q
absent_of p q n = grind arith

pub sure_or_absent : (k : Step) → is_sure k ≡ true → is_absent k ≡ true → ⊥
sure_or_absent k a b = grind arith

pub step_alone : (k : Step) → cond (is_sure k) Sure (cond (is_absent k) Absent Unsure) ≡ k
step_alone k = grind arith

abbrev pub steps : Kind Step
steps = record { is_one = is_sure; is_other = is_absent; one = Sure; other = Absent; mixed = Unsure; one_of = sure_of; other_of = absent_of; apart = sure_or_absent; alone = step_alone }

pub true_of : (p q : Bool) → is_true (cond p T (cond q F Undecided)) ≡ p
true_of p q = grind arith

pub false_of : (p q : Bool) → (p ≡ true → q ≡ true → ⊥) → is_false (cond p T (cond q F Undecided)) ≡ q
false_of p q n = grind arith

pub true_or_false : (v : Colour) → is_true v ≡ true → is_false v ≡ true → ⊥
true_or_false v a b = grind arith

pub mark_alone : (v : Colour) → cond (is_true v) T (cond (is_false v) F Undecided) ≡ v
mark_alone v = grind arith

abbrev pub marks : Kind Colour
marks = record { is_one = is_true; is_other = is_false; one = T; other = F; mixed = Undecided; one_of = true_of; other_of = false_of; apart = true_or_false; alone = mark_alone }

-- all elements of a list that are answers of members
all_kept : {X : Type 0} (test : X → Bool) (member : ℕ → Bool) (f : ℕ → X) (ss : List ℕ) → list_all test (map f (filter member ss)) ≡ list_all (λ s. cond (member s) (test (f s)) true) ss
all_kept test member f [] = refl
all_kept test member f (s ∷ ss) =
    let rest = all_kept test member f ss in
    elim (member s) as (λ b. list_all test (map f (cond b (s ∷ filter member ss) (filter member ss))) ≡ (cond b (test (f s)) true && list_all (λ s. cond (member s) (test (f s)) true) ss)) [
      | true ↦ ap (λ (b : Bool). test (f s) && b) rest
      | false ↦ rest
    ]

-- the test passes at every member below n, where f is asked and h is meant
every : {X : Type 0} (test : X → Bool) (member : ℕ → Bool) (f h : ℕ → X) (n : ℕ) → ((s : ℕ) → s < n → f s ≡ h s) → list_all test (map f (filter member (range_with_len 0 n))) ≡ all_below (λ s. cond (member s) (test (h s)) true) n
every test member f h n same =
    all_kept test member f (range_with_len 0 n) ∙ all_over (λ s. cond (member s) (test (f s)) true) n
    ∙ all_alike (λ s. cond (member s) (test (f s)) true) (λ s. cond (member s) (test (h s)) true) n (λ s l. ap (λ x. cond (member s) (test x) true) (same s l))

module _ {X : Type 0} (kind : Kind X) where
  abbrev pick : Bool → Bool → X
  pick p q = cond p kind.one (cond q kind.other kind.mixed)

  abbrev join : X → X → X
  join a x = pick (kind.is_one a && kind.is_one x) (kind.is_other a && kind.is_other x)

  -- what a join keeps just where both have it, a list of answers keeps just where all have it
  all_joined : (test : X → Bool) → ((a x : X) → test (join a x) ≡ (test a && test x)) → (a : X) (xs : List X) → test (fold join a xs) ≡ (test a && list_all test xs)
  all_joined test both a [] = sym (and-true (test a))
  all_joined test both a (x ∷ xs) =
      all_joined test both (join a x) xs ∙ ap (λ (b : Bool). b && list_all test xs) (both a x) ∙ and_assoc (test a) (test x) (list_all test xs)

  all_one : (a : X) (xs : List X) → kind.is_one (fold join a xs) ≡ (kind.is_one a && list_all kind.is_one xs)
  all_one = all_joined kind.is_one (λ a x. kind.one_of (kind.is_one a && kind.is_one x) (kind.is_other a && kind.is_other x))

  all_other : (a : X) (xs : List X) → kind.is_other (fold join a xs) ≡ (kind.is_other a && list_all kind.is_other xs)
  all_other =
      all_joined kind.is_other
      (λ a x. kind.other_of (kind.is_one a && kind.is_one x) (kind.is_other a && kind.is_other x) (λ e k. kind.apart a (and_parts _ _ e).0 (and_parts _ _ k).0))

  joined_is : (xs : List X) → unwrap_or (reduce join xs) kind.one ≡ pick (list_all kind.is_one xs) (list_all kind.is_other xs)
  joined_is [] = refl
  joined_is (x ∷ xs) =
      sym (kind.alone (fold join x xs))
      ∙ ap (λ (p : Bool). pick p (kind.is_other (fold join x xs))) (all_one x xs)
      ∙ ap (pick (list_all kind.is_one (x ∷ xs))) (all_other x xs)

  pub shared_is :
      (member : ℕ → Bool) (f h : ℕ → X) (n : ℕ) → ((s : ℕ) → s < n → f s ≡ h s)
      → unwrap_or (shared join member f n) kind.one ≡ pick (all_below (λ s. cond (member s) (kind.is_one (h s)) true) n) (all_below (λ s. cond (member s) (kind.is_other (h s)) true) n)
  shared_is member f h n same =
      let a = every kind.is_one member f h n same in
      let b = every kind.is_other member f h n same in
      joined_is (map f (filter member (range_with_len 0 n))) ∙ rw (a, b) refl

module _ (M : Model) (group : ℕ → ℕ) (g : ℕ) where
  pub step_is : (h : ℕ) → unwrap_or (shared joined_step (λ s. eqb (group s) g) (λ s. strength (asked M) group s h) M.states) Sure ≡ group_step M group g h
  unfolding group_step
  step_is h = shared_is steps (λ s. eqb (group s) g) (λ s. strength (asked M) group s h) (λ s. strength M group s h) M.states (λ s l. strength_known M group s h l)

  pub mark_is : (p : ℕ) → p < M.marks → unwrap_or (shared joined_mark (λ s. eqb (group s) g) (λ s. mark_or_unknown M s p) M.states) T ≡ group_mark M group g p
  unfolding group_mark
  mark_is p l = shared_is marks (λ s. eqb (group s) g) (λ s. mark_or_unknown M s p) (λ s. M.mark s p) M.states (λ s k. mark_in_range M s k p l)

-- a group is a start where one of its members is
any_joined : (a : Bool) (bs : List Bool) → fold ◌||◌ a bs ≡ (a || list_any (λ b. b) bs)
any_joined true [] = refl
any_joined true (b ∷ bs) = any_joined true bs
any_joined false [] = refl
any_joined false (b ∷ bs) = any_joined b bs

any_is : (bs : List Bool) → unwrap_or (reduce ◌||◌ bs) false ≡ list_any (λ b. b) bs
any_is [] = refl
any_is (b ∷ bs) = any_joined b bs

any_kept : (member f : ℕ → Bool) (ss : List ℕ) → list_any (λ b. b) (map f (filter member ss)) ≡ list_any (λ s. member s && f s) ss
any_kept member f [] = refl
any_kept member f (s ∷ ss) =
    let rest = any_kept member f ss in
    elim (member s) as (λ b. list_any (λ x. x) (map f (cond b (s ∷ filter member ss) (filter member ss))) ≡ ((b && f s) || list_any (λ s. member s && f s) ss)) [
      | true ↦ ap (λ (r : Bool). f s || r) rest
      | false ↦ rest
    ]

pub start_is : (M : Model) (group : ℕ → ℕ) (g : ℕ) → unwrap_or (shared ◌||◌ (λ s. eqb (group s) g) (is_start M) M.states) false ≡ group_start M group g
unfolding group_start
start_is M group g =
    let test = λ (s : ℕ). eqb (group s) g && is_start M s in
    any_is (map (is_start M) (filter (λ s. eqb (group s) g) (range_with_len 0 M.states)))
    ∙ any_kept (λ s. eqb (group s) g) (is_start M) (range_with_len 0 M.states)
    ∙ any_over test M.states
    ∙ any_alike test (start_in M group g) M.states (λ s l. ap (λ b. eqb (group s) g && b) (start_in_range M s l))

-- one more state
module _ {X : Type 0} (join : X → X → X) (member : ℕ → Bool) (f : ℕ → X) where
  range_last : (a n j : ℕ) → a + n ≡ j → range_with_len a (suc n) ≡ range_with_len a n ++ j ∷ []
  range_last a zero j e = let same : a ≡ j = omega arith in ap (λ (k : ℕ). k ∷ []) same
  range_last a (suc n) j e = ap (λ (ks : List ℕ). a ∷ ks) (range_last (a + 1) n j (omega arith))

  abbrev chosen : List ℕ → List X
  chosen ss = map f (filter member ss)

  fold_last : (a : X) (ss : List ℕ) (j : ℕ) → fold join a (chosen (ss ++ j ∷ [])) ≡ cond (member j) (join (fold join a (chosen ss)) (f j)) (fold join a (chosen ss))
  fold_last a [] j = elim (member j) as (λ b. fold join a (map f (cond b (j ∷ []) [])) ≡ cond b (join a (f j)) a) [ true ↦ refl | false ↦ refl ]
  fold_last a (s ∷ ss) j =
      elim (member s) as (λ b. fold join a (map f (cond b (s ∷ filter member (ss ++ j ∷ [])) (filter member (ss ++ j ∷ [])))) ≡ cond (member j) (join (fold join a (map f (cond b (s ∷ filter member ss) (filter member ss)))) (f j)) (fold join a (map f (cond b (s ∷ filter member ss) (filter member ss))))) [
        | true ↦ fold_last (join a (f s)) ss j
        | false ↦ fold_last a ss j
      ]

  some_cond : (b : Bool) (x y : X) → Some (cond b x y) ≡ cond b (Some x) (Some y)
  some_cond b x y = grind arith

  reduce_last : (ss : List ℕ) (j : ℕ) → reduce join (chosen (ss ++ j ∷ [])) ≡ cond (member j) (Some (joined_with join (reduce join (chosen ss)) (f j))) (reduce join (chosen ss))
  reduce_last [] j = elim (member j) as (λ b. reduce join (map f (cond b (j ∷ []) [])) ≡ cond b (Some (f j)) None) [ true ↦ refl | false ↦ refl ]
  reduce_last (s ∷ ss) j =
      elim (member s) as (λ b. reduce join (map f (cond b (s ∷ filter member (ss ++ j ∷ [])) (filter member (ss ++ j ∷ [])))) ≡ cond (member j) (Some (joined_with join (reduce join (map f (cond b (s ∷ filter member ss) (filter member ss)))) (f j))) (reduce join (map f (cond b (s ∷ filter member ss) (filter member ss))))) [
        | true ↦ ap Some (fold_last (f s) ss j) ∙ some_cond (member j) (join (fold join (f s) (chosen ss)) (f j)) (fold join (f s) (chosen ss))
        | false ↦ reduce_last ss j
      ]

  pub shared_more : (i : ℕ) → shared join member f (i + 1) ≡ cond (member i) (Some (joined_with join (shared join member f i) (f i))) (shared join member f i)
  shared_more i = rw (add-one i) (ap (λ (ss : List ℕ). reduce join (chosen ss)) (range_last 0 i i (omega arith)) ∙ reduce_last (range_with_len 0 i) i)
