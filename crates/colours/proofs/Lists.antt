-- What stands in a list.
use Rattle.std.proofs.Common.{◌≡◌, ℕ, zero, suc, ◌<◌, ◌⊎◌, List, [], ◌∷◌, ◌++◌, length, get_or, sym, refl, ap, ◌∙◌, subst, inl, inr, not-suc-le-zero, arith}
use native.Mathlib.Decide.{ℕ_discrete}
use Rattle.std.specs.List.{AllByRecursion}
use Rattle.std.proofs.lemmas.List.Elements.{All-from_recursion}
use Rattle.colours.specs.Walks.{Among, last}

pub all_among : {X : Type 0} (P : X → Type 0) (x : X) (xs : List X) → AllByRecursion P xs → Among x xs → P x
all_among P x [] a m = absurd m
all_among P x (y ∷ ys) a (inl e) = subst P (sym e) a.0
all_among P x (y ∷ ys) a (inr m) = all_among P x ys a.1 m

-- what all have, the one at place i has, and the last
pub all_at : {X : Type 0} (P : X → Type 0) (xs : List X) (i : ℕ) (d : X) → i < length xs → AllByRecursion P xs → P (get_or xs i d)
all_at P xs i d b a = All-from_recursion P xs a i d b

pub last_of : {X : Type 0} (P : X → Type 0) (x : X) (xs : List X) → AllByRecursion P (x ∷ xs) → P (last x xs)
last_of P x [] a = a.0
last_of P x (y ∷ ys) a = last_of P y ys a.1

pub all_weaker : {X : Type 0} (P Q : X → Type 0) → ((x : X) → P x → Q x) → (xs : List X) → AllByRecursion P xs → AllByRecursion Q xs
all_weaker P Q f [] a = tt
all_weaker P Q f (x ∷ xs) a = (f x a.0, all_weaker P Q f xs a.1)

pub in_left : {X : Type 0} (x : X) (xs ys : List X) → Among x xs → Among x (xs ++ ys)
in_left x [] ys m = absurd m
in_left x (z ∷ zs) ys (inl e) = inl e
in_left x (z ∷ zs) ys (inr m) = inr (in_left x zs ys m)

pub in_right : {X : Type 0} (x : X) (xs ys : List X) → Among x ys → Among x (xs ++ ys)
in_right x [] ys m = m
in_right x (z ∷ zs) ys m = inr (in_right x zs ys m)

-- an element that has P, or all have Q
pub find : {X : Type 0} (P Q : X → Type 0) (xs : List X) → ((x : X) → Among x xs → P x ⊎ Q x)
    → ((x : X) × Among x xs × P x) ⊎ ((x : X) → Among x xs → Q x)
find P Q [] d = inr (λ x m. absurd m)
find P Q (y ∷ ys) d = elim (d y (inl refl)) [
  | inl p ↦ inl (y, inl refl, p)
  | inr k ↦ elim (find P Q ys (λ x m. d x (inr m))) [
    | inl f ↦ inl (f.0, inr f.1, f.2)
    | inr f ↦ inr (λ x. elim [ inl e ↦ subst Q (sym e) k | inr m ↦ f x m ])
  ]
]

-- the least number below n that has P, or none has
pub least : (P : ℕ → Type 0) (n : ℕ) → ((s : ℕ) → s < n → Dec (P s))
    → ((g : ℕ) × (g < n) × P g × ((h : ℕ) → h < g → ¬ P h)) ⊎ ((h : ℕ) → h < n → ¬ P h)
least P zero p? = inr (λ h b. absurd (not-suc-le-zero b))
least P (suc n) p? = elim (least P n (λ s b. p? s (omega arith))) [
  | inl f ↦ inl (f.0, omega (arith, f.1), f.2, f.3)
  | inr free ↦ elim (p? n (omega arith)) [
    | yes x ↦ inl (n, omega arith, x, free)
    | no k ↦ inr (λ h b. elim (ℕ_discrete h n) [ yes e ↦ subst (λ y. ¬ P y) (sym e) k | no d ↦ free h (omega arith) ])
  ]
]

-- the numbers below n
abbrev pub below : ℕ → List ℕ
below zero = []
below (suc n) = n ∷ below n

pub among_below : (n x : ℕ) → x < n → Among x (below n)
among_below zero x h = absurd (not-suc-le-zero h)
among_below (suc n) x h = elim (ℕ_discrete x n) [ yes e ↦ inl e | no k ↦ inr (among_below n x (omega arith)) ]

-- the list without the place where x stands
abbrev pub drop_at : {X : Type 0} (x : X) (xs : List X) → Among x xs → List X
drop_at x [] m = absurd m
drop_at x (y ∷ ys) (inl e) = ys
drop_at x (y ∷ ys) (inr m) = y ∷ drop_at x ys m

pub length_drop_at : {X : Type 0} (x : X) (xs : List X) (m : Among x xs) → length xs ≡ suc (length (drop_at x xs m))
length_drop_at x [] m = absurd m
length_drop_at x (y ∷ ys) (inl e) = refl
length_drop_at x (y ∷ ys) (inr m) = ap suc (length_drop_at x ys m)

pub among_drop_at : {X : Type 0} (x y : X) (xs : List X) (m : Among x xs) → Among y xs → (y ≡ x) ⊎ Among y (drop_at x xs m)
among_drop_at x y [] m k = absurd m
among_drop_at x y (z ∷ zs) (inl e) (inl d) = inl (d ∙ sym e)
among_drop_at x y (z ∷ zs) (inl e) (inr k) = inr k
among_drop_at x y (z ∷ zs) (inr m) (inl d) = inr (inl d)
among_drop_at x y (z ∷ zs) (inr m) (inr k) = elim (among_drop_at x y zs m k) [ inl d ↦ inl d | inr l ↦ inr (inr l) ]

-- what stands in one list or the other still does when x goes over
pub move : {X : Type 0} (y x : X) (xs ys : List X) (m : Among x ys) → Among y xs ⊎ Among y ys → Among y (x ∷ xs) ⊎ Among y (drop_at x ys m)
move y x xs ys m (inl k) = inl (inr k)
move y x xs ys m (inr k) = elim (among_drop_at x y ys m k) [ inl e ↦ inl (inl e) | inr l ↦ inr l ]
