-- An undecided verdict has a chain, and different positions are no more than the places of a board.
use Rattle.std.proofs.Common.{◌≡◌, ℕ, zero, suc, ◌*◌, ◌/◌, ◌%◌, ◌<◌, ◌≤◌, List, [], ◌∷◌, map, length, sym, refl, ap, ◌∙◌, ap₂, inl, inr, arith}
use lib.Arith.{digits_lt, digits_div, digits_mod}
use Rattle.std.specs.List.{AllByRecursion}
use Rattle.std.proofs.lemmas.List.{length-map}
use Rattle.colours.specs.declared.chains.Position.{Position}
use Rattle.colours.specs.Walks.{Among, Distinct}
use Rattle.colours.specs.Boards.{place}
use Rattle.colours.proofs.Chaining.{undecided_verdict_has_a_cause}
use Rattle.colours.proofs.Lists.{below, among_below, all_weaker, drop_at, length_drop_at, among_drop_at}
use Rattle.groupings.specs.Members.{group_count}
use Rattle.law.specs.Ledgers.{model}
use Rattle.law.specs.Theorems.{HasACause}

-- those of xs that stand in ys stand there without x, if x is none of them
without : (x : ℕ) (xs ys : List ℕ) (m : Among x ys) → ¬ Among x xs → AllByRecursion (λ y. Among y ys) xs → AllByRecursion (λ y. Among y (drop_at x ys m)) xs
without x [] ys m n a = tt
without x (y ∷ xs) ys m n a = (
  elim (among_drop_at x y ys m a.0) [ inl e ↦ absurd (n (inl (sym e))) | inr h ↦ h ],
  without x xs ys m (λ k. n (inr k)) a.1,
)

-- different numbers that all stand in a list are no more than its places
no_more_than : (xs ys : List ℕ) → Distinct xs → AllByRecursion (λ x. Among x ys) xs → length xs ≤ length ys
no_more_than [] ys d a = omega arith
no_more_than (x ∷ xs) ys d a =
    omega (arith, length_drop_at x ys a.0, no_more_than xs (drop_at x ys a.0) d.1 (without x xs ys a.0 d.0 a.1))

length_below : (n : ℕ) → length (below n) ≡ n
length_below zero = refl
length_below (suc n) = ap suc (length_below n)

module _ (groups clauses : ℕ) where
  abbrev InRange : Position → Type 0
  InRange p = (p.group < groups) × (p.clause < clauses)

  place_of : Position → ℕ
  place_of p = place clauses p.group p.clause

  place_once : (p q : Position) → InRange p → InRange q → place_of p ≡ place_of q → p ≡ q
  unfolding place_of
  place_once p q a b e = ap₂ (λ g c. record { group = g; clause = c })
      (sym (digits_div p.group a.1) ∙ ap (λ k. k / clauses) e ∙ digits_div q.group b.1)
      (sym (digits_mod p.group a.1) ∙ ap (λ k. k % clauses) e ∙ digits_mod q.group b.1)

  among_places : (p : Position) (ps : List Position) → InRange p → AllByRecursion InRange ps → Among (place_of p) (map place_of ps) → Among p ps
  among_places p [] a b m = absurd m
  among_places p (q ∷ ps) a b (inl e) = inl (place_once p q a b.0 e)
  among_places p (q ∷ ps) a b (inr m) = inr (among_places p ps a b.1 m)

  distinct_places : (ps : List Position) → AllByRecursion InRange ps → Distinct ps → Distinct (map place_of ps)
  distinct_places [] a d = tt
  distinct_places (p ∷ ps) a d = ((λ m. d.0 (among_places p ps a.0 a.1 m)), distinct_places ps a.1 d.1)

  inside : (ps : List Position) → AllByRecursion InRange ps → AllByRecursion (λ k. Among k (below (groups * clauses))) (map place_of ps)
  unfolding place_of
  inside [] a = tt
  inside (p ∷ ps) a = (among_below (groups * clauses) (place_of p) (digits_lt a.0.0 a.0.1), inside ps a.1)

  fits_board : (ps : List Position) → AllByRecursion InRange ps → Distinct ps → length ps ≤ groups * clauses
  unfolding place_of
  fits_board ps a d =
      omega (
        arith,
        no_more_than (map place_of ps) (below (groups * clauses)) (distinct_places ps a d) (inside ps a),
        length_below (groups * clauses),
        length-map ps place_of,
      )

pub has_a_cause : HasACause
has_a_cause M l w u =
    let x = undecided_verdict_has_a_cause (model M l) l.rule w.founded w.some u in
    let chain = x.0 ∷ x.1 in (
      x.2,
      length chain,
      chain,
      (refl, (x.0, x.1, refl, x.3)),
      fits_board (group_count l.groups) (length l.rule) chain
          (all_weaker _ (InRange (group_count l.groups) (length l.rule)) (λ p h. (h.0, h.1)) chain x.3.chain.undecided)
          x.3.chain.different,
    )
