-- Folds over a range of numbers, in the words of the definitions, which take the last number first.
use Rattle.std.proofs.Common.{◌≡◌, ℕ, zero, suc, ◌+◌, map, refl, ap, ◌∙◌, arith}
use Rattle.std.specs.List.{fold, range_with_len}
use Rattle.systems.specs.declared.kinds.Colour.{Colour}
use Rattle.systems.specs.declared.kinds.Colour.TheVariants.{F, T}
use Rattle.colours.specs.Values.{join, meet, join_below, meet_below}

module _ (f : ℕ → Colour) where
  last : (op : Colour → Colour → Colour) (z : Colour) (a n j : ℕ) → a + n ≡ j → fold op z (map f (range_with_len a (suc n))) ≡ op (fold op z (map f (range_with_len a n))) (f j)
  last op z a zero j e = let same : a ≡ j = omega arith in ap (λ k. op z (f k)) same
  last op z a (suc n) j e = last op (op z (f a)) (a + 1) n j (omega arith)

  pub join_over : (n : ℕ) → fold join F (map f (range_with_len 0 n)) ≡ join_below n f
  unfolding join_below
  join_over zero = refl
  join_over (suc n) = last join F 0 n n (omega arith) ∙ ap (λ z. join z (f n)) (join_over n)

  pub meet_over : (n : ℕ) → fold meet T (map f (range_with_len 0 n)) ≡ meet_below n f
  unfolding meet_below
  meet_over zero = refl
  meet_over (suc n) = last meet T 0 n n (omega arith) ∙ ap (λ z. meet z (f n)) (meet_over n)
