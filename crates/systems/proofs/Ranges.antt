-- Chains over a range of numbers, in the words of the definitions: `(0..n).any(..)` is `any_below`, and so on.
use Rattle.std.proofs.Common.{◌≡◌, ℕ, zero, suc, ◌+◌, ◌<◌, Bool, true, false, ◌&&◌, ◌||◌, List, sym, refl, ap, ◌∙◌, arith}
use Rattle.std.proofs.Math.Bool.{or_assoc, or_comm, and_assoc, and_comm}
use Rattle.std.proofs.iter.Yields.{nat_range_steps}
use Rattle.std.proofs.lemmas.Iterator.{YieldsList-from_range}
use Rattle.std.proofs.lemmas.Iterator.Search.{any_from_yields_List, all_from_yields_List}
use Rattle.std.specs.Fn.{Called}
use Rattle.std.specs.Iterator.{YieldsThen}
use Rattle.std.specs.List.{FoldsTo, list_any, list_all, range_with_len}
use Rattle.std.specs.Option.{MatchOption}
use Rattle.std.specs.declared.ops.Range.{Range}
use Rattle.std.specs.Prelude.{Option}
use denote.Param.Members.{Mut}
use Rattle.systems.specs.Below.{all_below, any_below, count_below}

-- the numbers below n in the order of a range, from the first on, where the definitions take the last first
module _ (test : ℕ → Bool) where
  any_last : (a n j : ℕ) → a + n ≡ j → list_any test (range_with_len a (suc n)) ≡ (list_any test (range_with_len a n) || test j)
  any_last a zero j e = let same : a ≡ j = omega arith in or_comm (test a) false ∙ ap test same
  any_last a (suc n) j e = rw (any_last (a + 1) n j (omega arith)) (sym (or_assoc (test a) _ _))

  pub any_over : (n : ℕ) → list_any test (range_with_len 0 n) ≡ any_below test n
  any_over zero = refl
  any_over (suc n) = rw (any_last 0 n n (omega arith), any_over n) (or_comm (any_below test n) (test n))

  all_last : (a n j : ℕ) → a + n ≡ j → list_all test (range_with_len a (suc n)) ≡ (list_all test (range_with_len a n) && test j)
  all_last a zero j e = let same : a ≡ j = omega arith in and_comm (test a) true ∙ ap test same
  all_last a (suc n) j e = rw (all_last (a + 1) n j (omega arith)) (sym (and_assoc (test a) _ _))

  pub all_over : (n : ℕ) → list_all test (range_with_len 0 n) ≡ all_below test n
  all_over zero = refl
  all_over (suc n) = rw (all_last 0 n n (omega arith), all_over n) (and_comm (all_below test n) (test n))

-- tests that agree below n
module _ (f g : ℕ → Bool) where
  pub any_alike : (n : ℕ) → ((k : ℕ) → k < n → f k ≡ g k) → any_below f n ≡ any_below g n
  any_alike zero h = refl
  any_alike (suc n) h = rw (h n (omega arith), any_alike n (λ k l. h k (omega arith))) refl

  pub all_alike : (n : ℕ) → ((k : ℕ) → k < n → f k ≡ g k) → all_below f n ≡ all_below g n
  all_alike zero h = refl
  all_alike (suc n) h = rw (h n (omega arith), all_alike n (λ k l. h k (omega arith))) refl

  pub count_alike : (n : ℕ) → ((k : ℕ) → k < n → f k ≡ g k) → count_below f n ≡ count_below g n
  count_alike zero h = refl
  count_alike (suc n) h = rw (h n (omega arith), count_alike n (λ k l. h k (omega arith))) refl

-- `(0..n).any(f)` and `(0..n).all(f)`, where f computes a test: from the call's clause `ran`
module _ {F : Type 0} {g : Mut F (ℕ × Unit {0}) Bool} {s : Range ℕ} (test : ℕ → Bool) (n : ℕ) (u : Range ℕ) (f : F) (r : Bool) where
  pub any_in_range : (xs : List ℕ) × (o : Option ℕ) × (j : F) × YieldsThen nat_range_steps s xs o u × FoldsTo (λ p x q. Called g p (x, tt) false q) f xs j × MatchOption o (r ≡ false) (λ x. (r ≡ true) × ((h : F) × Called g j (x, tt) true h)) → s ≡ record { start = 0; end = n } → ((x : ℕ) (b : Bool) (q : F) → Called g f (x, tt) b q → (q ≡ f) × (b ≡ test x)) → r ≡ any_below test n
  any_in_range ran e k = any_from_yields_List test u f r ran (YieldsList-from_range 0 n n e (omega arith)) k ∙ any_over test n

  pub all_in_range : (xs : List ℕ) × (o : Option ℕ) × (j : F) × YieldsThen nat_range_steps s xs o u × FoldsTo (λ p x q. Called g p (x, tt) true q) f xs j × MatchOption o (r ≡ true) (λ x. (r ≡ false) × ((h : F) × Called g j (x, tt) false h)) → s ≡ record { start = 0; end = n } → ((x : ℕ) (b : Bool) (q : F) → Called g f (x, tt) b q → (q ≡ f) × (b ≡ test x)) → r ≡ all_below test n
  all_in_range ran e k = all_from_yields_List test u f r ran (YieldsList-from_range 0 n n e (omega arith)) k ∙ all_over test n
