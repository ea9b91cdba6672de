-- What a queue is to those who use it, and the list that places of a slice stand for.
use Rattle.std.specs.Prelude.{◌≡◌, ℕ, ◌+◌, ◌-◌, ◌≤◌, List, ◌++◌, length, take, drop, refl}
use Rattle.std.specs.Coded.{Coded, Coded-set, code_by, coded×, coded_list, coded_ℕ, le_prop}
use Rattle.std.specs.Borrow.{MutBor}
use base.Stored.{coded_sub}
use denote.Ref.{mut_coded}
use Rattle.std.proofs.Common.{sym, ap, arith}
use Rattle.std.proofs.lemmas.List.{length-append, length-drop, length-take, length-take-le}

-- the n elements of s from place h on, going round at the end
unfoldable pub round : {X : Type 0} → List X → ℕ → ℕ → List X
round s h n = take n (drop h s ++ take h s)

-- what a queue holds stands in its slots from the place `head` on, and the other slots are free
pub record Lies {X : Type 0} (held : List X) (free : ℕ) (slots : List X) (head : ℕ) : Type 0 where
  pub in_order : held ≡ round slots head (length held)
  pub fills : length held + free ≡ length slots
  pub starts : head ≤ length slots - 1

-- what a queue holds, the oldest first, and how many elements more it takes; the slice that was lent to it, and the
-- place there of the oldest. So a queue that is equal to what it was has its slots, its loan and its place as they were
pub record Waiting (X : Type 0) : Type 0 where
  pub held : List X
  pub free : ℕ
  pub lent : MutBor (List X)
  pub head : ℕ
  pub lies : Lies held free lent.now head

-- so it is for the n elements from place h on
pub lies_round : {X : Type 0} (s : List X) (h n : ℕ) → n ≤ length s → h ≤ length s - 1 → Lies (round s h n) (length s - n) s h
unfolding round
lies_round s h n fits starts =
    let whole : length (drop h s ++ take h s) ≡ length s = simp (length-append, length-drop, length-take) (omega arith) in
    let taken : length (take n (drop h s ++ take h s)) ≡ n = length-take-le n _ (omega arith) in
    record { in_order = ap (λ k. take k (drop h s ++ take h s)) (sym taken); fills = omega arith; starts = starts }

module _ {X : Type 0} (code : Coded X) where
  -- its fields but the facts, and these of them
  abbrev Data : Type 0
  Data = (List X × ℕ) × (MutBor (List X) × ℕ)

  abbrev LiesAt : Data → Type 0
  LiesAt w = Lies w.0.0 w.0.1 w.1.0.now w.1.1

  pub lies_prop : (w : Data) → IsProp (LiesAt w)
  lies_prop w p q i = record {
    in_order = Coded-set (coded_list code) _ _ p.in_order q.in_order i;
    fills = Coded-set coded_ℕ _ _ p.fills q.fills i;
    starts = le_prop p.starts q.starts i;
  }

  -- it is stored as the pairs of its data
  abbrev pub waiting_code : Coded (Waiting X)
  waiting_code =
      code_by ((w : Data) × LiesAt w) (coded_sub (coded× (coded× (coded_list code) coded_ℕ) (coded× (mut_coded (coded_list code)) coded_ℕ)) LiesAt lies_prop)
      (λ w. (((w.held, w.free), (w.lent, w.head)), w.lies))
      (λ p. record { held = p.0.0.0; free = p.0.0.1; lent = p.0.1.0; head = p.0.1.1; lies = p.1 }) (λ _. refl)
