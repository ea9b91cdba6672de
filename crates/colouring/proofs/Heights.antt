-- How far a board can still rise.
use Rattle.std.proofs.Common.{◌≡◌, ℕ, zero, suc, ◌+◌, ◌*◌, ◌<◌, ◌≤◌, ◌≢◌, sym, refl, ap, not-suc-le-zero, arith}
use native.Mathlib.Decide.{ℕ_discrete}
use Rattle.systems.specs.declared.kinds.Colour.{Colour}
use Rattle.systems.specs.declared.kinds.Colour.TheVariants.{Undecided, F, T}
use Rattle.colours.specs.Values.{join}
use Rattle.colouring.specs.passes.Rising.{room_above, height}

pub room_falls : (a v w : Colour) → w ≡ join a v → w ≢ a → room_above w < room_above a
room_falls a v w e n = grind arith

height_same : (n : ℕ) (x y : ℕ → Colour) → ((t : ℕ) → t < n → y t ≡ x t) → height n y ≡ height n x
height_same zero x y h = refl
height_same (suc n) x y h =
    let i = height_same n x y (λ t b. h t (omega arith)) in let j = ap room_above (h n (omega arith)) in omega arith

pub height_set : (n : ℕ) (x y : ℕ → Colour) (s : ℕ) → s < n → ((t : ℕ) → t ≢ s → y t ≡ x t) → height n y + room_above (x s) ≡ height n x + room_above (y s)
height_set zero x y s b h = absurd (not-suc-le-zero b)
height_set (suc n) x y s b h = elim (ℕ_discrete s n) [
  | yes e ↦ (let i = height_same n x y (λ t c. h t (omega arith)) in let j = ap (λ k. room_above (x k)) e in let k = ap (λ k. room_above (y k)) e in omega arith)
  | no d ↦ (let i = height_set n x y s (omega arith) h in let j = ap room_above (h n (λ e. d (sym e))) in omega arith)
]

room_most : (c : Colour) → room_above c ≤ 2
room_most Undecided = omega arith
room_most F = omega arith
room_most T = omega arith

pub height_most : (n : ℕ) (x : ℕ → Colour) → height n x ≤ 2 * n
height_most zero x = omega arith
height_most (suc n) x = let i = height_most n x in let j = room_most (x n) in omega arith
