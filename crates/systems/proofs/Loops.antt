-- One turn of a loop that joins a test.
use Rattle.std.proofs.Common.{◌≡◌, ℕ, ◌+◌, Bool, ◌&&◌, ◌||◌, refl, add-one}
use Rattle.systems.specs.Below.{all_below, any_below}

pub all_more : (test : ℕ → Bool) (i : ℕ) (here so_far : Bool) → here ≡ test i → so_far ≡ all_below test i → (here && so_far) ≡ all_below test (i + 1)
all_more test i here so_far e f = let more : all_below test (i + 1) ≡ (test i && all_below test i) = rw (add-one i) refl in cc

pub any_more : (test : ℕ → Bool) (i : ℕ) (here so_far : Bool) → here ≡ test i → so_far ≡ any_below test i → (here || so_far) ≡ any_below test (i + 1)
any_more test i here so_far e f = let more : any_below test (i + 1) ≡ (test i || any_below test i) = rw (add-one i) refl in cc
