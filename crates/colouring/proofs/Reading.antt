-- What is read off a coloured board.
use Rattle.std.proofs.Common.{◌≡◌, ℕ, zero, suc, ◌-◌, ◌<◌, ◌≤◌, false, cond, ◌&&◌, List, length, None, refl, ap, ◌∙◌, ap₂, arith}
use Rattle.std.specs.List.{slice_get}
use Rattle.std.proofs.lemmas.Bool.{lt-ltb}
use Rattle.systems.specs.declared.kinds.Colour.{Colour}
use Rattle.systems.specs.declared.kinds.Colour.TheVariants.{T}
use Rattle.systems.specs.Model.{Model}
use Rattle.rules.specs.declared.syntax.Clause.{Clause}
use Rattle.rules.specs.Clauses.{whole}
use Rattle.colours.specs.Boards.{place, Coloured}
use Rattle.colours.specs.Values.{meet, meet_below, colour_of, verdict_of}
use Rattle.colouring.specs.passes.Bytes.{decode}
use Rattle.colouring.specs.Boards.{told_at, verdict_on, colour_of_byte, colour_on}
use Rattle.colouring.proofs.Placing.{number_decodes}

meet_same : (n : ℕ) (f g : ℕ → Colour) → ((s : ℕ) → s < n → f s ≡ g s) → meet_below n f ≡ meet_below n g
unfolding meet_below
meet_same zero f g h = refl
meet_same (suc n) f g h = ap₂ meet (meet_same n f g (λ s b. h s (omega arith))) (h n (omega arith))

pub verdict_told : (M : Model) (cs : List Clause) (b : List ℕ) → 1 ≤ length cs → Coloured M cs b → verdict_on M cs b ≡ verdict_of M (whole cs)
unfolding verdict_of
verdict_told M cs b some coloured = meet_same M.states (told_at M cs b) _ (λ s h.
    ap (λ v. cond (M.start s) v T)
    (ap decode (coloured.shows s (length cs - 1) h (omega arith)) ∙ number_decodes false (colour_of M (whole cs) s)))

module _ (M : Model) (cs : List Clause) (b : List ℕ) (g c : ℕ) where
  pub colour_inside : g < M.states → c < length cs → colour_on M cs b g c ≡ colour_of_byte (slice_get b (place (length cs) g c))
  colour_inside h k = ap₂ (λ x y. cond (x && y) (colour_of_byte (slice_get b (place (length cs) g c))) None) (lt-ltb g M.states h) (lt-ltb c (length cs) k)
