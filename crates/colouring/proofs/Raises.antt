-- One colour raised.
use Rattle.std.proofs.Common.{◌≡◌, ℕ, ◌+◌, ◌<◌, ◌≤◌, ◌≢◌, List, [], ◌∷◌, ◌++◌, length, get_or, set, sym, refl, ap, ◌∙◌, subst, inr, Ok, Err, Result, arith, get_or-set_other, get_or-set_same}
use Rattle.std.proofs.lemmas.List.{length_push}
use Rattle.std.specs.Result.{IsOk}
use Rattle.systems.specs.declared.refusals.Refusal.{Refusal}
use Rattle.queue.specs.declared.ring.Ring.{Ring}
use Rattle.queue.specs.Held.{held, room, Pushed}
use Rattle.systems.specs.declared.kinds.Colour.{Colour}
use Rattle.colours.specs.Values.{join}
use Rattle.colouring.specs.declared.columns.Columns.{Columns}
use Rattle.systems.specs.Numbers.{colour_number}
use Rattle.colouring.specs.passes.Bytes.{flipped}
use Rattle.colouring.specs.passes.Columns.{cell, column, Fits}
use Rattle.colouring.specs.passes.Rising.{left_above, Raised}
use Rattle.colouring.proofs.Placing.{number_small, cell_low, column_here, column_others}
use Rattle.colouring.proofs.Heights.{room_falls, height_set}

module _ (p : Columns) (b h : List ℕ) (s : ℕ) (v new : Colour) (fit : Fits p b) (low : s < p.states) (is : new ≡ join (column p b p.whole s) v) where
  abbrev written : List ℕ
  written = set b (cell p p.whole s) (colour_number (flipped p.negated new))

  falls : new ≢ column p b p.whole s → left_above p written < left_above p b
  falls n =
      let at = cell_low p b fit p.whole s fit.order.whole low in
      let here = column_here p b p.whole s new at in
      let i = height_set p.states (column p b p.whole) (column p written p.whole) s low
      (column_others p b written p.whole s fit.order.whole (λ k d. get_or-set_other b (cell p p.whole s) k _ 0 d)) in
      let j = room_falls (column p b p.whole s) v (column p written p.whole s) (here ∙ is) (λ e. n (sym here ∙ e)) in
      omega arith

  -- there is room above a colour that rises
  pub room_left : new ≢ column p b p.whole s → 0 < left_above p b
  room_left n = let f = falls n in omega arith

  pub raised_more : new ≢ column p b p.whole s → (b' h' : List ℕ) → b' ≡ written → h' ≡ h ++ cell p p.whole s ∷ [] → Raised p b b' h h' s v
  raised_more n b' h' e k =
      let at = cell_low p b fit p.whole s fit.order.whole low in
      let f = falls n in
      let len : length h' ≡ length h + 1 = ap length k ∙ length_push h (cell p p.whole s) in
      let up : left_above p b' ≡ left_above p written = ap (left_above p) e in
      record {
        new = ap (λ z. column p z p.whole s) e ∙ column_here p b p.whole s new at ∙ is;
        byte = λ _. subst (λ z. z ≤ 2) (sym (ap (λ z. get_or z (cell p p.whole s) 0) e ∙ get_or-set_same b (cell p p.whole s) _ 0 at)) (number_small (flipped p.negated new));
        others = λ j d. ap (λ z. get_or z j 0) e ∙ get_or-set_other b (cell p p.whole s) j _ 0 d;
        queue = inr k;
        sum = omega arith;
      }

  -- it waits, as the queue has room for all that may yet have to
  pub raised_pushed : new ≢ column p b p.whole s → (b' : List ℕ) (q q' : Ring ℕ) (x : ℕ) (r : Result (Unit {0}) Refusal)
      → h ≡ held q → b' ≡ written → x ≡ cell p p.whole s → length h + left_above p b ≤ room q → Pushed q x q' r
      → IsOk r × (room q' ≡ room q) × Raised p b b' h (held q') s v × (length (held q') + left_above p b' ≤ room q')
  raised_pushed n b' q q' x (Ok t) same e at fits pushed =
      let raised = raised_more n b' (held q') e (pushed.1 ∙ ap (λ z. held q ++ z ∷ []) at ∙ ap (λ z. z ++ cell p p.whole s ∷ []) (sym same)) in
      (refl, pushed.2, raised, omega (arith, raised.sum, pushed.2))
  raised_pushed n b' q q' x (Err e) same i at fits pushed = let left = room_left n in absurd (omega (arith, pushed.0, ap length same))
