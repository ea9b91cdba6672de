-- A look at one state of a board that falls.
use Rattle.std.proofs.Common.{◌≡◌, ℕ, ◌+◌, ◌<◌, ◌≤◌, List, [], ◌∷◌, ◌++◌, length, get_or, set, Ok, Err, Result, sym, refl, ap, ◌∙◌, subst, arith, get_or-set_other, get_or-set_same}
use native.Mathlib.Decide.{dec_lt}
use Rattle.std.proofs.lemmas.List.{length_push}
use Rattle.std.specs.Result.{IsOk}
use Rattle.systems.specs.declared.refusals.Refusal.{Refusal}
use Rattle.queue.specs.declared.ring.Ring.{Ring}
use Rattle.queue.specs.Held.{held, room, Pushed}
use Rattle.systems.specs.declared.kinds.Colour.{Colour}
use Rattle.systems.specs.declared.kinds.Colour.TheVariants.{Undecided, F, T}
use Rattle.systems.specs.Model.{Model}
use Rattle.colours.specs.Values.{negate}
use Rattle.colouring.specs.declared.columns.Columns.{Columns}
use Rattle.systems.specs.Numbers.{colour_number}
use Rattle.colouring.specs.passes.Bytes.{flipped}
use Rattle.colouring.specs.passes.Columns.{cell, column, Fits}
use Rattle.colouring.specs.passes.Rising.{room_above}
use Rattle.colouring.specs.passes.Falling.{left_below, lower, Within, Upheld, Tried, upheld, fell, Looked}
use Rattle.colouring.proofs.Placing.{number_small, cell_low, column_here, column_others}
use Rattle.colouring.proofs.Heights.{height_set}

depth_falls : (v y : Colour) → ¬ Within v y → room_above (negate (lower v)) < room_above (negate v)
depth_falls F y n = absurd (n refl)
depth_falls T y n = omega arith
depth_falls Undecided y n = omega arith

module _ (p : Columns) (M : Model) (b h w k : List ℕ) (s : ℕ) (fit : Fits p b) (low : s < p.states) (here : Colour) (is : here ≡ column p b p.whole s) where
  abbrev lowered : List ℕ
  lowered = set b (cell p p.whole s) (colour_number (flipped p.negated (lower here)))

  lowered_here : column p lowered p.whole s ≡ lower (column p b p.whole s)
  lowered_here = column_here p b p.whole s (lower here) (cell_low p b fit p.whole s fit.order.whole low) ∙ ap lower is

  falls : ¬ Within (column p b p.whole s) (column p b p.left s) → left_below p lowered < left_below p b
  falls n =
      let i = height_set p.states (λ t. negate (column p b p.whole t)) (λ t. negate (column p lowered p.whole t)) s low
      (λ t d. ap negate (column_others p b lowered p.whole s fit.order.whole (λ j e. get_or-set_other b (cell p p.whole s) j _ 0 e) t d)) in
      let j = depth_falls (column p b p.whole s) (column p b p.left s) n in
      let l = ap (λ c. room_above (negate c)) lowered_here in
      omega arith

  pub room_below : ¬ Within (column p b p.whole s) (column p b p.left s) → 0 < left_below p b
  room_below n = let f = falls n in omega arith

  pub looked_fell : ¬ Within (column p b p.whole s) (column p b p.left s) → ((u : ℕ) → u < M.states → ¬ Upheld M (column p b p.whole) s u)
      → (b' h' w' k' : List ℕ) → b' ≡ lowered → h' ≡ h ++ cell p p.whole s ∷ [] → w' ≡ set w s s → k' ≡ set k s 0 → Looked p M b b' h h' w w' k k' s
  looked_fell no_r no_u b' h' w' k' eb eh ew ek =
      let f = falls no_r in
      let len : length h' ≡ length h + 1 = ap length eh ∙ length_push h (cell p p.whole s) in
      let e = ap (left_below p) eb in
      record {
        seen = fell (ap (λ z. column p z p.whole s) eb ∙ lowered_here)
            (subst (λ z. z ≤ 2) (sym (ap (λ z. get_or z (cell p p.whole s) 0) eb ∙ get_or-set_same b (cell p p.whole s) _ 0 (cell_low p b fit p.whole s fit.order.whole low)))
            (number_small (flipped p.negated (lower here))))
            (λ j d. ap (λ z. get_or z j 0) eb ∙ get_or-set_other b (cell p p.whole s) j _ 0 d) eh ew ek no_r no_u;
        sum = omega arith;
      }

  -- it waits, as the queue has room for all that may yet have to
  pub looked_pushed : ¬ Within (column p b p.whole s) (column p b p.left s) → ((u : ℕ) → u < M.states → ¬ Upheld M (column p b p.whole) s u)
      → (b' w' k' : List ℕ) (q q' : Ring ℕ) (x : ℕ) (r : Result (Unit {0}) Refusal)
      → h ≡ held q → b' ≡ lowered → x ≡ cell p p.whole s → w' ≡ set w s s → k' ≡ set k s 0 → length h + left_below p b ≤ room q → Pushed q x q' r
      → IsOk r × (room q' ≡ room q) × Looked p M b b' h (held q') w w' k k' s × (length (held q') + left_below p b' ≤ room q')
  looked_pushed no_r no_u b' w' k' q q' x (Ok t) same e at ew ek fits pushed =
      let looked = looked_fell no_r no_u b' (held q') w' k' e (pushed.1 ∙ ap (λ z. held q ++ z ∷ []) at ∙ ap (λ z. z ++ cell p p.whole s ∷ []) (sym same)) ew ek in
      (refl, pushed.2, looked, omega (arith, looked.sum, pushed.2))
  looked_pushed no_r no_u b' w' k' q q' x (Err e) same i at ew ek fits pushed = let left = room_below no_r in absurd (omega (arith, pushed.0, ap length same))

module _ (p : Columns) (M : Model) (b h w k : List ℕ) (s : ℕ) where
  pub looked_upheld : (u : ℕ) → u < M.states → Upheld M (column p b p.whole) s u → ((v : ℕ) → v < u → ¬ Upheld M (column p b p.whole) s v)
      → (w' k' : List ℕ) → w' ≡ set w s u → k' ≡ set k s u → Looked p M b b h h w w' k k' s
  looked_upheld u a c before w' k' ew ek = record { seen = upheld refl refl u a ew ek c before; sum = omega arith }

  -- none before the one found upholds
  pub none_before : Tried p M b k → s < M.states → (u : ℕ) → ((v : ℕ) → get_or k s 0 ≤ v → v < u → ¬ Upheld M (column p b p.whole) s v)
      → (v : ℕ) → v < u → ¬ Upheld M (column p b p.whole) s v
  none_before tried low u none v h = elim (dec_lt v (get_or k s 0)) [ yes a ↦ tried s low v a | no a ↦ none v (omega (arith, a)) h ]
