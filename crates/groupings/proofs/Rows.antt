-- A table that is filled row by row: each state's row is joined into the row of its group.
use Rattle.std.proofs.Common.{◌≡◌, ℕ, ◌+◌, ◌*◌, ◌<◌, ◌≤◌, Bool, true, false, eqb, ◌⊎◌, List, [], ◌∷◌, length, map, filter, replicate, get_or, set, Some, Option, unwrap_or, sym, refl, ap, ◌∙◌, subst, ⊎_elim, not-suc-le-zero, add-one, arith, get_or-set_other, get_or-set_same}
use native.Mathlib.Decide.{ℕ_discrete}
use lib.Arith.{digits_lt}
use Rattle.std.specs.Bool.{then_some}
use Rattle.std.specs.List.{fold, reduce, range_with_len}
use Rattle.std.proofs.Math.Nat.{mul-le-mul_right, suc-mul}
use Rattle.std.proofs.lemmas.Bool.{cases_Bool, cases_order, cases_lt, both_ways, eq-eqb, ne_eqb, cond-true, cond-false}
use Rattle.std.proofs.lemmas.Grind.{get_or-set_at}
use Rattle.std.proofs.lemmas.List.{get_or-replicate}
use Rattle.std.proofs.lemmas.List.FromFn.{get_or-map-range_with_len}
use Rattle.groupings.specs.Joined.{joined_with, shared, AlikeFrom}
use Rattle.groupings.proofs.Sharing.{shared_more}

-- places from b on are changed one by one
module _ {X : Type 0} (d : X) (b : ℕ) (new : ℕ → X → X) (xs₀ : List X) where
  -- i of them are changed, and no other
  abbrev pub Changed : ℕ → List X → Type 0
  Changed i xs =
      ((u : ℕ) → u < i → get_or xs (b + u) d ≡ new u (get_or xs₀ (b + u) d))
      × ((k : ℕ) → ((u : ℕ) → u < i → ¬ (k ≡ b + u)) → get_or xs k d ≡ get_or xs₀ k d)

  pub changed_none : Changed 0 xs₀
  changed_none = (λ u l. absurd (not-suc-le-zero l), λ k h. refl)

  pub changed_more : (i : ℕ) (xs : List X) (v : X) → b + i < length xs → v ≡ new i (get_or xs (b + i) d) → Changed i xs → Changed (i + 1) (set xs (b + i) v)
  changed_more i xs v low is c = (
    λ u l. elim (ℕ_discrete u i) [
      | yes e ↦
          subst (λ (z : ℕ). get_or (set xs (b + i) v) (b + z) d ≡ new z (get_or xs₀ (b + z) d)) (sym e)
          (get_or-set_same xs (b + i) v d low ∙ is ∙ ap (new i) (c.1 (b + i) (λ z k q. omega (arith, q))))
      | no n ↦ get_or-set_other xs (b + i) (b + u) v d (λ q. n (omega (arith, q))) ∙ c.0 u (omega arith)
    ],
    λ k h. get_or-set_other xs (b + i) k v d (λ q. h i (omega arith) q) ∙ c.1 k (λ u l. h u (omega arith)),
  )

-- places of other rows of w
other_row : (w g g' u h : ℕ) → u < w → h < w → ¬ (g' ≡ g) → ¬ (g' * w + h ≡ g * w + u)
other_row w g g' u h l k n e =
    ⊎_elim
    n
    (λ o.
    ⊎_elim
    (λ (lt : g' < g). let x = digits_lt {q = g'} {m = g} {r = h} {c = w} lt k in omega arith)
    (λ (gt : g < g'). let x = digits_lt {q = g} {m = g'} {r = u} {c = w} gt l in omega arith)
    o)
    (cases_order g' g)

-- there is room for 128 rows of w
pub row_room : (g w k : ℕ) → g < 128 → k ≤ w → g * w + k ≤ 128 * w
row_room g w k l m =
    let some : (g + 1) * w ≤ 128 * w = mul-le-mul_right w (omega arith) in
    let next : (g + 1) * w ≡ g * w + w = rw (add-one g) (suc-mul g w) in
    omega arith

-- answers that are all alike, and stay so when they are joined
module _ {X : Type 0} (join : X → X → X) (rest : X) (stays : join rest rest ≡ rest) (f : ℕ → X) (alike : (s : ℕ) → f s ≡ rest) where
  fold_alike : (ss : List ℕ) (a : X) → a ≡ rest → fold join a (map f ss) ≡ rest
  fold_alike [] a e = e
  fold_alike (s ∷ ss) a e = fold_alike ss (join a (f s)) (ap (λ x. join x (f s)) e ∙ ap (join rest) (alike s) ∙ stays)

  reduce_alike : (ss : List ℕ) (x : X) → reduce join (map f ss) ≡ Some x → x ≡ rest
  reduce_alike [] x e = cc
  reduce_alike (s ∷ ss) x e = let here = fold_alike ss (f s) (alike s) in cc

-- the rows of the groups, of w places each
module _ {X : Type 0} (join : X → X → X) (group : ℕ → ℕ) (w : ℕ) (d : X) (says : ℕ → ℕ → X) where
  -- what the members of the group g among the first i states have in common in the place k
  abbrev so_far : ℕ → ℕ → ℕ → Option X
  so_far i g k = shared join (λ s. eqb (group s) g) (λ s. says s k) i

  -- a place whose row was found holds that, and any other what it held before
  pub record Joined (i : ℕ) (found : List Bool) (before places : List X) : Type 0 where
    pub held : (g k : ℕ) → g < 128 → k < w → then_some (get_or found g false) (get_or places (g * w + k) d) ≡ so_far i g k
    pub kept : (g k : ℕ) → g < 128 → k < w → get_or found g false ≡ false → get_or places (g * w + k) d ≡ get_or before (g * w + k) d

  pub joined_none : (before : List X) → Joined 0 (replicate 128 false) before before
  joined_none before = record {
    held = λ g k l m. ap (λ (b : Bool). then_some b (get_or before (g * w + k) d)) (get_or-replicate 128 g false false l);
    kept = λ g k l m e. refl;
  }

  pub joined_all : (i : ℕ) (found : List Bool) (before places : List X) → Joined i found before places → (g k : ℕ) → g < 128 → k < w → get_or places (g * w + k) d ≡ unwrap_or (so_far i g k) (get_or before (g * w + k) d)
  joined_all i found before places j g k l m =
      ⊎_elim
      (λ (e : get_or found g false ≡ true).
      ap (λ (o : Option X). unwrap_or o (get_or before (g * w + k) d)) (ap (λ (b : Bool). then_some b (get_or places (g * w + k) d)) (sym e) ∙ j.held g k l m))
      (λ (e : get_or found g false ≡ false).
      j.kept g k l m e
      ∙ ap (λ (o : Option X). unwrap_or o (get_or before (g * w + k) d)) (ap (λ (b : Bool). then_some b (get_or places (g * w + k) d)) (sym e) ∙ j.held g k l m))
      (cases_Bool (get_or found g false))

  -- one more state i, of the group h, whose row is joined in its first places, so many: all, where it is the first of its group
  module _
      (width : ℕ) (rest : X) (alike : AlikeFrom join width w says rest) (i h count : ℕ) (b : Bool) (found : List Bool) (before places places' row : List X)
      (at : h ≡ group i) (low : h < length found) (is : b ≡ get_or found h false) (told : row ≡ map (says i) (range_with_len 0 w))
      (some : ((b ≡ true) × (count ≡ width)) ⊎ ((b ≡ false) × (count ≡ w))) (few : count ≤ w)
      (joined : (k : ℕ) → k < count → get_or places' (h * w + k) d ≡ joined_with join (then_some b (get_or places (h * w + k) d)) (get_or row k d))
      (others : (p : ℕ) → ((k : ℕ) → k < count → ¬ (p ≡ h * w + k)) → get_or places' p d ≡ get_or places p d)
      (j : Joined i found before places)
    where
      next : (g k : ℕ) → g ≡ h → so_far (i + 1) g k ≡ Some (joined_with join (so_far i g k) (says i k))
      next g k e = shared_more join (λ s. eqb (group s) g) (λ s. says s k) i ∙ cond-true _ _ _ (eq-eqb (group i) g (sym (e ∙ at)))

      was : (g k : ℕ) → g ≡ h → g < 128 → k < w → then_some b (get_or places (h * w + k) d) ≡ so_far i g k
      was g k e l m =
          subst (λ (z : ℕ). then_some b (get_or places (z * w + k) d) ≡ so_far i g k) e
          (ap (λ (c : Bool). then_some c (get_or places (g * w + k) d)) (is ∙ ap (λ (z : ℕ). get_or found z false) (sym e)) ∙ j.held g k l m)

      -- a place that is joined, and one beyond those
      early : (g k : ℕ) → g ≡ h → g < 128 → k < w → k < count → Some (get_or places' (h * w + k) d) ≡ so_far (i + 1) g k
      early g k e l m n =
          ap Some
          (joined k n ∙ ap (λ (o : Option X). joined_with join o (get_or row k d)) (was g k e l m)
          ∙ ap (joined_with join (so_far i g k)) (ap (λ (xs : List X). get_or xs k d) told ∙ get_or-map-range_with_len (says i) 0 w k k d m (omega arith)))
          ∙ sym (next g k e)

      late : (g k : ℕ) → g ≡ h → g < 128 → k < w → count ≤ k → b ≡ true → width ≤ k → Some (get_or places' (h * w + k) d) ≡ so_far (i + 1) g k
      late g k e l m n one far =
          let p = get_or places (h * w + k) d in
          let had : Some p ≡ so_far i g k = ap (λ (c : Bool). then_some c p) (sym one) ∙ was g k e l m in
          let old : p ≡ rest = reduce_alike join rest alike.0 (λ s. says s k) (λ s. alike.1 s k far m) (filter (λ s. eqb (group s) g) (range_with_len 0 i)) p (sym had) in
          let same : get_or places' (h * w + k) d ≡ p = others (h * w + k) (λ u q z. omega (arith, z)) in
          let stays : join p (says i k) ≡ rest = ap (λ x. join x (says i k)) old ∙ ap (join rest) (alike.1 i k far m) ∙ alike.0 in
          ap Some (same ∙ old ∙ sym stays) ∙ ap (λ (o : Option X). Some (joined_with join o (says i k))) had ∙ sym (next g k e)

      here : (g k : ℕ) → g ≡ h → g < 128 → k < w → Some (get_or places' (h * w + k) d) ≡ so_far (i + 1) g k
      here g k e l m =
          ⊎_elim
          (λ (n : k < count). early g k e l m n)
          (λ (n : count ≤ k).
          ⊎_elim
          (λ (s : (b ≡ true) × (count ≡ width)). late g k e l m n s.0 (omega (arith, s.1)))
          (λ (s : (b ≡ false) × (count ≡ w)). absurd (omega (arith, s.1)))
          some)
          (cases_lt k count)

      elsewhere : (g k : ℕ) → ¬ (g ≡ h) → k < w → get_or places' (g * w + k) d ≡ get_or places (g * w + k) d
      elsewhere g k n m = others (g * w + k) (λ u q. other_row w h g u k (omega arith) m n)

      pub joined_more : Joined (i + 1) (set found h true) before places'
      joined_more = record {
        held = λ g k l m. elim (ℕ_discrete g h) [
          | yes e ↦
              ap (λ (c : Bool). then_some c (get_or places' (g * w + k) d)) (get_or-set_at found h g true false e low)
              ∙ ap (λ (z : ℕ). Some (get_or places' (z * w + k) d)) e
              ∙ here g k e l m
          | no n ↦
              ap (λ (c : Bool). then_some c (get_or places' (g * w + k) d)) (get_or-set_other found h g true false n)
              ∙ ap (then_some (get_or found g false)) (elsewhere g k n m)
              ∙ j.held g k l m
              ∙ sym (shared_more join (λ s. eqb (group s) g) (λ s. says s k) i ∙ cond-false _ _ _ (ne_eqb (group i) g (λ q. n (sym (at ∙ q)))))
        ];
        kept = λ g k l m no_row. elim (ℕ_discrete g h) [
          | yes e ↦ absurd (both_ways (get_or (set found h true) g false) no_row (get_or-set_at found h g true false e low))
          | no n ↦ elsewhere g k n m ∙ j.kept g k l m (sym (get_or-set_other found h g true false n) ∙ no_row)
        ];
      }
