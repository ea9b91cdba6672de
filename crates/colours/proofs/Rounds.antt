-- As many rounds as there are states bring a board to rest.
use Rattle.std.proofs.Common.{◌≡◌, ℕ, zero, suc, ◌+◌, ◌<◌, ◌≤◌, Bool, true, false, cond, T as So, ◌⊎◌, List, sym, refl, ap, ◌∙◌, subst, inl, inr, not-suc-le-zero, arith}
use native.Mathlib.Decide.{ℕ_discrete}
use Rattle.std.proofs.lemmas.List.FromFn.{get_or-map-range_with_len}
use Rattle.systems.specs.declared.kinds.Colour.{Colour}
use Rattle.systems.specs.declared.kinds.Colour.TheVariants.{Undecided}
use Rattle.systems.specs.Model.{Model}
use Rattle.colours.specs.Values.{negate, listed, colour_at, rounds}

pub at_listed : (n : ℕ) (f : ℕ → Colour) (s : ℕ) → s < n → colour_at (listed n f) s ≡ f s
at_listed n f s b = get_or-map-range_with_len f 0 n s s Undecided b (omega arith)

-- colours are lit or not
module _ (lit : Colour → Bool) where
  -- what is lit on x below n is lit on y
  abbrev pub LitWithin : ℕ → (x y : ℕ → Colour) → Type 0
  LitWithin n x y = (s : ℕ) → s < n → So (lit (x s)) → So (lit (y s))

  -- how many states below n are lit
  number : ℕ → (ℕ → Colour) → ℕ
  number zero x = 0
  number (suc n) x = cond (lit (x n)) 1 0 + number n x

  number_fits : (n : ℕ) (x : ℕ → Colour) → number n x ≤ n
  unfolding number
  number_fits zero x = omega arith
  number_fits (suc n) x = go (lit (x n)) (number_fits n x)
    where
      go : (b : Bool) → number n x ≤ n → cond b 1 0 + number n x ≤ suc n
      go true h = omega arith
      go false h = omega arith

  fewer : (n : ℕ) (x y : ℕ → Colour) → LitWithin (suc n) x y → LitWithin n x y
  fewer n x y h s b = h s (omega arith)

  one_more : (n : ℕ) (x y : ℕ → Colour) → LitWithin n x y → (So (lit (x n)) → So (lit (y n))) → LitWithin (suc n) x y
  one_more n x y h k s b l = elim (ℕ_discrete s n) [
    | yes e ↦ subst (λ z. So (lit (y z))) (sym e) (k (subst (λ z. So (lit (x z))) e l))
    | no d ↦ h s (omega arith) l
  ]

  -- more are lit, or the same ones
  grows : (n : ℕ) (x y : ℕ → Colour) → LitWithin n x y → (number n x < number n y) ⊎ ((number n x ≡ number n y) × LitWithin n y x)
  unfolding number
  grows zero x y h = inr (refl, λ s b. absurd (not-suc-le-zero b))
  grows (suc n) x y h = go (lit (x n)) (lit (y n)) refl refl (grows n x y (fewer n x y h))
    where
      go : (b c : Bool) → lit (x n) ≡ b → lit (y n) ≡ c → (number n x < number n y) ⊎ ((number n x ≡ number n y) × LitWithin n y x)
          → (cond b 1 0 + number n x < cond c 1 0 + number n y) ⊎
          ((cond b 1 0 + number n x ≡ cond c 1 0 + number n y) × LitWithin (suc n) y x)
      go true true e f (inl k) = inl (omega arith)
      go true true e f (inr k) = inr (omega (arith, k.0), one_more n y x k.1 (λ l. subst So (sym e) tt))
      go true false e f k = absurd (subst So f (h n (omega arith) (subst So (sym e) tt)))
      go false true e f (inl k) = inl (omega arith)
      go false true e f (inr k) = inl (omega (arith, k.0))
      go false false e f (inl k) = inl (omega arith)
      go false false e f (inr k) = inr (omega (arith, k.0), one_more n y x k.1 (λ l. absurd (subst So f l)))

  full : (n : ℕ) (x y : ℕ → Colour) → n ≤ number n x → LitWithin n y x
  unfolding number
  full zero x y h = λ s b. absurd (not-suc-le-zero b)
  full (suc n) x y h = go (lit (x n)) refl h (full n x y)
    where
      go : (b : Bool) → lit (x n) ≡ b → suc n ≤ cond b 1 0 + number n x → (n ≤ number n x → LitWithin n y x) → LitWithin (suc n) y x
      go true e k rest = one_more n y x (rest (omega arith)) (λ l. subst So (sym e) tt)
      go false e k rest = absurd (let f = number_fits n x in omega arith)

  module _ (M : Model) (value : (ℕ → Colour) → ℕ → Colour)
      (rises : (x y : ℕ → Colour) → LitWithin M.states x y → LitWithin M.states (value x) (value y)) where
    abbrev after : List Colour → ℕ → Colour
    after board = colour_at (listed M.states (value (colour_at board)))

    to_after : (board : List Colour) → LitWithin M.states (value (colour_at board)) (after board)
    to_after board s b h = subst (λ v. So (lit v)) (sym (at_listed M.states (value (colour_at board)) s b)) h

    from_after : (board : List Colour) → LitWithin M.states (after board) (value (colour_at board))
    from_after board s b h = subst (λ v. So (lit v)) (at_listed M.states (value (colour_at board)) s b) h

    -- at rest: its value lights nothing more
    abbrev pub Rests : List Colour → Type 0
    Rests board = LitWithin M.states (value (colour_at board)) (colour_at board)

    rests_after : (board : List Colour) → Rests board → Rests (listed M.states (value (colour_at board)))
    rests_after board rest s b h =
        to_after board s b (rises (after board) (colour_at board) (λ s b k. rest s b (from_after board s b k)) s b h)

    still : (n : ℕ) (board : List Colour) → Rests board → Rests (rounds M value n board)
    unfolding rounds
    still zero board rest = rest
    still (suc n) board rest = still n (listed M.states (value (colour_at board))) (rests_after board rest)

    come : (n : ℕ) (board : List Colour) → M.states ≤ n + number M.states (colour_at board)
        → LitWithin M.states (colour_at board) (value (colour_at board)) → Rests (rounds M value n board)
    unfolding rounds
    come zero board enough up = full M.states (colour_at board) (value (colour_at board)) (omega arith)
    come (suc n) board enough up = elim (grows M.states (colour_at board) (after board) (λ s b h. to_after board s b (up s b h))) [
      | inl more ↦ come n (listed M.states (value (colour_at board))) (omega arith)
          (λ s b h. rises (colour_at board) (after board) (λ s b k. to_after board s b (up s b k)) s b (from_after board s b h))
      | inr same ↦ still n (listed M.states (value (colour_at board))) (rests_after board (λ s b h. same.1 s b (to_after board s b h)))
    ]

    -- from a board where nothing is lit
    pub comes_to_rest : (board : List Colour) → ((s : ℕ) → s < M.states → ¬ So (lit (colour_at board s)))
        → Rests (rounds M value M.states board)
    comes_to_rest board none = come M.states board (omega arith) (λ s b h. absurd (none s b h))

module _ (M : Model) (value : (ℕ → Colour) → ℕ → Colour) where
  -- what each round keeps
  pub kept : (J : List Colour → Type 0) → ((board : List Colour) → J board → J (listed M.states (value (colour_at board))))
      → (n : ℕ) (board : List Colour) → J board → J (rounds M value n board)
  unfolding rounds
  kept J step zero board j = j
  kept J step (suc n) board j = kept J step n (listed M.states (value (colour_at board))) (step board j)

  -- rounds with T and F exchanged
  pub negated : (value' : (ℕ → Colour) → ℕ → Colour)
      → ((x : ℕ → Colour) (s : ℕ) → negate (value x s) ≡ value' (λ t. negate (x t)) s)
      → ((x y : ℕ → Colour) (s : ℕ) → s < M.states → ((t : ℕ) → t < M.states → x t ≡ y t) → value' x s ≡ value' y s)
      → (n : ℕ) (board board' : List Colour) → ((s : ℕ) → s < M.states → colour_at board' s ≡ negate (colour_at board s))
      → (s : ℕ) → s < M.states → colour_at (rounds M value' n board') s ≡ negate (colour_at (rounds M value n board) s)
  unfolding rounds
  negated value' dual same zero board board' e = e
  negated value' dual same (suc n) board board' e =
      negated value' dual same n (listed M.states (value (colour_at board))) (listed M.states (value' (colour_at board')))
      (λ s b. at_listed M.states (value' (colour_at board')) s b ∙ same (colour_at board') (λ t. negate (colour_at board t)) s b e
      ∙ sym (dual (colour_at board) s) ∙ ap negate (sym (at_listed M.states (value (colour_at board)) s b)))
