-- The cells of a board's columns.
use Rattle.std.proofs.Common.{◌≡◌, ℕ, ◌+◌, ◌/◌, ◌%◌, ◌<◌, ◌≤◌, Bool, true, false, ◌≢◌, ◌⊎◌, List, ◌∷◌, length, get_or, set, sym, refl, ap, ◌∙◌, subst, inl, inr, arith, get_or-set_other, get_or-set_same}
use native.Mathlib.Decide.{ℕ_discrete}
use lib.Arith.{digits_lt, digits_div, digits_mod}
use Rattle.systems.specs.declared.kinds.Colour.{Colour}
use Rattle.systems.specs.declared.kinds.Colour.TheVariants.{Undecided, F, T}
use Rattle.colours.specs.Walks.{Among}
use Rattle.colouring.specs.declared.columns.Columns.{Columns}
use Rattle.systems.specs.Numbers.{colour_number}
use Rattle.colouring.specs.passes.Bytes.{decode, flipped}
use Rattle.colouring.specs.passes.Columns.{cell, column, Lies, Fits, OnlyColumn, Clean, Written}

pub number_decodes : (f : Bool) (v : Colour) → flipped f (decode (colour_number (flipped f v))) ≡ v
number_decodes true Undecided = refl
number_decodes true F = refl
number_decodes true T = refl
number_decodes false Undecided = refl
number_decodes false F = refl
number_decodes false T = refl

pub number_small : (v : Colour) → colour_number v ≤ 2
number_small Undecided = omega arith
number_small F = omega arith
number_small T = omega arith

module _ (p : Columns) where
  pub cell_in : (b : List ℕ) → Lies p b → (c s : ℕ) → c < p.clauses → s < p.states → cell p c s < length b
  cell_in b lie c s h k = let d = digits_lt {q = s} {m = p.states} {r = c} {c = p.clauses} k h in omega (arith, lie.board)

  pub fits_lies : (b : List ℕ) → Fits p b → Lies p b
  fits_lies b fit = record { board = fit.board; whole = fit.order.whole }

  pub lies_same : (b b' : List ℕ) → length b' ≡ length b → Lies p b → Lies p b'
  lies_same b b' e lie = record { board = omega (arith, lie.board); whole = lie.whole }

  pub cell_low : (b : List ℕ) → Fits p b → (c s : ℕ) → c < p.clauses → s < p.states → cell p c s < length b
  cell_low b fit = cell_in b (fits_lies b fit)

  pub cell_once : (c s t : ℕ) → c < p.clauses → cell p c s ≡ cell p c t → s ≡ t
  cell_once c s t h e = sym (digits_div s h) ∙ ap (λ k. k / p.clauses) e ∙ digits_div t h

  -- what waits, where t is taken out, is t or waits still
  pub waits_else : p.whole < p.clauses → (x t : ℕ) → x ≡ cell p p.whole t → (h : List ℕ) (u : ℕ) → Among (cell p p.whole u) (x ∷ h) → (u ≡ t) ⊎ Among (cell p p.whole u) h
  waits_else whole x t at h u (inl g) = inl (cell_once p.whole u t whole (g ∙ at))
  waits_else whole x t at h u (inr m) = inr m

  pub state_apart : (c s t : ℕ) → c < p.clauses → t ≢ s → cell p c t ≢ cell p c s
  state_apart c s t h n e = n (cell_once c t s h e)

  pub state_again : (c s x t : ℕ) → c < p.clauses → x ≡ cell p c s → t ≡ x / p.clauses → t ≡ s
  state_again c s x t h e f = f ∙ ap (λ k. k / p.clauses) e ∙ digits_div s h

  column_apart : (c d s t : ℕ) → c < p.clauses → d < p.clauses → c ≢ d → cell p c s ≢ cell p d t
  column_apart c d s t h k n e = n (sym (digits_mod s h) ∙ ap (λ j. j % p.clauses) e ∙ digits_mod t k)

  pub column_here : (b : List ℕ) (c s : ℕ) (v : Colour) → cell p c s < length b → column p (set b (cell p c s) (colour_number (flipped p.negated v))) c s ≡ v
  column_here b c s v h =
      ap (λ n. flipped p.negated (decode n)) (get_or-set_same b (cell p c s) (colour_number (flipped p.negated v)) 0 h) ∙ number_decodes p.negated v

  -- where all places but one are as they were, so are the other states' colours
  pub column_others : (b b' : List ℕ) (c s : ℕ) → c < p.clauses → ((k : ℕ) → k ≢ cell p c s → get_or b' k 0 ≡ get_or b k 0)
      → (t : ℕ) → t ≢ s → column p b' c t ≡ column p b c t
  column_others b b' c s h rest t n = ap (λ k. flipped p.negated (decode k)) (rest (cell p c t) (state_apart c s t h n))

  pub fits_same : (b b' : List ℕ) → length b' ≡ length b → Fits p b → Fits p b'
  fits_same b b' e fit = record { board = omega (arith, fit.board); order = fit.order }

  -- one byte of the clause's column is written
  pub only_more : (b₀ b : List ℕ) (s : ℕ) (n : ℕ) → s < p.states → OnlyColumn p b₀ b → OnlyColumn p b₀ (set b (cell p p.whole s) n)
  only_more b₀ b s n h only k d = get_or-set_other b (cell p p.whole s) k n 0 (d s h) ∙ only k d

  -- the colours f are written at the states below s
  abbrev pub Filled : List ℕ → (ℕ → Colour) → ℕ → List ℕ → Type 0
  Filled b₀ f s b = OnlyColumn p b₀ b × ((t : ℕ) → t < s → get_or b (cell p p.whole t) 0 ≡ colour_number (flipped p.negated (f t)))

  pub filled_more : (b₀ b b' : List ℕ) (f : ℕ → Colour) (s : ℕ) (v : Colour) → Lies p b → s < p.states → v ≡ f s
      → b' ≡ set b (cell p p.whole s) (colour_number (flipped p.negated v)) → Filled b₀ f s b → Filled b₀ f (s + 1) b'
  filled_more b₀ b b' f s v lie low is e i =
      let w = set b (cell p p.whole s) (colour_number (flipped p.negated v)) in (
        subst (OnlyColumn p b₀) (sym e) (only_more b₀ b s _ low i.0),
        λ t h. ap (λ z. get_or z (cell p p.whole t) 0) e ∙ (elim (ℕ_discrete t s) [
          | yes j ↦ subst (λ z. get_or w (cell p p.whole z) 0 ≡ colour_number (flipped p.negated (f z))) (sym j)
              (get_or-set_same b (cell p p.whole s) _ 0 (cell_in b lie p.whole s lie.whole low) ∙ ap (λ z. colour_number (flipped p.negated z)) is)
          | no d ↦ get_or-set_other b (cell p p.whole s) (cell p p.whole t) _ 0 (state_apart p.whole s t lie.whole d) ∙ i.1 t (omega arith)
        ]),
      )

  pub written : (b₀ b : List ℕ) (f : ℕ → Colour) (n : ℕ) → p.states ≤ n → Filled b₀ f n b → Written p b₀ b f
  written b₀ b f n end i = record { bytes = λ s h. i.1 s (omega arith); only = i.0 }

  -- what is written is read again
  pub written_column : (b b' : List ℕ) (f : ℕ → Colour) → Written p b b' f → (s : ℕ) → s < p.states → column p b' p.whole s ≡ f s
  written_column b b' f w s h = ap (λ n. flipped p.negated (decode n)) (w.bytes s h) ∙ number_decodes p.negated (f s)

  pub written_clean : (b b' : List ℕ) (f : ℕ → Colour) → Written p b b' f → Clean p b'
  written_clean b b' f w s h = subst (λ n. n ≤ 2) (sym (w.bytes s h)) (number_small (flipped p.negated (f s)))

  -- the parts' columns are as they were
  pub part_same : (b₀ b : List ℕ) → p.whole < p.clauses → OnlyColumn p b₀ b → (c s : ℕ) → c < p.whole → column p b c s ≡ column p b₀ c s
  part_same b₀ b whole only c s h = ap (λ k. flipped p.negated (decode k)) (only (cell p c s) (λ t k. column_apart c p.whole s t (omega arith) whole (omega arith)))
