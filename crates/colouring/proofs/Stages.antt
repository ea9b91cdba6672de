-- A board coloured clause by clause.
use Rattle.std.proofs.Common.{◌≡◌, ℕ, ◌+◌, ◌%◌, ◌<◌, ◌≤◌, false, ◌⊎◌, List, length, get_or, Ok, Err, sym, refl, ap, ◌∙◌, subst, arith}
use native.Mathlib.Decide.{ℕ_discrete}
use mathlib.Core.Path.{subst₃}
use lib.Arith.{digits_lt, digits_mod}
use Rattle.std.specs.List.{AllByRecursion}
use Rattle.systems.specs.declared.refusals.Refusal.TheVariants.{WorkspaceTooSmall}
use Rattle.systems.specs.Model.{Model}
use Rattle.rules.specs.declared.syntax.Clause.{Clause}
use Rattle.rules.specs.declared.syntax.Clause.TheVariants.{Constant}
use Rattle.rules.specs.Formulas.{Formula}
use Rattle.rules.specs.Clauses.{WellFounded, MarkBelow, formula}
use Rattle.colours.specs.Boards.{place, positions}
use Rattle.colours.proofs.Lists.{all_at}
use Rattle.colours.proofs.Numbered.{formula_tree}
use Rattle.queue.specs.declared.ring.Ring.{Ring}
use Rattle.queue.specs.Held.{room}
use Rattle.colouring.specs.Colouring.{Becomes, Colours}
use Rattle.colouring.specs.declared.columns.Columns.{Columns}
use Rattle.colouring.specs.passes.Columns.{model, OnlyAt, OnlyColumn}
use Rattle.colouring.specs.passes.Clauses.{ShowsRule, ShowsClause}

module _ (M : Model) (cs : List Clause) (b₀ : List ℕ) where
  -- the clauses before i are coloured
  abbrev pub ColouredBelow : List ℕ → ℕ → Type 0
  ColouredBelow b i =
      (AllByRecursion (MarkBelow M.marks) cs → (c : ℕ) → c < i → ShowsRule M b (length cs) c (formula cs c))
      × ((k : ℕ) → positions M cs ≤ k → get_or b k 0 ≡ get_or b₀ k 0)

  kept : (b b' : List ℕ) (i c : ℕ) → i < length cs → c < i → OnlyAt M.states (length cs) i b b' → (f : Formula) → ShowsRule M b (length cs) c f → ShowsRule M b' (length cs) c f
  kept b b' i c h k only f shows s a = only (place (length cs) s c) (λ t d e. apart t e) ∙ shows s a
    where
      apart : (t : ℕ) → place (length cs) s c ≡ place (length cs) t i → ⊥
      apart t e = let g : c ≡ i = sym (digits_mod s (omega arith)) ∙ ap (λ z. z % length cs) e ∙ digits_mod t h in omega arith

  pub coloured_more : WellFounded cs → (b b' : List ℕ) (i : ℕ) → i < length cs
      → ShowsClause M (length cs) i (get_or cs i (Constant false)) b b' → OnlyAt M.states (length cs) i b b' → ColouredBelow b i → ColouredBelow b' (i + 1)
  coloured_more founded b b' i h shows only so_far = (
    λ known c k. elim (ℕ_discrete c i) [
      | yes e ↦ subst (λ z. ShowsRule M b' (length cs) z (formula cs z)) (sym e)
          (subst (ShowsRule M b' (length cs) i) (sym (formula_tree cs founded i h))
          (shows (all_at (MarkBelow M.marks) cs i (Constant false) h known) (formula cs) (so_far.0 known)))
      | no d ↦ kept b b' i c h (omega arith) only (formula cs c) (so_far.0 known c (omega arith))
    ],
    λ k l. only k (λ s a e. let x = digits_lt {q = s} {m = M.states} {r = i} {c = length cs} a h in absurd (omega arith)) ∙ so_far.1 k l,
  )

-- what was written into a clause's columns, by the number that it has in the rule
module _ (M : Model) (cs : List Clause) (p : Columns) (i : ℕ) (same : model p ≡ M) (clauses : p.clauses ≡ length cs) (whole : p.whole ≡ i) (b b' : List ℕ) where
  pub shown_as : (clause z : Clause) → clause ≡ z → ShowsClause (model p) p.clauses p.whole clause b b' → ShowsClause M (length cs) i z b b'
  shown_as clause z e shown =
      subst (λ z. ShowsClause M (length cs) i z b b') e (subst₃ (λ m w c. ShowsClause m w c clause b b') same clauses whole shown)

  pub only_as : OnlyColumn p b b' → OnlyAt M.states (length cs) i b b'
  only_as only = subst₃ (λ n w c. OnlyAt n w c b b') (p.every_state ∙ ap (λ (m : Model). m.states) same) clauses whole only

-- what a call to colour comes to
module _ (M : Model) (cs : List Clause) (b : List ℕ) (q : Ring ℕ) where
  pub refused : (length b < positions M cs) ⊎ (room q < positions M cs) → Colours M cs b q b q (Err WorkspaceTooSmall)
  unfolding Colours
  refused h = (refl, h, refl, refl)

  pub done : (b' : List ℕ) (q' : Ring ℕ) → positions M cs ≤ length b → positions M cs ≤ room q → Becomes M cs b b' → room q' ≡ room q → Colours M cs b q b' q' (Ok tt)
  unfolding Colours
  done b' q' h k becomes same = (h, k, becomes, same)
