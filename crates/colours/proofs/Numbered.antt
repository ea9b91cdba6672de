-- The tree of a numbered clause is made of the trees of its parts.
use Rattle.std.proofs.Common.{◌≡◌, ℕ, zero, suc, ◌<◌, List, length, refl, ap, ap₂, not-suc-le-zero, arith}
use Rattle.rules.specs.declared.syntax.Clause.{Clause}
use Rattle.rules.specs.declared.syntax.Clause.TheVariants.{Constant, Mark, Next, Pair}
use Rattle.rules.specs.Formulas.{Formula, next, pair}
use Rattle.rules.specs.Clauses.{tree, PartsBelow, WellFounded, unrolled, formula}
use Rattle.colours.specs.Chains.{clause_at}

tree_same : (n : ℕ) (f g : ℕ → Formula) → ((i : ℕ) → i < n → f i ≡ g i) → (c : Clause) → PartsBelow n c → tree f c ≡ tree g c
tree_same n f g same (Constant b) h = refl
tree_same n f g same (Mark p negated) h = refl
tree_same n f g same (Next k r) h = ap (next k) (same r h)
tree_same n f g same (Pair o r q) h = ap₂ (pair o) (same r h.0) (same q h.1)

module _ (cs : List Clause) (founded : WellFounded cs) where
  depth_free : (d e i : ℕ) → i < length cs → i < d → i < e → unrolled cs d i ≡ unrolled cs e i
  unfolding unrolled
  depth_free zero e i b h k = absurd (not-suc-le-zero h)
  depth_free (suc d) zero i b h k = absurd (not-suc-le-zero k)
  depth_free (suc d) (suc e) i b h k =
      tree_same i (unrolled cs d) (unrolled cs e) (λ j l. depth_free d e j (omega arith) (omega arith) (omega arith)) (clause_at cs i)
      (founded i b)

  pub formula_tree : (i : ℕ) → i < length cs → formula cs i ≡ tree (formula cs) (clause_at cs i)
  unfolding formula unrolled
  formula_tree i b = tree_same i (unrolled cs i) (λ j. unrolled cs (suc j) j) (λ j l. depth_free i (suc j) j (omega arith) l (omega arith))
      (clause_at cs i) (founded i b)
