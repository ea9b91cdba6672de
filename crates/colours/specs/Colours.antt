-- Where a rule is T and where it is F.
use Rattle.std.specs.Prelude.{◌≡◌, ℕ, true, false, ◌⊎◌}
use Rattle.systems.specs.declared.kinds.Colour.{Colour}
use Rattle.systems.specs.declared.kinds.Colour.TheVariants.{Undecided, F, T}
use Rattle.systems.specs.Model.{Model, Surely, Possibly, Starts}
use Rattle.colours.specs.Walks.{Until, Release}
use Rattle.rules.specs.Formulas.{Formula, constant, mark, next, pair}
use Rattle.rules.specs.declared.syntax.Quantifier.{Quantifier}
use Rattle.rules.specs.declared.syntax.Quantifier.TheVariants.{A, E}
use Rattle.rules.specs.declared.syntax.Operator.{Operator}
use Rattle.rules.specs.declared.syntax.Operator.TheVariants.{And, Or, AU, AV, EU, EV}

-- the states at which something is T, and those at which it is F
pub record Colouring : Type 1 where
  pub is_T : ℕ → Type 0
  pub is_F : ℕ → Type 0

-- T and F exchanged
abbrev pub exchange : Colouring → Colouring
exchange r = record { is_T = r.is_F; is_F = r.is_T }

abbrev pub true_everywhere : Colouring
true_everywhere = record { is_T = λ s. Unit {0}; is_F = λ s. ⊥ }

abbrev pub mark_colouring : Model → ℕ → Colouring
mark_colouring M p = record { is_T = λ s. M.mark s p ≡ T; is_F = λ s. M.mark s p ≡ F }

abbrev pub conjunction : Colouring → Colouring → Colouring
conjunction r q = record { is_T = λ s. r.is_T s × q.is_T s; is_F = λ s. r.is_F s ⊎ q.is_F s }

-- T where some sure step comes to r T; F where possible steps come to nothing but r F
abbrev pub E_next : Model → Colouring → Colouring
E_next M r = record {
  is_T = λ s. (t : ℕ) × Surely M s t × r.is_T t;
  is_F = λ s. (t : ℕ) → Possibly M s t → r.is_F t;
}

-- T where some sure walk comes to q T and keeps r T until then; F where not even a possible walk comes to q not F and keeps r not F until then
abbrev pub E_until : Model → Colouring → Colouring → Colouring
E_until M r q = record {
  is_T = λ s. Until (Surely M) r.is_T q.is_T s;
  is_F = λ s. ¬ Until (Possibly M) (λ t. ¬ r.is_F t) (λ t. ¬ q.is_F t) s;
}

-- T where some sure walk keeps q T all along and ends at r T or at a state that it had passed before;
-- F where not even a possible walk keeps q not F all along and ends at r not F or at a state that it had passed before
abbrev pub E_release : Model → Colouring → Colouring → Colouring
E_release M r q = record {
  is_T = λ s. Release (Surely M) r.is_T q.is_T s;
  is_F = λ s. ¬ Release (Possibly M) (λ t. ¬ r.is_F t) (λ t. ¬ q.is_F t) s;
}

-- an operator with T and F exchanged throughout
abbrev pub exchanged : (Colouring → Colouring → Colouring) → Colouring → Colouring → Colouring
exchanged op r q = exchange (op (exchange r) (exchange q))

-- | is &, AV is EU and AU is EV, each with T and F exchanged throughout
abbrev pub joined : Model → Operator → Colouring → Colouring → Colouring
joined M And = conjunction
joined M Or = exchanged conjunction
joined M EU = E_until M
joined M AV = exchanged (E_until M)
joined M EV = E_release M
joined M AU = exchanged (E_release M)

-- AX is EX with T and F exchanged throughout
abbrev pub stepped : Model → Quantifier → Colouring → Colouring
stepped M E r = E_next M r
stepped M A r = exchange (E_next M (exchange r))

-- the colours of a rule
unfoldable pub colouring : Model → Formula → Colouring
colouring M (constant true) = true_everywhere
colouring M (constant false) = exchange true_everywhere
colouring M (mark p false) = mark_colouring M p
colouring M (mark p true) = exchange (mark_colouring M p)
colouring M (next k r) = stepped M k (colouring M r)
colouring M (pair o r q) = joined M o (colouring M r) (colouring M q)

-- T where one statement holds, F where the other does; what is neither T nor F is undecided
abbrev pub Told : Type 0 → Type 0 → Colour → Type 0
Told true_if false_if T = true_if
Told true_if false_if F = false_if
Told true_if false_if Undecided = ¬ true_if × ¬ false_if

-- the colour at the state s
abbrev pub HasColour : Colouring → ℕ → Colour → Type 0
HasColour c s = Told (c.is_T s) (c.is_F s)

-- the verdict: T where every start has the rule T, F where some start has it F, undecided otherwise
abbrev pub HasVerdict : Model → Formula → Colour → Type 0
HasVerdict M f = Told
    ((s : ℕ) → Starts M s → (colouring M f).is_T s)
    ((s : ℕ) × Starts M s × (colouring M f).is_F s)
