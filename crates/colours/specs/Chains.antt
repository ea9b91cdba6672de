-- What leaves a rule undecided: a chain of undecided positions to an unknown mark or an unsure step. Clauses go by number.
use Rattle.std.specs.Prelude.{◌≡◌, ℕ, suc, ◌<◌, Bool, false, ◌⊎◌, List, ◌∷◌, length, slice_index_or}
use Rattle.std.specs.List.{AllByRecursion}
use Rattle.systems.specs.declared.kinds.Step.TheVariants.{Unsure}
use Rattle.systems.specs.declared.kinds.Colour.TheVariants.{Undecided}
use Rattle.systems.specs.Model.{Model, Possibly, Starts}
use Rattle.rules.specs.declared.syntax.Quantifier.{Quantifier}
use Rattle.rules.specs.declared.syntax.Quantifier.TheVariants.{A, E}
use Rattle.rules.specs.declared.syntax.Operator.{Operator}
use Rattle.rules.specs.declared.syntax.Operator.TheVariants.{And, Or, AU, AV, EU, EV}
use Rattle.rules.specs.declared.syntax.Clause.{Clause}
use Rattle.rules.specs.declared.syntax.Clause.TheVariants.{Constant, Mark, Next, Pair}
use Rattle.rules.specs.Clauses.{formula, whole}
use Rattle.colours.specs.declared.chains.Position.{Position}
use Rattle.colours.specs.declared.chains.Reason.{Reason}
use Rattle.colours.specs.declared.chains.Reason.TheVariants.{UnknownMark, UnsureStep}
use Rattle.colours.specs.Walks.{Walk, last, Distinct}
use Rattle.colours.specs.Colours.{Colouring, colouring, HasColour}

-- the clause of a number
abbrev pub clause_at : List Clause → ℕ → Clause
clause_at cs i = slice_index_or cs i (Constant false)

abbrev pub Unsurely : Model → ℕ → ℕ → Type 0
Unsurely M s t = (s < M.states) × (t < M.states) × (M.step s t ≡ Unsure)

-- what a reason speaks of is unknown: a mark of a group, or whether there is a step from it
abbrev pub Unknown : Model → Reason → Type 0
Unknown M (UnknownMark g p) = (g < M.states) × (p < M.marks) × (M.mark g p ≡ Undecided)
Unknown M (UnsureStep g h) = Unsurely M g h

-- U looks across steps where its left part r is not F, and V where it is not T
abbrev pub Looks : Operator → Colouring → ℕ → Type 0
Looks And r s = ⊥
Looks Or r s = ⊥
Looks AU r s = ¬ r.is_F s
Looks EU r s = ¬ r.is_F s
Looks AV r s = ¬ r.is_T s
Looks EV r s = ¬ r.is_T s

-- T under E, and F under A
abbrev pub Shown : Quantifier → Colouring → ℕ → Type 0
Shown A c t = c.is_F t
Shown E c t = c.is_T t

-- what the same clause is where an unsure step leads that ends a chain: T under E and F under A; for A(r U q) and E(r V q) also undecided
abbrev pub Awaited : Operator → Colouring → ℕ → Type 0
Awaited And c t = ⊥
Awaited Or c t = ⊥
Awaited AV c t = Shown A c t
Awaited EU c t = Shown E c t
Awaited AU c t = Shown A c t ⊎ HasColour c t Undecided
Awaited EV c t = Shown E c t ⊎ HasColour c t Undecided

module _ (M : Model) (cs : List Clause) where
  -- the colours of clause i
  abbrev pub colours : ℕ → Colouring
  colours i = colouring M (formula cs i)

  -- an undecided position
  abbrev pub Open : Position → Type 0
  Open p = (p.group < M.states) × (p.clause < length cs) × HasColour (colours p.clause) p.group Undecided

  -- clause j at t may follow clause i at s: a part where the chain is; of an X the part where a possible step leads;
  -- of a U or V that looks across steps also the clause itself where a possible step leads
  abbrev pub Follows : Clause → (i s j t : ℕ) → Type 0
  Follows (Constant b) i s j t = ⊥
  Follows (Mark p negated) i s j t = ⊥
  Follows (Next k r) i s j t = (j ≡ r) × Possibly M s t
  Follows (Pair o r q) i s j t =
      (((j ≡ r) ⊎ (j ≡ q)) × (t ≡ s))
      ⊎ ((j ≡ i) × Looks o (colours r) s × Possibly M s t)

  -- a chain may end at clause i at s in the unsure step to t
  abbrev pub EndsInStep : Clause → (i s t : ℕ) → Type 0
  EndsInStep (Constant b) i s t = ⊥
  EndsInStep (Mark p negated) i s t = ⊥
  EndsInStep (Next k r) i s t = Unsurely M s t × Shown k (colours r) t
  EndsInStep (Pair o r q) i s t = Unsurely M s t × Looks o (colours r) s × Awaited o (colours i) t

  -- which position may follow which
  abbrev pub GoesOn : Position → Position → Type 0
  GoesOn p n = Follows (clause_at cs p.clause) p.clause p.group n.clause n.group

  -- the slip of an end: its group with an unknown mark at a mark clause, or with the target of an unsure step
  abbrev pub Ends : Position → Reason → Type 0
  Ends p (UnknownMark g m) =
      (g ≡ p.group) × (M.mark g m ≡ Undecided) × ((negated : Bool) × (clause_at cs p.clause ≡ Mark m negated))
  Ends p (UnsureStep g t) = (g ≡ p.group) × EndsInStep (clause_at cs p.clause) p.clause g t

  -- p and then ps is a chain that ends for that reason
  pub record Chain (p : Position) (ps : List Position) (reason : Reason) : Type 0 where
    pub linked : Walk GoesOn p ps
    pub undecided : AllByRecursion Open (p ∷ ps)
    pub different : Distinct (p ∷ ps)
    pub ended : Ends (last p ps) reason

  -- a start where the rule is undecided, and no lower one
  abbrev pub LowestOpenStart : ℕ → Type 0
  LowestOpenStart g =
      Starts M g × HasColour (colouring M (whole cs)) g Undecided
      × ((h : ℕ) → h < g → Starts M h → ¬ HasColour (colouring M (whole cs)) h Undecided)

  -- a cause: a chain from the rule at the lowest such start
  pub record Cause (p : Position) (ps : List Position) (reason : Reason) : Type 0 where
    pub lowest : LowestOpenStart p.group
    pub from_rule : suc p.clause ≡ length cs
    pub chain : Chain p ps reason
