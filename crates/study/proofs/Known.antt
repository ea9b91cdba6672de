-- The rule of a study has no mark beyond its system.
use Rattle.std.proofs.Common.{◌≡◌, ℕ, true, false, List, [], ◌∷◌, refl, ⊎_elim}
use Rattle.std.specs.List.{AllByRecursion, list_all}
use Rattle.std.proofs.lemmas.Bool.{lt-ltb, ltb-true, and_from, and_parts, cases_Bool, cond-true, cond-false}
use Rattle.rules.specs.declared.rule.Rule.{Rule}
use Rattle.rules.specs.declared.syntax.Clause.{Clause}
use Rattle.rules.specs.declared.syntax.Clause.TheVariants.{Constant, Mark, Next, Pair}
use Rattle.rules.specs.Clauses.{MarkBelow}
use Rattle.rules.specs.Rules.{clause_list}
use Rattle.study.specs.Studies.{is_known, clauses_for}

known_from : (n : ℕ) (c : Clause) → MarkBelow n c → is_known n c ≡ true
known_from n (Constant b) h = refl
known_from n (Mark p negated) h = lt-ltb p n h
known_from n (Next k r) h = refl
known_from n (Pair o r q) h = refl

known_below : (n : ℕ) (c : Clause) → is_known n c ≡ true → MarkBelow n c
known_below n (Constant b) e = tt
known_below n (Mark p negated) e = ltb-true p n e
known_below n (Next k r) e = tt
known_below n (Pair o r q) e = tt

all_known_from : (n : ℕ) (cs : List Clause) → AllByRecursion (MarkBelow n) cs → list_all (is_known n) cs ≡ true
all_known_from n [] h = refl
all_known_from n (c ∷ cs) h = and_from (is_known n c) (list_all (is_known n) cs) (known_from n c h.0) (all_known_from n cs h.1)

all_known_below : (n : ℕ) (cs : List Clause) → list_all (is_known n) cs ≡ true → AllByRecursion (MarkBelow n) cs
all_known_below n [] e = tt
all_known_below n (c ∷ cs) e =
    let parts = and_parts (is_known n c) (list_all (is_known n) cs) e in
    (known_below n c parts.0, all_known_below n cs parts.1)

-- a rule whose marks the system has stays as it is
pub clauses_kept : (n : ℕ) (r : Rule) → AllByRecursion (MarkBelow n) (clause_list r) → clauses_for n r ≡ clause_list r
clauses_kept n r h = cond-true _ _ _ (all_known_from n (clause_list r) h)

-- any other counts as `1`
pub clauses_one : (n : ℕ) (r : Rule) → ¬ AllByRecursion (MarkBelow n) (clause_list r) → clauses_for n r ≡ Constant true ∷ []
clauses_one n r k =
    cond-false _ _ _
    (⊎_elim (λ (e : list_all (is_known n) (clause_list r) ≡ true). absurd (k (all_known_below n (clause_list r) e))) (λ (e : list_all (is_known n) (clause_list r) ≡ false). e)
    (cases_Bool (list_all (is_known n) (clause_list r))))
