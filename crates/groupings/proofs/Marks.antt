-- The marks at a state, as they are asked for one by one.
use Rattle.std.proofs.Common.{◌≡◌, ℕ, ◌+◌, ◌<◌, ◌≤◌, Bool, ◌&&◌, ltb, List, length, replicate, get_or, set, ap, ◌∙◌, sym, ⊎_elim, not-suc-le-zero, arith, get_or-set_other}
use native.Mathlib.Decide.{ℕ_discrete}
use Rattle.std.proofs.Math.Bool.{and-false}
use Rattle.std.proofs.lemmas.Bool.{cases_lt, cond-false, le-ltb}
use Rattle.std.proofs.lemmas.Grind.{get_or-set_at}
use Rattle.std.proofs.lemmas.List.{get_or-replicate}
use Rattle.systems.specs.Model.{Model, mark_or_unknown}
use Rattle.systems.specs.declared.kinds.Colour.{Colour}
use Rattle.systems.specs.declared.kinds.Colour.TheVariants.{Undecided}

-- a mark that does not exist is unknown
pub unknown_beyond : (M : Model) (s p : ℕ) → M.marks ≤ p → mark_or_unknown M s p ≡ Undecided
unknown_beyond M s p l = cond-false _ _ _ (ap (λ (b : Bool). ltb s M.states && b) (le-ltb p M.marks l) ∙ and-false (ltb s M.states))

-- a row of 16 marks of which i are asked for
module _ (M : Model) (s : ℕ) where
  pub record Asked (i : ℕ) (row : List Colour) : Type 0 where
    pub known : (p : ℕ) → p < i → get_or row p Undecided ≡ mark_or_unknown M s p
    pub blank : (p : ℕ) → i ≤ p → p < 16 → get_or row p Undecided ≡ Undecided

  pub asked_none : Asked 0 (replicate 16 Undecided)
  asked_none = record {
    known = λ p l. absurd (not-suc-le-zero l);
    blank = λ p l m. get_or-replicate 16 p Undecided Undecided m;
  }

  pub asked_more : (i : ℕ) (row : List Colour) (v : Colour) → i < length row → v ≡ mark_or_unknown M s i → Asked i row → Asked (i + 1) (set row i v)
  asked_more i row v low is a = record {
    known = λ p l. elim (ℕ_discrete p i) [
      | yes e ↦ get_or-set_at row i p v Undecided e low ∙ is ∙ ap (mark_or_unknown M s) (sym e)
      | no n ↦ get_or-set_other row i p v Undecided n ∙ a.known p (omega arith)
    ];
    blank = λ p l m. get_or-set_other row i p v Undecided (λ e. omega (arith, e)) ∙ a.blank p (omega arith) m;
  }

  pub asked_all : (i : ℕ) (row : List Colour) → M.marks ≤ i → Asked i row → (p : ℕ) → p < 16 → get_or row p Undecided ≡ mark_or_unknown M s p
  asked_all i row end a p l =
      ⊎_elim
      (λ (k : p < i). a.known p k)
      (λ (k : i ≤ p). a.blank p k l ∙ sym (unknown_beyond M s p (omega arith)))
      (cases_lt p i)
