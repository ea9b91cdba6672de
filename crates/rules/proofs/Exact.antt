-- A text has one answer.
use Rattle.std.proofs.Common.{◌≡◌, ℕ, ◌+◌, ◌<◌, ◌≤◌, ◌⊎◌, List, length, take, drop, Some, Ok, Err, Result, sym, refl, ap, ◌∙◌, subst, inl, inr, arith, take-append-drop, take-take}
use Rattle.std.proofs.lemmas.List.{length-take-le, take_all}
use Rattle.std.proofs.lemmas.Bool.{cases_order, cases_lt}
use Rattle.systems.specs.declared.refusals.Refusal.TheVariants.{NotARule}
use Rattle.systems.specs.declared.refusals.Fault.{Fault}
use Rattle.systems.specs.Faults.{at_place}
use Rattle.systems.specs.Numbers.{refusal_number}
use Rattle.rules.specs.declared.rule.Rule.{Rule}
use Rattle.rules.specs.Trees.{Tree, nesting, normal_form}
use Rattle.rules.specs.Clauses.{size, clauses}
use Rattle.rules.specs.Rules.{clause_list}
use Rattle.rules.specs.Grammar.{Begins}
use Rattle.rules.specs.Reading.{NoRule, IsRule, Refused, bad_length, no_rule, too_deep, too_many, Accepted, Answers}
use Rattle.rules.specs.Theorems.{SpelledOnce, Exactly, AnsweredExactly, CutAlike}
use Rattle.rules.proofs.Complete.{unambiguous}
use Rattle.rules.proofs.Sound.{shorter}

pub spelled_once : SpelledOnce
spelled_once text s q d e = unambiguous d e

fewer : (text : List ℕ) (i j : ℕ) → i ≤ j → Begins (take j text) → Begins (take i text)
fewer text i j l h = subst Begins (take-take i j text l) (shorter (take i (take j text)) (drop i (take j text)) (subst Begins (sym (take-append-drop i (take j text))) h))

one_place : (text : List ℕ) (i j : ℕ) → NoRule text i → NoRule text j → i ≡ j
one_place text i j a b = by (cases_order i j)
  where
    by : (i ≡ j) ⊎ ((i < j) ⊎ (j < i)) → i ≡ j
    by (inl e) = e
    by (inr (inl l)) = absurd (a.ends (omega (arith, b.inside)) (fewer text (i + 1) j (omega arith) b.begins))
    by (inr (inr l)) = absurd (b.ends (omega (arith, a.inside)) (fewer text (j + 1) i (omega arith) a.begins))

-- the number of an answer, 0 for a rule: answers with two numbers are not one answer
abbrev number : Result Rule Fault → ℕ
number (Ok r) = 0
number (Err f) = refusal_number f.refusal

same_number : {r x y : Result Rule Fault} → r ≡ x → r ≡ y → number x ≡ number y
same_number p q = ap number (sym p ∙ q)

same_place : (f : Fault) (k j : ℕ) → f ≡ at_place NotARule k → ◌≡◌ {A = Result Rule Fault} (Err f) (Err (at_place NotARule j)) → k ≡ j
same_place f k j e q =
    let z : f ≡ at_place NotARule j = cc in
    let w : Some k ≡ Some j = ap (λ g. g.place) (sym e ∙ z) in
    cc

module _ (text : List ℕ) where
  -- the nesting and the number of clauses are those of the one tree that is spelled
  same_nesting : (s q : Tree) → IsRule text s → IsRule text q → nesting s ≡ nesting q
  same_nesting s q a b = ap nesting (unambiguous a.1 b.1)

  same_size : (s q : Tree) → IsRule text s → IsRule text q → size (normal_form s) ≡ size (normal_form q)
  same_size s q a b = ap (λ t. size (normal_form t)) (unambiguous a.1 b.1)

  refused_exactly : (f : Fault) → Refused text f → Exactly text (Err f)
  refused_exactly f (bad_length z e) = record {
    unsized = ((λ _. z), λ _. ap Err e);
    unruled = λ k. ((λ q. absurd (omega (arith, same_number (ap Err e) q))), λ y. absurd (z y.0));
    deep = ((λ q. absurd (omega (arith, same_number (ap Err e) q))), λ y. absurd (z y.1.0));
    many = ((λ q. absurd (omega (arith, same_number (ap Err e) q))), λ y. absurd (z y.1.0));
    ruled = ((λ q. absurd (omega (arith, same_number (ap Err e) q.1))), λ y. absurd (z y.1.0));
    read = λ x q. absurd (omega (arith, same_number (ap Err e) q));
  }
  refused_exactly f (no_rule k z a e) = record {
    unsized = ((λ q. absurd (omega (arith, same_number (ap Err e) q))), λ y. absurd (y z));
    unruled = λ j. ((λ q. (z, subst (NoRule text) (same_place f k j e q) a)), λ y. ap Err e ∙ ap (λ i. Err (at_place NotARule i)) (one_place text k j a y.1));
    deep = ((λ q. absurd (omega (arith, same_number (ap Err e) q))), λ y. absurd (a.unspelled y.0 y.1.1));
    many = ((λ q. absurd (omega (arith, same_number (ap Err e) q))), λ y. absurd (a.unspelled y.0 y.1.1));
    ruled = ((λ q. absurd (omega (arith, same_number (ap Err e) q.1))), λ y. absurd (a.unspelled y.0 y.1.1));
    read = λ x q. absurd (omega (arith, same_number (ap Err e) q));
  }
  refused_exactly f (too_deep s z d e) = record {
    unsized = ((λ q. absurd (omega (arith, same_number (ap Err e) q))), λ y. absurd (y z.0));
    unruled = λ k. ((λ q. absurd (omega (arith, same_number (ap Err e) q))), λ y. absurd (y.1.unspelled s z.1));
    deep = ((λ q. (s, z, d)), λ y. ap Err e);
    many = ((λ q. absurd (omega (arith, same_number (ap Err e) q))), λ y. absurd (omega (arith, same_nesting s y.0 z y.1, y.2)));
    ruled = ((λ q. absurd (omega (arith, same_number (ap Err e) q.1))), λ y. absurd (omega (arith, same_nesting s y.0 z y.1, y.2)));
    read = λ x q. absurd (omega (arith, same_number (ap Err e) q));
  }
  refused_exactly f (too_many s z d w e) = record {
    unsized = ((λ q. absurd (omega (arith, same_number (ap Err e) q))), λ y. absurd (y z.0));
    unruled = λ k. ((λ q. absurd (omega (arith, same_number (ap Err e) q))), λ y. absurd (y.1.unspelled s z.1));
    deep = ((λ q. absurd (omega (arith, same_number (ap Err e) q))), λ y. absurd (omega (arith, same_nesting s y.0 z y.1, y.2)));
    many = ((λ q. (s, z, d, w)), λ y. ap Err e);
    ruled = ((λ q. absurd (omega (arith, same_number (ap Err e) q.1))), λ y. absurd (omega (arith, same_size s y.0 z y.1, y.3)));
    read = λ x q. absurd (omega (arith, same_number (ap Err e) q));
  }

  accepted_exactly : (r : Rule) → Accepted text r → Exactly text (Ok r)
  accepted_exactly r a = record {
    unsized = ((λ q. absurd (omega (arith, ap number q))), λ y. absurd (y a.is_rule.0));
    unruled = λ k. ((λ q. absurd (omega (arith, ap number q))), λ y. absurd (y.1.unspelled a.spelled a.is_rule.1));
    deep = ((λ q. absurd (omega (arith, ap number q))), λ y. absurd (omega (arith, same_nesting a.spelled y.0 a.is_rule y.1, y.2, a.shallow)));
    many = ((λ q. absurd (omega (arith, ap number q))), λ y. absurd (omega (arith, same_size a.spelled y.0 a.is_rule y.1, y.3, a.few)));
    ruled = ((λ q. (a.spelled, a.is_rule, a.shallow, a.few)), λ y. (r, refl));
    read = λ x q s d.
        let z : r ≡ x = cc in
        let w : a.spelled ≡ s = unambiguous a.is_rule.1 d in
        subst (λ y. (clause_list y ≡ clauses (normal_form s)) × (y.nesting ≡ nesting s)) z (a.holds ∙ ap (λ t. clauses (normal_form t)) w, a.depth ∙ ap nesting w);
  }

pub answered_exactly : AnsweredExactly
unfolding Answers
answered_exactly text (Ok r) a = accepted_exactly text r a
answered_exactly text (Err f) a = refused_exactly text f a

-- a line of 513 bytes or more is as long as its first 513 bytes are: too long
pub cut_alike : CutAlike
unfolding Answers
cut_alike line r a = by (cases_lt (length line) 513)
  where
    long : 513 ≤ length line → length (take 513 line) ≡ 513
    long g = length-take-le 513 line g

    too_long : (r : Result Rule Fault) → 513 ≤ length line → Answers (take 513 line) r → Answers line r
    too_long (Ok r) g a = absurd (omega (arith, long g, a.is_rule.0.1))
    too_long (Err f) g (bad_length z e) = bad_length (λ y. omega (arith, y.1)) e
    too_long (Err f) g (no_rule k z n e) = absurd (omega (arith, long g, z.1))
    too_long (Err f) g (too_deep s z d e) = absurd (omega (arith, long g, z.0.1))
    too_long (Err f) g (too_many s z d w e) = absurd (omega (arith, long g, z.0.1))

    by : (length line < 513) ⊎ (513 ≤ length line) → Answers line r
    by (inl l) = subst (λ bs. Answers bs r) (take_all 513 line (omega arith)) a
    by (inr g) = too_long r g a
