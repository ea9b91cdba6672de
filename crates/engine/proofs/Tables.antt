-- Places of positions, and a table with one entry more.
use Rattle.std.proofs.Common.{◌≡◌, ℕ, zero, suc, ◌*◌, ◌/◌, ◌%◌, ◌<◌, ◌≤◌, true, ◌&&◌, not, cond, eqb, List, [], ◌∷◌, length, get_or, set, Some, None, Option, sym, ap, ◌∙◌, ap₂, le_of_suc-le-suc, not-suc-le-zero, arith, eq-eqb, get_or-set_other, get_or-set_same}
use mathlib.Core.Bool.{false≢true}
use native.Mathlib.Decide.{ℕ_discrete}
use Rattle.std.proofs.lemmas.Nat.{mul-add-lt, div-mul-add, mod-mul-add}
use Rattle.colours.specs.declared.chains.Position.{Position}
use Rattle.engine.specs.search.Searches.{place_of, Inside, before, Seen, unseen}

pub place_below : (G C : ℕ) (p : Position) → Inside G C p → place_of C p < G * C
place_below G C p h = omega (arith, mul-add-lt p.group C p.clause G h.0 h.1)

pub place_same : (G C : ℕ) (p q : Position) → Inside G C p → Inside G C q → place_of C p ≡ place_of C q → p ≡ q
place_same G C p q h k e =
    let a : p.group ≡ q.group =
    sym (div-mul-add p.group C p.clause h.1) ∙ ap (λ x. x / C) e ∙ div-mul-add q.group C q.clause k.1 in
    let b : p.clause ≡ q.clause =
    sym (mod-mul-add p.group C p.clause h.1) ∙ ap (λ x. x % C) e ∙ mod-mul-add q.group C q.clause k.1 in
    let made : ℕ → ℕ → Position = λ g c. record { group = g; clause = c } in
    ap₂ made a b

-- one entry more
pub unseen_mark : (n : ℕ) (t : List (Option Position)) (i : ℕ) (q : Position) → i < n → i < length t → get_or t i None ≡ None
    → suc (unseen n (set t i (Some q))) ≡ unseen n t
unseen_mark zero t i q h l e = absurd (not-suc-le-zero h)
unseen_mark (suc n) [] i q h l e = absurd (not-suc-le-zero l)
unseen_mark (suc n) (x ∷ xs) zero q h l e = rw e (omega arith)
unseen_mark (suc n) (x ∷ xs) (suc i) q h l e = let r = unseen_mark n xs i q (le_of_suc-le-suc h) (le_of_suc-le-suc l) e in omega arith

pub unseen_le : (n : ℕ) (t : List (Option Position)) → unseen n t ≤ n
unseen_le zero t = omega arith
unseen_le (suc n) [] = omega arith
unseen_le (suc n) (None ∷ xs) = let r = unseen_le n xs in omega arith
unseen_le (suc n) (Some x ∷ xs) = let r = unseen_le n xs in omega arith

module _ (C : ℕ) (table : List (Option Position)) (n q : Position) (low : place_of C n < length table) where
  pub before_same : before C (set table (place_of C n) (Some q)) n ≡ Some q
  before_same = get_or-set_same table (place_of C n) (Some q) None low

  pub before_other : (p : Position) → ¬ (place_of C p ≡ place_of C n) → before C (set table (place_of C n) (Some q)) p ≡ before C table p
  before_other p d = get_or-set_other table (place_of C n) (place_of C p) (Some q) None d

  pub before_at : (p : Position) → place_of C p ≡ place_of C n → before C (set table (place_of C n) (Some q)) p ≡ Some q
  before_at p e = ap (λ i. get_or (set table (place_of C n) (Some q)) i None) e ∙ before_same

  pub seen_stays : (p : Position) → Seen C table p → Seen C (set table (place_of C n) (Some q)) p
  seen_stays p s = elim (ℕ_discrete (place_of C p) (place_of C n)) [ yes e ↦ (q, before_at p e) | no d ↦ (s.0, before_other p d ∙ s.1) ]

-- what is seen stands elsewhere than what is not
pub apart : (C : ℕ) (table : List (Option Position)) (p n : Position) → Seen C table p → before C table n ≡ None
    → ¬ (place_of C p ≡ place_of C n)
apart C table p n s e d = let f : before C table n ≡ Some s.0 = ap (λ i. get_or table i None) (sym d) ∙ s.1 in cc

-- a rank with one value changed
pub raised : (ℕ → ℕ) → ℕ → ℕ → ℕ → ℕ
raised rank n v i = cond (eqb i n) v (rank i)

pub raised_same : (rank : ℕ → ℕ) (n v i : ℕ) → i ≡ n → raised rank n v i ≡ v
unfolding raised
raised_same rank n v i e = grind arith

pub raised_other : (rank : ℕ → ℕ) (n v i : ℕ) → ¬ (i ≡ n) → raised rank n v i ≡ rank i
unfolding raised
raised_other rank n v i d = grind arith

-- two positions that are told apart are not one
pub unlike : (a b : Position) → true ≡ not (eqb a.group b.group && eqb a.clause b.clause) → ¬ (a ≡ b)
unlike a b h e =
    false≢true
    (sym (ap₂ (λ x y. not (x && y)) (eq-eqb a.group b.group (ap (λ p. p.group) e)) (eq-eqb a.clause b.clause (ap (λ p. p.clause) e)))
    ∙ sym h)
