-- The reader that takes one byte at a time reads each rule of the grammar.
use Rattle.std.proofs.Common.{◌≡◌, ℕ, ◌+◌, ◌-◌, ◌<◌, ◌≤◌, Bool, true, false, ◌⊎◌, List, [], ◌∷◌, ◌++◌, Some, None, sym, refl, ap, ◌∙◌, inl, inr, append_assoc, append-nil, arith}
use Rattle.std.proofs.lemmas.Bool.{cases_lt, cases_eq, ne_eqb, le-leb, lt-ltb, le-ltb}
use Rattle.rules.specs.declared.syntax.Quantifier.{Quantifier}
use Rattle.rules.specs.declared.pieces.Prefix.{Prefix}
use Rattle.rules.specs.declared.syntax.Operator.{Operator}
use Rattle.rules.specs.declared.pieces.Bracket.{Bracket}
use Rattle.rules.specs.Trees.{Tree}
use Rattle.rules.specs.Grammar.{Spells, a_constant, a_mark, a_prefix, a_pair, space_before, space_after, digit, numeral, in_front, opening, between}
use Rattle.rules.specs.reader.Machine.{Frame, under, left, right, want, have, digit_wanted, after_one, after_digit, after, second, step, accepted, ended, finish, outcome}
use Rattle.rules.specs.reader.Bytes.{digit_of}
use Rattle.rules.proofs.Steps.{goes, spacious_want, under_read, spacious_have}

-- no digit from 0 to 5 comes first
abbrev Quiet : List ℕ → Type 0
Quiet [] = Unit {0}
Quiet (b ∷ bs) = digit_of 5 b ≡ None

-- the bracket of an operator
abbrev pub bracket : Operator → Bracket
bracket Operator.And = Bracket.Plain
bracket Operator.Or = Bracket.Plain
bracket Operator.AU = Bracket.Quantified Quantifier.A
bracket Operator.AV = Bracket.Quantified Quantifier.A
bracket Operator.EU = Bracket.Quantified Quantifier.E
bracket Operator.EV = Bracket.Quantified Quantifier.E

prefixed : (o : Prefix) (k : List Frame) (x : List ℕ) → outcome (want k) (in_front o ++ x) ≡ outcome (want (under o ∷ k)) x
unfolding outcome step
prefixed Prefix.Not k x = refl
prefixed (Prefix.Next Quantifier.A) k x = refl
prefixed (Prefix.Next Quantifier.E) k x = refl
prefixed (Prefix.Globally Quantifier.A) k x = refl
prefixed (Prefix.Globally Quantifier.E) k x = refl
prefixed (Prefix.Finally Quantifier.A) k x = refl
prefixed (Prefix.Finally Quantifier.E) k x = refl

opened : (o : Operator) (k : List Frame) (x : List ℕ) → outcome (want k) (opening o ++ x) ≡ outcome (want (left (bracket o) ∷ k)) x
unfolding outcome step
opened Operator.And k x = refl
opened Operator.Or k x = refl
opened Operator.AU k x = refl
opened Operator.AV k x = refl
opened Operator.EU k x = refl
opened Operator.EV k x = refl

signed : (o : Operator) (s : Tree) (k : List Frame) (x : List ℕ) → outcome (have s (left (bracket o) ∷ k)) (between o ++ x) ≡ outcome (want (right o s ∷ k)) x
unfolding outcome step after
signed Operator.And s k x = refl
signed Operator.Or s k x = refl
signed Operator.AU s k x = refl
signed Operator.AV s k x = refl
signed Operator.EU s k x = refl
signed Operator.EV s k x = refl

quiet_sign : (o : Operator) (x : List ℕ) → Quiet (between o ++ x)
quiet_sign Operator.And x = refl
quiet_sign Operator.Or x = refl
quiet_sign Operator.AU x = refl
quiet_sign Operator.AV x = refl
quiet_sign Operator.EU x = refl
quiet_sign Operator.EV x = refl

closed : (o : Operator) (r s : Tree) (k : List Frame) (x : List ℕ) → outcome (have s (right o r ∷ k)) (41 ∷ x) ≡ outcome (have (Tree.binary o r s) k) x
unfolding outcome step after
closed o r s k x = refl

quiet_after_one : (k : List Frame) (x : List ℕ) → Quiet x → outcome (after_one k) x ≡ outcome (have (Tree.mark 1) k) x
unfolding outcome step second finish
quiet_after_one k [] h = refl
quiet_after_one k (b ∷ x) h = rw h refl

digit_is : (most m : ℕ) → m ≤ most → digit_of most (48 + m) ≡ Some m
digit_is most m l = let e : 48 + m - 48 ≡ m = omega arith in rw (le-leb 48 (48 + m) (omega arith), le-leb (48 + m) (48 + most) (omega arith), e) refl

named_read : (m : ℕ) (k : List Frame) (x : List ℕ) → m < 16 → Quiet x → outcome (digit_wanted k) (numeral m ++ x) ≡ outcome (have (Tree.mark m) k) x
unfolding step second
named_read m k x low quiet = by (cases_lt m 10)
  where
    first : (n : ℕ) → n ≤ 9 → step (digit_wanted k) (48 + n) ≡ Some (after_digit n k)
    first n l = rw (digit_is 9 n l) refl

    few : m < 10 → (m ≡ 1) ⊎ (m ≡ 1 → ⊥) → outcome (digit_wanted k) ((48 + m) ∷ x) ≡ outcome (have (Tree.mark m) k) x
    few l (inl e) = rw e (goes (digit_wanted k) (after_one k) 49 x (first 1 (omega arith)) ∙ quiet_after_one k x quiet)
    few l (inr n) = goes (digit_wanted k) (after_digit m k) (48 + m) x (first m (omega arith)) ∙ ap (λ σ. outcome σ x) (rw (ne_eqb m 1 n) refl)

    teen : 10 ≤ m → step (after_one k) (38 + m) ≡ Some (have (Tree.mark m) k)
    teen g =
        let e : 48 + (m - 10) ≡ 38 + m = omega arith in
        let f : 10 + (m - 10) ≡ m = omega arith in
        rw (← e, digit_is 5 (m - 10) (omega arith), f) refl

    by : (m < 10) ⊎ (10 ≤ m) → outcome (digit_wanted k) (numeral m ++ x) ≡ outcome (have (Tree.mark m) k) x
    by (inl l) = rw (lt-ltb m 10 l) (few l (cases_eq m 1))
    by (inr g) = rw (le-ltb m 10 g) (goes (digit_wanted k) (after_one k) 49 _ (first 1 (omega arith)) ∙ goes (after_one k) _ (38 + m) x (teen g))

constant_read : (b : Bool) (k : List Frame) (x : List ℕ) → outcome (want k) (digit b ++ x) ≡ outcome (have (Tree.constant b) k) x
unfolding outcome step
constant_read true k x = refl
constant_read false k x = refl

mark_begun : (k : List Frame) (x : List ℕ) → outcome (want k) (112 ∷ x) ≡ outcome (digit_wanted k) x
unfolding outcome step
mark_begun k x = refl

-- a rule that the grammar spells is read, whatever is on the stack; a digit after it could belong to its last mark
complete : {s : Tree} {bs : List ℕ} → Spells s bs → (k : List Frame) (x : List ℕ) → Quiet x → outcome (want k) (bs ++ x) ≡ outcome (have s k) x
complete (a_constant b) k x h = constant_read b k x
complete (a_mark m low) k x h = mark_begun k (numeral m ++ x) ∙ named_read m k x low h
complete (a_prefix o {r} {bs} d) k x h = rw append_assoc (prefixed o k (bs ++ x) ∙ complete d (under o ∷ k) x h ∙ under_read o r k x)
complete (a_pair o {r} {q} {bs} {cs} d e) k x h =
    simp append_assoc
    (opened o k _
    ∙ complete d (left (bracket o) ∷ k) _ (quiet_sign o _)
    ∙ signed o r k _
    ∙ complete e (right o r ∷ k) (41 ∷ x) refl
    ∙ closed o r q k x
    )
complete (space_before {r} {bs} d) k x h = spacious_want k (bs ++ x) ∙ complete d k x h
complete (space_after {r} {bs} d) k x h = rw append_assoc (complete d k (32 ∷ x) refl ∙ spacious_have r k x)

-- a rule is read whole
pub read_whole : {s : Tree} {bs : List ℕ} → Spells s bs → outcome (want []) bs ≡ accepted s
unfolding outcome finish ended
read_whole {s} {bs} d = ap (outcome (want [])) (sym (append-nil bs)) ∙ complete d [] [] tt

accepted_inj : (s q : Tree) → accepted s ≡ accepted q → s ≡ q
accepted_inj s q e = cc

-- a text is at most one rule
pub unambiguous : {s q : Tree} {bs : List ℕ} → Spells s bs → Spells q bs → s ≡ q
unambiguous {s} {q} d e = accepted_inj s q (sym (read_whole d) ∙ read_whole e)
