-- The list of a formula's clauses.
use Rattle.std.proofs.Common.{◌≡◌, ℕ, zero, suc, ◌+◌, ◌-◌, ◌<◌, ◌≤◌, false, ◌⊎◌, List, [], ◌∷◌, ◌++◌, length, get_or, sym, refl, ap, ◌∙◌, subst, ap₂, inl, inr, zero-add, arith, length-append}
use Rattle.std.specs.List.{AllByRecursion}
use Rattle.std.proofs.lemmas.List.{get_or_append_left, get_or-append_right, get_or_push}
use Rattle.std.proofs.lemmas.List.Elements.{All-from_recursion}
use Rattle.std.proofs.lemmas.Bool.{cases_lt}
use Rattle.rules.specs.declared.syntax.Clause.{Clause}
use Rattle.rules.specs.Formulas.{Formula, MarksBelow}
use Rattle.rules.specs.Clauses.{tree, PartsBelow, WellFounded, unrolled, formula, whole, size, numbered, clauses, MarkBelow}
use Rattle.rules.specs.Trees.{normal_form}
use Rattle.rules.specs.Theorems.{ListedWhole, ReadFormula, MarksListed, MarksOfClauses}

-- the clause at a place
abbrev pub at : List Clause → ℕ → Clause
at cs i = get_or cs i (Clause.Constant false)

pub size_pos : (f : Formula) → 1 ≤ size f
size_pos (Formula.constant b) = omega arith
size_pos (Formula.mark p negated) = omega arith
size_pos (Formula.next k r) = omega arith
size_pos (Formula.pair o r q) = omega arith

pub length_numbered : (n : ℕ) (f : Formula) → length (numbered n f) ≡ size f
length_numbered n (Formula.constant b) = refl
length_numbered n (Formula.mark p negated) = refl
length_numbered n (Formula.next k r) = length-append (numbered n r) _ ∙ omega (arith, length_numbered n r)
length_numbered n (Formula.pair o r q) = length-append (numbered n r) _ ∙ omega (arith, length_numbered n r, length-append (numbered (n + size r) q) (Clause.Pair o (n + size r - 1) (n + size r + size q - 1) ∷ []), length_numbered (n + size r) q)

-- where a clause of next or pair stands in its list: in the left part, in the right part, or last
next_left : (n : ℕ) (r : Formula) (c : Clause) (i : ℕ) → i < size r → at (numbered n r ++ c ∷ []) i ≡ at (numbered n r) i
next_left n r c i l = get_or_append_left (numbered n r) (c ∷ []) (Clause.Constant false) i (omega (arith, length_numbered n r))

next_last : (n : ℕ) (r : Formula) (c : Clause) → at (numbered n r ++ c ∷ []) (size r) ≡ c
next_last n r c = get_or_push (numbered n r) c (Clause.Constant false) (size r) (length_numbered n r)

module _ (n : ℕ) (r q : Formula) (c : Clause) where
  abbrev both : List Clause
  both = numbered n r ++ (numbered (n + size r) q ++ c ∷ [])

  pair_left : (i : ℕ) → i < size r → at both i ≡ at (numbered n r) i
  pair_left i l = get_or_append_left (numbered n r) _ (Clause.Constant false) i (omega (arith, length_numbered n r))

  past_left : (i : ℕ) → at both (size r + i) ≡ at (numbered (n + size r) q ++ c ∷ []) i
  past_left i = get_or-append_right (numbered n r) _ (size r) (size r + i) (Clause.Constant false) (length_numbered n r) (omega arith) ∙ ap (at (numbered (n + size r) q ++ c ∷ [])) (omega arith)

  pair_right : (i : ℕ) → i < size q → at both (size r + i) ≡ at (numbered (n + size r) q) i
  pair_right i l = past_left i ∙ next_left (n + size r) q c i l

  pair_last : at both (size r + size q) ≡ c
  pair_last = past_left (size q) ∙ next_last (n + size r) q c

-- a place below size r, or further on
data Place (m i : ℕ) : Type 0 where
  before : i < m → Place m i
  further : (j : ℕ) → i ≡ m + j → Place m i

place : (m i : ℕ) → Place m i
place m i = by (cases_lt i m)
  where
    by : (i < m) ⊎ (m ≤ i) → Place m i
    by (inl l) = before l
    by (inr g) = further (i - m) (omega arith)

-- each clause of a formula has earlier parts
parts_numbered : (f : Formula) (n i : ℕ) → i < size f → PartsBelow (n + i) (at (numbered n f) i)
parts_numbered (Formula.constant b) n zero l = tt
parts_numbered (Formula.constant b) n (suc i) l = absurd (omega arith)
parts_numbered (Formula.mark p negated) n zero l = tt
parts_numbered (Formula.mark p negated) n (suc i) l = absurd (omega arith)
parts_numbered (Formula.next k r) n i l = by (place (size r) i) (λ l. parts_numbered r n i l)
  where
    by : Place (size r) i → (i < size r → PartsBelow (n + i) (at (numbered n r) i)) → PartsBelow (n + i) (at (numbered n (Formula.next k r)) i)
    by (before l) f = subst (PartsBelow (n + i)) (sym (next_left n r _ i l)) (f l)
    by (further j e) f =
        let z : size r ≡ i = omega arith in
        subst (PartsBelow (n + i)) (sym (next_last n r _) ∙ ap (at (numbered n (Formula.next k r))) z) (omega (arith, size_pos r))
parts_numbered (Formula.pair o r q) n i l = by (place (size r) i) (λ l. parts_numbered r n i l) (λ j l. parts_numbered q (n + size r) j l)
  where
    on_right : (j : ℕ) → i ≡ size r + j → Place (size q) j → (j < size q → PartsBelow (n + size r + j) (at (numbered (n + size r) q) j)) → PartsBelow (n + i) (at (numbered n (Formula.pair o r q)) (size r + j))
    on_right j e (before l) f =
        let z : n + size r + j ≡ n + i = omega arith in
        subst (PartsBelow (n + i)) (sym (pair_right n r q _ j l)) (subst (λ m. PartsBelow m (at (numbered (n + size r) q) j)) z (f l))
    on_right j e (further x w) f =
        let z : size r + size q ≡ size r + j = omega arith in
        subst (PartsBelow (n + i)) (sym (pair_last n r q _) ∙ ap (at (numbered n (Formula.pair o r q))) z) (omega (arith, size_pos r, size_pos q), omega (arith, size_pos r, size_pos q))

    by : Place (size r) i → (i < size r → PartsBelow (n + i) (at (numbered n r) i)) → ((j : ℕ) → j < size q → PartsBelow (n + size r + j) (at (numbered (n + size r) q) j)) → PartsBelow (n + i) (at (numbered n (Formula.pair o r q)) i)
    by (before l) f g = subst (PartsBelow (n + i)) (sym (pair_left n r q _ i l)) (f l)
    by (further j e) f g = subst (λ x. PartsBelow (n + i) (at (numbered n (Formula.pair o r q)) x)) (sym e) (on_right j e (place (size q) j) (g j))

all_both : {X : Type 0} (P : X → Type 0) (xs ys : List X) → AllByRecursion P xs → AllByRecursion P ys → AllByRecursion P (xs ++ ys)
all_both P [] ys a b = b
all_both P (x ∷ xs) ys a b = (a.0, all_both P xs ys a.1 b)

all_left : {X : Type 0} (P : X → Type 0) (xs ys : List X) → AllByRecursion P (xs ++ ys) → AllByRecursion P xs
all_left P [] ys a = tt
all_left P (x ∷ xs) ys a = (a.0, all_left P xs ys a.1)

all_right : {X : Type 0} (P : X → Type 0) (xs ys : List X) → AllByRecursion P (xs ++ ys) → AllByRecursion P ys
all_right P [] ys a = a
all_right P (x ∷ xs) ys a = all_right P xs ys a.1

-- the marks of a formula are those of its clauses
marks_numbered : (m n : ℕ) (f : Formula) → MarksBelow m f → AllByRecursion (MarkBelow m) (numbered n f)
marks_numbered m n (Formula.constant b) h = (tt, tt)
marks_numbered m n (Formula.mark p negated) h = (h, tt)
marks_numbered m n (Formula.next k r) h = all_both (MarkBelow m) (numbered n r) _ (marks_numbered m n r h) (tt, tt)
marks_numbered m n (Formula.pair o r q) h =
    all_both (MarkBelow m) (numbered n r) _ (marks_numbered m n r h.0) (all_both (MarkBelow m) (numbered (n + size r) q) _ (marks_numbered m (n + size r) q h.1) (tt, tt))

numbered_marks : (m n : ℕ) (f : Formula) → AllByRecursion (MarkBelow m) (numbered n f) → MarksBelow m f
numbered_marks m n (Formula.constant b) a = tt
numbered_marks m n (Formula.mark p negated) a = a.0
numbered_marks m n (Formula.next k r) a = numbered_marks m n r (all_left (MarkBelow m) (numbered n r) _ a)
numbered_marks m n (Formula.pair o r q) a = (
  numbered_marks m n r (all_left (MarkBelow m) (numbered n r) _ a),
  numbered_marks m (n + size r) q (all_left (MarkBelow m) (numbered (n + size r) q) _ (all_right (MarkBelow m) (numbered n r) _ a)),
)

pub marks_listed : MarksListed
marks_listed m f = (marks_numbered m 0 f, numbered_marks m 0 f)

founded : (f : Formula) → WellFounded (clauses f)
founded f i l = subst (λ n. PartsBelow n (at (clauses f) i)) (zero-add i) (parts_numbered f 0 i (omega (arith, length_numbered 0 f)))

-- the clauses of f stand in the list from n on
abbrev Stands : List Clause → ℕ → Formula → Type 0
Stands cs n f = (i : ℕ) → i < size f → at cs (n + i) ≡ at (numbered n f) i

-- then the last of them has the tree f
unrolled_whole : (f : Formula) (cs : List Clause) (n depth : ℕ) → Stands cs n f → n + size f ≤ depth → unrolled cs depth (n + size f - 1) ≡ f
unfolding unrolled
unrolled_whole f cs n zero h l = absurd (omega (arith, size_pos f))
unrolled_whole (Formula.constant b) cs n (suc depth) h l = ap (tree (unrolled cs depth)) (ap (at cs) (omega arith) ∙ h 0 (omega arith))
unrolled_whole (Formula.mark p negated) cs n (suc depth) h l = ap (tree (unrolled cs depth)) (ap (at cs) (omega arith) ∙ h 0 (omega arith))
unrolled_whole (Formula.next k r) cs n (suc depth) h l =
    ap (tree (unrolled cs depth)) (ap (at cs) (omega arith) ∙ h (size r) (omega arith) ∙ next_last n r _)
    ∙ ap (Formula.next k) (unrolled_whole r cs n depth (λ i l. h i (omega arith) ∙ next_left n r _ i l) (omega arith))
unrolled_whole (Formula.pair o r q) cs n (suc depth) h l =
    ap (tree (unrolled cs depth)) (ap (at cs) (omega arith) ∙ h (size r + size q) (omega arith) ∙ pair_last n r q _)
    ∙ ap₂ (Formula.pair o)
    (unrolled_whole r cs n depth (λ i l. h i (omega arith) ∙ pair_left n r q _ i l) (omega arith))
    (unrolled_whole q cs (n + size r) depth (λ i l. ap (at cs) (omega arith) ∙ h (size r + i) (omega arith) ∙ pair_right n r q _ i l) (omega arith))

pub listed_whole : ListedWhole
unfolding formula
listed_whole f =
    let n = length_numbered 0 f in (
      founded f,
      n,
      ap (λ i. unrolled (clauses f) (suc (i - 1)) (i - 1)) (n ∙ sym (zero-add (size f))) ∙ unrolled_whole f (clauses f) 0 (suc (0 + size f - 1)) (λ i l. ap (at (clauses f)) (zero-add i)) (omega (arith, size_pos f)),
    )

pub read_formula : ReadFormula
read_formula text r a = ap whole a.holds ∙ (listed_whole (normal_form a.spelled)).2

-- the marks of the tree of a clause, from those of its parts
tree_marks : (n i : ℕ) (part : ℕ → Formula) (c : Clause) → MarkBelow n c → PartsBelow i c → ((j : ℕ) → j < i → MarksBelow n (part j)) → MarksBelow n (tree part c)
tree_marks n i part (Clause.Constant b) m p h = tt
tree_marks n i part (Clause.Mark k negated) m p h = m
tree_marks n i part (Clause.Next k r) m p h = h r p
tree_marks n i part (Clause.Pair o r q) m p h = (h r p.0, h q p.1)

unrolled_marks : (n depth : ℕ) (cs : List Clause) → WellFounded cs → AllByRecursion (MarkBelow n) cs → (i : ℕ) → i < length cs → i < depth → MarksBelow n (unrolled cs depth i)
unfolding unrolled
unrolled_marks n zero cs w a i l d = absurd (omega arith)
unrolled_marks n (suc depth) cs w a i l d =
    tree_marks n i (unrolled cs depth) (at cs i) (All-from_recursion (MarkBelow n) cs a i (Clause.Constant false) l) (w i l) (λ j m. unrolled_marks n depth cs w a j (omega arith) (omega arith))

pub marks_of_clauses : MarksOfClauses
unfolding formula
marks_of_clauses n cs w a i l = unrolled_marks n (suc i) cs w a i l (omega arith)
