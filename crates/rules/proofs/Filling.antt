-- The list of clauses while it is filled.
use Rattle.std.proofs.Common.{◌≡◌, ℕ, ◌+◌, ◌<◌, ◌≤◌, List, [], ◌∷◌, ◌++◌, length, take, set, min, zero, suc, sym, refl, ap, ◌∙◌, add-one, append_assoc, append-nil, arith, length-append, length-take, take-suc-set}
use lib.Seq.{take-append-le}
use Rattle.std.proofs.lemmas.List.{take_all}
use Rattle.rules.specs.declared.syntax.Clause.{Clause}
use Rattle.rules.specs.declared.clause_list.ClauseList.{ClauseList}
use Rattle.rules.specs.reader.Filling.{kept, Adds}

length_kept : (t : ClauseList) → length (kept t) ≡ min t.count 64
length_kept t = length-take t.count t.clauses ∙ ap (min t.count) t.whole

-- one clause more, where there is room, and where there is none
pub put_kept : (t : ClauseList) (c : Clause) → t.count < 64 → take (t.count + 1) (set t.clauses t.count c) ≡ take 64 (kept t ++ c ∷ [])
put_kept t c l =
    ap (λ n. take n (set t.clauses t.count c)) (add-one t.count)
    ∙ take-suc-set t.clauses t.count c (omega (arith, t.whole))
    ∙ sym (take_all 64 (kept t ++ c ∷ []) (omega (arith, length-append (kept t) (c ∷ []), length_kept t)))

pub put_full : (t : ClauseList) (c : Clause) → 64 ≤ t.count → take (t.count + 1) t.clauses ≡ take 64 (kept t ++ c ∷ [])
put_full t c g =
    take_all (t.count + 1) t.clauses (omega (arith, t.whole))
    ∙ sym (take_all t.count t.clauses (omega (arith, t.whole)))
    ∙ sym (take_all 64 (kept t) (omega (arith, length_kept t)))
    ∙ sym (take-append-le 64 (kept t) (c ∷ []) (omega (arith, length_kept t)))

-- nothing is added
pub adds_none : (t : ClauseList) → Adds t t []
adds_none t = (omega arith, sym (take_all 64 (kept t ++ []) (rw append-nil (omega (arith, length_kept t))) ∙ append-nil (kept t)))

cut_append : {X : Type 0} (n : ℕ) (xs ys : List X) → take n (take n xs ++ ys) ≡ take n (xs ++ ys)
cut_append zero xs ys = refl
cut_append (suc n) [] ys = refl
cut_append (suc n) (x ∷ xs) ys = ap (λ zs. x ∷ zs) (cut_append n xs ys)

-- what is added in two steps
pub adds_join : (t u v : ClauseList) (xs ys : List Clause) → Adds t u xs → Adds u v ys → Adds t v (xs ++ ys)
adds_join t u v xs ys f g = (rw (length-append xs ys) (omega (arith, f.0, g.0)), g.1 ∙ ap (λ zs. take 64 (zs ++ ys)) f.1 ∙ cut_append 64 (kept t ++ xs) ys ∙ ap (take 64) (append_assoc (kept t) xs ys))
