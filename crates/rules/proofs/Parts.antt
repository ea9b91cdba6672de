-- What the recursive reader does, from what its parts do.
use Rattle.std.proofs.Common.{◌≡◌, ℕ, ◌+◌, ◌-◌, ◌*◌, ◌<◌, ◌≤◌, max, Bool, true, false, cond, not, List, [], ◌∷◌, ◌++◌, length, drop, eqb, Ok, Result, sym, refl, ap, ◌∙◌, subst, ap₂, append-nil, add-zero, length-drop, arith}
use Rattle.std.specs.Prelude.{option_to_list}
use Rattle.std.specs.Result.{IsErrAnd}
use Rattle.std.proofs.lemmas.Bool.{eqb-true}
use Rattle.std.proofs.lemmas.Result.{err_from_is_err_and}
use Rattle.rules.specs.declared.pieces.Prefix.{Prefix}
use Rattle.rules.specs.declared.syntax.Operator.{Operator}
use Rattle.rules.specs.declared.pieces.Bracket.{Bracket}
use Rattle.rules.specs.declared.pieces.Head.{Head}
use Rattle.rules.specs.declared.pieces.Stuck.{Stuck}
use Rattle.rules.specs.declared.syntax.Clause.{Clause}
use Rattle.rules.specs.declared.clause_list.ClauseList.{ClauseList}
use Rattle.rules.specs.declared.reader.Reader.{Reader}
use Rattle.rules.specs.Formulas.{other_operator, contrary}
use Rattle.rules.specs.Clauses.{size, numbered}
use Rattle.rules.specs.Trees.{Tree, normal_form}
use Rattle.rules.specs.reader.Machine.{under, left, right, want, have, headed, after, step, accepted, stuck, ended, finish, outcome}
use Rattle.rules.specs.reader.Filling.{Adds, polar, flip, leading, trailing}
use Rattle.rules.specs.reader.Scans.{spaces, Stops, Reads, between_rules, joined_by, in_bracket, closed}
use Rattle.rules.specs.reader.Parts.{PartRead, ReadsPart}
use Rattle.rules.proofs.Steps.{stays, under_read, spacious_have, skipped, no_space}
use Rattle.rules.proofs.Filling.{adds_join}
use Rattle.rules.proofs.Contrary.{contrary_contrary}
use Rattle.rules.proofs.Listing.{size_pos, length_numbered}

-- the clauses of a rule after a prefix, and of two rules joined
numbered_prefix : (n : ℕ) (o : Prefix) (negated : Bool) (r : Tree) → numbered n (polar negated (Tree.unary o r)) ≡ option_to_list (leading o negated) ++ (numbered (n + length (option_to_list (leading o negated))) (polar (flip o negated) r) ++ option_to_list (trailing o negated n (n + length (option_to_list (leading o negated)) + size (polar (flip o negated) r) - 1)))
unfolding contrary
numbered_prefix n Prefix.Not false r = rw (add-zero, append-nil) refl
numbered_prefix n Prefix.Not true r = rw (contrary_contrary, add-zero, append-nil) refl
numbered_prefix n (Prefix.Next q) false r = rw add-zero refl
numbered_prefix n (Prefix.Next q) true r = rw add-zero refl
numbered_prefix n (Prefix.Globally q) false r = let e : n + 1 - 1 ≡ n = omega arith in rw e refl
numbered_prefix n (Prefix.Globally q) true r = let e : n + 1 - 1 ≡ n = omega arith in rw e refl
numbered_prefix n (Prefix.Finally q) false r = let e : n + 1 - 1 ≡ n = omega arith in rw e refl
numbered_prefix n (Prefix.Finally q) true r = let e : n + 1 - 1 ≡ n = omega arith in rw e refl

numbered_pair : (n : ℕ) (o : Operator) (negated : Bool) (r q : Tree) → numbered n (polar negated (Tree.binary o r q)) ≡ numbered n (polar negated r) ++ (numbered (n + size (polar negated r)) (polar negated q) ++ Clause.Pair (cond negated (other_operator o) o) (n + size (polar negated r) - 1) (n + size (polar negated r) + size (polar negated q) - 1) ∷ [])
unfolding contrary
numbered_pair n o false r q = refl
numbered_pair n o true r q = refl

size_pair : (o : Operator) (negated : Bool) (r q : Tree) → size (polar negated (Tree.binary o r q)) ≡ size (polar negated r) + (size (polar negated q) + 1)
unfolding contrary
size_pair o false r q = refl
size_pair o true r q = refl

size_prefix : (o : Prefix) (negated : Bool) (r : Tree) → size (polar negated (Tree.unary o r)) ≤ size (polar (flip o negated) r) + 2
unfolding contrary
size_prefix Prefix.Not false r = omega arith
size_prefix Prefix.Not true r = omega (arith, ap size (contrary_contrary (normal_form r)))
size_prefix (Prefix.Next q) false r = omega arith
size_prefix (Prefix.Next q) true r = omega arith
size_prefix (Prefix.Globally q) false r = omega arith
size_prefix (Prefix.Globally q) true r = omega arith
size_prefix (Prefix.Finally q) false r = omega arith
size_prefix (Prefix.Finally q) true r = omega arith

pub leading_short : (o : Prefix) (negated : Bool) → length (option_to_list (leading o negated)) ≤ 1
leading_short Prefix.Not negated = omega arith
leading_short (Prefix.Next q) negated = omega arith
leading_short (Prefix.Globally q) negated = omega arith
leading_short (Prefix.Finally q) negated = omega arith

-- how many clauses were added, and how far the reader went
pub counted : (negated : Bool) (r q : Reader) (depth : ℕ) → PartRead negated r q depth → (r.list.count < q.list.count) × (q.list.count + 2 * length q.rest ≤ r.list.count + 2 * length r.rest) × (length q.rest < length r.rest)
counted negated r q depth p =
    let e = length_numbered r.list.count (polar negated p.spelled) in
    let l = size_pos (polar negated p.spelled) in
    let g = p.adds.0 in
    let b = p.few in
    (omega arith, omega arith, omega arith)

-- where no rule goes on
pub part_stops : (negated : Bool) (r q : Reader) (e : Stuck) (a : Result ℕ Stuck) → IsErrAnd a (λ d. d ≡ e) → Stops want r.rest e.left → ReadsPart negated r q a
part_stops negated r q e a h s = let p = err_from_is_err_and a h in rw (p.1, p.2) s

-- the end of a text, and bytes after the rule
ended_read : (s : Tree) (bs : List ℕ) → length bs ≡ 0 → outcome (have s []) bs ≡ accepted s
unfolding outcome finish ended
ended_read s [] e = refl
ended_read s (b ∷ bs) e = absurd (omega (arith, e))

more_read : (s : Tree) (bs : List ℕ) → false ≡ eqb (length bs) 0 → ((b : ℕ) (cs : List ℕ) → bs ≡ b ∷ cs → eqb b 32 ≡ false) → outcome (have s []) bs ≡ stuck (length bs)
unfolding step after
more_read s [] e n = let z : ◌≡◌ {A = ℕ} 0 1 = cc in absurd (omega arith)
more_read s (b ∷ bs) e n = stays (have s []) b bs (rw (n b bs refl) refl)

-- the forms of a rule
pub part_constant : (negated v : Bool) (r q : Reader) → Reads want headed r.rest q.rest (Ok (Head.Constant v)) → Adds r.list q.list (Clause.Constant (cond negated (not v) v) ∷ []) → PartRead negated r q 1
unfolding contrary
part_constant true v r q h a = record { spelled = Tree.constant v; leads = h.1; nested = refl; adds = a; few = omega (arith, h.0); shallow = omega (arith, h.0) }
part_constant false v r q h a = record { spelled = Tree.constant v; leads = h.1; nested = refl; adds = a; few = omega (arith, h.0); shallow = omega (arith, h.0) }

pub part_mark : (negated : Bool) (m : ℕ) (r q : Reader) → Reads want headed r.rest q.rest (Ok (Head.Mark m)) → Adds r.list q.list (Clause.Mark m negated ∷ []) → PartRead negated r q 1
unfolding contrary
part_mark true m r q h a = record { spelled = Tree.mark m; leads = h.1; nested = refl; adds = a; few = omega (arith, h.0); shallow = omega (arith, h.0) }
part_mark false m r q h a = record { spelled = Tree.mark m; leads = h.1; nested = refl; adds = a; few = omega (arith, h.0); shallow = omega (arith, h.0) }

module _ (negated : Bool) (r : Reader) where
  module _ (o : Prefix) (r₁ : Reader) (h : Reads want headed r.rest r₁.rest (Ok (Head.Prefix o))) where
    pub prefix_stops : (n : ℕ) → Stops want r₁.rest n → Stops want r.rest n
    prefix_stops n s = (omega (arith, h.0, s.0), λ k. h.1 k ∙ s.1 (under o ∷ k))

    pub part_prefix : (r₂ : Reader) (u : ClauseList) (depth : ℕ) → Adds r.list r₁.list (option_to_list (leading o negated)) → PartRead (flip o negated) r₁ r₂ depth → Adds r₂.list u (option_to_list (trailing o negated r.list.count (r₂.list.count - 1))) → PartRead negated r (record { rest = r₂.rest; list = u }) (depth + 1)
    part_prefix r₂ u depth a p b =
        let s = p.spelled in
        let inner = flip o negated in
        let z = length_numbered r₁.list.count (polar inner s) in
        let n₁ : r₁.list.count ≡ r.list.count + length (option_to_list (leading o negated)) = a.0 in
        let n₂ : r₂.list.count - 1 ≡ r.list.count + length (option_to_list (leading o negated)) + size (polar inner s) - 1 = omega (arith, p.adds.0) in
        record {
          spelled = Tree.unary o s;
          leads = λ k. h.1 k ∙ p.leads (under o ∷ k) ∙ under_read o s k r₂.rest;
          nested = omega (arith, p.nested);
          adds = subst (Adds r.list u) (joined s n₁ n₂) (adds_join r.list r₁.list u _ _ a (adds_join r₁.list r₂.list u _ _ p.adds b));
          few = omega (arith, h.0, size_prefix o negated s, p.few);
          shallow = omega (arith, h.0, p.shallow);
        }
      where
        joined : (s : Tree) → r₁.list.count ≡ r.list.count + length (option_to_list (leading o negated)) → r₂.list.count - 1 ≡ r.list.count + length (option_to_list (leading o negated)) + size (polar (flip o negated) s) - 1 → option_to_list (leading o negated) ++ (numbered r₁.list.count (polar (flip o negated) s) ++ option_to_list (trailing o negated r.list.count (r₂.list.count - 1))) ≡ numbered r.list.count (polar negated (Tree.unary o s))
        joined s n₁ n₂ = rw (n₁, n₂) (sym (numbered_prefix r.list.count o negated s))

  module _ (c : Bracket) (x₀ : List ℕ) (h : Reads want headed r.rest x₀ (Ok (Head.Open c))) where
    pub left_stops : (n : ℕ) → Stops want x₀ n → Stops want r.rest n
    left_stops n s = (omega (arith, h.0, s.0), λ k. h.1 k ∙ s.1 (left c ∷ k))

    module _ (r₁ : Reader) (m : ℕ) (p : PartRead negated (record { rest = x₀; list = r.list }) r₁ m) where
      far : length r₁.rest < length r.rest
      far = omega (arith, h.0, (counted negated _ r₁ m p).2)

      pub operator_stops : (n : ℕ) → Stops (between_rules c) r₁.rest n → Stops want r.rest n
      operator_stops n s = (omega (arith, far, s.0), λ k. h.1 k ∙ p.leads (left c ∷ k) ∙ s.1 (p.spelled, k))

      module _ (o : Operator) (x₁ : List ℕ) (g : Reads (between_rules c) joined_by r₁.rest x₁ (Ok o)) where
        pub right_stops : (n : ℕ) → Stops want x₁ n → Stops want r.rest n
        right_stops n s = (omega (arith, far, g.0, s.0), λ k. h.1 k ∙ p.leads (left c ∷ k) ∙ g.1 (p.spelled, k) ∙ s.1 (right o p.spelled ∷ k))

        module _ (r₂ : Reader) (n : ℕ) (q : PartRead negated (record { rest = x₁; list = r₁.list }) r₂ n) where
          further : length r₂.rest < length x₁
          further = (counted negated _ r₂ n q).2

          pub closing_stops : (j : ℕ) → Stops in_bracket r₂.rest j → Stops want r.rest j
          closing_stops j s = (omega (arith, far, further, g.0, s.0), λ k. h.1 k ∙ p.leads (left c ∷ k) ∙ g.1 (p.spelled, k) ∙ q.leads (right o p.spelled ∷ k) ∙ s.1 ((o, p.spelled), (q.spelled, k)))

          pub part_pair : (x₂ : List ℕ) (u : ClauseList) → Reads in_bracket closed r₂.rest x₂ (Ok tt) → Adds r₂.list u (Clause.Pair (cond negated (other_operator o) o) (r₁.list.count - 1) (r₂.list.count - 1) ∷ []) → PartRead negated r (record { rest = x₂; list = u }) (max m n + 1)
          part_pair x₂ u e b =
              let s = p.spelled in
              let v = q.spelled in
              let z₁ = length_numbered r.list.count (polar negated s) in
              let z₂ = length_numbered r₁.list.count (polar negated v) in
              let n₁ : r₁.list.count ≡ r.list.count + size (polar negated s) = omega (arith, p.adds.0) in
              let n₂ : r₂.list.count ≡ r.list.count + size (polar negated s) + size (polar negated v) = omega (arith, q.adds.0) in
              record {
                spelled = Tree.binary o s v;
                leads = λ k. h.1 k ∙ p.leads (left c ∷ k) ∙ g.1 (s, k) ∙ q.leads (right o s ∷ k) ∙ e.1 ((o, s), (v, k));
                nested = ap₂ (λ a b. max a b + 1) p.nested q.nested ∙ omega arith;
                adds = subst (Adds r.list u) (joined n₁ n₂) (adds_join r.list r₁.list u _ _ p.adds (adds_join r₁.list r₂.list u _ _ q.adds b));
                few = omega (arith, size_pair o negated s v, p.few, q.few, h.0, g.0, e.0);
                shallow = omega (arith, p.shallow, q.shallow, h.0, g.0, e.0);
              }
            where
              joined : r₁.list.count ≡ r.list.count + size (polar negated p.spelled) → r₂.list.count ≡ r.list.count + size (polar negated p.spelled) + size (polar negated q.spelled) → numbered r.list.count (polar negated p.spelled) ++ (numbered r₁.list.count (polar negated q.spelled) ++ Clause.Pair (cond negated (other_operator o) o) (r₁.list.count - 1) (r₂.list.count - 1) ∷ []) ≡ numbered r.list.count (polar negated (Tree.binary o p.spelled q.spelled))
              joined n₁ n₂ = rw (n₁, n₂) (sym (numbered_pair r.list.count o negated p.spelled q.spelled))

-- the whole text: what is left after the rule and the spaces behind it
module _ (r q : Reader) (depth : ℕ) (p : PartRead false r q depth) (end : List ℕ) (skip : end ≡ drop (spaces q.rest) q.rest) where
  at_end : outcome (want []) r.rest ≡ outcome (have p.spelled []) end
  at_end = p.leads [] ∙ skipped (have p.spelled []) q.rest (spacious_have p.spelled []) ∙ ap (outcome (have p.spelled [])) (sym skip)

  pub whole_read : true ≡ eqb (length end) 0 → outcome (want []) r.rest ≡ accepted p.spelled
  whole_read e = at_end ∙ ended_read p.spelled end (eqb-true _ 0 (sym e))

  pub whole_stops : (n : ℕ) → n ≡ length end → false ≡ eqb (length end) 0 → (n ≤ length r.rest) × (outcome (want []) r.rest ≡ stuck n)
  whole_stops n l e =
      let far = counted false r q depth p in
      (omega (arith, length-drop (spaces q.rest) q.rest, ap length skip), at_end ∙ more_read p.spelled end e (λ b bs f. no_space q.rest b bs (sym skip ∙ f)) ∙ ap stuck (sym l))
