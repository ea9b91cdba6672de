-- What the reader of single bytes and the list of clauses say of a whole text.
use Rattle.std.proofs.Common.{◌≡◌, ℕ, zero, suc, eqb, ◌+◌, ◌-◌, ◌≤◌, true, false, List, [], ◌++◌, length, take, Ok, Err, Result, sym, ap, ap₂, ◌∙◌, subst, arith}
use Rattle.std.specs.List.{AllByRecursion}
use Rattle.std.specs.Result.{MatchResult, is_ok}
use Rattle.std.proofs.lemmas.List.{take_all}
use Rattle.rules.specs.declared.pieces.Prefix.{Prefix}
use Rattle.rules.specs.declared.clause_list.ClauseList.{ClauseList}
use Rattle.rules.specs.declared.pieces.Stuck.{Stuck}
use Rattle.rules.specs.declared.reader.Reader.{Reader}
use Rattle.systems.specs.declared.refusals.Fault.{Fault}
use Rattle.systems.specs.declared.refusals.Refusal.TheVariants.{NotARule}
use Rattle.systems.specs.Faults.{at_place}
use Rattle.rules.specs.reader.Parts.{ReadsWhole}
use Rattle.rules.specs.Formulas.{Formula, contrary, MarksBelow}
use Rattle.rules.specs.Clauses.{size, numbered, clauses, WellFounded, MarkBelow}
use Rattle.rules.specs.Trees.{Tree, apply, normal_form}
use Rattle.rules.specs.Grammar.{Spells, a_constant, a_mark, a_prefix, a_pair, space_before, space_after, Begins}
use Rattle.rules.specs.Reading.{Sized, NoRule, Refused, no_rule}
use Rattle.rules.specs.reader.Machine.{want, accepted, stuck, outcome}
use Rattle.rules.specs.reader.Filling.{kept, Adds, polar}
use Rattle.rules.proofs.Listing.{size_pos, length_numbered, listed_whole, marks_listed}
use Rattle.rules.proofs.Sound.{sound}
use Rattle.rules.proofs.Places.{stuck_place}

pub no_rule_from : (text : List ℕ) (k : ℕ) → k ≤ length text → outcome (want []) text ≡ stuck (length text - k) → NoRule text k
no_rule_from text k low e =
    let r = stuck_place text (length text - k) e in
    let z : r.0 ≡ k = omega (arith, r.1) in record {
      unspelled = r.4;
      inside = low;
      begins = subst (λ i. Begins (take i text)) z r.2;
      ends = λ l g. r.3 (omega arith) (let w : k + 1 ≡ suc r.0 = omega arith in subst (λ i. Begins (take i text)) w g);
    }

-- the marks of a spelled rule are below 16
contrary_marks : (n : ℕ) (f : Formula) → MarksBelow n f → MarksBelow n (contrary f)
unfolding contrary
contrary_marks n (Formula.constant b) m = tt
contrary_marks n (Formula.mark p negated) m = m
contrary_marks n (Formula.next k r) m = contrary_marks n r m
contrary_marks n (Formula.pair o r q) m = (contrary_marks n r m.0, contrary_marks n q m.1)

apply_marks : (n : ℕ) (o : Prefix) (f : Formula) → MarksBelow n f → MarksBelow n (apply o f)
apply_marks n Prefix.Not f m = contrary_marks n f m
apply_marks n (Prefix.Next k) f m = m
apply_marks n (Prefix.Globally k) f m = (tt, m)
apply_marks n (Prefix.Finally k) f m = (tt, m)

pub spelled_marks : {s : Tree} {bs : List ℕ} → Spells s bs → MarksBelow 16 (normal_form s)
spelled_marks (a_constant b) = tt
spelled_marks (a_mark p low) = low
spelled_marks (a_prefix o {r} d) = apply_marks 16 o (normal_form r) (spelled_marks d)
spelled_marks (a_pair o d e) = (spelled_marks d, spelled_marks e)
spelled_marks (space_before d) = spelled_marks d
spelled_marks (space_after d) = spelled_marks d

-- what a list holds that began empty
module _ (t u : ClauseList) (s : Tree) (none : t.count ≡ 0) (nothing : kept t ≡ []) (a : Adds t u (numbered t.count (polar false s))) where
  abbrev f : Formula
  f = normal_form s

  pub counted_whole : u.count ≡ size f
  counted_whole = omega (arith, a.0, none, length_numbered t.count f)

  held : kept u ≡ take 64 (clauses f)
  held = a.1 ∙ ap₂ (λ cs n. take 64 (cs ++ numbered n f)) nothing none

  pub taken_whole : u.count ≤ 64 → take u.count u.clauses ≡ clauses f
  taken_whole low = held ∙ take_all 64 (clauses f) (omega (arith, counted_whole, length_numbered 0 f))

  -- it is a rule, if it has not grown too long
  pub some_whole : 1 ≤ u.count
  some_whole = omega (arith, counted_whole, size_pos f)

  pub founded_whole : u.count ≤ 64 → WellFounded (take u.count u.clauses)
  founded_whole low = subst WellFounded (sym (taken_whole low)) (listed_whole f).0

  pub marks_whole : u.count ≤ 64 → MarksBelow 16 f → AllByRecursion (MarkBelow 16) (take u.count u.clauses)
  marks_whole low m = subst (AllByRecursion (MarkBelow 16)) (sym (taken_whole low)) ((marks_listed 16 f).0 m)

-- what was read of a whole text, where an error is turned into a fault at its place
pub whole_ok : (r q : Reader) (w : Result ℕ Stuck) (m : Result ℕ Fault) (Q : Stuck → Type 0) → MatchResult w (λ x. m ≡ Ok x) Q → is_ok m ≡ is_ok w → (n : ℕ) → m ≡ Ok n → ReadsWhole r q w → ReadsWhole r q (Ok n)
whole_ok r q (Ok x) m Q h v n e a = let z : x ≡ n = cc in rw z at a
whole_ok r q (Err d) m Q h v n e a = let g : is_ok m ≡ true = ap is_ok e in let z : ◌≡◌ {A = ℕ} 0 1 = cc in absurd (omega arith)

pub whole_err : (text : List ℕ) (r q : Reader) (w : Result ℕ Stuck) (m : Result ℕ Fault)
    → MatchResult w (λ x. m ≡ Ok x) (λ e. (f : Fault) × (m ≡ Err f) × (f ≡ at_place NotARule (length text - e.left)))
    → (f : Fault) → m ≡ Err f → r.rest ≡ text → ReadsWhole r q w → (k : ℕ) × NoRule text k × (f ≡ at_place NotARule k)
whole_err text r q (Ok x) m h f e t a = let z : ◌≡◌ {A = ℕ} 0 1 = cc in absurd (omega arith)
whole_err text r q (Err d) m h f e t a =
    let g = h.1 in
    let z : h.0 ≡ f = cc in
    let b = rw t at a in
    let i : length text - (length text - d.left) ≡ d.left = omega (arith, b.0) in
    (length text - d.left, no_rule_from text (length text - d.left) (omega arith) (b.1 ∙ ap stuck (sym i)), sym z ∙ h.2)

pub not_empty : (n : ℕ) → false ≡ eqb n 0 → 1 ≤ n
not_empty zero e = let z : ◌≡◌ {A = ℕ} 0 1 = cc in absurd (omega arith)
not_empty (suc n) e = omega arith

pub spells_text : (text rest : List ℕ) (s : Tree) → rest ≡ text → outcome (want []) rest ≡ accepted s → Spells s text
spells_text text rest s e h = subst (Spells s) e (sound rest s h)

pub refused_place : (text : List ℕ) (f g : Fault) → Sized text → g ≡ f → (k : ℕ) × NoRule text k × (f ≡ at_place NotARule k) → Refused text g
refused_place text f g z e h = no_rule h.0 z h.1 (e ∙ h.2)
