-- What follows for rules and their texts.
use Rattle.std.specs.Prelude.{◌≡◌, ℕ, ◌<◌, ◌≤◌, ◌↔◌, List, length, take, Ok, Err, codes, Result}
use Rattle.std.specs.List.{AllByRecursion}
use Rattle.systems.specs.declared.refusals.Refusal.TheVariants.{RuleLength, NotARule, NestingDepth, TooManyClauses}
use Rattle.systems.specs.declared.refusals.Fault.{Fault}
use Rattle.systems.specs.Faults.{without_place, at_place}
use Rattle.rules.specs.declared.syntax.Clause.{Clause}
use Rattle.rules.specs.declared.rule.Rule.{Rule}
use Rattle.rules.specs.Formulas.{Formula, MarksBelow}
use Rattle.rules.specs.Clauses.{WellFounded, formula, whole, size, clauses, MarkBelow}
use Rattle.rules.specs.Trees.{Tree, nesting, normal_form}
use Rattle.rules.specs.Grammar.{Spells}
use Rattle.rules.specs.Rules.{clause_list}
use Rattle.rules.specs.Reading.{Sized, NoRule, IsRule, Accepted, Answers}

-- a text spells at most one tree
abbrev pub SpelledOnce : Type 0
SpelledOnce = (text : List ℕ) (s q : Tree) → Spells s text → Spells q text → s ≡ q

-- each answer is given exactly where its conditions hold; an accepted text has the clauses and the nesting of each tree,
-- and so of the one tree, that it spells
pub record Exactly (text : List ℕ) (r : Result Rule Fault) : Type 0 where
  pub unsized : (r ≡ Err (without_place RuleLength)) ↔ (¬ (Sized text))
  pub unruled : (k : ℕ) → (r ≡ Err (at_place NotARule k)) ↔ (Sized text × NoRule text k)
  pub deep : (r ≡ Err (without_place NestingDepth)) ↔ ((s : Tree) × IsRule text s × (32 < nesting s))
  pub many : (r ≡ Err (without_place TooManyClauses)) ↔ ((s : Tree) × IsRule text s × (nesting s ≤ 32) × (64 < size (normal_form s)))
  pub ruled : ((x : Rule) × (r ≡ Ok x)) ↔ ((s : Tree) × IsRule text s × (nesting s ≤ 32) × (size (normal_form s) ≤ 64))
  pub read : (x : Rule) → r ≡ Ok x → (s : Tree) → Spells s text → (clause_list x ≡ clauses (normal_form s)) × (x.nesting ≡ nesting s)

abbrev pub AnsweredExactly : Type 0
AnsweredExactly = (text : List ℕ) (r : Result Rule Fault) → Answers text r → Exactly text r

-- a text over 513 bytes is answered as its first 513 bytes are, so that no more of a line need be kept
abbrev pub CutAlike : Type 0
CutAlike = (line : List ℕ) (r : Result Rule Fault) → Answers (take 513 line) r → Answers line r

-- every rule has 1 to 64 clauses, none of which uses itself or a later one, and marks below 16
pub record SoundRule (r : Rule) : Type 0 where
  pub some : 1 ≤ length (clause_list r)
  pub few : length (clause_list r) ≤ 64
  pub founded : WellFounded (clause_list r)
  pub marks : AllByRecursion (MarkBelow 16) (clause_list r)

abbrev pub EveryRule : Type 0
EveryRule = (r : Rule) → SoundRule r

-- the clauses of a formula stand for it: none uses itself or a later one, and the last is the whole
abbrev pub ListedWhole : Type 0
ListedWhole = (f : Formula) → WellFounded (clauses f) × (length (clauses f) ≡ size f) × (whole (clauses f) ≡ f)

-- so a rule that was read is the formula of the tree that was spelled
abbrev pub ReadFormula : Type 0
ReadFormula = (text : List ℕ) (r : Rule) → (a : Accepted text r) → whole (clause_list r) ≡ normal_form a.spelled

-- the marks of a formula are those of its clauses
abbrev pub MarksListed : Type 0
MarksListed = (n : ℕ) (f : Formula) → MarksBelow n f ↔ AllByRecursion (MarkBelow n) (clauses f)

-- and where the clauses' marks are below n, so are those of the formula of each clause
abbrev pub MarksOfClauses : Type 0
MarksOfClauses = (n : ℕ) (cs : List Clause) → WellFounded cs → AllByRecursion (MarkBelow n) cs → (i : ℕ) → i < length cs → MarksBelow n (formula cs i)

-- the text is refused at a place
abbrev pub RefusedAt : List ℕ → ℕ → Type 0
RefusedAt text k = (r : Result Rule Fault) → Answers text r → r ≡ Err (at_place NotARule k)

abbrev pub Places : Type 0
Places = RefusedAt (codes "p16") 2 × RefusedAt (codes "(p0 & p1") 8 × RefusedAt (codes "A X p0") 1

-- one text reads as another, with n clauses
abbrev pub ReadsAs : List ℕ → List ℕ → ℕ → Type 0
ReadsAs text other n = (s q : Tree) × IsRule text s × IsRule other q × (normal_form s ≡ normal_form q) × (size (normal_form s) ≡ n)

abbrev pub MovedInward : Type 0
MovedInward = ReadsAs (codes "!A(p0 U p1)") (codes "E(!p0 V !p1)") 3
