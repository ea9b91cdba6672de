-- What reading a text answers.
use Rattle.std.specs.Prelude.{◌≡◌, ℕ, ◌+◌, ◌<◌, ◌≤◌, List, length, take, Ok, Err, Result}
use Rattle.systems.specs.Faults.{without_place, at_place}
use Rattle.systems.specs.declared.refusals.Refusal.TheVariants.{RuleLength, NotARule, NestingDepth, TooManyClauses}
use Rattle.systems.specs.declared.refusals.Fault.{Fault}
use Rattle.rules.specs.declared.rule.Rule.{Rule}
use Rattle.rules.specs.Trees.{Tree, nesting, normal_form}
use Rattle.rules.specs.Clauses.{size, clauses}
use Rattle.rules.specs.Grammar.{Spells, Begins}
use Rattle.rules.specs.Rules.{clause_list}

-- 1 to 512 bytes
abbrev pub Sized : List ℕ → Type 0
Sized text = (1 ≤ length text) × (length text ≤ 512)

-- the text is no rule, and k is the first place where none goes on: some rule begins with the first k bytes, and none
-- with one byte more, if there is one
pub record NoRule (text : List ℕ) (k : ℕ) : Type 0 where
  pub unspelled : (s : Tree) → ¬ (Spells s text)
  pub inside : k ≤ length text
  pub begins : Begins (take k text)
  pub ends : k < length text → ¬ (Begins (take (k + 1) text))

-- the text is this rule, and its length is in range
abbrev pub IsRule : List ℕ → Tree → Type 0
IsRule text s = Sized text × Spells s text

-- the text is refused: the first of four conditions that fails
pub data Refused (text : List ℕ) (f : Fault) : Type 0 where
  bad_length : ¬ (Sized text) → f ≡ without_place RuleLength → Refused text f
  no_rule : (k : ℕ) → Sized text → NoRule text k → f ≡ at_place NotARule k → Refused text f
  too_deep : (s : Tree) → IsRule text s → 32 < nesting s → f ≡ without_place NestingDepth → Refused text f
  too_many : (s : Tree) → IsRule text s → nesting s ≤ 32 → 64 < size (normal_form s) → f ≡ without_place TooManyClauses → Refused text f

-- the text is accepted: it spells a tree within the limits, and the rule has the clauses of that tree
pub record Accepted (text : List ℕ) (r : Rule) : Type 0 where
  pub spelled : Tree
  pub is_rule : IsRule text spelled
  pub shallow : nesting spelled ≤ 32
  pub few : size (normal_form spelled) ≤ 64
  pub holds : clause_list r ≡ clauses (normal_form spelled)
  pub depth : r.nesting ≡ nesting spelled

unfoldable pub Answers : List ℕ → Result Rule Fault → Type 0
Answers text (Ok r) = Accepted text r
Answers text (Err f) = Refused text f
