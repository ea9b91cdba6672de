-- Rules as they are written.
use Rattle.std.specs.Prelude.{ℕ, suc, max, Bool, true, false}
use Rattle.rules.specs.declared.syntax.Quantifier.{Quantifier}
use Rattle.rules.specs.declared.syntax.Quantifier.TheVariants.{A, E}
use Rattle.rules.specs.declared.syntax.Operator.{Operator}
use Rattle.rules.specs.declared.syntax.Operator.TheVariants.{AU, AV, EU, EV}
use Rattle.rules.specs.declared.pieces.Prefix.{Prefix}
use Rattle.rules.specs.declared.pieces.Prefix.TheVariants.{Not, Next, Globally, Finally}
use Rattle.rules.specs.Formulas.{Formula, contrary}

-- a constant, a mark, `!` or a two-letter operator before a rule, two rules joined
pub data Tree : Type 0 where
  constant : Bool → Tree
  mark : ℕ → Tree
  unary : Prefix → Tree → Tree
  binary : Operator → Tree → Tree → Tree

-- a constant or a mark counts 1, and each operator in the text, `!` too, adds 1 to its deepest part
abbrev pub nesting : Tree → ℕ
nesting (constant b) = 1
nesting (mark p) = 1
nesting (unary o r) = suc (nesting r)
nesting (binary o r q) = suc (max (nesting r) (nesting q))

-- U and V with a quantifier
abbrev pub until : Quantifier → Operator
until A = AU
until E = EU

abbrev pub release : Quantifier → Operator
release A = AV
release E = EV

-- what a prefix makes of a formula: `!` negates it, AGr is A(0 V r), AFr is A(1 U r), and so with E
abbrev pub apply : Prefix → Formula → Formula
apply Not r = contrary r
apply (Next k) r = Formula.next k r
apply (Globally k) r = Formula.pair (release k) (Formula.constant false) r
apply (Finally k) r = Formula.pair (until k) (Formula.constant true) r

-- the rule with each negation moved inward; a tree below `!` has the contrary of its own formula
abbrev pub normal_form : Tree → Formula
normal_form (constant b) = Formula.constant b
normal_form (mark p) = Formula.mark p false
normal_form (unary o r) = apply o (normal_form r)
normal_form (binary o r q) = Formula.pair o (normal_form r) (normal_form q)
