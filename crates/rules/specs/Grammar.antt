-- The grammar of rules: which bytes spell which tree.
use Rattle.std.specs.Prelude.{ℕ, ◌+◌, ◌<◌, Bool, true, false, cond, List, [], ◌∷◌, ◌++◌, codes, nat_lt}
use Rattle.rules.specs.declared.syntax.Quantifier.{Quantifier}
use Rattle.rules.specs.declared.syntax.Quantifier.TheVariants.{A, E}
use Rattle.rules.specs.declared.syntax.Operator.{Operator}
use Rattle.rules.specs.declared.syntax.Operator.TheVariants.{And, Or, AU, AV, EU, EV}
use Rattle.rules.specs.declared.pieces.Prefix.{Prefix}
use Rattle.rules.specs.declared.pieces.Prefix.TheVariants.{Not, Next, Globally, Finally}
use Rattle.rules.specs.Trees.{Tree}

abbrev pub digit : Bool → List ℕ
digit true = codes "1"
digit false = codes "0"

-- a number below 20 in tens, without a leading zero; the digit 0 is byte 48
abbrev pub numeral : ℕ → List ℕ
numeral m = cond (nat_lt m 10) ((48 + m) ∷ []) (49 ∷ (38 + m) ∷ [])

abbrev pub letter : Quantifier → List ℕ
letter A = codes "A"
letter E = codes "E"

-- an operator before a rule
abbrev pub in_front : Prefix → List ℕ
in_front Not = codes "!"
in_front (Next k) = letter k ++ codes "X"
in_front (Globally k) = letter k ++ codes "G"
in_front (Finally k) = letter k ++ codes "F"

-- the bracket before two rules
abbrev pub opening : Operator → List ℕ
opening And = codes "("
opening Or = codes "("
opening AU = codes "A("
opening AV = codes "A("
opening EU = codes "E("
opening EV = codes "E("

-- the operator between them
abbrev pub between : Operator → List ℕ
between And = codes "&"
between Or = codes "|"
between AU = codes "U"
between AV = codes "V"
between EU = codes "U"
between EV = codes "V"

-- the text spells the tree; spaces may stand before and after any rule, hence also between pieces
pub data Spells : Tree → List ℕ → Type 0 where
  a_constant : (b : Bool) → Spells (Tree.constant b) (digit b)
  a_mark : (p : ℕ) → p < 16 → Spells (Tree.mark p) (codes "p" ++ numeral p)
  a_prefix : (o : Prefix) {r : Tree} {bs : List ℕ} → Spells r bs → Spells (Tree.unary o r) (in_front o ++ bs)
  a_pair : (o : Operator) {r q : Tree} {bs cs : List ℕ} → Spells r bs → Spells q cs → Spells (Tree.binary o r q) (opening o ++ (bs ++ (between o ++ (cs ++ codes ")"))))
  space_before : {r : Tree} {bs : List ℕ} → Spells r bs → Spells r (codes " " ++ bs)
  space_after : {r : Tree} {bs : List ℕ} → Spells r bs → Spells r (bs ++ codes " ")

-- some rule, of any size, begins with the text
abbrev pub Begins : List ℕ → Type 0
Begins bs = (r : Tree) × (more : List ℕ) × Spells r (bs ++ more)
