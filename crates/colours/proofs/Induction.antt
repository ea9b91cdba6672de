-- A relation between colourings that the operators respect holds between the colourings of every rule.
use Rattle.std.proofs.Common.{ℕ, suc, ◌<◌, ◌≤◌, max, true, false, arith}
use Rattle.systems.specs.Model.{Model}
use Rattle.rules.specs.declared.syntax.Quantifier.TheVariants.{E}
use Rattle.rules.specs.declared.syntax.Quantifier.TheVariants as quantifiers
use Rattle.rules.specs.declared.syntax.Operator.{Operator}
use Rattle.rules.specs.declared.syntax.Operator.TheVariants.{And, Or, AU, AV, EU, EV}
use Rattle.rules.specs.Formulas.{Formula, constant, mark, next, pair, MarksBelow}
use Rattle.colours.specs.Colours.{Colouring, exchange, true_everywhere, mark_colouring, conjunction, E_next, E_until, E_release, exchanged, joined, colouring}

-- each operator keeps the relation `Holds`, and the marks below n have it
pub record Respected (A C : Model) (n : ℕ) (Holds : Colouring → Colouring → Type 0) : Type 1 where
  pub swap : (a c : Colouring) → Holds a c → Holds (exchange a) (exchange c)
  pub top : Holds true_everywhere true_everywhere
  pub mark : (p : ℕ) → p < n → Holds (mark_colouring A p) (mark_colouring C p)
  pub both : (a b c d : Colouring) → Holds a c → Holds b d → Holds (conjunction a b) (conjunction c d)
  pub next : (a c : Colouring) → Holds a c → Holds (E_next A a) (E_next C c)
  pub until : (a b c d : Colouring) → Holds a c → Holds b d → Holds (E_until A a b) (E_until C c d)
  pub release : (a b c d : Colouring) → Holds a c → Holds b d → Holds (E_release A a b) (E_release C c d)

module _ (A C : Model) (n : ℕ) (Holds : Colouring → Colouring → Type 0) (h : Respected A C n Holds) where
  -- an operator on two parts, with T and F exchanged throughout
  dual : (op op' : Colouring → Colouring → Colouring)
      → ((a b c d : Colouring) → Holds a c → Holds b d → Holds (op a b) (op' c d))
      → (a b c d : Colouring) → Holds a c → Holds b d → Holds (exchanged op a b) (exchanged op' c d)
  dual op op' keeps a b c d k l =
      h.swap (op (exchange a) (exchange b)) (op' (exchange c) (exchange d))
      (keeps (exchange a) (exchange b) (exchange c) (exchange d) (h.swap a c k) (h.swap b d l))

  joined_holds : (o : Operator) (a b c d : Colouring) → Holds a c → Holds b d → Holds (joined A o a b) (joined C o c d)
  joined_holds And = h.both
  joined_holds Or = dual conjunction conjunction h.both
  joined_holds EU = h.until
  joined_holds AV = dual (E_until A) (E_until C) h.until
  joined_holds EV = h.release
  joined_holds AU = dual (E_release A) (E_release C) h.release

  pub related : (f : Formula) → MarksBelow n f → Holds (colouring A f) (colouring C f)
  unfolding colouring
  related (constant true) m = h.top
  related (constant false) m = h.swap true_everywhere true_everywhere h.top
  related (mark p false) m = h.mark p m
  related (mark p true) m = h.swap (mark_colouring A p) (mark_colouring C p) (h.mark p m)
  related (next E r) m = h.next (colouring A r) (colouring C r) (related r m)
  related (next quantifiers.A r) m = h.swap (E_next A (exchange (colouring A r))) (E_next C (exchange (colouring C r)))
      (h.next (exchange (colouring A r)) (exchange (colouring C r)) (h.swap (colouring A r) (colouring C r) (related r m)))
  related (pair o r q) m =
      joined_holds o (colouring A r) (colouring A q) (colouring C r) (colouring C q) (related r m.0) (related q m.1)

-- a number above every mark of the rule
pub marks_of : Formula → ℕ
marks_of (constant b) = 0
marks_of (mark p negated) = suc p
marks_of (next k r) = marks_of r
marks_of (pair o r q) = max (marks_of r) (marks_of q)

more_marks : (n m : ℕ) → n ≤ m → (f : Formula) → MarksBelow n f → MarksBelow m f
more_marks n m h (constant b) k = tt
more_marks n m h (mark p negated) k = omega arith
more_marks n m h (next q r) k = more_marks n m h r k
more_marks n m h (pair o r q) k = (more_marks n m h r k.0, more_marks n m h q k.1)

pub all_marks : (f : Formula) → MarksBelow (marks_of f) f
unfolding marks_of
all_marks (constant b) = tt
all_marks (mark p negated) = omega arith
all_marks (next k r) = all_marks r
all_marks (pair o r q) = (
  more_marks (marks_of r) (max (marks_of r) (marks_of q)) (omega arith) r (all_marks r),
  more_marks (marks_of q) (max (marks_of r) (marks_of q)) (omega arith) q (all_marks q),
)
