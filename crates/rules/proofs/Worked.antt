-- The worked texts, by computing the outcome of the reader of single bytes.
use Rattle.std.proofs.Common.{codes, refl, arith}
use Rattle.rules.specs.declared.syntax.Operator.{Operator}
use Rattle.rules.specs.declared.pieces.Prefix.{Prefix}
use Rattle.rules.specs.Formulas.{contrary}
use Rattle.rules.specs.Trees.{Tree}
use Rattle.rules.specs.Theorems.{Places, MovedInward}
use Rattle.rules.specs.reader.Machine.{after, second, step, ended, finish, outcome}
use Rattle.rules.proofs.Sound.{sound}
use Rattle.rules.proofs.Whole.{no_rule_from}
use Rattle.rules.proofs.Exact.{answered_exactly}

pub places : Places
unfolding outcome after second step ended finish
places = (
  (λ r a. ((answered_exactly (codes "p16") r a).unruled 2).1 ((omega arith, omega arith), no_rule_from (codes "p16") 2 (omega arith) refl)),
  (λ r a. ((answered_exactly (codes "(p0 & p1") r a).unruled 8).1 ((omega arith, omega arith), no_rule_from (codes "(p0 & p1") 8 (omega arith) refl)),
  (λ r a. ((answered_exactly (codes "A X p0") r a).unruled 1).1 ((omega arith, omega arith), no_rule_from (codes "A X p0") 1 (omega arith) refl)),
)

pub moved_inward : MovedInward
unfolding outcome after second step ended finish contrary
moved_inward =
    let s = Tree.unary Prefix.Not (Tree.binary Operator.AU (Tree.mark 0) (Tree.mark 1)) in
    let q = Tree.binary Operator.EV (Tree.unary Prefix.Not (Tree.mark 0)) (Tree.unary Prefix.Not (Tree.mark 1)) in
    (s, q, ((omega arith, omega arith), sound (codes "!A(p0 U p1)") s refl), ((omega arith, omega arith), sound (codes "E(!p0 V !p1)") q refl), refl, refl)
