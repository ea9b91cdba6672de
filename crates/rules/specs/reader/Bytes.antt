-- What single bytes of a rule's text mean.
use Rattle.std.specs.Prelude.{ℕ, ◌+◌, ◌-◌, true, false, cond, ◌&&◌, Some, None, Option, ◌==◌, nat_le}
use Rattle.rules.specs.declared.syntax.Quantifier.{Quantifier}
use Rattle.rules.specs.declared.syntax.Operator.{Operator}
use Rattle.rules.specs.declared.pieces.Prefix.{Prefix}
use Rattle.rules.specs.declared.pieces.Bracket.{Bracket}
use Rattle.rules.specs.declared.pieces.Head.{Head}
use Rattle.rules.specs.declared.pieces.Start.{Start}
use Rattle.rules.specs.Trees.{until, release}

-- what a byte begins where a rule is wanted: 0 1 p ! A E (
abbrev pub start_of : ℕ → Option Start
start_of b =
    cond (b == 48) (Some (Start.Piece (Head.Constant false)))
    (cond (b == 49) (Some (Start.Piece (Head.Constant true)))
    (cond (b == 112) (Some Start.Mark)
    (cond (b == 33) (Some (Start.Piece (Head.Prefix Prefix.Not)))
    (cond (b == 65) (Some (Start.Letter Quantifier.A))
    (cond (b == 69) (Some (Start.Letter Quantifier.E))
    (cond (b == 40) (Some (Start.Piece (Head.Open Bracket.Plain))) None))))))

-- what a byte makes of the letter before it: X G F (
abbrev pub follow_of : Quantifier → ℕ → Option Head
follow_of k b =
    cond (b == 88) (Some (Head.Prefix (Prefix.Next k)))
    (cond (b == 71) (Some (Head.Prefix (Prefix.Globally k)))
    (cond (b == 70) (Some (Head.Prefix (Prefix.Finally k)))
    (cond (b == 40) (Some (Head.Open (Bracket.Quantified k))) None)))

-- the operator that a byte is between two rules: & | or U V
abbrev pub joining : Bracket → ℕ → Option Operator
joining Bracket.Plain b = cond (b == 38) (Some Operator.And) (cond (b == 124) (Some Operator.Or) None)
joining (Bracket.Quantified k) b = cond (b == 85) (Some (until k)) (cond (b == 86) (Some (release k)) None)

-- the digit that a byte is, if it is at most `most`; 0 is byte 48
abbrev pub digit_of : ℕ → ℕ → Option ℕ
digit_of most b = cond (nat_le 48 b && nat_le b (48 + most)) (Some (b - 48)) None

-- the end of a bracket
abbrev pub closes : ℕ → Option (Unit {0})
closes b = cond (b == 41) (Some tt) None
