-- A reader of rules that takes one byte at a time and keeps on a stack what it has begun. The recursive reader
-- comes to the same outcome, and what this one accepts is what the grammar spells.
use Rattle.std.specs.Prelude.{ℕ, suc, ◌+◌, cond, List, [], ◌∷◌, length, Some, None, Option, option_map, ◌==◌}
use Rattle.rules.specs.declared.syntax.Quantifier.{Quantifier}
use Rattle.rules.specs.declared.syntax.Operator.{Operator}
use Rattle.rules.specs.declared.pieces.Prefix.{Prefix}
use Rattle.rules.specs.declared.pieces.Bracket.{Bracket}
use Rattle.rules.specs.declared.pieces.Head.{Head}
use Rattle.rules.specs.declared.pieces.Start.{Start}
use Rattle.rules.specs.Trees.{Tree}
use Rattle.rules.specs.reader.Bytes.{start_of, follow_of, joining, digit_of, closes}

-- what a rule is a part of: a prefix before it; a bracket before it; or a bracket, the left rule and the operator
pub data Frame : Type 0 where
  under : Prefix → Frame
  left : Bracket → Frame
  right : Operator → Tree → Frame

-- a rule is wanted, or has been read; or the last byte was the p of a mark, the 1 of p1, or the letter A or E
pub data State : Type 0 where
  want : List Frame → State
  have : Tree → List Frame → State
  digit_wanted after_one : List Frame → State
  letter : Quantifier → List Frame → State

-- the state after the first piece of a rule
abbrev pub headed : Head → List Frame → State
headed (Head.Constant b) k = have (Tree.constant b) k
headed (Head.Mark n) k = have (Tree.mark n) k
headed (Head.Prefix o) k = want (under o ∷ k)
headed (Head.Open c) k = want (left c ∷ k)

-- after a byte that begins a rule
abbrev pub started : Start → List Frame → State
started (Start.Piece h) k = headed h k
started Start.Mark k = digit_wanted k
started (Start.Letter q) k = letter q k

-- after the first digit of a mark: only a 1 may have another after it
abbrev pub after_digit : ℕ → List Frame → State
after_digit n k = cond (n == 1) (after_one k) (have (Tree.mark n) k)

-- a byte after a rule; a space is 32
unfoldable pub after : Tree → List Frame → ℕ → Option State
after s [] b = cond (b == 32) (Some (have s [])) None
after s (under o ∷ k) b = after (Tree.unary o s) k b
after s (left c ∷ k) b = cond (b == 32) (Some (have s (left c ∷ k))) (option_map (λ o. want (right o s ∷ k)) (joining c b))
after s (right o r ∷ k) b = cond (b == 32) (Some (have s (right o r ∷ k))) (option_map (λ _. have (Tree.binary o r s) k) (closes b))

-- a byte after p1
unfoldable pub second : Option ℕ → List Frame → ℕ → Option State
unfolding after
second (Some n) k b = Some (have (Tree.mark (10 + n)) k)
second None k b = after (Tree.mark 1) k b

unfoldable pub step : State → ℕ → Option State
unfolding after second
step (want k) b = cond (b == 32) (Some (want k)) (option_map (λ x. started x k) (start_of b))
step (have s k) b = after s k b
step (digit_wanted k) b = option_map (λ n. after_digit n k) (digit_of 9 b)
step (after_one k) b = second (digit_of 5 b) k b
step (letter q k) b = option_map (λ h. headed h k) (follow_of q b)

-- the rule that was read, or how many bytes were left where no rule goes on
pub data Outcome : Type 0 where
  accepted : Tree → Outcome
  stuck : ℕ → Outcome

unfoldable pub ended : Tree → List Frame → Outcome
ended s [] = accepted s
ended s (under o ∷ k) = ended (Tree.unary o s) k
ended s (left c ∷ k) = stuck 0
ended s (right o r ∷ k) = stuck 0

unfoldable pub finish : State → Outcome
unfolding ended
finish (want k) = stuck 0
finish (have s k) = ended s k
finish (digit_wanted k) = stuck 0
finish (after_one k) = ended (Tree.mark 1) k
finish (letter q k) = stuck 0

abbrev pub continue : Option State → ℕ → (State → Outcome) → Outcome
continue None n f = stuck n
continue (Some σ) n f = f σ

unfoldable pub outcome : State → List ℕ → Outcome
unfolding finish step
outcome σ [] = finish σ
outcome σ (b ∷ bs) = continue (step σ b) (suc (length bs)) (λ τ. outcome τ bs)
