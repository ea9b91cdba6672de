use Rattle.std.proofs.Common.{Ok, arith, rules}
use Rattle.rules.specs.declared.pieces.Head.{Head}
use Rattle.rules.specs.reader.Machine.{want, headed}
use Rattle.rules.specs.reader.Scans.{Reads}
use Rattle.rules.proofs.Parts.{counted, leading_short, part_stops, part_constant, part_mark, part_prefix, operator_stops, right_stops, closing_stops, part_pair}
use Rattle.rules.proofs.reader.Reader.+part.Goals as goal

pub overflow_sub-last : goal.overflow_sub-last
overflow_sub-last t c = let n = counted _ _ _ _ c.in_ok-nesting-in-Prefix.ensures in omega arith

pub extend-requires-in-Prefix : goal.extend-requires-in-Prefix
extend-requires-in-Prefix t c =
    let n = counted _ _ _ _ c.in_ok-nesting-in-Prefix.ensures in
    let f = c.in_ok-value.ensures in
    omega (arith, f.0, leading_short c.in-Prefix.prefix c.args.negated, (rw c.leading.ensures at c.extend.ensures).0)

pub overflow_sub-left : goal.overflow_sub-left
overflow_sub-left t c = let n = counted _ _ _ _ c.in_ok-left_nesting-in-Open.ensures in omega arith

pub returns-in_err-operator-in-Open : goal.returns-in_err-operator-in-Open
returns-in_err-operator-in-Open t c =
    let h : Reads want headed c.args.self.now.rest c.first_piece.new.self (Ok (Head.Open c.in-Open.bracket)) = rw c.in-Open.is at c.in_ok-value.ensures in
    part_stops _ _ _ _ _ c.from_residual-in_err-operator-in-Open.ensures.1 (operator_stops c.args.negated c.args.self.now c.in-Open.bracket _ h c.part-in-Open.new.self _ c.in_ok-left_nesting-in-Open.ensures _ c.in_err-operator-in-Open.ensures)

pub part-requires-in-Open-2 : goal.part-requires-in-Open-2
part-requires-in-Open-2 t c =
    let n = counted _ _ _ _ c.in_ok-left_nesting-in-Open.ensures in
    let f = c.in_ok-value.ensures in
    let g = c.in_ok-operator-in-Open.ensures in
    (search rules, omega (arith, f.0, g.0))

pub returns-in_err-right_nesting-in-Open : goal.returns-in_err-right_nesting-in-Open
returns-in_err-right_nesting-in-Open t c =
    let h : Reads want headed c.args.self.now.rest c.first_piece.new.self (Ok (Head.Open c.in-Open.bracket)) = rw c.in-Open.is at c.in_ok-value.ensures in
    part_stops _ _ _ _ _ c.from_residual-in_err-right_nesting-in-Open.ensures.1 (right_stops c.args.negated c.args.self.now c.in-Open.bracket _ h c.part-in-Open.new.self _ c.in_ok-left_nesting-in-Open.ensures _ _ c.in_ok-operator-in-Open.ensures _ c.in_err-right_nesting-in-Open.ensures)

pub overflow_sub-right : goal.overflow_sub-right
overflow_sub-right t c = let n = counted _ _ _ _ c.in_ok-right_nesting-in-Open.ensures in omega arith

pub returns-in_err-closing-in-Open : goal.returns-in_err-closing-in-Open
returns-in_err-closing-in-Open t c =
    let h : Reads want headed c.args.self.now.rest c.first_piece.new.self (Ok (Head.Open c.in-Open.bracket)) = rw c.in-Open.is at c.in_ok-value.ensures in
    part_stops _ _ _ _ _ c.from_residual-in_err-closing-in-Open.ensures.1 (closing_stops c.args.negated c.args.self.now c.in-Open.bracket _ h c.part-in-Open.new.self _ c.in_ok-left_nesting-in-Open.ensures _ _ c.in_ok-operator-in-Open.ensures c.part-in-Open-2.new.self _ c.in_ok-right_nesting-in-Open.ensures _ c.in_err-closing-in-Open.ensures)

pub put-requires-in-Open : goal.put-requires-in-Open
put-requires-in-Open t c =
    let n = counted _ _ _ _ c.in_ok-left_nesting-in-Open.ensures in
    let m = counted _ _ _ _ c.in_ok-right_nesting-in-Open.ensures in
    let f = c.in_ok-value.ensures in
    let g = c.in_ok-operator-in-Open.ensures in
    omega (arith, f.0, g.0)

pub returns-in-Constant : goal.returns-in-Constant
returns-in-Constant t c =
    let h : Reads want headed c.args.self.now.rest c.first_piece.new.self (Ok (Head.Constant c.in-Constant.value)) = rw c.in-Constant.is at c.in_ok-value.ensures in
    part_constant _ _ _ _ h (rw c.under.ensures at c.put.ensures)

pub returns-in-Mark : goal.returns-in-Mark
returns-in-Mark t c =
    let h : Reads want headed c.args.self.now.rest c.first_piece.new.self (Ok (Head.Mark c.in-Mark.mark)) = rw c.in-Mark.is at c.in_ok-value.ensures in
    part_mark _ _ _ _ h c.put-in-Mark.ensures

pub returns-in_ok-nesting-in-Prefix : goal.returns-in_ok-nesting-in-Prefix
returns-in_ok-nesting-in-Prefix t c =
    let h : Reads want headed c.args.self.now.rest c.first_piece.new.self (Ok (Head.Prefix c.in-Prefix.prefix)) = rw c.in-Prefix.is at c.in_ok-value.ensures in
    part_prefix c.args.negated c.args.self.now c.in-Prefix.prefix (record { rest = c.first_piece.new.self; list = c.extend.new.self }) h c.part.new.self _ _ (rw c.leading.ensures at c.extend.ensures) (rw c.negates.ensures at c.in_ok-nesting-in-Prefix.ensures) (rw c.trailing.ensures at c.extend-in-Prefix.ensures)

pub returns-in_ok-closing-in-Open : goal.returns-in_ok-closing-in-Open
returns-in_ok-closing-in-Open t c =
    let h : Reads want headed c.args.self.now.rest c.first_piece.new.self (Ok (Head.Open c.in-Open.bracket)) = rw c.in-Open.is at c.in_ok-value.ensures in
    rw c.max.ensures (part_pair c.args.negated c.args.self.now c.in-Open.bracket _ h c.part-in-Open.new.self _ c.in_ok-left_nesting-in-Open.ensures _ _ c.in_ok-operator-in-Open.ensures c.part-in-Open-2.new.self _ c.in_ok-right_nesting-in-Open.ensures _ _ c.in_ok-closing-in-Open.ensures (rw c.under-operator.ensures at c.put-in-Open.ensures))
