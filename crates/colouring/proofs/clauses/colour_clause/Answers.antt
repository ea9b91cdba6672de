use Rattle.std.proofs.Common.{sym, subst, subst₂, arith}
use Rattle.rules.specs.declared.syntax.Clause.TheVariants.{Next, Pair}
use Rattle.rules.specs.Clauses.{PartsBelow}
use Rattle.colouring.specs.passes.Columns.{model, Ordered, LaidFor}
use Rattle.colouring.specs.passes.Clauses.{ShowsClause}
use Rattle.colouring.proofs.Turned.{by_next, constant_clause, mark_clause, next_clause}
use Rattle.colouring.proofs.clauses.colour_clause.Goals as goal

pub returns-in-Constant-clause-shown : goal.returns-in-Constant-clause-shown
returns-in-Constant-clause-shown c =
    let p = c.args.columns.now in
    let b = c.args.board.now in
    let b' = c.fill.new.board in
    let laid = subst (LaidFor p) c.in-Constant.is c.requires.laid in
    subst (λ z. ShowsClause (model p) p.clauses p.whole z b b') (sym c.in-Constant.is) (constant_clause (model p) p b b' p.every_state c.in-Constant.field-0 laid c.fill.ensures)

pub returns-in-Mark-clause-shown : goal.returns-in-Mark-clause-shown
returns-in-Mark-clause-shown c =
    let p = c.args.columns.now in
    let b = c.args.board.now in
    let b' = c.fill_mark.new.board in
    let laid = subst (LaidFor p) c.in-Mark.is c.requires.laid in
    subst (λ z. ShowsClause (model p) p.clauses p.whole z b b') (sym c.in-Mark.is) (mark_clause (model p) p b b' p.every_state c.in-Mark.mark c.in-Mark.negated laid c.fill_mark.ensures.values)

pub returns-in-Next-clause-shown : goal.returns-in-Next-clause-shown
returns-in-Next-clause-shown c =
    let p = c.args.columns.now in
    let b = c.args.board.now in
    let b' = c.look_ahead.new.board in
    let laid = subst (LaidFor p) c.in-Next.is c.requires.laid in
    let low = subst (PartsBelow p.whole) c.in-Next.is c.requires.parts in
    let order : Ordered p = record { whole = c.requires.lies.whole; left = omega (arith, laid.1, low); right = omega (arith, laid.2, low) } in
    subst (λ z. ShowsClause (model p) p.clauses p.whole z b b') (sym c.in-Next.is)
    (subst₂ (λ q z. ShowsClause (model p) p.clauses p.whole (Next q z) b b') (by_next c.in-Next.quantifier p.negated laid.0) laid.1
    (next_clause (model p) p b b' p.every_state (record { board = c.requires.lies.board; order = order }) c.look_ahead.ensures))

pub returns-in-Pair-clause-shown : goal.returns-in-Pair-clause-shown
returns-in-Pair-clause-shown c =
    let p = c.args.columns.now in
    let b = c.args.board.now in
    let b' = c.colour_pair.new.board in
    let laid = subst (LaidFor p) c.in-Pair.is c.requires.laid in
    subst (λ z. ShowsClause (model p) p.clauses p.whole z b b') (sym c.in-Pair.is)
    (subst₂ (λ l r. ShowsClause (model p) p.clauses p.whole (Pair c.in-Pair.operator l r) b b') laid.1 laid.2 c.colour_pair.ensures.shown)
