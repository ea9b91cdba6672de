use Rattle.std.proofs.Common.{false, List, length, get_or, ap, ◌∙◌, arith}
use Rattle.systems.specs.Written.{table_model}
use Rattle.rules.specs.declared.syntax.Clause.{Clause}
use Rattle.rules.specs.declared.syntax.Clause.TheVariants.{Constant}
use Rattle.rules.specs.Rules.{clause_list}
use Rattle.rules.proofs.Rules.{every_rule}
use Rattle.colouring.proofs.Stages.{coloured_more, shown_as, only_as}
use Rattle.colouring.proofs.clauses.colour_clauses.Goals as goal

pub loop-number-preserved : goal.loop-number-preserved
loop-number-preserved c =
    let M = table_model c.args.table.now in
    let cs = clause_list c.args.rule.now in
    let p = c.of-columns.result in
    let of = c.of-columns.ensures in
    let i = c.loop-number.number in
    let b = c.loop-number.board in
    let b' = c.colour_clause.new.board in
    let all = c.clauses-clauses.ensures in
    let same = ap table_model of.table in
    let clauses = of.clauses ∙ ap length all in (
      coloured_more M cs c.args.board.now (every_rule c.args.rule.now).founded b b' i (omega (arith, ap length all))
          (shown_as M cs p i same clauses of.whole b b' _ _ (ap (λ (z : List Clause). get_or z i (Constant false)) all) c.colour_clause.ensures.shown)
          (only_as M cs p i same clauses of.whole b b' c.colour_clause.ensures.only) c.loop-number.invariant.0,
      c.colour_clause.ensures.room ∙ c.loop-number.invariant.1,
    )
