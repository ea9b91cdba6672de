use Rattle.std.proofs.Common.{subst}
use Rattle.rules.specs.declared.syntax.Clause.TheVariants.{Pair}
use Rattle.colouring.specs.passes.Columns.{model}
use Rattle.colouring.specs.passes.Clauses.{ShowsClause}
use Rattle.colouring.proofs.Turned.{by_meet, by_until, by_release, meet_clause, until_clause, release_clause}
use Rattle.colouring.proofs.clauses.colour_pair.Goals as goal

pub returns-in-And-clause-shown : goal.returns-in-And-clause-shown
returns-in-And-clause-shown c =
    let p = c.args.columns.now in
    let b = c.args.board.now in
    let b' = c.meet_parts.new.board in
    subst (λ z. ShowsClause (model p) p.clauses p.whole (Pair z p.left p.right) b b') (by_meet c.args.operator p.negated c.requires.turned c.in-And.is)
    (meet_clause (model p) p b b' p.every_state c.requires.fits c.meet_parts.ensures)

pub returns-in-EU-clause-shown : goal.returns-in-EU-clause-shown
returns-in-EU-clause-shown c =
    let p = c.args.columns.now in
    let b = c.args.board.now in
    let b' = c.rise.new.board in
    subst (λ z. ShowsClause (model p) p.clauses p.whole (Pair z p.left p.right) b b') (by_until c.args.operator p.negated c.requires.turned c.in-EU.is)
    (until_clause (model p) p b b' p.every_state c.requires.fits c.rise.ensures.risen.until c.rise.ensures.risen.clean)

pub returns-in-EV-clause-shown : goal.returns-in-EV-clause-shown
returns-in-EV-clause-shown c =
    let p = c.args.columns.now in
    let b = c.args.board.now in
    let b' = c.fall.new.board in
    subst (λ z. ShowsClause (model p) p.clauses p.whole (Pair z p.left p.right) b b') (by_release c.args.operator p.negated c.requires.turned c.in-EV.is)
    (release_clause (model p) p b b' p.every_state c.requires.fits c.fall.ensures.fallen.release c.fall.ensures.fallen.clean)
