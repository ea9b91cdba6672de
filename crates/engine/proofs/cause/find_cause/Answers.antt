use Rattle.std.proofs.Common.{◌*◌, rules, length, ap₂, arith}
use Rattle.systems.specs.Written.{table_model}
use Rattle.rules.specs.Rules.{clause_list}
use Rattle.queue.specs.Held.{room}
use Rattle.engine.specs.Causes.{WorkspacesFit}
use Rattle.engine.proofs.Starting.{sought_none, sought_found}
use Rattle.engine.proofs.cause.find_cause.Goals as goal

pub returns-in_err-start : goal.returns-in_err-start
returns-in_err-start c =
    rw c.from_residual.ensures (sought_none (table_model c.args.table.now) (clause_list c.args.rule.now) c.args.board.now
    (omega (arith, c.count.ensures.is, c.count.ensures.some)) c.args.links.now c.args.chain.now c.in_err-start.ensures)

pub returns : goal.returns
returns c =
    let M = table_model c.args.table.now in
    let cs = clause_list c.args.rule.now in
    let board = c.args.board.now in
    let links = c.args.links.now in
    let chain = c.args.chain.now in
    let n = c.chain_from.new.self in
    let all = ap₂ (λ x y. x * y) c.states.ensures c.count.ensures.is in
    let fits : WorkspacesFit M cs (length board) (room links) (length chain) = record {
      board_fits = omega (arith, all, c.if-board-positions.false);
      links_fit = omega (arith, all, c.if-capacity-positions.false, c.capacity.ensures);
      chain_fits = omega (arith, all, c.if-chain-positions.false);
    } in
    sought_found M cs board (omega (arith, c.count.ensures.is, c.count.ensures.some)) links chain fits c.in_ok-start.start c.in_ok-start.ensures
    n.links.now n.chain.now c.chain_from.result c.chain_from.ensures.found c.chain_from.ensures.keeps.room _ _ (search rules) (search rules)
