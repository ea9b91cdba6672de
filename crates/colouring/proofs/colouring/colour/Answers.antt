use Rattle.std.proofs.Common.{◌≡◌, ◌*◌, ◌<◌, ◌≤◌, length, subst, ap₂, subst₂, inl, inr}
use Rattle.systems.specs.Written.{table_model}
use Rattle.rules.specs.Rules.{clause_list}
use Rattle.colours.specs.Boards.{positions}
use Rattle.colouring.proofs.Stages.{refused, done}
use Rattle.colouring.proofs.colouring.colour.Goals.{then-board-positions-via-then-board-positions, then-board-positions-via-else-board-positions+then-capacity-positions}
use Rattle.colouring.proofs.colouring.colour.Goals as goal

pub returns-then-board-positions : goal.returns-then-board-positions
returns-then-board-positions c =
    let M = table_model c.args.table.now in
    let cs = clause_list c.args.rule.now in
    let e : c.states.result * c.count.result ≡ positions M cs = ap₂ ◌*◌ c.states.ensures c.count.ensures.is in
    refused M cs c.args.board.now c.args.queue.now (elim c.then-board-positions.branch [
      | then-board-positions-via-then-board-positions w ↦ inl (subst (λ n. length c.args.board.now < n) e w.if-board-positions.true)
      | then-board-positions-via-else-board-positions+then-capacity-positions w ↦ inr (subst₂ (λ k n. k < n) w.capacity.ensures e w.if-capacity-positions.true)
    ])

pub returns : goal.returns
returns c =
    let M = table_model c.args.table.now in
    let cs = clause_list c.args.rule.now in
    let e : c.states.result * c.count.result ≡ positions M cs = ap₂ ◌*◌ c.states.ensures c.count.ensures.is in
    done M cs c.args.board.now c.args.queue.now c.colour_clauses.new.board c.colour_clauses.new.queue
    (subst (λ n. n ≤ length c.args.board.now) e c.if-board-positions.false) (subst₂ (λ n k. n ≤ k) e c.capacity.ensures c.if-capacity-positions.false)
    c.colour_clauses.ensures.becomes c.colour_clauses.ensures.room
