use Rattle.std.proofs.Common.{◌≡◌}
use Rattle.queue.specs.Held.{room}
use Rattle.systems.specs.Written.{table_model}
use Rattle.rules.specs.Rules.{clause_list}
use Rattle.colouring.proofs.Stages.{ColouredBelow}
use Rattle.colouring.proofs.clauses.colour_clauses.Given as goal

abbrev pub invariant-loop-number : goal.invariant-loop-number
invariant-loop-number l = ColouredBelow (table_model l.table) (clause_list l.rule) l.initial.board l.board l.number × (room l.queue ≡ room l.initial.queue)
