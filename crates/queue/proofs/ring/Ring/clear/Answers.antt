use Rattle.std.proofs.Common.{sym, ◌∙◌, arith}
use Rattle.queue.proofs.Rounds.{round_none, round_places}
use Rattle.queue.proofs.ring.Ring.clear.Goals as goal

pub returns : goal.returns
returns g c = record {
  empty = round_none _ _;
  room = rw (← c.self.view_is) (round_places _ 0 0 (omega arith) (omega arith) ∙ sym (round_places _ _ _ (omega arith) (omega arith)));
}
