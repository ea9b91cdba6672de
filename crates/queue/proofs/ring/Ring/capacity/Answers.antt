use Rattle.std.proofs.Common.{sym, arith}
use Rattle.queue.proofs.Rounds.{round_places}
use Rattle.queue.proofs.ring.Ring.capacity.Goals as goal

pub returns : goal.returns
returns g c = rw (← c.self.view_is) (sym (round_places _ _ _ (omega arith) (omega arith)))
