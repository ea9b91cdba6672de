use Rattle.std.proofs.Common.{sym, arith}
use Rattle.queue.proofs.Rounds.{round_length}
use Rattle.queue.proofs.ring.Ring.len.Goals as goal

pub returns : goal.returns
returns g c = rw (← c.self.view_is) (sym (round_length _ _ _ (omega arith) (omega arith)))
