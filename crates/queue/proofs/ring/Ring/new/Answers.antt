use Rattle.std.proofs.Common.{arith}
use Rattle.queue.proofs.Rounds.{round_none, round_places}
use Rattle.queue.proofs.ring.Ring.new.Goals as goal

pub returns : goal.returns
returns g c = record { empty = round_none _ _; room = round_places _ 0 0 (omega arith) (omega arith) }
