use Rattle.std.proofs.Common.{sym, ◌∙◌, arith, length-set}
use Rattle.queue.proofs.Rounds.{round_push, round_places}
use Rattle.queue.proofs.ring.Ring.push.Goals as goal

pub returns : goal.returns
returns g c =
    let q = c.self.inside in
    let l = length-set q.slots.now c.place_after.result c.args.element in
    let here = round_places q.slots.now q.head q.len (omega arith) (omega arith) in
    rw (← c.self.view_is) (
      omega arith,
      rw c.place_after.ensures (round_push _ _ _ c.args.element (omega arith) (omega arith)),
      round_places _ q.head _ (omega arith) (omega arith) ∙ l ∙ sym here,
    )
