use Rattle.std.proofs.Common.{refl, sym, ap, ◌∙◌, arith}
use Rattle.queue.specs.Waiting.{round}
use Rattle.queue.proofs.Rounds.{round_none, round_pop, round_places}
use Rattle.queue.proofs.ring.Ring.pop.Goals as goal

pub returns-then-self-eq0 : goal.returns-then-self-eq0
returns-then-self-eq0 g c =
    let q = c.self.inside in
    rw (← c.self.view_is) (ap (round q.slots.now q.head) c.if-self-eq0.true ∙ round_none _ _, refl)

pub returns : goal.returns
returns g c =
    let q = c.self.inside in
    rw (← c.self.view_is) (
      rw c.place_after-self-inside.ensures (round_pop _ _ _ c.index-self-self.result (omega arith) (omega arith) (omega arith)),
      round_places q.slots.now c.place_after-self-inside.result _ (omega arith) (omega arith) ∙ sym (round_places _ q.head q.len (omega arith) (omega arith)),
    )
