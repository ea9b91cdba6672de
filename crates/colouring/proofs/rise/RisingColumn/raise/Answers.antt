use Rattle.std.proofs.Common.{◌≡◌, ℕ, ◌+◌, ◌<◌, ◌≤◌, ◌≢◌, List, length, set, Result, refl, rules, arith}
use Rattle.std.specs.Result.{IsOk}
use Rattle.systems.specs.declared.kinds.Colour.{Colour}
use Rattle.systems.specs.declared.refusals.Refusal.{Refusal}
use Rattle.systems.specs.Numbers.{colour_number}
use Rattle.colours.specs.Values.{join}
use Rattle.queue.specs.declared.ring.Ring.{Ring}
use Rattle.queue.specs.Held.{held, room, Pushed}
use Rattle.colouring.specs.declared.rise.RisingColumn.{RisingColumn}
use Rattle.colouring.specs.passes.Bytes.{flipped}
use Rattle.colouring.specs.passes.Columns.{cell, column}
use Rattle.colouring.specs.passes.Rising.{left_above, Raised}
use Rattle.colouring.proofs.Placing.{fits_same}
use Rattle.colouring.proofs.Raises.{raised_pushed}
use Rattle.colouring.proofs.rise.RisingColumn.raise.Goals as goal

module _ (r : RisingColumn) (s : ℕ) (v new : Colour) (b' : List ℕ) (q' : Ring ℕ) (x : ℕ) (answer : Result (Unit {0}) Refusal) where
  pushed : s < r.columns.states → new ≡ join (column r.columns r.board.now r.columns.whole s) v → new ≢ column r.columns r.board.now r.columns.whole s
      → b' ≡ set r.board.now (cell r.columns r.columns.whole s) (colour_number (flipped r.columns.negated new)) → x ≡ cell r.columns r.columns.whole s → Pushed r.queue.now x q' answer
      → IsOk answer × (room q' ≡ room r.queue.now) × Raised r.columns r.board.now b' (held r.queue.now) (held q') s v × (length (held q') + left_above r.columns b' ≤ room q')
  pushed low is differs e at = raised_pushed r.columns r.board.now (held r.queue.now) s v new r.fits low is differs b' r.queue.now q' x answer refl e at r.place

pub unwrap-requires : goal.unwrap-requires
unwrap-requires c =
    (pushed c.args.self.now c.args.s c.args.v c.join-new.result _ c.push.new.self c.position.result _ c.requires (search rules) (search rules) c.write.ensures c.position.ensures c.push.ensures).0

pub invariant_of-self : goal.invariant_of-self
invariant_of-self c = record {
  fits = fits_same c.args.self.now.columns c.args.self.now.board.now c.write.new.board (omega arith) c.args.self.now.fits;
  place = (pushed c.args.self.now c.args.s c.args.v c.join-new.result _ c.push.new.self c.position.result _ c.requires (search rules) (search rules) c.write.ensures c.position.ensures c.push.ensures).3;
}

pub returns-then-ne-clause-lifts : goal.returns-then-ne-clause-lifts
returns-then-ne-clause-lifts c =
    (pushed c.args.self.now c.args.s c.args.v c.join-new.result _ c.push.new.self c.position.result _ c.requires (search rules) (search rules) c.write.ensures c.position.ensures c.push.ensures).2
