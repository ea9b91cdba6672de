use Rattle.std.proofs.Common.{◌≡◌, ◌-◌, length}
use Rattle.queue.specs.Held.{room}
use Rattle.engine.specs.search.Scenes.{model_of, count_of, waiting, Keeps}
use Rattle.engine.specs.search.Traces.{Tracing}
use Rattle.engine.proofs.cause.searching.Search.trace.Given as goal

abbrev pub invariant-back : goal.invariant-back
invariant-back l =
    Tracing (model_of l.fn.self.scene).states (count_of l.fn.self.scene) l.start l.initial.at l.fn.self.chain.now (room l.fn.self.links.now) l.at (waiting l.self)
    × (l.self.chain.now ≡ l.fn.self.chain.now) × Keeps l.fn.self l.self

abbrev pub decreases-back : goal.decreases-back
decreases-back l = room l.self.links.now - length (waiting l.self)
