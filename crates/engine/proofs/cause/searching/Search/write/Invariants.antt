use Rattle.std.proofs.Common.{length}
use Rattle.engine.specs.search.Scenes.{waiting, Keeps}
use Rattle.engine.specs.search.Traces.{Writing}
use Rattle.engine.proofs.cause.searching.Search.write.Given as goal

abbrev pub invariant-loop-link : goal.invariant-loop-link
invariant-loop-link l =
    Writing (waiting l.initial.self) (waiting l.self) l.self.chain.now × Keeps l.initial.self l.self

abbrev pub decreases-loop-link : goal.decreases-loop-link
decreases-loop-link l = length (waiting l.self)
