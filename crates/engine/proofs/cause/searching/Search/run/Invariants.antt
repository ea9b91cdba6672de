use Rattle.engine.specs.search.Searches.{Searching}
use Rattle.engine.specs.search.Scenes.{graph_of, waiting, left_over, Keeps}
use Rattle.engine.proofs.cause.searching.Search.run.Given as goal

abbrev pub invariant-loop-link : goal.invariant-loop-link
invariant-loop-link l =
    Searching (graph_of l.fn.self.scene) l.fn.start l.self.chain.now (waiting l.self) × Keeps l.fn.self l.self

abbrev pub decreases-loop-link : goal.decreases-loop-link
decreases-loop-link l = left_over l.fn.self.scene l.self
