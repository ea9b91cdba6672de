use Rattle.std.proofs.Common.{None}
use Rattle.engine.specs.search.Scenes.{SameSum, Keeps, Takes}
use Rattle.engine.proofs.cause.searching.Search.spread_here.Given as goal

abbrev pub invariant-loop-finding : goal.invariant-loop-finding
invariant-loop-finding l =
    Takes l.fn.self l.from 0 l.finding-index l.self None × SameSum l.fn.self l.self × Keeps l.fn.self l.self
