use Rattle.std.proofs.Common.{◌+◌, None}
use Rattle.engine.specs.search.Scenes.{SameSum, Keeps, Takes}
use Rattle.engine.proofs.cause.searching.Search.spread_across.Given as goal

abbrev pub invariant-loop-group : goal.invariant-loop-group
invariant-loop-group l =
    Takes l.fn.self l.from 2 (l.group + 2) l.self None × SameSum l.fn.self l.self × Keeps l.fn.self l.self
