use Rattle.engine.proofs.Steps.{spread_both}
use Rattle.engine.proofs.cause.searching.Search.spread.Goals as goal

pub returns-in-None-clause-spread : goal.returns-in-None-clause-spread
returns-in-None-clause-spread c =
    spread_both c.args.self.now c.spread_here.new.self c.spread_across.new.self c.args.from c.in-None.ensures.keeps c.spread_across.result
    c.in-None.ensures.taken c.spread_across.ensures.taken
