use Rattle.colours.proofs.theorems.no_search_runs_dry.Goals as goal
use Rattle.colours.proofs.Chaining.{no_search_runs_dry}

pub returns : goal.returns
returns c = no_search_runs_dry
