use Rattle.colours.proofs.paths.possible_paths_endless.Goals as goal
use Rattle.colours.proofs.PathsAgree.{possible_paths_endless}

pub returns : goal.returns
returns c = possible_paths_endless
