use Rattle.colours.proofs.paths.walks_and_paths_agree.Goals as goal
use Rattle.colours.proofs.PathsAgree.{walks_and_paths_agree}

pub returns : goal.returns
returns c = walks_and_paths_agree
