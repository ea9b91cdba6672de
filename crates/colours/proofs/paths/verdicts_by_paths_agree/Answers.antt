use Rattle.colours.proofs.paths.verdicts_by_paths_agree.Goals as goal
use Rattle.colours.proofs.PathsAgree.{verdicts_by_paths_agree}

pub returns : goal.returns
returns c = verdicts_by_paths_agree
