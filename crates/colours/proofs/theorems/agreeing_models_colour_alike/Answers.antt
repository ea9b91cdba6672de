use Rattle.colours.proofs.theorems.agreeing_models_colour_alike.Goals as goal
use Rattle.colours.proofs.Agreement.{agreeing_models_colour_alike}

pub returns : goal.returns
returns c = agreeing_models_colour_alike
