use Rattle.std.proofs.Common.{rules}
use Rattle.rules.proofs.Scans.{followed}
use Rattle.rules.proofs.scan.Rest.after_letter.Goals as goal

pub returns : goal.returns
returns c = followed c.args.quantifier _ _ _ _ _ c.take.ensures (λ b o m. search rules)
