use Rattle.std.proofs.Common.{rules}
use Rattle.std.proofs.lemmas.Result.{MatchResult-weaker}
use Rattle.rules.proofs.Scans.{second_read}
use Rattle.rules.proofs.scan.Rest.mark_after_one.Goals as goal

pub returns : goal.returns
returns c = second_read _ _ c.take.result _ _ _ c.take.ensures (λ b o m. search rules) (MatchResult-weaker c.take.result c.map_or.ensures (λ d p. search rules) (λ e p. p))
