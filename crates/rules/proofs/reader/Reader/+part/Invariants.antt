use Rattle.std.proofs.Common.{length}
use Rattle.rules.proofs.reader.Reader.+part.Given as goal

abbrev pub decreases-part : goal.decreases-part
decreases-part l = length l.self.now.rest
