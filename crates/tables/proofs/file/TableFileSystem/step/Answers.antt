use Rattle.std.proofs.Common.{arith}
use Rattle.std.proofs.lemmas.Nat.{mul-add-lt}
use Rattle.tables.proofs.file.TableFileSystem.step.Goals as goal

pub byte_at-requires : goal.byte_at-requires
byte_at-requires c =
    let f = c.args.self.now.bodies in
    omega (arith, f.steps_fill, mul-add-lt c.args.from f.states c.args.to f.states (omega arith) (omega arith))
