use Rattle.systems.proofs.Agreeing.{counted_alike}
use Rattle.systems.specs.Written.{table_model}
use Rattle.tables.specs.Files.{file_model}
use Rattle.tables.proofs.vetting.vet.Goals as goal

pub returns : goal.returns
returns c =
    let read = c.in_ok-table.ensures in
    (read.0, counted_alike (file_model c.args.bytes.now) (table_model c.in_ok-table.table) read.1 c.of.result c.of.ensures)
