-- The system that a table is.
use Rattle.systems.specs.Model.{Model}
use Rattle.systems.specs.Tabled.{written_model}
use Rattle.systems.specs.declared.tabled.Table.{Table}

abbrev pub table_model : Table → Model
table_model t = written_model t.states t.marks t.steps t.values t.starts
