-- What the calls that ask a study colour.
use Rattle.std.specs.Prelude.{◌≡◌}
use Rattle.std.specs.List.{AllByRecursion}
use Rattle.systems.specs.Model.{Model, Agree}
use Rattle.systems.specs.Written.{table_model}
use Rattle.rules.specs.Clauses.{MarkBelow}
use Rattle.rules.specs.Rules.{clause_list}
use Rattle.law.specs.Ledgers.{Ledger, model}
use Rattle.study.specs.declared.study.written.Written.{Written}

-- the table agrees with the groups of the ledger, and the rule is the ledger's, with marks that exist
pub record WrittenFor (M : Model) (l : Ledger) (w : Written) : Type 0 where
  pub agree : Agree (model M l) (table_model w.table)
  pub rule : clause_list w.rule ≡ l.rule
  pub known : AllByRecursion (MarkBelow M.marks) (clause_list w.rule)
