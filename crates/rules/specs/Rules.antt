-- What a rule holds.
use Rattle.std.specs.Prelude.{List, take}
use Rattle.rules.specs.declared.syntax.Clause.{Clause}
use Rattle.rules.specs.declared.rule.Rule.{Rule}

-- its clauses, in their order
abbrev pub clause_list : Rule → List Clause
clause_list r = take r.count r.clauses
