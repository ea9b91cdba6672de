-- What holds of every rule, by its ghost field.
use Rattle.std.proofs.Common.{◌≡◌, length, arith}
use Rattle.std.proofs.lemmas.List.{length-take-le}
use Rattle.rules.specs.declared.rule.Rule.{Rule}
use Rattle.rules.specs.Rules.{clause_list}
use Rattle.rules.specs.Theorems.{EveryRule}

pub length_rule : (r : Rule) → length (clause_list r) ≡ r.count
length_rule r = length-take-le r.count r.clauses (omega (arith, r.long, r.few))

pub every_rule : EveryRule
every_rule r = record { some = omega (arith, length_rule r, r.some); few = omega (arith, length_rule r, r.few); founded = r.founded; marks = r.marks }
