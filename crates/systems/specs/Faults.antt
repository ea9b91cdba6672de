-- A fault from a refusal, with the place that is told or without one.
use Rattle.std.specs.Prelude.{ℕ, Some, None}
use Rattle.systems.specs.declared.refusals.Fault.{Fault}
use Rattle.systems.specs.declared.refusals.Refusal.{Refusal}

abbrev pub without_place : Refusal → Fault
without_place r = record { refusal = r; place = None }

abbrev pub at_place : Refusal → ℕ → Fault
at_place r k = record { refusal = r; place = Some k }
