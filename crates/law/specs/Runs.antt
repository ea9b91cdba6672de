-- Runs: calls one after another, each on the ledger that the one before it left.
use Rattle.std.specs.Prelude.{◌≡◌, List, [], ◌∷◌}
use Rattle.systems.specs.Model.{Model}
use Rattle.law.specs.Ledgers.{Ledger}
use Rattle.law.specs.Calls.{Call, Reply, Agrees}

-- a call that was made, its reply, and the ledgers before and after it
pub record Event : Type 0 where
  pub before : Ledger
  pub call : Call
  pub reply : Reply
  pub after : Ledger

abbrev pub Agreed : Model → Event → Type 0
Agreed M e = Agrees M e.before e.call e.reply e.after

-- the events follow each other from the ledger l, and each agrees
abbrev pub Run : Model → Ledger → List Event → Type 0
Run M l [] = Unit {0}
Run M l (e ∷ es) = (e.before ≡ l) × Agreed M e × Run M e.after es

-- the ledger after the events
abbrev pub ledger_after : Ledger → List Event → Ledger
ledger_after l [] = l
ledger_after l (e ∷ es) = ledger_after e.after es
