-- What was lent stays the same from call to call.
use Rattle.std.proofs.Common.{◌≡◌, ℕ, List, ap, ◌∙◌, MutBor}
use Rattle.queue.specs.declared.ring.Ring.{Ring}
use Rattle.colouring.specs.declared.columns.Columns.{Columns}
use Rattle.colouring.specs.passes.Loans.{Kept}

module _ {p p' : Columns} {b b' : MutBor (List ℕ)} {q q' : MutBor (Ring ℕ)} (first : Kept p p' b b' q q') where
  pub kept_trans : {p'' : Columns} {b'' : MutBor (List ℕ)} {q'' : MutBor (Ring ℕ)} → Kept p' p'' b' b'' q' q'' → Kept p p'' b b'' q q''
  kept_trans k = record {
    columns = k.columns ∙ first.columns;
    board = k.board ∙ first.board;
    queue = k.queue ∙ first.queue;
    room = k.room ∙ first.room;
  }

  pub states_kept : p'.states ≡ p.states
  states_kept = ap (λ (p : Columns). p.states) first.columns
