use Rattle.std.proofs.Common.{rules, ◌<◌, ◌≤◌, ◌∙◌, false, zero-add, arith, ⊎_elim}
use borrow.Author.Tests.{tests}
use Rattle.std.proofs.lemmas.Bool.{cases_lt, le-ltb}
use Rattle.std.proofs.lemmas.List.{get_or-replicate}
use Rattle.systems.specs.Model.{is_start}
use Rattle.systems.proofs.tabled.copying.write_starts.Goals as goal

pub returns : goal.returns
returns g c = λ s l.
    let m = g.S.System.meaning c.args.system.now in
    ⊎_elim
    (λ (low : s < m.states). rw zero-add at (c.fill_row.ensures.row (is_start m) (λ k y q. search (rules, tests)) s false (omega arith)))
    (λ (high : m.states ≤ s). let none = le-ltb s m.states high in c.fill_row.ensures.after s false (omega arith) ∙ rw (c.requires, none) (get_or-replicate 128 s false false l))
    (cases_lt s m.states)
