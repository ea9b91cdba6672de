use Rattle.std.proofs.Common.{◌+◌, take, refl, ap, ◌∙◌}
use Rattle.rules.proofs.Filling.{put_kept, put_full}
use Rattle.rules.proofs.clause_list.ClauseList.put.Goals as goal
use Rattle.rules.proofs.clause_list.ClauseList.put.Goals.{then-self-lt-MAX_CLAUSES, else-self-lt-MAX_CLAUSES}

pub returns : goal.returns
returns c =
    let t = c.args.self.now in (
      refl,
      elim c.if-self-lt-MAX_CLAUSES.branch [
        | then-self-lt-MAX_CLAUSES w ↦ ap (λ s. take (t.count + 1) s.1.0) w.self-is ∙ put_kept t c.args.clause w.if-self-lt-MAX_CLAUSES.true
        | else-self-lt-MAX_CLAUSES w ↦ ap (λ s. take (t.count + 1) s.1.0) w.self-is ∙ put_full t c.args.clause w.if-self-lt-MAX_CLAUSES.false
      ],
    )
