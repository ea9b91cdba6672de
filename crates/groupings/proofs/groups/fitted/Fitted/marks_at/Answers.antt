use Rattle.std.proofs.Common.{refl, ◌∙◌, arith, length-set}
use Rattle.std.proofs.lemmas.List.FromFn.{fill_by_all}
use Rattle.systems.specs.Model.{mark_or_unknown}
use Rattle.systems.specs.declared.kinds.Colour.TheVariants.{Undecided}
use Rattle.groupings.proofs.Marks.{asked_none, asked_more, asked_all}
use Rattle.groupings.proofs.groups.fitted.Fitted.marks_at.Goals as goal

pub loop-mark-init : goal.loop-mark-init
loop-mark-init g c = (refl, asked_none (g.S.System.meaning c.args.self.now.system.now) c.args.state)

pub loop-mark-preserved : goal.loop-mark-preserved
loop-mark-preserved g c =
    let M = g.S.System.meaning c.args.self.now.system.now in
    let law = g.S.System.lawful c.args.self.now.system.now in
    let row = c.loop-mark.row in (
      length-set row c.loop-mark.mark c.mark_or_unknown.result ∙ c.loop-mark.invariant.0,
      asked_more M c.args.state c.loop-mark.mark row c.mark_or_unknown.result (omega (arith, law.marks_few, c.loop-mark.invariant.0)) c.mark_or_unknown.ensures.is c.loop-mark.invariant.1,
    )

pub returns : goal.returns
returns g c =
    let M = g.S.System.meaning c.args.self.now.system.now in
    fill_by_all (mark_or_unknown M c.args.state) c.loop-mark.row 16 Undecided c.loop-mark.invariant.0
    (λ p l. asked_all M c.args.state c.loop-mark.mark c.loop-mark.row (omega arith) c.loop-mark.invariant.1 p l)
