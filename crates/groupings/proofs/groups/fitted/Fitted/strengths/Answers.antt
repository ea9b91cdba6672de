use Rattle.std.proofs.Common.{◌≡◌, ◌<◌, length, get_or, refl, ap, ◌∙◌, arith, length-set}
use Rattle.std.proofs.lemmas.List.{get_or-replicate}
use Rattle.std.proofs.lemmas.List.FromFn.{fill_by_all}
use Rattle.systems.specs.declared.kinds.Step.TheVariants.{Absent}
use Rattle.colours.specs.Groupings.{surer, surest, strength, step_into}
use Rattle.groupings.specs.Joined.{asked}
use Rattle.groupings.specs.Members.{group_of}
use Rattle.groupings.specs.Memberships.{groups_of}
use Rattle.groupings.proofs.Strengths.{gathered_more}
use Rattle.groupings.proofs.groups.fitted.Fitted.strengths.Goals as goal

pub loop-to-init : goal.loop-to-init
loop-to-init g c = (refl, λ h l. get_or-replicate 128 h Absent Absent l)

pub loop-to-preserved : goal.loop-to-preserved
loop-to-preserved g c =
    let M = asked (g.S.System.meaning c.args.self.now.system.now) in
    let row = c.loop-to.row in
    let h = c.group_of-group.result in
    let low : h < length row = omega (arith, c.group_of-group.ensures.below.1) in (
      length-set row h c.surer.result ∙ c.loop-to.invariant.0,
      gathered_more M (group_of (groups_of c.args.self.now.members)) c.args.from c.loop-to.to row h c.surer.result c.group_of-group.ensures.is low
          (c.surer.ensures ∙ ap (surer (get_or row h Absent)) c.step_or_absent.ensures.is)
          c.loop-to.invariant.1,
    )

pub returns : goal.returns
unfolding strength
returns g c =
    let M = asked (g.S.System.meaning c.args.self.now.system.now) in
    let group = group_of (groups_of c.args.self.now.members) in
    let end : c.loop-to.to ≡ M.states = omega arith in
    fill_by_all (strength M group c.args.from) c.loop-to.row 128 Absent c.loop-to.invariant.0
    (λ h l. c.loop-to.invariant.1 h l ∙ ap (surest (step_into M group c.args.from h)) end)
