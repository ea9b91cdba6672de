use Rattle.std.proofs.Common.{◌+◌, ◌*◌, eqb, length, get_or, unwrap_or, refl, ap, ◌∙◌, rules, arith}
use Rattle.std.proofs.lemmas.List.{get_or-replicate, length-replicate}
use Rattle.systems.specs.declared.kinds.Step.TheVariants.{Absent, Sure}
use Rattle.colours.specs.Groupings.{strength}
use Rattle.groupings.specs.Joined.{joined_step, shared, asked}
use Rattle.groupings.specs.Members.{group_of}
use Rattle.groupings.specs.Memberships.{groups_of}
use Rattle.groupings.specs.laws.GroupLaws.{largest_above}
use Rattle.groupings.proofs.Strengths.{none_into}
use Rattle.groupings.proofs.Sharing.{step_is}
use Rattle.groupings.proofs.groups.fitted.Fitted.write_steps.Goals as goal

pub share_all-requires : goal.share_all-requires
share_all-requires g c = record { callable = λ f s. tt; long = ap length c.requires ∙ length-replicate 16384 Sure; wide = c.groups.ensures.few }

pub returns : goal.returns
returns g c =
    let self = c.args.self.now in
    let M = g.S.System.meaning self.system.now in
    let xs = groups_of self.members in
    let group = group_of xs in
    let says = strength (asked M) group in
    λ from to l m.
    c.share_all.ensures says Absent (λ s a k. search rules)
    (refl, λ s h low high. none_into (asked M) group s h (λ t k e. omega (arith, e, low, self.fits, c.groups.ensures.is, largest_above xs t (omega (arith, self.fits))))) from to Absent l m
    ∙ ap (unwrap_or (shared joined_step (λ s. eqb (group s) from) (λ s. says s to) M.states))
    (ap (λ ys. get_or ys (from * 128 + to) Absent) c.requires ∙ get_or-replicate 16384 (from * 128 + to) Sure Absent (omega arith))
    ∙ step_is M group from to
