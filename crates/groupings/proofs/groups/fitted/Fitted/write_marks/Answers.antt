use Rattle.std.proofs.Common.{◌+◌, ◌*◌, ◌≤◌, ◌<◌, eqb, length, get_or, unwrap_or, refl, ap, ◌∙◌, rules, arith}
use Rattle.std.proofs.lemmas.List.{get_or-replicate, length-replicate}
use Rattle.systems.specs.Model.{mark_or_unknown}
use Rattle.systems.specs.declared.kinds.Colour.TheVariants.{Undecided, T}
use Rattle.groupings.specs.Joined.{joined_mark, shared}
use Rattle.groupings.specs.Members.{group_of}
use Rattle.groupings.specs.Memberships.{groups_of}
use Rattle.groupings.proofs.Marks.{unknown_beyond}
use Rattle.groupings.proofs.Sharing.{mark_is}
use Rattle.groupings.proofs.groups.fitted.Fitted.write_marks.Goals as goal

pub share_all-requires : goal.share_all-requires
share_all-requires g c =
    let law = g.S.System.lawful c.args.self.now.system.now in
    let wide : c.marks.result ≤ 16 = omega (arith, law.marks_few, c.marks.ensures) in
    record { callable = λ f s. tt; long = ap length c.requires ∙ length-replicate 2048 T; wide = wide }

pub returns : goal.returns
returns g c =
    let M = g.S.System.meaning c.args.self.now.system.now in
    let law = g.S.System.lawful c.args.self.now.system.now in
    let group = group_of (groups_of c.args.self.now.members) in
    let says = mark_or_unknown M in
    λ h p l m.
    let low : p < 16 = omega (arith, law.marks_few) in
    c.share_all.ensures says Undecided (λ s a k. search rules) (refl, λ s q beyond high. unknown_beyond M s q (omega (arith, beyond, c.marks.ensures))) h p Undecided l low
    ∙ ap (unwrap_or (shared joined_mark (λ s. eqb (group s) h) (λ s. says s p) M.states))
    (ap (λ ys. get_or ys (h * 16 + p) Undecided) c.requires ∙ get_or-replicate 2048 (h * 16 + p) T Undecided (omega arith))
    ∙ mark_is M group h p m
