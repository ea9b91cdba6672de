use Rattle.std.proofs.Common.{◌≡◌, ◌+◌, ◌*◌, ◌≤◌, ◌||◌, false, eqb, length, get_or, unwrap_or, refl, ap, ◌∙◌, rules, arith}
use Rattle.std.proofs.lemmas.List.{get_or-replicate, length-replicate}
use Rattle.systems.specs.Model.{is_start}
use Rattle.groupings.specs.Joined.{shared}
use Rattle.groupings.specs.Members.{group_of}
use Rattle.groupings.specs.Memberships.{groups_of}
use Rattle.groupings.proofs.Sharing.{start_is}
use Rattle.groupings.proofs.groups.fitted.Fitted.write_starts.Goals as goal

pub share_all-requires : goal.share_all-requires
share_all-requires g c =
    let wide : 1 ≤ 1 = omega arith in
    record { callable = λ f s. tt; long = ap length c.requires ∙ length-replicate 128 false; wide = wide }

pub returns : goal.returns
returns g c =
    let M = g.S.System.meaning c.args.self.now.system.now in
    let group = group_of (groups_of c.args.self.now.members) in
    λ h l.
    let place : h ≡ h * 1 + 0 = omega arith in
    ap (λ z. get_or c.share_all.new.places z false) place
    ∙ c.share_all.ensures (λ s k. is_start M s) false (λ s a k. search rules) (refl, λ s k low high. absurd (omega (arith, low, high))) h 0 false l (omega arith)
    ∙ ap (unwrap_or (shared ◌||◌ (λ s. eqb (group s) h) (is_start M) M.states))
    (ap (λ ys. get_or ys (h * 1 + 0) false) c.requires ∙ get_or-replicate 128 (h * 1 + 0) false false (omega arith))
    ∙ start_is M group h
