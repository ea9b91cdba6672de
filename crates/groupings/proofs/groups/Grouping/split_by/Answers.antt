use Rattle.std.proofs.Common.{ℕ, refl, sym, ap, ◌∙◌, subst}
use Rattle.std.proofs.lemmas.Option.{MatchOption-at_some}
use Rattle.groupings.specs.Grouped.{groups_at}
use Rattle.groupings.specs.Memberships.{groups_of}
use Rattle.groupings.specs.Splits.{Within, MembersDiffer, Divided}
use Rattle.groupings.proofs.Splitting.{split_accepted, some_from_ok}
use Rattle.groupings.proofs.groups.Grouping.split_by.Goals as goal

pub returns-clause-answer : goal.returns-clause-answer
returns-clause-answer g c =
    let meaning = g.S.System.meaning in
    let self = c.args.self.now in
    let M = meaning self.system in
    let xs = groups_of c.fitted-fitted.result.members in
    let below = c.fitted-fitted.ensures.below in
    let after = c.in_ok-self.field-0 in
    let done =
    subst (λ (s : _). MembersDiffer (meaning s) c.args.reason xs × Divided (meaning s) c.args.reason xs (groups_of after)) below
    (MatchOption-at_some _ _ after (some_from_ok c.divided.result _ after (sym c.ok_or.ensures.value ∙ c.in_ok-self.was)) c.divided.ensures) in
    let within =
    subst (λ (p : ℕ). Within c.groups.result p c.args.reason) (c.marks.ensures ∙ ap (λ s. (meaning s).marks) below) (c.if-not-is_within.ensures.0 refl) in
    split_accepted M c.args.reason (groups_at meaning self) xs after c.fitted-fitted.ensures.groups (c.fitted-fitted.result.fits ∙ ap (λ s. (meaning s).states) below)
    (subst (λ (k : ℕ). Within k M.marks c.args.reason) c.groups.ensures.is within) done.0 done.1
