use Rattle.std.proofs.Common.{◌≡◌, rules, tests, arith}
use Rattle.std.proofs.lemmas.Iterator.{first_from_Range}
use Rattle.std.proofs.lemmas.Option.{MatchOption-at_some}
use Rattle.groupings.specs.laws.GroupLaws.{states_are}
use Rattle.groupings.specs.Members.{group_of}
use Rattle.std.proofs.lemmas.Option.{MatchOption-at_some}
use Rattle.groupings.specs.laws.GroupLaws.{states_are}
use Rattle.groupings.specs.Memberships.{groups_of}
use Rattle.groupings.proofs.Lists.{lowest_there}
use Rattle.groupings.proofs.members.Membership.lowest.Goals as goal

pub unwrap-requires : goal.unwrap-requires
unwrap-requires c =
    let xs = groups_of c.args.self.now in
    lowest_there c.args.self.now c.args.group c.requires c.find.result _
    (first_from_Range _ _ _ c.find.result (λ s. group_of xs s ≡ c.args.group) (λ s. group_of xs s ≡ c.args.group → ⊥) c.find.ensures.ran (λ x q k. search (rules, tests)) (λ x q k. search (rules, tests)))

pub returns : goal.returns
returns c =
    let xs = groups_of c.args.self.now in
    let found =
    MatchOption-at_some _ _ c.unwrap.result c.unwrap.ensures
    (first_from_Range _ _ _ c.find.result (λ s. group_of xs s ≡ c.args.group) (λ s. group_of xs s ≡ c.args.group → ⊥) c.find.ensures.ran (λ x q k. search (rules, tests)) (λ x q k. search (rules, tests))) in
    record { low = omega (arith, found.1, states_are c.args.self.now); here = found.2; first = λ s l. found.3 s (omega arith) l }
