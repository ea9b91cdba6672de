use Rattle.std.proofs.Common.{◌≡◌, ℕ, rules, ◌<◌, cond, sym, ap, ◌∙◌, arith}
use borrow.Author.Tests.{tests}
use Rattle.std.proofs.lemmas.List.{get_or-take, length-take-le}
use Rattle.groupings.specs.Members.{group_of, group_count, flagged}
use Rattle.groupings.specs.Memberships.{groups_of}
use Rattle.groupings.specs.laws.GroupLaws.{states_are, groups_are, number_at}
use Rattle.groupings.proofs.Moves.{moved_numbered}
use Rattle.groupings.proofs.members.Membership.moved.Goals as goal

pub invariant_of-result : goal.invariant_of-result
invariant_of-result c =
    let m = c.args.self.now in
    let flags = c.args.flags.now in
    let told : c.unwrap.result ≡ m.groups = search (rules, tests) in
    let at = λ (s : ℕ) (l : s < m.states). c.renumbered.ensures.at s l ∙ ap (λ (k : ℕ). cond (flagged flags s) k (group_of m.numbers s)) told in
    let table = moved_numbered m flags c.renumbered.result at c.requires.some c.requires.kept (search rules) in
    record { sized = table.0; numbered = table.1 }

pub returns : goal.returns
returns c =
    let m = c.args.self.now in
    let after = c.renumbered.result in
    let flags = c.args.flags.now in
    let told : c.unwrap.result ≡ m.groups = search (rules, tests) in (
      length-take-le m.states after (omega (arith, m.sized.2)) ∙ sym (states_are m),
      λ s l.
          let low : s < m.states = omega (arith, states_are m) in
          get_or-take m.states after s 0 low ∙ c.renumbered.ensures.at s low
          ∙ ap (λ (k : ℕ). cond (flagged flags s) k (group_of m.numbers s)) (told ∙ sym (groups_are m))
          ∙ ap (λ (k : ℕ). cond (flagged flags s) (group_count (groups_of m)) k) (sym (number_at m s low)),
    )
