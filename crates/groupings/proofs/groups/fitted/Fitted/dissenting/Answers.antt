use Rattle.std.proofs.Common.{◌≡◌, ◌<◌, Decides, sym, subst, ◌∙◌, arith}
use Rattle.groupings.specs.Answers.{answer_of}
use Rattle.groupings.specs.Joined.{asked}
use Rattle.groupings.specs.Members.{group_of, flagged}
use Rattle.groupings.specs.Memberships.{groups_of}
use Rattle.groupings.specs.Splits.{Concerned}
use Rattle.groupings.proofs.Splitting.{flagged_none, flagged_more, flagged_all, told_at}
use Rattle.groupings.proofs.groups.fitted.Fitted.dissenting.Goals as goal

pub loop-state-init : goal.loop-state-init
loop-state-init g c =
    let M = g.S.System.meaning c.args.self.now.system.now in
    let xs = groups_of c.args.self.now.members in
    flagged_none (λ s. Concerned M c.args.reason xs s × ¬ (answer_of (asked M) (group_of xs) c.args.reason s ≡ c.answer-lead.result))

pub loop-state-preserved : goal.loop-state-preserved
loop-state-preserved g c =
    let self = c.args.self.now in
    let M = g.S.System.meaning self.system.now in
    let law = g.S.System.lawful self.system.now in
    let xs = groups_of self.members in
    flagged_more (λ s. Concerned M c.args.reason xs s × ¬ (answer_of (asked M) (group_of xs) c.args.reason s ≡ c.answer-lead.result)) c.loop-state.state c.loop-state.flags c.departs.result
    (omega (arith, self.fits, law.states_few)) c.departs.ensures c.loop-state.invariant

pub returns : goal.returns
returns g c =
    let self = c.args.self.now in
    let M = g.S.System.meaning self.system.now in
    let law = g.S.System.lawful self.system.now in
    let xs = groups_of self.members in
    let reason = c.args.reason in
    let flags = c.loop-state.flags in
    let is = c.group_in.ensures in
    let lead = c.lowest.ensures in
    let low : c.lowest.result < M.states = omega (arith, lead.low, self.fits) in
    record {
      lead = c.lowest.result;
      member = (low, lead.here ∙ is);
      lowest = λ s l m. lead.first s l (m.1 ∙ sym is);
      at =
          told_at M reason xs flags c.lowest.result c.requires low law.states_few c.loop-state.invariant.long
          (λ s l.
          subst (λ a. Decides (flagged flags s) (Concerned M reason xs s × ¬ (answer_of (asked M) (group_of xs) reason s ≡ a))) c.answer-lead.ensures
          (flagged_all (λ k. Concerned M reason xs k × ¬ (answer_of (asked M) (group_of xs) reason k ≡ c.answer-lead.result)) c.loop-state.state flags
          (λ k p. omega (arith, p.0.0, self.fits)) c.loop-state.invariant s));
    }
