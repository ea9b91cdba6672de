use Rattle.std.proofs.Common.{◌≡◌, ◌<◌, Some, None, subst, arith}
use Rattle.engine.specs.search.Scenes.{Takes}
use Rattle.engine.proofs.Steps.{here_low, here_look, taken_more, taken_on}
use Rattle.engine.proofs.cause.searching.Search.spread_here.Goals as goal

pub returns-in-Some-clause-taken : goal.returns-in-Some-clause-taken
returns-in-Some-clause-taken c =
    let s = c.args.self.now in
    let k = c.loop-finding.finding-index in
    let low : k < 2 = omega (arith, c.loop-finding-test.true) in
    taken_more s c.loop-finding.self c.follow.new.self c.args.from c.loop-finding.invariant.2 0 k _ (Some c.in-Some.reason)
    c.loop-finding.invariant.0 (here_low s.scene c.args.from k low)
    (here_look s.scene c.args.from c.look_here-finding-items.result _ k low c.look_here-finding-items.ensures.is) c.in-Some.ensures.followed

pub loop-finding-preserved : goal.loop-finding-preserved
loop-finding-preserved c =
    let s = c.args.self.now in
    let k = c.loop-finding.finding-index in
    let low : k < 2 = omega (arith, c.loop-finding-test.true) in
    let more = c.in_default.ensures in
    taken_on s c.loop-finding.self c.follow.new.self c.args.from c.loop-finding.invariant.2 0 k _ c.loop-finding.invariant.0
    c.loop-finding.invariant.1 (here_low s.scene c.args.from k low)
    (here_look s.scene c.args.from c.look_here-finding-items.result _ k low c.look_here-finding-items.ensures.is) more.followed more.sum more.keeps

pub returns-clause-taken : goal.returns-clause-taken
returns-clause-taken c =
    let all : c.loop-finding.finding-index ≡ 2 = omega (arith, c.loop-finding-test.false) in
    subst (λ k. Takes c.args.self.now c.args.from 0 k c.loop-finding.self None) all c.loop-finding.invariant.0
