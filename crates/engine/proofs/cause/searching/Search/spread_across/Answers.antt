use Rattle.std.proofs.Common.{◌≡◌, ◌+◌, ◌<◌, Some, None, sym, subst, arith}
use Rattle.engine.specs.search.Scenes.{graph_of, SameSum, Keeps, Takes}
use Rattle.engine.proofs.Steps.{across_all, across_look, taken_more, taken_on}
use Rattle.engine.proofs.cause.searching.Search.spread_across.Goals as goal

pub returns-in-Some-clause-taken : goal.returns-in-Some-clause-taken
returns-in-Some-clause-taken c =
    let s = c.args.self.now in
    let t = c.loop-group.group in
    let is = sym c.in_ok-clause.ensures.is in
    let all = across_all s.scene c.args.from c.in_ok-clause.clause is in
    let low : t + 2 < (graph_of s.scene).looks c.args.from = omega (arith, all, c.loop-group-test.true, c.states-group-end.ensures) in
    taken_more s c.loop-group.self c.follow.new.self c.args.from c.loop-group.invariant.2 2 (t + 2) c.look_across-finding.result
    (Some c.in-Some.reason) c.loop-group.invariant.0 low
    (across_look s.scene c.args.from c.in_ok-clause.clause is t c.look_across-finding.result c.look_across-finding.ensures.is)
    c.in-Some.ensures.followed

pub loop-group-preserved : goal.loop-group-preserved
loop-group-preserved c =
    let s = c.args.self.now in
    let n = c.follow.new.self in
    let t = c.loop-group.group in
    let is = sym c.in_ok-clause.ensures.is in
    let all = across_all s.scene c.args.from c.in_ok-clause.clause is in
    let low : t + 2 < (graph_of s.scene).looks c.args.from = omega (arith, all, c.loop-group-test.true, c.states-group-end.ensures) in
    let more = c.in_default.ensures in
    let next : t + 2 + 1 ≡ t + 1 + 2 = omega arith in
    subst (λ k. Takes s c.args.from 2 k n None × SameSum s n × Keeps s n) next
    (taken_on s c.loop-group.self n c.args.from c.loop-group.invariant.2 2 (t + 2) c.look_across-finding.result c.loop-group.invariant.0
    c.loop-group.invariant.1 low
    (across_look s.scene c.args.from c.in_ok-clause.clause is t c.look_across-finding.result c.look_across-finding.ensures.is) more.followed
    more.sum more.keeps)

pub returns-clause-taken : goal.returns-clause-taken
returns-clause-taken c =
    let s = c.args.self.now in
    let end = across_all s.scene c.args.from c.in_ok-clause.clause (sym c.in_ok-clause.ensures.is) in
    let all : c.loop-group.group + 2 ≡ (graph_of s.scene).looks c.args.from =
    omega (arith, end, c.loop-group-test.false, c.states-group-end.ensures) in
    subst (λ k. Takes s c.args.from 2 k c.loop-group.self None) all c.loop-group.invariant.0
