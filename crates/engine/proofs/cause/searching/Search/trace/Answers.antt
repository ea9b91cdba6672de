use Rattle.std.proofs.Common.{rules, ◌≡◌, sym, ◌∙◌, ap₂, subst}
use borrow.Author.Tests.{tests}
use Rattle.colours.specs.declared.chains.Position.{Position}
use Rattle.engine.specs.search.Traces.{Tracing}
use Rattle.queue.specs.Held.{room}
use Rattle.engine.specs.search.Searches.{before}
use Rattle.engine.specs.search.Scenes.{model_of, count_of, waiting}
use Rattle.engine.proofs.Steps.{keeps_on}
use Rattle.engine.proofs.Tables.{unlike}
use Rattle.engine.proofs.Traced.{tracing_more, tracing_done}
use Rattle.engine.proofs.cause.searching.Search.trace.Goals as goal

pub back-preserved : goal.back-preserved
back-preserved c =
    let s = c.args.self.now in
    let l = c.back.self in
    let n = c.push.new.self in
    let told = ap₂ (λ e t. before (count_of e) t c.back.at) c.back.invariant.2.scene c.back.invariant.1 in (
      tracing_more (model_of s.scene).states (count_of s.scene) c.args.start c.args.end s.chain.now (room s.links.now) c.back.at
          (waiting l) c.back.invariant.0 (unlike c.back.at c.args.start c.back-test.ensures) c.unwrap-from.result
          (sym told ∙ sym c.before-in-back.ensures ∙ c.unwrap-from.ensures) (waiting n) c.push.ensures.held,
      c.push.ensures.chain ∙ c.back.invariant.1,
      keeps_on s l n c.back.invariant.2 c.push.ensures.keeps,
    )

pub returns-clause-traced : goal.returns-clause-traced
returns-clause-traced c =
    let s = c.args.self.now in
    let same : c.back.at ≡ c.args.start = search (rules, tests) in
    let back = subst
    (λ (p : Position). Tracing (model_of s.scene).states (count_of s.scene) c.args.start c.args.end s.chain.now (room s.links.now) p (waiting c.back.self))
    same c.back.invariant.0 in
    tracing_done (model_of s.scene).states (count_of s.scene) c.args.start c.args.end s.chain.now (room s.links.now) (waiting c.back.self) back
    (waiting c.push-2.new.self) c.push-2.ensures.held
