use Rattle.std.proofs.Common.{◌∙◌, subst}
use Rattle.rules.proofs.Rules.{every_rule}
use Rattle.engine.specs.search.Scenes.{model_of, clauses_of, count_of, waiting}
use Rattle.engine.specs.search.Traces.{Traced}
use Rattle.engine.proofs.Traced.{traced_long, written_back}
use Rattle.engine.proofs.Chaining.{never_dry, chain_made}
use Rattle.engine.proofs.cause.searching.Search.chain_from.Goals as goal

pub returns-in_err-end-clause-found : goal.returns-in_err-end-clause-found
returns-in_err-end-clause-found c =
    let e = c.args.self.now.scene in
    rw c.from_residual.ensures (λ coloured opened. never_dry (model_of e) (clauses_of e) e.board.now coloured (every_rule e.rule.now).founded
    c.args.start opened c.run.new.self.chain.now c.in_err-end.ensures.searched)

pub returns-clause-found : goal.returns-clause-found
returns-clause-found c =
    let e = c.args.self.now.scene in
    let M = model_of e in
    let cs = clauses_of e in
    let start = c.args.start in
    let table = c.run.new.self.chain.now in
    let kept = waiting c.trace.new.self in
    let found = c.in_ok-end.ensures.searched in
    let t = subst (λ x. Traced (model_of x).states (count_of x) start c.in_ok-end.end table kept) c.in_ok-end.ensures.keeps.scene c.trace.ensures.traced in
    λ coloured opened. record {
      rest = t.rest;
      counted = c.write.ensures.count ∙ traced_long M.states (count_of e) start c.in_ok-end.end table kept t;
      stands = c.write.ensures.written ∙ written_back M.states (count_of e) start c.in_ok-end.end table kept t;
      chain = chain_made M cs e.board.now coloured (every_rule e.rule.now).founded start opened table c.in_ok-end.end c.in_ok-end.reason found
          kept t;
    }
