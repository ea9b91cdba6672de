use Rattle.std.proofs.Common.{◌∙◌, sym, set, subst, length-set}
use Rattle.queue.specs.Held.{held}
use Rattle.engine.specs.search.Traces.{Writing, some_position}
use Rattle.engine.specs.search.Scenes.{waiting}
use Rattle.engine.proofs.Traced.{writing_more}
use Rattle.engine.proofs.cause.searching.Search.write.Goals as goal

pub loop-link-preserved : goal.loop-link-preserved
loop-link-preserved c =
    let all = waiting c.args.self.now in
    let l = c.loop-link.self in
    let kept = held c.pop.new.self in
    let keeps = c.loop-link.invariant.1 in (
      subst (λ i. Writing all kept (set l.chain.now i (some_position c.in-Some.link))) (sym c.len-place.ensures)
          (writing_more all c.in-Some.link kept l.chain.now (subst (λ q. Writing all q l.chain.now) c.in-Some.ensures.0 c.loop-link.invariant.0)),
      record {
        scene = keeps.scene;
        links = keeps.links;
        chain = keeps.chain;
        room = c.in-Some.ensures.1 ∙ keeps.room;
        long = length-set l.chain.now _ _ ∙ keeps.long;
      },
    )
