use Rattle.std.proofs.Common.{rules, length, ◌∙◌, subst, arith}
use Rattle.queue.specs.Held.{held, room}
use Rattle.engine.specs.search.Searches.{Searching, Found}
use Rattle.engine.specs.search.Scenes.{graph_of, waiting}
use Rattle.engine.proofs.Spreads.{first_space, first_seen}
use Rattle.engine.proofs.Steps.{next_on, next_room, next_spreading}
use Rattle.engine.proofs.cause.searching.Search.run.Goals as goal

pub loop-link-init : goal.loop-link-init
loop-link-init c =
    let s = c.args.self.now in
    let n = c.see.new.self in
    let keeps = c.see.ensures.keeps in (
      first_seen (graph_of s.scene) c.args.start c.fill.new.self c.requires (omega (arith, s.chain_fits, c.fill.ensures.len)) (length s.chain.now)
          (c.fill.ensures.after (λ y e. search rules)) (held c.clear.new.self) n.chain.now (waiting n) c.clear.ensures.empty c.see.ensures.saw,
      record {
        scene = keeps.scene;
        links = keeps.links;
        chain = keeps.chain;
        room = keeps.room ∙ c.clear.ensures.room;
        long = keeps.long ∙ c.fill.ensures.len;
      },
    )

pub see-requires-clause-space : goal.see-requires-clause-space
see-requires-clause-space c =
    let s = c.args.self.now in
    first_space (graph_of s.scene) c.args.start c.fill.new.self c.requires (omega (arith, s.chain_fits, c.fill.ensures.len)) (length s.chain.now)
    (c.fill.ensures.after (λ y e. search rules)) (held c.clear.new.self) (room c.clear.new.self) c.clear.ensures.empty
    (omega (arith, s.links_fit, c.clear.ensures.room))

pub spread-requires-clause-low : goal.spread-requires-clause-low
spread-requires-clause-low c =
    next_on c.args.self.now c.loop-link.self c.args.start c.in-Some.link c.pop.new.self c.loop-link.invariant.1 c.loop-link.invariant.0
    c.in-Some.ensures

pub spread-requires-clause-room : goal.spread-requires-clause-room
spread-requires-clause-room c =
    next_room c.args.self.now c.loop-link.self c.args.start c.in-Some.link c.pop.new.self c.loop-link.invariant.1 c.loop-link.invariant.0
    c.in-Some.ensures

pub returns-in-Some-spread-clause-searched : goal.returns-in-Some-spread-clause-searched
returns-in-Some-spread-clause-searched c =
    let start = c.args.start in
    let z = next_spreading c.args.self.now c.loop-link.self start c.in-Some.link c.pop.new.self c.loop-link.invariant.1
    c.loop-link.invariant.0 c.in-Some.ensures in
    subst (λ e. Found (graph_of e) start c.spread.new.self.chain.now c.in-Some.link.at c.in-Some-spread.reason) c.loop-link.invariant.1.scene
    (c.in-Some-spread.ensures.spread start z)

pub loop-link-preserved : goal.loop-link-preserved
loop-link-preserved c =
    let start = c.args.start in
    let n = c.spread.new.self in
    let keeps = c.loop-link.invariant.1 in
    let more = c.in_default-spread.ensures.keeps in
    let z = next_spreading c.args.self.now c.loop-link.self start c.in-Some.link c.pop.new.self keeps c.loop-link.invariant.0 c.in-Some.ensures in (
      subst (λ e. Searching (graph_of e) start n.chain.now (waiting n)) keeps.scene (c.in_default-spread.ensures.spread start z),
      record {
        scene = more.scene ∙ keeps.scene;
        links = more.links ∙ keeps.links;
        chain = more.chain ∙ keeps.chain;
        room = more.room ∙ c.in-Some.ensures.1 ∙ keeps.room;
        long = more.long ∙ keeps.long;
      },
    )

pub returns-clause-searched : goal.returns-clause-searched
returns-clause-searched c =
    subst (Searching (graph_of c.args.self.now.scene) c.args.start c.loop-link.self.chain.now) c.in_default.ensures.0 c.loop-link.invariant.0
