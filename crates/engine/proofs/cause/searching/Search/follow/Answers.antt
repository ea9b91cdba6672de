use Rattle.std.proofs.Common.{◌≡◌, Some, ap, ◌∙◌, subst}
use Rattle.queue.specs.Held.{room}
use Rattle.engine.specs.declared.cause.looking.Finding.TheVariants.{Next}
use Rattle.engine.specs.search.Scenes.{graph_of, waiting, OnFound}
use Rattle.engine.proofs.Spreads.{saw_space, saw_sum, saw_on}
use Rattle.engine.proofs.cause.searching.Search.follow.Goals as goal

pub see-requires-clause-space : goal.see-requires-clause-space
see-requires-clause-space c =
    let s = c.args.self.now in
    let is : c.args.finding ≡ Some (Next c.in-Next.at) = c.in_ok-reason.was ∙ ap Some c.in-Next.is in
    saw_space (graph_of s.scene) c.args.from s.chain.now (waiting s) c.in-Next.at (subst (OnFound s.scene) is c.requires.on) s.chain_fits
    (room s.links.now) c.requires.room

pub returns-in-Next-clause-followed : goal.returns-in-Next-clause-followed
returns-in-Next-clause-followed c =
    let s = c.args.self.now in
    let is : c.args.finding ≡ Some (Next c.in-Next.at) = c.in_ok-reason.was ∙ ap Some c.in-Next.is in
    λ start k low shown z. saw_on (graph_of s.scene) c.args.from s.chain.now (waiting s) c.in-Next.at
    (subst (OnFound s.scene) is c.requires.on) s.chain_fits c.see.new.self.chain.now (waiting c.see.new.self) c.see.ensures.saw start k low
    (shown ∙ is) z

pub returns-in-Next-clause-sum : goal.returns-in-Next-clause-sum
returns-in-Next-clause-sum c =
    let s = c.args.self.now in
    let is : c.args.finding ≡ Some (Next c.in-Next.at) = c.in_ok-reason.was ∙ ap Some c.in-Next.is in
    saw_sum (graph_of s.scene) c.args.from s.chain.now (waiting s) c.in-Next.at (subst (OnFound s.scene) is c.requires.on) s.chain_fits
    c.see.new.self.chain.now (waiting c.see.new.self) c.see.ensures.saw
