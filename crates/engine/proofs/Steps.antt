-- What one call of the search leaves, followed by another.
use Rattle.std.proofs.Common.{◌≡◌, ℕ, zero, suc, ◌+◌, ◌*◌, ◌<◌, ◌≤◌, true, false, eqb, List, [], ◌∷◌, length, get_or, Some, None, Option, sym, refl, ap, ◌∙◌, subst, arith}
use Rattle.rules.specs.declared.syntax.Clause.{Clause}
use Rattle.colours.specs.declared.chains.Position.{Position}
use Rattle.colours.specs.declared.chains.Reason.{Reason}
use Rattle.colours.specs.Chains.{clause_at}
use Rattle.queue.specs.declared.ring.Ring.{Ring}
use Rattle.queue.specs.Held.{held, room, Popped}
use Rattle.engine.specs.declared.links.Link.{Link}
use Rattle.engine.specs.declared.cause.looking.Finding.{Finding}
use Rattle.engine.specs.declared.cause.scene.Scene.{Scene}
use Rattle.engine.specs.declared.cause.searching.Search.{Search}
use Rattle.engine.specs.search.Looks.{sought_by, here, stepped}
use Rattle.engine.specs.search.Searches.{unseen, Searching, Spreading, Found, Followed, Taken}
use Rattle.engine.specs.search.Scenes.{model_of, clauses_of, count_of, graph_of, waiting, left_over, On, SameSum, Keeps, Follows, Takes, Spreads}
use Rattle.engine.proofs.Looks.{look_here, look_to, looks_to, two_looks}
use Rattle.engine.proofs.Moves.{spread_done, spread_end, popped}

pub keeps_on : (a b c : Search) → Keeps a b → Keeps b c → Keeps a c
keeps_on a b c h k = record {
  scene = k.scene ∙ h.scene;
  links = k.links ∙ h.links;
  chain = k.chain ∙ h.chain;
  room = k.room ∙ h.room;
  long = k.long ∙ h.long;
}

-- the looks from a position of a scene
module _ (e : Scene) (p : Position) where
  abbrev own : Clause
  own = clause_at (clauses_of e) p.clause

  abbrev sought : Option ℕ
  sought = sought_by (count_of e) e.board.now p own

  -- those at its group are numbered 0 and 1
  pub here_low : (k : ℕ) → k < 2 → k < (graph_of e).looks p
  here_low k h = omega (arith, two_looks (model_of e) sought)

  pub here_look : (items : List (Option Finding)) (d : Option Finding) (k : ℕ) → k < 2
      → items ≡ here (count_of e) e.board.now p own true ∷ here (count_of e) e.board.now p own false ∷ []
      → (graph_of e).look p k ≡ get_or items k d
  here_look items d k h is = look_here (model_of e) (count_of e) e.board.now p own sought k h ∙ sym (ap (λ xs. get_or xs k d) is ∙ go k h)
    where
      go : (k : ℕ) → k < 2
          → get_or (here (count_of e) e.board.now p own true ∷ here (count_of e) e.board.now p own false ∷ []) k d
          ≡ here (count_of e) e.board.now p own (eqb k 0)
      go zero h = refl
      go (suc zero) h = refl
      go (suc (suc n)) h = absurd (omega arith)

  -- those across its steps are numbered from 2 on
  module _ (h : ℕ) (is : sought ≡ Some h) where
    pub across_all : (graph_of e).looks p ≡ (model_of e).states + 2
    across_all = looks_to (model_of e) sought h is

    pub across_look : (t : ℕ) (finding : Option Finding)
        → finding ≡ stepped (count_of e) e.board.now p own h t ((model_of e).step p.group t) → (graph_of e).look p (t + 2) ≡ finding
    across_look t finding shown = look_to (model_of e) (count_of e) e.board.now p own sought h t is ∙ sym shown

-- of searches s, l and n, one after the other
module _ (s l n : Search) (from : Position) (keeps : Keeps s l) where
  -- one look more was followed
  pub taken_more : (j k : ℕ) (finding : Option Finding) (answer : Option Reason) → Takes s from j k l None → k < (graph_of s.scene).looks from
      → (graph_of s.scene).look from k ≡ finding → Follows l from finding n answer → Takes s from j (k + 1) n answer
  taken_more j k finding answer taken low is f =
      go answer (subst (λ e. Followed (graph_of e) from finding l.chain.now (waiting l) n.chain.now (waiting n) answer) keeps.scene f)
    where
      go : (answer : Option Reason) → Followed (graph_of s.scene) from finding l.chain.now (waiting l) n.chain.now (waiting n) answer
          → Takes s from j (k + 1) n answer
      go None f = λ start z. f start k low is (taken start z)
      go (Some reason) f = λ start z. subst (λ x. Found (graph_of s.scene) start x from reason) (sym f.1)
          (spread_end (graph_of s.scene) start from k l.chain.now (waiting l) reason (taken start z) low (is ∙ f.0))

  pub taken_on : (j k : ℕ) (finding : Option Finding) → Takes s from j k l None → SameSum s l → k < (graph_of s.scene).looks from
      → (graph_of s.scene).look from k ≡ finding → Follows l from finding n None → SameSum l n → Keeps l n
      → Takes s from j (k + 1) n None × SameSum s n × Keeps s n
  taken_on j k finding taken sum low is f more kept = (
    taken_more j k finding None taken low is f,
    subst (λ e. left_over e n ≡ left_over e l) keeps.scene more ∙ sum,
    keeps_on s l n keeps kept,
  )

  -- the looks at the group were taken, and then those across the steps
  pub spread_both : (answer : Option Reason) → Takes s from 0 2 l None → Takes l from 2 ((graph_of l.scene).looks from) n answer
      → Spreads s from n answer
  spread_both answer here across =
      go answer
      (subst (λ e. Taken (graph_of e) from 2 ((graph_of e).looks from) l.chain.now (waiting l) n.chain.now (waiting n) answer) keeps.scene across)
    where
      go : (answer : Option Reason)
          → Taken (graph_of s.scene) from 2 ((graph_of s.scene).looks from) l.chain.now (waiting l) n.chain.now (waiting n) answer
          → Spreads s from n answer
      go None a = λ start z. spread_done (graph_of s.scene) start from ((graph_of s.scene).looks from) n.chain.now (waiting n)
          (a start (here start z)) (omega arith)
      go (Some reason) a = λ start z. a start (here start z)

-- a link leaves the queue of the search l, which began as s
module _ (s l : Search) (start : Position) (link : Link) (rest : Ring Link) (keeps : Keeps s l)
    (searching : Searching (graph_of s.scene) start l.chain.now (waiting l)) (pop : Popped l.links.now rest (Some link)) where
  at_link : Searching (graph_of s.scene) start l.chain.now (link ∷ held rest)
  at_link = subst (Searching (graph_of s.scene) start l.chain.now) pop.0 searching

  pub next_on : On l.scene link.at
  next_on = subst (λ e. On e link.at) (sym keeps.scene) at_link.known.0.0

  pub next_room : unseen ((model_of l.scene).states * count_of l.scene) l.chain.now + length (held rest) ≤ room rest
  next_room =
      subst (λ e. unseen ((model_of e).states * count_of e) l.chain.now + length (held rest) ≤ room rest) (sym keeps.scene)
      (omega (arith, at_link.fits, pop.1, keeps.room, s.links_fit))

  pub next_spreading : Spreading (graph_of l.scene) start link.at 0 l.chain.now (held rest)
  next_spreading =
      subst (λ e. Spreading (graph_of e) start link.at 0 l.chain.now (held rest)) (sym keeps.scene)
      (popped (graph_of s.scene) start l.chain.now link (held rest) at_link)
