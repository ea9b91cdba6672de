-- What the structs of the search stand for.
use Rattle.std.specs.Prelude.{◌≡◌, ℕ, ◌+◌, ◌*◌, ◌≤◌, Bool, true, false, List, [], ◌∷◌, length, Some, None, Option}
use Rattle.systems.specs.declared.kinds.Colour.{Colour}
use Rattle.systems.specs.Model.{Model}
use Rattle.systems.specs.Written.{table_model}
use Rattle.rules.specs.declared.syntax.Clause.{Clause}
use Rattle.rules.specs.Rules.{clause_list}
use Rattle.colours.specs.declared.chains.Position.{Position}
use Rattle.colours.specs.declared.chains.Reason.{Reason}
use Rattle.colours.specs.Chains.{clause_at}
use Rattle.queue.specs.Held.{held, room}
use Rattle.engine.specs.declared.links.Link.{Link}
use Rattle.engine.specs.declared.cause.looking.Finding.{Finding}
use Rattle.engine.specs.declared.cause.looking.Finding.TheVariants.{End, Next}
use Rattle.engine.specs.declared.cause.looking.Lookout.{Lookout}
use Rattle.engine.specs.declared.cause.scene.Scene.{Scene}
use Rattle.engine.specs.declared.cause.searching.Search.{Search}
use Rattle.engine.specs.Causes.{open_start}
use Rattle.engine.specs.search.Looks.{shown_at, opened, sought_by, here, stepped}
use Rattle.engine.specs.search.Searches.{Graph, graph, Inside, before, unseen, Saw, Space, Followed, Taken, SpreadOut, Searched}
use Rattle.engine.specs.search.Starts.{LowestShown, ChainFound}
use Rattle.engine.specs.search.Traces.{Traceable, Traced}

abbrev pub model_of : Scene → Model
model_of s = table_model s.table.now

abbrev pub clauses_of : Scene → List Clause
clauses_of s = clause_list s.rule.now

abbrev pub count_of : Scene → ℕ
count_of s = length (clauses_of s)

abbrev pub graph_of : Scene → Graph
graph_of s = graph (model_of s) (clauses_of s) s.board.now

-- a position of the scene
abbrev pub On : Scene → Position → Type 0
On s p = Inside (model_of s).states (count_of s) p

-- what a look found, if it may follow, is one
abbrev pub OnFound : Scene → Option Finding → Type 0
OnFound s (Some (End reason)) = Unit {0}
OnFound s (Some (Next n)) = On s n
OnFound s None = Unit {0}

-- what the board of a scene shows at a position, and the position where it is undecided
abbrev pub colour_on : Scene → Position → Option Colour
colour_on s p = shown_at (count_of s) s.board.now p.group p.clause

abbrev pub open_on : Scene → Position → Option Finding
open_on s p = opened (count_of s) s.board.now p.group p.clause

-- group g is a start where the board has the rule undecided, and the lowest such, if there is one
abbrev pub opens_at : Scene → ℕ → Bool
opens_at s g = open_start (model_of s) (count_of s) s.board.now g

abbrev pub IsLowestOpen : Scene → Option Position → Type 0
IsLowestOpen s p = LowestShown (model_of s) (count_of s) s.board.now p

-- the clause of a lookout's position, and what its looks show
abbrev pub clause_from : Lookout → Clause
clause_from l = clause_at (clauses_of l.scene) l.at.clause

abbrev pub shown_here : Lookout → List (Option Finding)
shown_here l =
    here (count_of l.scene) l.scene.board.now l.at (clause_from l) true
    ∷ here (count_of l.scene) l.scene.board.now l.at (clause_from l) false ∷ []

abbrev pub sought_from : Lookout → Option ℕ
sought_from l = sought_by (count_of l.scene) l.scene.board.now l.at (clause_from l)

abbrev pub shown_across : Lookout → Position → Option Finding
shown_across l to =
    stepped (count_of l.scene) l.scene.board.now l.at (clause_from l) to.clause to.group
    ((model_of l.scene).step l.at.group to.group)

-- what waits in the queue of a search, and what its chain list tells of a position
abbrev pub waiting : Search → List Link
waiting s = held s.links.now

abbrev pub seen_by : Search → Position → Option Position
seen_by s p = before (count_of s.scene) s.chain.now p

-- how many positions of a scene are unseen or wait
abbrev pub left_over : Scene → Search → ℕ
left_over e s = unseen ((model_of e).states * count_of e) s.chain.now + length (waiting s)

-- there is room in the queue for all that are unseen
abbrev pub HasRoom : Search → Type 0
HasRoom s = left_over s.scene s ≤ room s.links.now

-- as many positions are unseen or wait
abbrev pub SameSum : Search → Search → Type 0
SameSum s s' = left_over s.scene s' ≡ left_over s.scene s

-- the search goes on with the same scene, and in the same workspaces
pub record Keeps (s s' : Search) : Type 0 where
  pub scene : s'.scene ≡ s.scene
  pub links : s'.links.ghost_name ≡ s.links.ghost_name
  pub chain : s'.chain.ghost_name ≡ s.chain.ghost_name
  pub room : room s'.links.now ≡ room s.links.now
  pub long : length s'.chain.now ≡ length s.chain.now

-- What the steps of a search leave, of which s is the search before and s' after.

-- there is room for a position, if it was not seen; and it was seen, with the one before it
abbrev pub HasRoomFor : Search → Position → Type 0
HasRoomFor s p = Space (seen_by s p) (waiting s) (room s.links.now)

abbrev pub Sees : (s : Search) → Link → (s' : Search) → Type 0
Sees s l s' = Saw (seen_by s l.at) (count_of s.scene) l s.chain.now (waiting s) s'.chain.now (waiting s')

-- a look was followed; so were those from the one numbered j on, up to k; so were all
abbrev pub Follows : (s : Search) → Position → Option Finding → (s' : Search) → Option Reason → Type 0
Follows s from finding s' answer =
    Followed (graph_of s.scene) from finding s.chain.now (waiting s) s'.chain.now (waiting s') answer

abbrev pub Takes : (s : Search) → Position → (j k : ℕ) → (s' : Search) → Option Reason → Type 0
Takes s from j k s' answer = Taken (graph_of s.scene) from j k s.chain.now (waiting s) s'.chain.now (waiting s') answer

abbrev pub Spreads : (s : Search) → Position → (s' : Search) → Option Reason → Type 0
Spreads s from s' answer = SpreadOut (graph_of s.scene) from s.chain.now (waiting s) s'.chain.now (waiting s') answer

-- the search found an end or ran dry; its chain list leads back; it led back; and a chain was written
abbrev pub Ends : (s : Search) → Position → (s' : Search) → Option (Position × Reason) → Type 0
Ends s start s' answer = Searched (graph_of s.scene) start s'.chain.now answer

abbrev pub LeadsBack : Search → (start end : Position) → Type 0
LeadsBack s start end = Traceable (model_of s.scene).states (count_of s.scene) start s.chain.now end (room s.links.now)

abbrev pub LedBack : (s : Search) → (start end : Position) → (s' : Search) → Type 0
LedBack s start end s' = Traced (model_of s.scene).states (count_of s.scene) start end s.chain.now (waiting s')

abbrev pub FindsChain : (s : Search) → Position → (s' : Search) → Option (Reason × ℕ) → Type 0
FindsChain s start s' answer = ChainFound (model_of s.scene) (clauses_of s.scene) s.scene.board.now start s'.chain.now answer
