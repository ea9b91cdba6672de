-- What is proved of colours.
use Rattle.std.specs.Prelude.{◌≡◌, ℕ, ◌<◌, ◌≤◌, Bool, true, List, length}
use Rattle.systems.specs.declared.kinds.Colour.{Colour}
use Rattle.systems.specs.declared.kinds.Colour.TheVariants.{Undecided}
use Rattle.systems.specs.Model.{Model, Possibly, Exact, Agree}
use Rattle.rules.specs.declared.syntax.Quantifier.{Quantifier}
use Rattle.rules.specs.declared.syntax.Quantifier.TheVariants.{A, E}
use Rattle.rules.specs.declared.syntax.Operator.{Operator}
use Rattle.rules.specs.declared.syntax.Operator.TheVariants.{And, Or, AU, AV, EU, EV}
use Rattle.rules.specs.declared.syntax.Clause.{Clause}
use Rattle.rules.specs.declared.syntax.Clause.TheVariants.{Mark}
use Rattle.rules.specs.Clauses.{WellFounded, whole}
use Rattle.rules.specs.Formulas.{Formula, next, pair, contrary, MarksBelow}
use Rattle.colours.specs.Colours.{colouring, HasColour, HasVerdict}
use Rattle.colours.specs.declared.chains.Position.{Position}
use Rattle.colours.specs.declared.chains.Reason.{Reason}
use Rattle.colours.specs.Abstractions.{Abstracts}
use Rattle.colours.specs.Groupings.{Member, grouped, Fits, Parted}
use Rattle.colours.specs.Chains.{clause_at, Unknown, Open, GoesOn, Ends, Chain, Cause}
use Rattle.colours.specs.Values.{AtMost, join, meet, negate, next_value, until_value, release_value, colour_of, verdict_of}

-- no rule is both T and F at a state
abbrev pub ConsistentEverywhere : Type 0
ConsistentEverywhere = (M : Model) (f : Formula) (s : ℕ) → (colouring M f).is_T s → (colouring M f).is_F s → ⊥

-- at every state of a model a rule has the computed colour, and no other
abbrev pub OneColour : Type 0
OneColour =
    (M : Model) (f : Formula) (s : ℕ) → s < M.states
    → HasColour (colouring M f) s (colour_of M f s) × ((v : Colour) → HasColour (colouring M f) s v → v ≡ colour_of M f s)

-- a rule has the computed verdict, and no other
abbrev pub OneVerdict : Type 0
OneVerdict =
    (M : Model) (f : Formula) → HasVerdict M f (verdict_of M f) × ((v : Colour) → HasVerdict M f v → v ≡ verdict_of M f)

-- the contrary of a rule has T and F exchanged
abbrev pub ContraryExchanges : Type 0
ContraryExchanges =
    (M : Model) (f : Formula) (s : ℕ) (v : Colour) → HasColour (colouring M f) s v → HasColour (colouring M (contrary f)) s (negate v)

-- a T or F of an abstraction is the colour below; the relation is given as a test
abbrev pub AbstractionPreserves : Type 0
AbstractionPreserves =
    (A C : Model) (P : ℕ) (of : ℕ → ℕ → Bool) → Abstracts A C P (λ g s. of g s ≡ true) → (f : Formula) → MarksBelow P f
    → (g s : ℕ) → of g s ≡ true → (v : Colour) → ¬ (v ≡ Undecided) → HasColour (colouring A f) g v → HasColour (colouring C f) s v

-- a T or F at a group is the colour at each of its members
abbrev pub GroupsTell : Type 0
GroupsTell =
    (M : Model) (group : ℕ → ℕ) (groups : ℕ) → Fits M group groups → (f : Formula) (g s : ℕ) → Member M group g s
    → (v : Colour) → ¬ (v ≡ Undecided) → HasColour (colouring (grouped M group groups) f) g v → HasColour (colouring M f) s v

-- a verdict T or F over the groups is the verdict below
abbrev pub VerdictsTell : Type 0
VerdictsTell =
    (M : Model) (group : ℕ → ℕ) (groups : ℕ) → Fits M group groups → (f : Formula)
    → (v : Colour) → ¬ (v ≡ Undecided) → HasVerdict (grouped M group groups) f v → HasVerdict M f v

-- models that agree in range have the same colours and the same verdict, for a rule whose marks are in range
abbrev pub AgreeingModelsColourAlike : Type 0
AgreeingModelsColourAlike =
    (M L : Model) → Agree M L → (f : Formula) → MarksBelow M.marks f
    → ((s : ℕ) → s < M.states → colour_of M f s ≡ colour_of L f s) × (verdict_of M f ≡ verdict_of L f)

-- from every undecided position a chain leads to an unknown mark or an unsure step
abbrev pub UndecidedHasAChain : Type 0
UndecidedHasAChain =
    (M : Model) (cs : List Clause) → WellFounded cs → (p : Position) → Open M cs p
    → (ps : List Position) × (reason : Reason) × Chain M cs p ps reason

-- where the verdict is undecided there is a cause
abbrev pub UndecidedVerdictHasACause : Type 0
UndecidedVerdictHasACause =
    (M : Model) (cs : List Clause) → WellFounded cs → 1 ≤ length cs → HasVerdict M (whole cs) Undecided
    → (p : Position) × (ps : List Position) × (reason : Reason) × Cause M cs p ps reason

-- for a search: a set of undecided positions that is closed under going on, and in which no chain can end, is empty; the set is given as a test
abbrev pub NoSearchRunsDry : Type 0
NoSearchRunsDry =
    (M : Model) (cs : List Clause) → WellFounded cs → (seen : Position → Bool)
    → ((p : Position) → seen p ≡ true → Open M cs p)
    → ((p n : Position) → seen p ≡ true → GoesOn M cs p n → Open M cs n → seen n ≡ true)
    → ((p : Position) (reason : Reason) → seen p ≡ true → ¬ Ends M cs p reason)
    → (p : Position) → ¬ (seen p ≡ true)

-- over an exact model what is unknown of a group parts its members: two answer differently
abbrev pub UnknownPartsMembers : Type 0
UnknownPartsMembers =
    (M : Model) → Exact M → (group : ℕ → ℕ) (groups : ℕ) (reason : Reason) → Unknown (grouped M group groups) reason → Parted M group reason

-- every mark of the clauses is below P
abbrev pub MarksKnown : ℕ → List Clause → Type 0
MarksKnown P cs = (i m : ℕ) (negated : Bool) → i < length cs → clause_at cs i ≡ Mark m negated → m < P

-- so does what a chain over the groups ends in
abbrev pub ChainsPartMembers : Type 0
ChainsPartMembers =
    (M : Model) → Exact M → (group : ℕ → ℕ) (groups : ℕ) (cs : List Clause) → MarksKnown M.marks cs
    → (p : Position) (ps : List Position) (reason : Reason) → Chain (grouped M group groups) cs p ps reason → Parted M group reason

-- over an exact model, where no group has two members, nothing is undecided
abbrev pub SingleMembersDecide : Type 0
SingleMembersDecide =
    (M : Model) → Exact M → (group : ℕ → ℕ) (groups : ℕ) → ((g s t : ℕ) → Member M group g s → Member M group g t → s ≡ t)
    → (f : Formula) → MarksBelow M.marks f
    → ((g : ℕ) → g < groups → ¬ HasColour (colouring (grouped M group groups) f) g Undecided)
    × ¬ HasVerdict (grouped M group groups) f Undecided

-- & is the meet of its parts' colours and | their join; EX is the join, over all states, of "a step leads there" met with the colour there,
-- and AX the meet of "no step leads there" joined with it
abbrev pub ByTruthOrder : Type 0
ByTruthOrder =
    (M : Model) (r q : Formula) (s : ℕ) → s < M.states
    → (colour_of M (pair And r q) s ≡ meet (colour_of M r s) (colour_of M q s))
    × (colour_of M (pair Or r q) s ≡ join (colour_of M r s) (colour_of M q s))
    × ((k : Quantifier) → colour_of M (next k r) s ≡ next_value M k (colour_of M r) s)

-- z is its own value, and at most as true as every board that is no less true than its own value
abbrev pub Least : Model → ((ℕ → Colour) → ℕ → Colour) → (ℕ → Colour) → Type 0
Least M value z =
    ((s : ℕ) → s < M.states → z s ≡ value z s)
    × ((x : ℕ → Colour) → ((s : ℕ) → s < M.states → AtMost (value x s) (x s)) → (s : ℕ) → s < M.states → AtMost (z s) (x s))

-- z is its own value, and no less true than every board that is at most as true as its own value
abbrev pub Greatest : Model → ((ℕ → Colour) → ℕ → Colour) → (ℕ → Colour) → Type 0
Greatest M value z =
    ((s : ℕ) → s < M.states → z s ≡ value z s)
    × ((x : ℕ → Colour) → ((s : ℕ) → s < M.states → AtMost (x s) (value x s)) → (s : ℕ) → s < M.states → AtMost (x s) (z s))

abbrev pub until_by : Quantifier → Operator
until_by A = AU
until_by E = EU

abbrev pub release_by : Quantifier → Operator
release_by A = AV
release_by E = EV

-- U is the least solution of "q, or r and the next"
abbrev pub UntilIsLeast : Type 0
UntilIsLeast =
    (M : Model) (k : Quantifier) (r q : Formula)
    → Least M (until_value M k (colour_of M r) (colour_of M q)) (colour_of M (pair (until_by k) r q))

-- V is the greatest solution of "q, and r or the next"
abbrev pub ReleaseIsGreatest : Type 0
ReleaseIsGreatest =
    (M : Model) (k : Quantifier) (r q : Formula)
    → Greatest M (release_value M k (colour_of M r) (colour_of M q)) (colour_of M (pair (release_by k) r q))

-- boards that differ only where no step from s may lead have the same next value at s: after a change at t,
-- only the states with a possible step to t are to be looked at again
abbrev pub LooksOnlyAhead : Type 0
LooksOnlyAhead =
    (M : Model) (k : Quantifier) (x y : ℕ → Colour) (s : ℕ) → s < M.states
    → ((t : ℕ) → Possibly M s t → x t ≡ y t) → next_value M k x s ≡ next_value M k y s
