-- Where a search for a cause begins, and the chain that it leaves.
use Rattle.std.specs.Prelude.{◌≡◌, ℕ, ◌-◌, ◌<◌, true, false, List, ◌∷◌, map, length, take, Some, None, Option}
use Rattle.systems.specs.Model.{Model}
use Rattle.rules.specs.declared.syntax.Clause.{Clause}
use Rattle.colours.specs.declared.chains.Position.{Position}
use Rattle.colours.specs.declared.chains.Reason.{Reason}
use Rattle.colours.specs.Boards.{Coloured}
use Rattle.colours.specs.Chains.{Open, Chain}
use Rattle.engine.specs.Causes.{open_start}

-- the last of C clauses, which is the rule, at the lowest start with the byte 0 for it, if there is one
abbrev pub LowestShown : Model → ℕ → List ℕ → Option Position → Type 0
LowestShown M C board (Some p) =
    (p.clause ≡ C - 1) × (p.group < M.states) × (open_start M C board p.group ≡ true)
    × ((h : ℕ) → h < p.group → open_start M C board h ≡ false)
LowestShown M C board None = (h : ℕ) → h < M.states → open_start M C board h ≡ false

-- the first places of the list hold a chain from a position, as long as told
pub record ChainStands (M : Model) (cs : List Clause) (start : Position) (list : List (Option Position)) (reason : Reason) (long : ℕ) : Type 0 where
  pub rest : List Position
  pub counted : long ≡ length (start ∷ rest)
  pub stands : take long list ≡ map Some (start ∷ rest)
  pub chain : Chain M cs start rest reason

abbrev pub ChainTold : Model → List Clause → Position → List (Option Position) → Option (Reason × ℕ) → Type 0
ChainTold M cs start list (Some r) = ChainStands M cs start list r.0 r.1
ChainTold M cs start list None = ⊥

-- on a coloured board a chain is found from every undecided position
abbrev pub ChainFound : Model → List Clause → List ℕ → Position → List (Option Position) → Option (Reason × ℕ) → Type 0
ChainFound M cs board start list answer = Coloured M cs board → Open M cs start → ChainTold M cs start list answer
