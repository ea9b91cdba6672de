-- What holds of every run.
use Rattle.std.specs.Prelude.{◌≡◌, ℕ, suc, ◌+◌, ◌<◌, ◌≤◌, ◌⊎◌, List, [], ◌∷◌, ◌++◌, map, length, slice_index}
use Rattle.std.specs.List.{AllByRecursion}
use Rattle.systems.specs.declared.kinds.Colour.{Colour}
use Rattle.systems.specs.declared.kinds.Colour.TheVariants.{Undecided, F, T}
use Rattle.systems.specs.declared.refusals.Refusal.TheVariants.{VerdictDecided}
use Rattle.systems.specs.Model.{Model, Starts, Exact}
use Rattle.systems.specs.Numbers.{colour_number}
use Rattle.rules.specs.Formulas.{Formula, MarksBelow}
use Rattle.rules.specs.Clauses.{formula, whole}
use Rattle.colours.specs.declared.chains.Position.{Position}
use Rattle.colours.specs.declared.chains.Reason.{Reason}
use Rattle.colours.specs.Walks.{Among}
use Rattle.colours.specs.Colours.{colouring, HasColour, HasVerdict}
use Rattle.colours.specs.Boards.{place}
use Rattle.colours.specs.Chains.{Cause}
use Rattle.groupings.specs.Members.{group_of, group_count}
use Rattle.law.specs.Ledgers.{Ledger, model, Sound}
use Rattle.law.specs.Calls.{Call, regroup, look, cause, split, Answer, refused, done, judged, looked, caused, Reply, Roomy}
use Rattle.law.specs.Runs.{Event, Run, ledger_after}

-- Truth. A reply speaks of the formula that a clause reads as, whatever the clause's number.

-- where a board keeps the colour of clause c at the group of the state s
abbrev pub place_at : Ledger → (s c : ℕ) → ℕ
place_at l s c = place (length l.rule) (group_of l.groups s) c

-- among the coloured bytes, that of a clause that reads as f at the group of s is the colour v
abbrev pub OnBoard : Event → ℕ → Formula → Colour → Type 0
OnBoard e s f v =
    (c : ℕ) × (c < length e.before.rule) × (formula e.before.rule c ≡ f)
    × (place_at e.before s c < length e.reply.bytes) × (slice_index e.reply.bytes (place_at e.before s c) ≡ colour_number v)

-- look answers v for a clause that reads as f at the state s
abbrev pub ByLook : Event → ℕ → Formula → Colour → Type 0
ByLook e s f v =
    (board : ℕ) × (queue : ℕ) × (c : ℕ) × (e.call ≡ look board queue s c)
    × (formula e.before.rule c ≡ f) × (e.reply.answer ≡ looked v)

-- the reply says that f has the colour v at the state s
abbrev pub Says : Event → ℕ → Formula → Colour → Type 0
Says e s f v = OnBoard e s f v ⊎ ByLook e s f v

-- the reply says that the rule f has the verdict v
abbrev pub SaysVerdict : Event → Formula → Colour → Type 0
SaysVerdict e f v =
    (whole e.before.rule ≡ f) × ((t : ℕ) × (n : ℕ) × (u : ℕ) × (e.reply.answer ≡ judged v t n u))

-- every T and F of a reply is the value in the system below
pub record Truthful (M : Model) (e : Event) : Type 0 where
  pub colours : (s : ℕ) (f : Formula) (v : Colour) → s < M.states → ¬ (v ≡ Undecided) → Says e s f v → HasColour (colouring M f) s v
  pub verdict : (f : Formula) (v : Colour) → ¬ (v ≡ Undecided) → SaysVerdict e f v → HasVerdict M f v

-- No contradiction.

-- the one reply does not say T where the other says F
pub record Compatible (M : Model) (e d : Event) : Type 0 where
  pub colours : (s : ℕ) (f : Formula) → s < M.states → Says e s f T → ¬ Says d s f F
  pub verdicts : (f : Formula) → SaysVerdict e f T → ¬ SaysVerdict d f F
  pub starts : (s : ℕ) (f : Formula) → Starts M s → SaysVerdict e f T → ¬ Says d s f F

-- Cause.

-- the verdict of the ledger's rule on its groups is undecided
abbrev pub UndecidedVerdict : Model → Ledger → Type 0
UndecidedVerdict M l = HasVerdict (model M l) (whole l.rule) Undecided

-- the chain leads unbroken from the rule at the lowest start where it is undecided to the slip, and is as long as told
abbrev pub Explains : Model → Ledger → (slip : Reason) (told : ℕ) (chain : List Position) → Type 0
Explains M l slip told chain =
    (told ≡ length chain)
    × ((p : Position) × (ps : List Position) × (chain ≡ p ∷ ps) × Cause (model M l) l.rule p ps slip)

-- the call is a cause, and each of its workspaces has a place for every position
abbrev pub CauseWithRoom : Model → Event → Type 0
CauseWithRoom M e =
    (board : ℕ) × (queue : ℕ) × (links : ℕ) × (chain : ℕ) × (e.call ≡ cause board queue links chain)
    × Roomy M e.before (board ∷ queue ∷ links ∷ chain ∷ [])

-- the answer is that of an accepted cause
abbrev pub GivesCause : Answer → Type 0
GivesCause a = (slip : Reason) × (told : ℕ) × (chain : List Position) × (a ≡ caused slip told chain)

-- with room a cause is accepted exactly when the verdict is undecided; its answer explains why
pub record Causes (M : Model) (e : Event) : Type 0 where
  pub accepted : CauseWithRoom M e → UndecidedVerdict M e.before → GivesCause e.reply.answer
  pub otherwise : CauseWithRoom M e → ¬ UndecidedVerdict M e.before → e.reply.answer ≡ refused VerdictDecided
  pub explained : (slip : Reason) (told : ℕ) (chain : List Position) → e.reply.answer ≡ caused slip told chain
      → UndecidedVerdict M e.before × Explains M e.before slip told chain

-- Progress.

-- an accepted split, an accepted regroup, and what is neither
abbrev pub Splits : Event → Type 0
Splits e = (slip : Reason) × (e.call ≡ split slip) × (e.reply.answer ≡ done)

abbrev pub Regroups : Event → Type 0
Regroups e = (xs : List ℕ) × (e.call ≡ regroup xs) × (e.reply.answer ≡ done)

abbrev pub Neither : Event → Type 0
Neither e = ¬ Splits e × ¬ Regroups e

-- among the events are k accepted splits, and no accepted regroup
pub data Splitting : ℕ → List Event → Type 0 where
  none : Splitting 0 []
  one_more : {k : ℕ} {e : Event} {es : List Event} → Splits e → Splitting k es → Splitting (suc k) (e ∷ es)
  no_more : {k : ℕ} {e : Event} {es : List Event} → Neither e → Splitting k es → Splitting k (e ∷ es)

-- from G groups, without regroup, at most N - G splits are accepted
abbrev pub Bounded : Model → Ledger → List Event → Type 0
Bounded M l es =
    (first between rest : List Event) (k : ℕ) → es ≡ first ++ (between ++ rest) → Splitting k between
    → k + group_count (ledger_after l first).groups ≤ M.states

-- over an exact model splitting goes on and ends
pub record Progress (M : Model) (l : Ledger) (es : List Event) : Type 0 where
  -- a split by the slip of an accepted cause, with no accepted split or regroup between, is accepted
  pub goes_on : (first between rest : List Event) (e d : Event) → es ≡ first ++ (e ∷ (between ++ (d ∷ rest)))
      → (slip : Reason) (told : ℕ) (chain : List Position) → e.reply.answer ≡ caused slip told chain
      → AllByRecursion Neither between → d.call ≡ split slip → d.reply.answer ≡ done
  -- after N - G accepted splits from G groups, without regroup, no rule at all has an undecided verdict
  pub ends : (first between rest : List Event) (k : ℕ) → es ≡ first ++ (between ++ rest) → Splitting k between
      → k + group_count (ledger_after l first).groups ≡ M.states
      → (f : Formula) → MarksBelow M.marks f → ¬ HasVerdict (model M (ledger_after l (first ++ between))) f Undecided

-- the laws of a run from the ledger l
pub record Laws (M : Model) (l : Ledger) (es : List Event) : Type 0 where
  pub sound : AllByRecursion (λ e. Sound M e.before × Sound M e.after) es
  pub truth : AllByRecursion (Truthful M) es
  pub no_contradiction : (e d : Event) → Among e es → Among d es → Compatible M e d
  pub causes : AllByRecursion (Causes M) es
  pub bounded : Bounded M l es
  pub progress : Exact M → Progress M l es

-- calls and replies, in their order, make a run from the ledger l to the ledger r, and it keeps the laws
pub record Ran (M : Model) (l : Ledger) (calls : List Call) (replies : List Reply) (r : Ledger) : Type 0 where
  pub events : List Event
  pub called : map (λ e. e.call) events ≡ calls
  pub replied : map (λ e. e.reply) events ≡ replies
  pub run : Run M l events
  pub ended : ledger_after l events ≡ r
  pub laws : Laws M l events
