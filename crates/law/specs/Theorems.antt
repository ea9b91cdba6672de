-- What is proved of runs.
use Rattle.std.specs.Prelude.{◌≡◌, ℕ, ◌≤◌, ◌⊎◌, List, [], ◌∷◌, ◌++◌, map}
use Rattle.std.specs.List.{AllZip}
use Rattle.systems.specs.Model.{Model, Lawful}
use Rattle.colours.specs.declared.chains.Position.{Position}
use Rattle.colours.specs.declared.chains.Reason.{Reason}
use Rattle.law.specs.Ledgers.{Ledger, fresh, places, Sound}
use Rattle.law.specs.Calls.{Call, Answer, Reply, Agrees}
use Rattle.law.specs.Runs.{Event, Run}
use Rattle.law.specs.Laws.{UndecidedVerdict, Explains, GivesCause, Laws, Ran}

-- every run from a sound ledger keeps the laws
abbrev pub RunsKeepLaws : Type 0
RunsKeepLaws = (M : Model) (l : Ledger) → Sound M l → (es : List Event) → Run M l es → Laws M l es

-- the ledger of a new study is sound, so that every run of a new study keeps the laws
abbrev pub NewRunsKeepLaws : Type 0
NewRunsKeepLaws = (M : Model) → Lawful M → Sound M (fresh M) × ((es : List Event) → Run M (fresh M) es → Laws M (fresh M) es)

-- two answers are the same, or both are those of accepted causes, which may take one chain or another
abbrev pub SameButForChain : Answer → Answer → Type 0
SameButForChain a b = (a ≡ b) ⊎ (GivesCause a × GivesCause b)

-- the ledger and the call fix the reply, but for the chain of a cause, and the ledger after it
abbrev pub RepliesDetermined : Type 0
RepliesDetermined =
    (M : Model) (l : Ledger) → Sound M l → (c : Call) (x y : Reply) (r q : Ledger) → Agrees M l c x r → Agrees M l c y q
    → SameButForChain x.answer y.answer × (x.bytes ≡ y.bytes) × (r ≡ q)

-- the same ledgers before and after, and the same reply but for the chain
abbrev pub SameEvent : Event → Event → Type 0
SameEvent e d =
    (e.before ≡ d.before) × (e.after ≡ d.after)
    × SameButForChain e.reply.answer d.reply.answer × (e.reply.bytes ≡ d.reply.bytes)

-- the calls of a run fix its ledgers, and its replies but for chains
abbrev pub OneRun : Type 0
OneRun =
    (M : Model) (l : Ledger) → Sound M l → (es ds : List Event) → Run M l es → Run M l ds
    → map (λ e. e.call) es ≡ map (λ e. e.call) ds → AllZip SameEvent es ds

-- where the verdict is undecided, a chain explains it that fits into as many places as there are positions
abbrev pub HasACause : Type 0
HasACause =
    (M : Model) (l : Ledger) → Sound M l → UndecidedVerdict M l
    → (slip : Reason) × (told : ℕ) × (chain : List Position) × Explains M l slip told chain × (told ≤ places M l)

-- every call has a reply that agrees
abbrev pub Answerable : Type 0
Answerable = (M : Model) (l : Ledger) → Sound M l → (c : Call) → (reply : Reply) × (after : Ledger) × Agrees M l c reply after

-- so every list of calls makes a run
abbrev pub EveryListRuns : Type 0
EveryListRuns = (M : Model) (l : Ledger) → Sound M l → (calls : List Call) → (replies : List Reply) × (r : Ledger) × Ran M l calls replies r

-- what a loop over calls needs: no calls make a run, and one more call that agrees with the ledger reached makes a longer one
abbrev pub RunsGrow : Type 0
RunsGrow =
    (M : Model) (l : Ledger) → Sound M l
    → Ran M l [] [] l
    × ((calls : List Call) (replies : List Reply) (m : Ledger) → Ran M l calls replies m
    → (c : Call) (reply : Reply) (r : Ledger) → Agrees M m c reply r → Ran M l (calls ++ c ∷ []) (replies ++ reply ∷ []) r)
