-- Every run keeps the laws; runs grow by calls, and every list of calls makes one.
use Rattle.std.proofs.Common.{◌≡◌, List, [], ◌∷◌, ◌++◌, map, sym, refl, ap, ◌∙◌, subst}
use Rattle.std.specs.List.{AllByRecursion}
use Rattle.std.proofs.lemmas.List.{map-append}
use Rattle.systems.specs.Model.{Model}
use Rattle.colours.proofs.Lists.{all_among, all_weaker}
use Rattle.law.specs.Ledgers.{Ledger, fresh, Sound}
use Rattle.law.specs.Calls.{Call}
use Rattle.law.specs.Runs.{ledger_after, Event, Agreed, Run}
use Rattle.law.specs.Laws.{Truthful, Causes}
use Rattle.law.specs.Theorems.{RunsKeepLaws, NewRunsKeepLaws, EveryListRuns, RunsGrow}
use Rattle.law.proofs.Soundness.{fresh_sound}
use Rattle.law.proofs.Truth.{truthful, compatible}
use Rattle.law.proofs.Causing.{causes}
use Rattle.law.proofs.Histories.{after_both, run_push, after_sound}
use Rattle.law.proofs.Answering.{answerable}
use Rattle.law.proofs.Progress.{progress, bounded}

-- an event that agrees, between sound ledgers
abbrev Good : Model → Event → Type 0
Good M e = Agreed M e × (Sound M e.before × Sound M e.after)

good : (M : Model) (l : Ledger) (es : List Event) → Sound M l → Run M l es → AllByRecursion (Good M) es
good M l [] w run = tt
good M l (e ∷ es) w run =
    let after = after_sound M l e w run.0 run.1 in
    ((run.1, (subst (Sound M) (sym run.0) w, after)), good M e.after es after run.2)

pub runs_keep_laws : RunsKeepLaws
runs_keep_laws M l w es run =
    let all = good M l es w run in
    let true = all_weaker (Good M) (Truthful M) (λ e g. truthful M e g.0) es all in
    record {
      sound = all_weaker (Good M) (λ e. Sound M e.before × Sound M e.after) (λ e g. g.1) es all;
      truth = true;
      no_contradiction = λ e d x y. compatible M e d (all_among (Truthful M) e es true x) (all_among (Truthful M) d es true y);
      causes = all_weaker (Good M) (Causes M) (λ e g. causes M e g.0) es all;
      bounded = bounded M l es w run;
      progress = progress M l es w run;
    }

pub new_runs_keep_laws : NewRunsKeepLaws
new_runs_keep_laws M lawful =
    let w = fresh_sound M lawful.states_some in
    (w, λ es run. runs_keep_laws M (fresh M) w es run)

pub runs_grow : RunsGrow
runs_grow M l w = (
  record { events = []; called = refl; replied = refl; run = tt; ended = refl; laws = runs_keep_laws M l w [] tt },
  λ calls replies m ran c reply r g.
      let e : Event = record { before = m; call = c; reply = reply; after = r } in
      let longer = run_push M l ran.events e ran.run (sym ran.ended) g in
      record {
        events = ran.events ++ e ∷ [];
        called = map-append (λ x. x.call) ran.events (e ∷ []) ∙ ap (λ cs. cs ++ c ∷ []) ran.called;
        replied = map-append (λ x. x.reply) ran.events (e ∷ []) ∙ ap (λ rs. rs ++ reply ∷ []) ran.replied;
        run = longer;
        ended = after_both l ran.events (e ∷ []);
        laws = runs_keep_laws M l w (ran.events ++ e ∷ []) longer;
      },
)

run_for : (M : Model) (l : Ledger) → Sound M l → (calls : List Call) → (es : List Event) × (map (λ e. e.call) es ≡ calls) × Run M l es
run_for M l w [] = ([], refl, tt)
run_for M l w (c ∷ cs) =
    let a = answerable M l w c in
    let e : Event = record { before = l; call = c; reply = a.0; after = a.1 } in
    let rest = run_for M a.1 (after_sound M l e w refl a.2) cs in
    (e ∷ rest.0, ap (λ ds. c ∷ ds) rest.1, (refl, a.2, rest.2))

pub every_list_runs : EveryListRuns
every_list_runs M l w calls =
    let x = run_for M l w calls in (
      map (λ e. e.reply) x.0,
      ledger_after l x.0,
      record { events = x.0; called = x.1; replied = refl; run = x.2; ended = refl; laws = runs_keep_laws M l w x.0 x.2 },
    )
