use Rattle.std.proofs.Common.{◌≡◌, refl, ap, ◌∙◌, rules, arith}
use Rattle.std.proofs.lemmas.Iterator.{YieldsList-from_range, YieldsList-from_map}
use Rattle.std.proofs.lemmas.Iterator.Consumers.{fold_from_yields_List, YieldsList-at}
use Rattle.systems.specs.Written.{table_model}
use Rattle.systems.specs.declared.kinds.Colour.TheVariants.{T}
use Rattle.rules.specs.Rules.{clause_list}
use Rattle.rules.proofs.Rules.{every_rule}
use Rattle.colours.specs.Values.{meet, meet_below}
use Rattle.colouring.specs.Boards.{told_at, verdict_on}
use Rattle.colouring.proofs.Folds.{meet_over}
use Rattle.colouring.proofs.Reading.{verdict_told}
use Rattle.colouring.proofs.boards.verdict.Goals as goal

pub returns : goal.returns
returns c =
    let M = table_model c.args.table.now in
    let cs = clause_list c.args.rule.now in
    let b = c.args.board.now in
    let read : c.fold.result ≡ verdict_on M cs b =
    fold_from_yields_List _ meet T c.fold.result c.fold.ensures.ran
    (YieldsList-from_map _ (told_at M cs b) (YieldsList-at c.map.ensures.source (YieldsList-from_range 0 c.states.result c.states.result refl (omega arith))) c.map.ensures.closure (λ x r q k. search rules))
    (λ a x z q k. search rules)
    ∙ meet_over (told_at M cs b) c.states.result ∙ ap (λ n. meet_below n (told_at M cs b)) c.states.ensures in
    record { read = read; verdict = λ coloured. read ∙ verdict_told M cs b (every_rule c.args.rule.now).some coloured }
