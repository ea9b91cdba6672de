use Rattle.std.proofs.Common.{◌≡◌, ℕ, ◌+◌, ◌*◌, ◌<◌, length, get_or, Ok, Err, Result, sym, ap, ◌∙◌, rules, arith}
use Rattle.std.proofs.lemmas.Option.{slice_get-get_or}
use Rattle.std.specs.Result.{result_ok}
use Rattle.systems.specs.declared.kinds.Colour.{Colour}
use Rattle.systems.specs.declared.kinds.UnlistedByte.{UnlistedByte}
use Rattle.systems.specs.Numbers.{colour_from, Decodes}
use Rattle.systems.specs.Written.{table_model}
use Rattle.rules.specs.Rules.{clause_list}
use Rattle.colours.specs.Boards.{place}
use Rattle.colouring.specs.Boards.{colour_of_byte}
use Rattle.colouring.proofs.Reading.{colour_inside}
use Rattle.colouring.proofs.boards.colour_at.Goals as goal

decoded : (byte : ℕ) (r : Result Colour UnlistedByte) → Decodes colour_from byte r → result_ok r ≡ colour_from byte
decoded byte (Ok v) e = search rules
decoded byte (Err v) e = search rules

pub returns-clause-read : goal.returns-clause-read
returns-clause-read c =
    let M = table_model c.args.table.now in
    let cs = clause_list c.args.rule.now in
    let b = c.args.board.now in
    let g = c.args.state in
    let k = c.args.clause in
    let byte = c.in_ok-byte.field-0.now in
    let e : g * c.count-2.result + k ≡ place (length cs) g k = ap (λ n. g * n + k) c.count-2.ensures.is in
    let here : byte ≡ get_or b (g * c.count-2.result + k) 0 = search rules in
    let low : g * c.count-2.result + k < length b = search rules in
    c.ok.ensures.value ∙ decoded byte c.try_from.result c.try_from.ensures ∙ ap colour_from (here ∙ ap (λ n. get_or b n 0) e)
    ∙ ap colour_of_byte (sym (slice_get-get_or b (place (length cs) g k) 0 (omega (arith, e))))
    ∙ sym (colour_inside M cs b g k (omega (arith, c.states.ensures, c.if-state-states.false)) (omega (arith, c.count.ensures.is, c.if-clause-count.false)))
