use Rattle.std.proofs.Common.{◌≡◌, ℕ, ◌<◌, rules, true, false, subst, sym, arith}
use borrow.Author.Tests.{tests}
use Rattle.std.proofs.lemmas.Iterator.{first_from_Range}
use Rattle.engine.specs.Causes.{open_start}
use Rattle.engine.specs.search.Scenes.{model_of, count_of}
use Rattle.engine.proofs.cause.scene.Scene.lowest_open.Goals as goal

pub returns-in_err-group : goal.returns-in_err-group
returns-in_err-group c =
    let e = c.args.self.now in
    let M = model_of e in
    let is_open : ℕ → Type 0 = λ g. g < M.states → open_start M (count_of e) e.board.now g ≡ true in
    let is_not : ℕ → Type 0 = λ g. g < M.states → open_start M (count_of e) e.board.now g ≡ false in
    let found = first_from_Range _ _ _ c.find.result is_open is_not c.find.ensures.ran (λ x q k. search (rules, tests)) (λ x q k. search (rules, tests)) in
    let none = rw c.in_err-group.was at found in
    rw c.from_residual.ensures (λ h b. none h (omega arith) (omega (arith, c.states.ensures)) b)

pub returns : goal.returns
returns c =
    let e = c.args.self.now in
    let M = model_of e in
    let is_open : ℕ → Type 0 = λ g. g < M.states → open_start M (count_of e) e.board.now g ≡ true in
    let is_not : ℕ → Type 0 = λ g. g < M.states → open_start M (count_of e) e.board.now g ≡ false in
    let found = first_from_Range _ _ _ c.find.result is_open is_not c.find.ensures.ran (λ x q k. search (rules, tests)) (λ x q k. search (rules, tests)) in
    let some = rw c.in_ok-group.was at found in
    let low : c.in_ok-group.group < M.states = omega (arith, some.1, c.states.ensures) in (
      c.whole_at.ensures.clause,
      omega (arith, c.whole_at.ensures.group, low),
      subst (λ g. open_start M (count_of e) e.board.now g ≡ true) (sym c.whole_at.ensures.group) (some.2 low),
      λ h b. some.3 h (omega arith) (omega (arith, b, c.whole_at.ensures.group)) (omega (arith, b, c.whole_at.ensures.group, low)),
    )
