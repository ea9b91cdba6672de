use Rattle.std.proofs.Common.{◌≡◌, ℕ, ◌<◌, ◌≤◌, Some, None, Option, rules, arith}
use Rattle.std.specs.Option.{MatchOption}
use Rattle.std.proofs.lemmas.Iterator.{first_from_Range}
use borrow.Author.Tests.{tests}
use Rattle.systems.specs.declared.kinds.Colour.{Colour}
use Rattle.systems.specs.Model.{Model}
use Rattle.colouring.specs.passes.Columns.{model, column}
use Rattle.colouring.specs.passes.Falling.{Upheld, First}
use Rattle.colouring.proofs.fall.FallingColumn.find.Goals as goal

first : (M : Model) (x : ℕ → Colour) (s from n : ℕ) (r : Option ℕ) → n ≡ M.states
    → MatchOption r ((v : ℕ) → from ≤ v → v < n → ¬ Upheld M x s v) (λ u. (from ≤ u) × (u < n) × Upheld M x s u × ((v : ℕ) → from ≤ v → v < u → ¬ Upheld M x s v)) → First M x s from r
first M x s from n None e h = λ v a b. h v a (omega arith)
first M x s from n (Some u) e h = (omega (arith, h.1), h.2, h.3)

pub returns : goal.returns
returns c =
    let p = c.args.self.now.columns in
    let M = model p in
    let x = column p c.args.self.now.board.now p.whole in
    let s = c.args.s in
    first M x s c.args.from c.states.result c.find.result c.states.ensures
    (first_from_Range _ _ _ c.find.result (Upheld M x s) (λ u. ¬ Upheld M x s u) c.find.ensures.ran (λ u q k. search (rules, tests)) (λ u q k. search (rules, tests)))
