use Rattle.std.proofs.Common.{◌≡◌, ℕ, ◌+◌, ◌<◌, ◌≤◌, List, length, Some, None, Option, Result, set, get_or, refl, ap, ◌∙◌, subst, subst₂, arith}
use Rattle.std.specs.Result.{IsOk}
use Rattle.std.proofs.lemmas.List.{map-set}
use Rattle.std.proofs.lemmas.Bool.Decides.{not_from_Decides}
use Rattle.systems.specs.declared.kinds.Colour.{Colour}
use Rattle.systems.specs.declared.refusals.Refusal.{Refusal}
use Rattle.systems.specs.Numbers.{colour_number}
use Rattle.queue.specs.declared.ring.Ring.{Ring}
use Rattle.queue.specs.Held.{held, room, Pushed}
use Rattle.colouring.specs.declared.notes.Note.{Note}
use Rattle.colouring.specs.declared.fall.FallingColumn.{FallingColumn}
use Rattle.colouring.specs.passes.Bytes.{flipped}
use Rattle.colouring.specs.passes.Columns.{model, cell, column}
use Rattle.colouring.specs.passes.Falling.{left_below, lower, Within, First, witnesses, trials, Tried, Upheld, Looked}
use Rattle.colouring.proofs.Placing.{fits_same}
use Rattle.colouring.proofs.Looks.{looked_pushed, looked_upheld, none_before}
use Rattle.colouring.proofs.Descents.{noted, blank}
use Rattle.colouring.proofs.fall.FallingColumn.look.Goals as goal

module _ (r : FallingColumn) (s : ℕ) where
  abbrev whole : ℕ → Colour
  whole = column r.columns r.board.now r.columns.whole

  abbrev left : Colour
  left = column r.columns r.board.now r.columns.left s

  abbrev LookedTo : Note → (b' h' : List ℕ) → Type 0
  LookedTo n b' h' = Looked r.columns (model r.columns) r.board.now b' (held r.queue.now) h' (witnesses r.notes) (witnesses (set r.notes s n)) (trials r.notes) (trials (set r.notes s n)) s

  module _ (low : s < r.columns.states) (tried : Tried r.columns (model r.columns) r.board.now (trials r.notes)) (found : Option ℕ)
      (first : First (model r.columns) whole s (get_or r.notes s blank).tried found) where
    -- none before u upholds, where none from the noted one on does
    before : (u : ℕ) → ((v : ℕ) → (get_or r.notes s blank).tried ≤ v → v < u → ¬ Upheld (model r.columns) whole s v) → (v : ℕ) → v < u → ¬ Upheld (model r.columns) whole s v
    before u none = none_before r.columns (model r.columns) r.board.now (held r.queue.now) (witnesses r.notes) (trials r.notes) s tried (omega (arith, r.columns.every_state)) u
        (λ v a. none v (omega (arith, a, noted (λ n. n.tried) r.notes s)))

    upheld : (u : ℕ) → found ≡ Some u → LookedTo (record { witness = u; tried = u }) r.board.now (held r.queue.now)
    upheld u e =
        let at : First (model r.columns) whole s (get_or r.notes s blank).tried (Some u) = subst (First (model r.columns) whole s (get_or r.notes s blank).tried) e first in
        looked_upheld r.columns (model r.columns) r.board.now (held r.queue.now) (witnesses r.notes) (trials r.notes) s u at.0 at.1 (before u at.2) _ _
        (map-set (λ n. n.witness) r.notes s (record { witness = u; tried = u })) (map-set (λ n. n.tried) r.notes s (record { witness = u; tried = u }))

    pushed : found ≡ None → (here : Colour) → here ≡ whole s → ¬ Within (whole s) left → (lowered : Colour) → lowered ≡ lower here
        → (b' : List ℕ) (q' : Ring ℕ) (x : ℕ) (answer : Result (Unit {0}) Refusal)
        → b' ≡ set r.board.now (cell r.columns r.columns.whole s) (colour_number (flipped r.columns.negated lowered)) → x ≡ cell r.columns r.columns.whole s → Pushed r.queue.now x q' answer
        → IsOk answer × (room q' ≡ room r.queue.now) × LookedTo (record { witness = s; tried = 0 }) b' (held q') × (length (held q') + left_below r.columns b' ≤ room q')
    pushed e here is no_r lowered low' b' q' x answer wrote at =
        let none : First (model r.columns) whole s (get_or r.notes s blank).tried None = subst (First (model r.columns) whole s (get_or r.notes s blank).tried) e first in
        looked_pushed r.columns (model r.columns) r.board.now (held r.queue.now) (witnesses r.notes) (trials r.notes) s r.fits low here is no_r
        (before (model r.columns).states none) b' _ _ r.queue.now q' x answer refl
        (wrote ∙ ap (λ v. set r.board.now (cell r.columns r.columns.whole s) (colour_number (flipped r.columns.negated v))) low') at
        (map-set (λ n. n.witness) r.notes s (record { witness = s; tried = 0 })) (map-set (λ n. n.tried) r.notes s (record { witness = s; tried = 0 })) r.place

pub returns-in-Some-clause-looks : goal.returns-in-Some-clause-looks
returns-in-Some-clause-looks c = upheld c.args.self.now c.args.s c.requires.s c.requires.tried c.find.result c.find.ensures c.in-Some.u c.in-Some.is

pub unwrap-requires : goal.unwrap-requires
unwrap-requires c =
    (pushed c.args.self.now c.args.s c.requires.s c.requires.tried c.find.result c.find.ensures c.in-None.is c.read-here.result c.read-here.ensures
    (subst₂ (λ x y. ¬ Within x y) c.read-here.ensures c.read.ensures (not_from_Decides _ c.within.ensures c.if-within.false)) c.lower.result c.lower.ensures
    c.write.new.board c.push.new.self c.position.result c.push.result c.write.ensures c.position.ensures c.push.ensures).0

pub invariant_of-self-in-None : goal.invariant_of-self-in-None
invariant_of-self-in-None c = record {
  fits = fits_same c.args.self.now.columns c.args.self.now.board.now c.write.new.board (omega arith) c.args.self.now.fits;
  place = (pushed c.args.self.now c.args.s c.requires.s c.requires.tried c.find.result c.find.ensures c.in-None.is c.read-here.result c.read-here.ensures
      (subst₂ (λ x y. ¬ Within x y) c.read-here.ensures c.read.ensures (not_from_Decides _ c.within.ensures c.if-within.false)) c.lower.result c.lower.ensures
      c.write.new.board c.push.new.self c.position.result c.push.result c.write.ensures c.position.ensures c.push.ensures).3;
}

pub returns-in-None-clause-looks : goal.returns-in-None-clause-looks
returns-in-None-clause-looks c =
    (pushed c.args.self.now c.args.s c.requires.s c.requires.tried c.find.result c.find.ensures c.in-None.is c.read-here.result c.read-here.ensures
    (subst₂ (λ x y. ¬ Within x y) c.read-here.ensures c.read.ensures (not_from_Decides _ c.within.ensures c.if-within.false)) c.lower.result c.lower.ensures
    c.write.new.board c.push.new.self c.position.result c.push.result c.write.ensures c.position.ensures c.push.ensures).2
