use Rattle.std.proofs.Common.{◌≡◌, ℕ, ◌+◌, true, false, sym, refl, ◌∙◌, add-one, arith, subst}
use Rattle.systems.specs.Below.{count_below}
use Rattle.systems.proofs.counting.tallies.count_below.Goals.{then-test, else-test}
use Rattle.systems.proofs.counting.tallies.count_below.Goals as goal

pub loop-k-preserved : goal.loop-k-preserved
loop-k-preserved g c =
    let i = c.loop-k.k in
    let so_far = c.loop-k.invariant in
    elim c.if-test.branch [
      | then-test w ↦ (
        omega (arith, w.count-is, so_far.0),
        λ t h.
            let hit : t i ≡ true = sym (h i c.test.result c.test.ensures) ∙ w.if-test.true in
            let more : count_below t (i + 1) ≡ count_below t i + 1 = rw (add-one i, hit) refl in
            omega (arith, w.count-is, so_far.1 t h),
      )
      | else-test w ↦ (
        omega (arith, w.count-is, so_far.0),
        λ t h.
            let miss : t i ≡ false = sym (h i c.test.result c.test.ensures) ∙ w.if-test.false in
            let same : count_below t (i + 1) ≡ count_below t i = rw (add-one i, miss) (omega arith) in
            omega (arith, w.count-is, so_far.1 t h),
      )
    ]

pub returns-clause-is : goal.returns-clause-is
returns-clause-is g c = λ t h.
    let all : c.loop-k.k ≡ c.args.n = omega arith in
    subst (λ (n : ℕ). c.loop-k.count ≡ count_below t n) all (c.loop-k.invariant.1 t h)
