use Rattle.std.proofs.Common.{ℕ, ◌+◌, ◌≤◌, List, sym, subst, arith}
use Rattle.colouring.specs.passes.FallingColumns.{Same, load, Falls}
use Rattle.colouring.specs.declared.fall.FallingColumn.{FallingColumn}
use Rattle.colouring.proofs.Loans.{kept_trans, states_kept}
use Rattle.colouring.proofs.Descents.{falls_more, falls_skip, falls_all, load_more}
use Rattle.colouring.proofs.fall.FallingColumn.look_again.Goals as goal
use Rattle.colouring.proofs.fall.FallingColumn.look_again.Goals.{then-self-s, else-self-s}

pub look-requires-clause-tried : goal.look-requires-clause-tried
look-requires-clause-tried c = (c.loop-s.invariant.kept c.requires.0 c.requires.1).tried

pub loop-s-preserved : goal.loop-s-preserved
loop-s-preserved c =
    let a = c.args.self.now in
    let r = c.loop-s.self in
    let s = c.loop-s.s in
    let t = c.args.t in
    let i = c.loop-s.invariant in
    let Goal : FallingColumn → Type 0 = λ r. record {
      same : Same a r;
      kept : (b₀ : List ℕ) → Falls a b₀ t 0 → Falls r b₀ t (s + 1);
      load : load r ≤ load a;
    } in
    elim c.if-self-s.branch [
      | then-self-s w ↦ subst Goal (sym w.self-is) (record {
        same = kept_trans i.same w.look.ensures.same;
        kept = λ b₀ begun. falls_more r w.look.new.self w.look.ensures.same b₀ t s (omega (arith, states_kept i.same)) w.look.ensures.looks (i.kept b₀ begun);
        load = load_more r w.look.new.self w.look.ensures.same s _ w.look.ensures.looks i.load;
      })
      | else-self-s w ↦ subst Goal (sym w.self-is) (record {
        same = i.same;
        kept = λ b₀ begun. falls_skip r b₀ t s w.if-self-s.false (i.kept b₀ begun);
        load = i.load;
      })
    ]

pub returns-clause-kept : goal.returns-clause-kept
returns-clause-kept c = λ b₀ begun. falls_all c.args.self.now c.loop-s.self c.loop-s.invariant.same b₀ c.args.t c.loop-s.s c.loop-s-test.false (c.loop-s.invariant.kept b₀ begun)
