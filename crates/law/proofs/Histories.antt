-- Runs in parts, and what they do to the groups.
use Rattle.std.proofs.Common.{◌≡◌, ℕ, zero, suc, ◌+◌, List, [], ◌∷◌, ◌++◌, sym, refl, ap, ◌∙◌, subst, arith}
use Rattle.std.specs.List.{AllByRecursion}
use Rattle.systems.specs.Model.{Model}
use Rattle.groupings.specs.Members.{group_count}
use Rattle.law.specs.Ledgers.{Ledger, Sound}
use Rattle.law.specs.Calls.{Call, set_rule, regroup, judge, look, cause, split, Agrees, accepts, refuses}
use Rattle.law.specs.Runs.{Event, Agreed, Run, ledger_after}
use Rattle.law.specs.Laws.{Splits, Neither, Splitting, none, one_more, no_more}
use Rattle.law.proofs.Soundness.{agreed_sound, divided_count}

-- a run in two parts
pub run_front : (M : Model) (l : Ledger) (xs ys : List Event) → Run M l (xs ++ ys) → Run M l xs
run_front M l [] ys run = tt
run_front M l (x ∷ xs) ys run = (run.0, run.1, run_front M x.after xs ys run.2)

pub run_back : (M : Model) (l : Ledger) (xs ys : List Event) → Run M l (xs ++ ys) → Run M (ledger_after l xs) ys
run_back M l [] ys run = run
run_back M l (x ∷ xs) ys run = run_back M x.after xs ys run.2

pub after_both : (l : Ledger) (xs ys : List Event) → ledger_after l (xs ++ ys) ≡ ledger_after (ledger_after l xs) ys
after_both l [] ys = refl
after_both l (x ∷ xs) ys = after_both x.after xs ys

-- a run with one more event
pub run_push : (M : Model) (l : Ledger) (es : List Event) (e : Event) → Run M l es → e.before ≡ ledger_after l es → Agreed M e
    → Run M l (es ++ e ∷ [])
run_push M l [] e run b g = (b, g, tt)
run_push M l (d ∷ ds) e run b g = (run.0, run.1, run_push M d.after ds e run.2 b g)

module _ (M : Model) where
  before_sound : (l : Ledger) (e : Event) → Sound M l → e.before ≡ l → Sound M e.before
  before_sound l e w same = subst (Sound M) (sym same) w

  pub after_sound : (l : Ledger) (e : Event) → Sound M l → e.before ≡ l → Agreed M e → Sound M e.after
  after_sound l e w same g = agreed_sound M e.before e.call e.reply e.after (before_sound l e w same) g

  pub run_sound : (l : Ledger) (es : List Event) → Sound M l → Run M l es → Sound M (ledger_after l es)
  run_sound l [] w run = w
  run_sound l (e ∷ es) w run = run_sound e.after es (after_sound l e w run.0 run.1) run.2

  -- what neither splits nor regroups keeps the groups
  pub same_groups : (e : Event) → Neither e → Agreed M e → e.after.groups ≡ e.before.groups
  same_groups e still g = go e.call refl g
    where
      go : (c : Call) → e.call ≡ c → Agrees M e.before c e.reply e.after → e.after.groups ≡ e.before.groups
      go c same (refuses x f a) = ap (λ m. m.groups) a.1
      go (set_rule x) same (accepts h a) = ap (λ m. m.groups) a.1
      go (regroup xs) same (accepts h a) = absurd (still.1 (xs, same, ap (λ y. y.answer) a.0))
      go (judge b q) same (accepts h a) = ap (λ m. m.groups) a.1
      go (look b q s k) same (accepts h a) = ap (λ m. m.groups) a.1
      go (cause b q n k) same (accepts h a) = ap (λ m. m.groups) a.1
      go (split slip) same (accepts h a) = absurd (still.0 (slip, same, ap (λ y. y.answer) a.0))

  pub kept : (l : Ledger) (es : List Event) → Run M l es → AllByRecursion Neither es → (ledger_after l es).groups ≡ l.groups
  kept l [] run a = refl
  kept l (e ∷ es) run a = kept e.after es run.2 a.1 ∙ same_groups e a.0 run.1 ∙ ap (λ m. m.groups) run.0

  -- an accepted split adds one group
  grows : (e : Event) → Sound M e.before → Splits e → Agreed M e → group_count e.after.groups ≡ group_count e.before.groups + 1
  grows e w (slip, same, ok) g = go (subst (λ c. Agrees M e.before c e.reply e.after) same g)
    where
      go : Agrees M e.before (split slip) e.reply e.after → group_count e.after.groups ≡ group_count e.before.groups + 1
      go (accepts h a) = divided_count M e.before.groups w.for_each slip e.after.groups a.2 w.used h.1.0
      go (refuses x f a) = cc (sym a.0 ∙ ok)

  pub counted : (l : Ledger) (k : ℕ) (es : List Event) → Sound M l → Run M l es → Splitting k es
      → group_count (ledger_after l es).groups ≡ k + group_count l.groups
  counted l zero [] w run none = omega arith
  counted l (suc k) [] w run x = elim x [ ]
  counted l (suc k) (e ∷ es) w run (one_more s rest) =
      let ih = counted e.after k es (after_sound l e w run.0 run.1) run.2 rest in
      let here = grows e (before_sound l e w run.0) s run.1 in
      let from : group_count e.before.groups ≡ group_count l.groups = ap (λ m. group_count m.groups) run.0 in
      omega (arith, ih, here, from)
  counted l k (e ∷ es) w run (no_more s rest) =
      let ih = counted e.after k es (after_sound l e w run.0 run.1) run.2 rest in
      let here = ap group_count (same_groups e s run.1) in
      let from : group_count e.before.groups ≡ group_count l.groups = ap (λ m. group_count m.groups) run.0 in
      omega (arith, ih, here, from)
