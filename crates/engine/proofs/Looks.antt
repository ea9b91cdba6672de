-- What is shown, and what a look shows.
use Rattle.std.proofs.Common.{◌≡◌, ℕ, ◌+◌, ◌-◌, ◌<◌, ◌≤◌, Bool, true, false, cond, eqb, List, Some, None, Option, refl, ap, ◌∙◌, arith, le-ltb, lt-ltb, eqb-true, eq-eqb}
use mathlib.Core.Bool.{false≢true}
use Rattle.systems.specs.declared.kinds.Step.{Step}
use Rattle.systems.specs.declared.kinds.Step.TheVariants.{Absent, Unsure, Sure}
use Rattle.systems.specs.declared.kinds.Colour.{Colour}
use Rattle.systems.specs.declared.kinds.Colour.TheVariants.{Undecided, F, T}
use Rattle.systems.specs.Model.{Model}
use Rattle.systems.specs.Numbers.{colour_number, colour_from}
use Rattle.rules.specs.declared.syntax.Clause.{Clause}
use Rattle.rules.specs.declared.syntax.Clause.TheVariants.{Constant, Mark, Next as next_clause, Pair}
use Rattle.colours.specs.declared.chains.Position.{Position}
use Rattle.colours.specs.declared.chains.Reason.{Reason}
use Rattle.colours.specs.declared.chains.Reason.TheVariants.{UnknownMark, UnsureStep}
use Rattle.colours.proofs.Numbers.{same_colour}
use Rattle.engine.specs.declared.cause.looking.Finding.TheVariants.{End, Next}
use Rattle.engine.specs.search.Looks.{shown_at, is_shown, opened, awaited, here, stepped, across, looks_of, look_of}

-- the test of what is shown tells the colour
pub shown_same : (v : Colour) (o : Option Colour) → is_shown v o ≡ true → o ≡ Some v
shown_same v None h = absurd (false≢true h)
shown_same v (Some w) h = ap Some (same_colour w v (eqb-true _ _ h))

pub same_shown : (v : Colour) (o : Option Colour) → o ≡ Some v → is_shown v o ≡ true
same_shown v o e = ap (is_shown v) e ∙ eq-eqb (colour_number v) (colour_number v) refl

-- undecided is shown just where the byte is 0
pub undecided_byte : (b : ℕ) → is_shown Undecided (colour_from b) ≡ eqb b 0
undecided_byte b = go (eqb b 0) (eqb b 1) (eqb b 2)
  where
    go : (x y z : Bool) → is_shown Undecided (cond x (Some Undecided) (cond y (Some F) (cond z (Some T) None))) ≡ x
    go true y z = refl
    go false true z = refl
    go false false true = refl
    go false false false = refl

module _ (M : Model) (C : ℕ) (board : List ℕ) (p : Position) (c : Clause) (sought : Option ℕ) (k : ℕ) where
  pub look_here : k < 2 → look_of M C board p c sought k ≡ here C board p c (eqb k 0)
  unfolding look_of
  look_here h = rw (lt-ltb k 2 h)

  pub look_across : 2 ≤ k → look_of M C board p c sought k ≡ across M C board p c sought (k - 2)
  unfolding look_of
  look_across h = rw (le-ltb k 2 h)

-- where a clause is sought, a look goes across the step to t
pub look_to : (M : Model) (C : ℕ) (board : List ℕ) (p : Position) (c : Clause) (sought : Option ℕ) (h t : ℕ) → sought ≡ Some h
    → look_of M C board p c sought (t + 2) ≡ stepped C board p c h t (M.step p.group t)
look_to M C board p c sought h t e =
    look_across M C board p c sought (t + 2) (omega arith)
    ∙ ap (λ o. across M C board p c o (t + 2 - 2)) e
    ∙ ap (λ x. stepped C board p c h x (M.step p.group x)) (let q : t + 2 - 2 ≡ t = omega arith in q)

pub looks_to : (M : Model) (sought : Option ℕ) (h : ℕ) → sought ≡ Some h → looks_of M sought ≡ M.states + 2
looks_to M sought h e = ap (looks_of M) e

pub two_looks : (M : Model) (o : Option ℕ) → 2 ≤ looks_of M o
two_looks M None = omega arith
two_looks M (Some h) = omega arith

-- clause c at group g is undecided on the board, and is n
abbrev pub Opens : ℕ → List ℕ → (g c : ℕ) → Position → Type 0
Opens C board g c n = (n ≡ record { group = g; clause = c }) × (shown_at C board g c ≡ Some Undecided)

module _ (C : ℕ) (board : List ℕ) where
  opened_next : (g c : ℕ) (n : Position) → opened C board g c ≡ Some (Next n) → Opens C board g c n
  opened_next g c n = go (is_shown Undecided (shown_at C board g c)) refl
    where
      go : (b : Bool) → is_shown Undecided (shown_at C board g c) ≡ b → cond b (Some (Next (record { group = g; clause = c }))) None ≡ Some (Next n) → Opens C board g c n
      go true t e = ((cc), shown_same Undecided (shown_at C board g c) t)
      go false t e = cc

  opened_no_end : (g c : ℕ) (r : Reason) → opened C board g c ≡ Some (End r) → ⊥
  opened_no_end g c r = go (is_shown Undecided (shown_at C board g c))
    where
      go : (b : Bool) → cond b (Some (Next (record { group = g; clause = c }))) None ≡ Some (End r) → ⊥
      go true e = cc
      go false e = cc

  module _ (p : Position) (c : Clause) (h t : ℕ) where
    pub stepped_next : (k : Step) (n : Position) → stepped C board p c h t k ≡ Some (Next n) → (¬ (k ≡ Absent)) × Opens C board t h n
    stepped_next Absent n e = cc
    stepped_next Unsure n e = go (awaited c (shown_at C board t h)) e
      where
        go : (b : Bool) → cond b (Some (End (UnsureStep p.group t))) (opened C board t h) ≡ Some (Next n) → (¬ (Unsure ≡ Absent)) × Opens C board t h n
        go true e = cc
        go false e = ((λ x. cc), opened_next t h n e)
    stepped_next Sure n e = ((λ x. cc), opened_next t h n e)

    pub stepped_end : (k : Step) (r : Reason) → stepped C board p c h t k ≡ Some (End r)
        → (k ≡ Unsure) × (awaited c (shown_at C board t h) ≡ true) × (r ≡ UnsureStep p.group t)
    stepped_end Absent r e = cc
    stepped_end Unsure r e = go (awaited c (shown_at C board t h)) refl e
      where
        go : (b : Bool) → awaited c (shown_at C board t h) ≡ b → cond b (Some (End (UnsureStep p.group t))) (opened C board t h) ≡ Some (End r)
            → (Unsure ≡ Unsure) × (awaited c (shown_at C board t h) ≡ true) × (r ≡ UnsureStep p.group t)
        go true a e = (refl, a, (cc))
        go false a e = absurd (opened_no_end t h r e)
    stepped_end Sure r e = absurd (opened_no_end t h r e)

  module _ (p : Position) where
    pub here_next : (c : Clause) (first : Bool) (n : Position) → here C board p c first ≡ Some (Next n)
        → (o : _) × (r : ℕ) × (q : ℕ) × (c ≡ Pair o r q) × Opens C board p.group (cond first r q) n
    here_next (Constant v) first n e = cc
    here_next (Mark m negated) first n e = cc
    here_next (next_clause k r) first n e = cc
    here_next (Pair o r q) first n e = (o, r, q, refl, opened_next p.group (cond first r q) n e)

    pub here_end : (c : Clause) (first : Bool) (r : Reason) → here C board p c first ≡ Some (End r)
        → (m : ℕ) × (negated : Bool) × (c ≡ Mark m negated) × (r ≡ UnknownMark p.group m)
    here_end (Constant v) first r e = cc
    here_end (Mark m negated) first r e = (m, negated, refl, (cc))
    here_end (next_clause k i) first r e = cc
    here_end (Pair o i q) first r e = absurd (opened_no_end p.group (cond first i q) r e)
