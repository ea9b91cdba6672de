-- The arrays that a grouping is written into are a table.
use Rattle.std.proofs.Common.{◌≡◌, ℕ, ◌<◌, ◌≤◌, Bool, List, Option, Some, None, Result, Ok, Err, IsOk, MatchResult, ◌∙◌, subst, sym, refl, arith}
use Rattle.std.proofs.lemmas.Bool.{le-leb}
use Rattle.systems.specs.Model.{Model, Lawful, Agree}
use Rattle.systems.specs.Tabled.{step_at, value_at, start_at, written_model, written_fault}
use Rattle.systems.specs.laws.TableLaws.{copy_in_range, copy_goes_and_starts}
use Rattle.systems.specs.declared.kinds.Step.{Step}
use Rattle.systems.specs.declared.kinds.Colour.{Colour}
use Rattle.systems.specs.declared.refusals.Refusal.{Refusal}
use Rattle.systems.specs.declared.tabled.Table.{Table}
use Rattle.colours.specs.Groupings.{group_step, group_mark, group_start}
use Rattle.groupings.specs.Members.{group_of, group_count, by_list}

-- the arrays hold what the groups are
pub written_agrees :
    (M : Model) (xs : List ℕ) (n p : ℕ) (steps : List Step) (values : List Colour) (starts : List Bool)
    → n ≡ group_count xs → n ≤ 128 → p ≡ M.marks
    → ((g h : ℕ) → g < 128 → h < 128 → step_at steps g h ≡ group_step M (group_of xs) g h)
    → ((g q : ℕ) → g < 128 → q < M.marks → value_at values g q ≡ group_mark M (group_of xs) g q)
    → ((g : ℕ) → g < 128 → start_at starts g ≡ group_start M (group_of xs) g)
    → Agree (by_list M xs) (written_model n p steps values starts)
written_agrees M xs n p steps values starts all few known step mark start = record {
  states = sym all;
  marks = sym known;
  step = λ g h l k. sym (step g h (omega arith) (omega arith));
  mark = λ g q l k. sym (mark g q (omega arith) k);
  start = λ g l. sym (start g (omega arith));
}

pub no_fault :
    (m : Model) → Lawful m → (n p : ℕ) (steps : List Step) (values : List Colour) (starts : List Bool)
    → Agree m (written_model n p steps values starts) → written_fault n p steps starts ≡ None
no_fault m law n p steps values starts same =
    let range = copy_in_range n p steps values starts m law same.states same.marks in
    let on = copy_goes_and_starts n p steps values starts m law same in
    rw (le-leb 1 n range.0, le-leb n 128 range.1, le-leb 1 p range.2, le-leb p 16 range.3, on.0, on.1) refl

-- where there is no fault, the parts are accepted
pub accepted : (r : Result Table Refusal) (P : Table → Type 0) (fault : Option Refusal) → MatchResult r P (λ e. fault ≡ Some e) → fault ≡ None → IsOk r
accepted (Ok t) P fault h none = refl
accepted (Err e) P fault h none = let wrong : None ≡ Some e = sym none ∙ h in cc

pub ok_holds : (r : Result Table Refusal) (t : Table) (P : Table → Type 0) (Q : Refusal → Type 0) → r ≡ Ok t → MatchResult r P Q → P t
ok_holds r t P Q e h = subst (λ (s : Result Table Refusal). MatchResult s P Q) e h
