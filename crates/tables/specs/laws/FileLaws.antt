-- A file that meets the conditions on its bytes keeps the laws of a system.
use Rattle.std.specs.Prelude.{◌≡◌, ℕ, ◌+◌, ◌-◌, ◌*◌, ◌<◌, ◌≤◌, ◌==◌, Bool, true, List, length, drop, refl, nat_lt}
use Rattle.std.specs.List.{between, list_any}
use Rattle.std.proofs.Common.{arith, sym, ◌∙◌, subst, ⊎_elim, get_or-drop, get_or-take}
use Rattle.std.proofs.lemmas.List.{get_or_default, get_or_past, length-take}
use Rattle.std.proofs.lemmas.List.Folds.{Any-from_list_any}
use Rattle.std.proofs.lemmas.List.Sums.{AllPass-from_list_all}
use Rattle.std.proofs.lemmas.Bool.{ltb-true, cases_eq, cases_lt}
use Rattle.systems.specs.Model.{Lawful}
use Rattle.systems.specs.Numbers.{is_possible}
use Rattle.systems.specs.Tabled.{InRange}
use Rattle.systems.specs.laws.TableLaws.{all_at, possible_from}
use Rattle.tables.specs.Conditions.{LawfulBodies, goes}
use Rattle.tables.specs.Files.{byte, cell, step_of, body_model}

-- bytes 1 and 2 stand for possible steps
possible_byte : (b : ℕ) → 0 < b → b < 3 → is_possible (step_of b) ≡ true
possible_byte b low high =
    ⊎_elim
    (λ (e : b ≡ 1). rw e refl)
    (λ (n : b ≡ 1 → ⊥). let e : b ≡ 2 = omega arith in rw e refl)
    (cases_eq b 1)

-- where a byte passes a test
found : (test : ℕ → Bool) (body : List ℕ) → list_any test body ≡ true → (k : ℕ) × (k < length body) × (test (byte body k) ≡ true)
found test body e =
    let hit = Any-from_list_any test body e in
    (hit.0, hit.2, subst (λ b. test b ≡ true) (sym hit.3 ∙ get_or_default body hit.0 hit.1 0 hit.2) hit.4)

module _ (n p : ℕ) (steps marks starts : List ℕ) (bodies : LawfulBodies n steps starts) where
  -- a cell beyond the end reads as 0, which is listed too
  cell_listed : (s t : ℕ) → cell steps n s t < 3
  cell_listed s t =
      ⊎_elim
      (λ (low : s * n + t < length steps). ltb-true _ _ (AllPass-from_list_all (λ b. nat_lt b 3) steps bodies.0 (s * n + t) 0 low))
      (λ (high : length steps ≤ s * n + t). let none : cell steps n s t ≡ 0 = get_or_past steps (s * n + t) 0 high in omega arith)
      (cases_lt (s * n + t) (length steps))

  -- the column of a step from a state
  column : (s : ℕ) → s < n → (t : ℕ) × (t < n) × (0 < cell steps n s t)
  column s l =
      let row = between (s * n) (s * n + n) steps in
      let on = found (λ b. nat_lt 0 b) row (all_at (goes steps n) n s bodies.1 l) in
      let low : on.0 < n = omega (arith, length-take (s * n + n - s * n) (drop (s * n) steps)) in
      let same : byte row on.0 ≡ cell steps n s on.0 = get_or-take (s * n + n - s * n) (drop (s * n) steps) on.0 0 (omega arith) ∙ get_or-drop (s * n) steps on.0 0 in
      (on.0, low, subst (λ b. 0 < b) same (ltb-true _ _ on.2))

  pub file_lawful : length starts ≤ n → InRange n p → Lawful (body_model n p steps marks starts)
  file_lawful within range = record {
    states_some = range.0;
    states_few = range.1;
    marks_some = range.2;
    marks_few = range.3;
    goes_on = λ s l.
        let t = column s l in
        (t.0, (l, t.1, possible_from (step_of (cell steps n s t.0)) (possible_byte (cell steps n s t.0) t.2 (cell_listed s t.0))));
    starts = let first = found (λ b. b == 1) starts bodies.2 in (first.0, (omega arith, first.2));
  }
