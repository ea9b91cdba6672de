-- Giving states a group of their own keeps every group used.
use Rattle.std.proofs.Common.{◌≡◌, ℕ, ◌+◌, ◌<◌, Bool, true, false, cond, eqb, List, length, sym, ◌∙◌, subst, ⊎_elim, arith}
use Rattle.std.proofs.lemmas.Bool.{cases_eq, eq-eqb, cond-true, cond-false, cond_both}
use Rattle.systems.specs.laws.TableLaws.{any_from}
use Rattle.groupings.specs.Members.{group_of, group_count, flagged, Sized, Numbered}
use Rattle.groupings.specs.Memberships.{groups_of}
use Rattle.groupings.specs.laws.GroupLaws.{states_are, groups_are, number_at}
use Rattle.groupings.specs.declared.members.Membership.{Membership}
use Rattle.groupings.proofs.Pigeons.{enough}

module _
    (m : Membership) (flags : List Bool) (after : List ℕ)
    (at : (s : ℕ) → s < m.states → group_of after s ≡ cond (flagged flags s) m.groups (group_of m.numbers s))
    (some : (s : ℕ) × (s < length (groups_of m)) × (flagged flags s ≡ true))
    (kept : (g : ℕ) → g < group_count (groups_of m) → (s : ℕ) × (s < length (groups_of m)) × (group_of (groups_of m) s ≡ g) × (flagged flags s ≡ false))
  where
    used : (g : ℕ) → g < m.groups + 1 → (s : ℕ) × (s < m.states) × (group_of after s ≡ g)
    used g l =
        ⊎_elim
        (λ (e : g ≡ m.groups).
        let low : some.0 < m.states = omega (arith, some.1, states_are m) in
        (some.0, low, at some.0 low ∙ cond-true (flagged flags some.0) _ _ some.2 ∙ sym e))
        (λ (e : g ≡ m.groups → ⊥).
        let u = kept g (omega (arith, groups_are m)) in
        let low : u.0 < m.states = omega (arith, u.1, states_are m) in
        (u.0, low, at u.0 low ∙ cond-false (flagged flags u.0) _ _ u.3 ∙ sym (number_at m u.0 low) ∙ u.2))
        (cases_eq g m.groups)

    pub moved_numbered : length after ≡ 128 → Sized after m.states (m.groups + 1) × Numbered after m.states (m.groups + 1)
    moved_numbered long = (
      (long, m.sized.1, m.sized.2, enough (group_of after) (m.groups + 1) m.states used),
      (
        λ s l.
            let old = m.numbered.0 s l in
            subst (λ (k : ℕ). k < m.groups + 1) (sym (at s l))
            (cond_both (flagged flags s) m.groups (group_of m.numbers s) (λ (k : ℕ). k < m.groups + 1) (λ _. omega arith) (λ _. omega arith)),
        λ g l. let u = used g l in any_from (λ s. eqb (group_of after s) g) m.states u.0 u.1 (eq-eqb (group_of after u.0) g u.2),
      ),
    )
