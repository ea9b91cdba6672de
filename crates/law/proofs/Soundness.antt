-- The ledger's invariant: a new ledger has it, every call keeps it, and a split adds exactly one group.
use Rattle.std.proofs.Common.{◌≡◌, ℕ, zero, suc, ◌+◌, ◌<◌, ◌≤◌, true, ◌⊎◌, List, [], ◌∷◌, length, replicate, sym, ◌∙◌, subst, inl, inr, arith}
use native.Mathlib.Decide.{ℕ_discrete}
use Rattle.std.specs.List.{AllByRecursion}
use Rattle.std.proofs.lemmas.List.{length-replicate}
use Rattle.systems.specs.Model.{Model}
use Rattle.rules.specs.declared.syntax.Clause.TheVariants.{Constant}
use Rattle.rules.specs.Clauses.{WellFounded, MarkBelow}
use Rattle.rules.proofs.Rules.{every_rule}
use Rattle.colours.specs.declared.chains.Reason.{Reason}
use Rattle.colours.specs.Groupings.{Fits, Alike, group_named}
use Rattle.groupings.specs.Members.{group_of, group_count, AllUsed}
use Rattle.groupings.specs.Splits.{MembersDiffer, Concerned, Divided}
use Rattle.groupings.proofs.Splitting.{alike?, through, itself}
use Rattle.law.specs.Ledgers.{Ledger, fresh, Sound}
use Rattle.law.specs.Calls.{Call, set_rule, regroup, judge, look, cause, split, Reply, Agrees, accepts, refuses}
use Rattle.law.proofs.Counting.{Onto, Below, onto_length, below_count, count_is, zeros_below, zeros_onto}

one_founded : WellFounded (Constant true ∷ [])
one_founded zero b = tt
one_founded (suc i) b = tt

pub fresh_sound : (M : Model) → 1 ≤ M.states → Sound M (fresh M)
fresh_sound M h =
    let zeros : List ℕ = replicate M.states 0 in
    let one : group_count zeros ≡ 1 = count_is 0 zeros (zeros_below M.states) (zeros_onto M.states h) in
    record {
      for_each = length-replicate M.states 0;
      used = subst (λ n. Onto n zeros) (sym one) (zeros_onto M.states h);
      some = omega arith;
      few = omega arith;
      founded = one_founded;
      known = (tt, tt);
    }

pub fits : (M : Model) (l : Ledger) → Fits M (group_of l.groups) (group_count l.groups)
fits M l s b = below_count l.groups s

-- there are at most as many groups as states
pub few_groups : (M : Model) (l : Ledger) → Sound M l → group_count l.groups ≤ M.states
few_groups M l w = subst (λ n. group_count l.groups ≤ n) w.for_each (onto_length (group_count l.groups) l.groups w.used)

module _ (M : Model) (xs : List ℕ) where
  module _ (full : length xs ≡ M.states) (slip : Reason) (ys : List ℕ) (d : Divided M slip xs ys) where
    -- a state keeps its group or goes to the new one
    moved : (s : ℕ) → s < M.states → (group_of ys s ≡ group_of xs s) ⊎ (group_of ys s ≡ group_count xs)
    moved s b = elim (ℕ_discrete (group_of xs s) (group_named slip)) [
      | no n ↦ inl (d.others s b (λ m. n m.1))
      | yes e ↦ elim (alike? M (group_of xs) slip d.lead s) [ yes a ↦ inl (d.stays s (b, e) a) | no n ↦ inr (d.leaves s (b, e) n) ]
    ]

    divided_below : Below (group_count xs + 1) ys
    divided_below s b =
        let low = below_count xs s in
        elim (moved s (subst (λ n. s < n) (d.same_states ∙ full) b)) [ inl e ↦ omega (arith, e, low) | inr e ↦ omega (arith, e) ]

    at_new : (s g : ℕ) → s < M.states → group_of ys s ≡ g → (t : ℕ) × (t < length ys) × (group_of ys t ≡ g)
    at_new s g b e = (s, subst (λ n. s < n) (sym (d.same_states ∙ full)) b, e)

    -- some member leaves
    leaver : MembersDiffer M slip xs → (s : ℕ) × Concerned M slip xs s × ¬ Alike M (group_of xs) slip d.lead s
    leaver m = elim (alike? M (group_of xs) slip d.lead m.0) [
      | no n ↦ (m.0, m.2, n)
      | yes a ↦ (m.1, m.3, λ b. m.4 (through M (group_of xs) slip d.lead m.0 m.1 a b))
    ]

    divided_onto : AllUsed xs → MembersDiffer M slip xs → Onto (group_count xs + 1) ys
    divided_onto used m g b = elim (ℕ_discrete g (group_count xs)) [
      | yes e ↦ (let u = leaver m in at_new u.0 g u.1.0 (d.leaves u.0 u.1 u.2 ∙ sym e))
      | no n ↦ elim (ℕ_discrete g (group_named slip)) [
        | yes e ↦ at_new d.lead g d.member.0 (d.stays d.lead d.member (itself M (group_of xs) slip d.lead) ∙ d.member.1 ∙ sym e)
        | no k ↦ (
            let u = used g (omega arith) in
            let low : u.0 < M.states = subst (λ n. u.0 < n) full u.1 in
            at_new u.0 g low (d.others u.0 low (λ c. k (sym u.2 ∙ c.1)) ∙ u.2))
      ]
    ]

    -- an accepted split adds exactly one group
    pub divided_count : AllUsed xs → MembersDiffer M slip xs → group_count ys ≡ group_count xs + 1
    divided_count used m = count_is (group_count xs) ys divided_below (divided_onto used m)

    pub divided_used : AllUsed xs → MembersDiffer M slip xs → AllUsed ys
    divided_used used m = subst (λ n. Onto n ys) (sym (divided_count used m)) (divided_onto used m)

-- every call keeps the invariant
pub agreed_sound : (M : Model) (l : Ledger) (c : Call) (reply : Reply) (r : Ledger) → Sound M l → Agrees M l c reply r → Sound M r
agreed_sound M l c reply r w (refuses e f a) = subst (Sound M) (sym a.1) w
agreed_sound M l (set_rule x) reply r w (accepts h a) = subst (Sound M) (sym a.1) (record {
  for_each = w.for_each;
  used = w.used;
  some = (every_rule x).some;
  few = (every_rule x).few;
  founded = (every_rule x).founded;
  known = h.0;
})
agreed_sound M l (regroup xs) reply r w (accepts h a) = subst (Sound M) (sym a.1) (record {
  for_each = h.0.0;
  used = h.1.0;
  some = w.some;
  few = w.few;
  founded = w.founded;
  known = w.known;
})
agreed_sound M l (judge b q) reply r w (accepts h a) = subst (Sound M) (sym a.1) w
agreed_sound M l (look b q s k) reply r w (accepts h a) = subst (Sound M) (sym a.1) w
agreed_sound M l (cause b q n k) reply r w (accepts h a) = subst (Sound M) (sym a.1) w
agreed_sound M l (split slip) reply r w (accepts h a) = record {
  for_each = a.2.same_states ∙ w.for_each;
  used = divided_used M l.groups w.for_each slip r.groups a.2 w.used h.1.0;
  some = subst (λ cs. 1 ≤ length cs) (sym a.1) w.some;
  few = subst (λ cs. length cs ≤ 64) (sym a.1) w.few;
  founded = subst WellFounded (sym a.1) w.founded;
  known = subst (AllByRecursion (MarkBelow M.marks)) (sym a.1) w.known;
}
