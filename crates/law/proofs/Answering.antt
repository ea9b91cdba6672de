-- Every call has a reply: where all its conditions hold there is an answer.
use Rattle.std.proofs.Common.{◌≡◌, ℕ, ◌+◌, ◌*◌, ◌/◌, ◌%◌, ◌<◌, List, [], ◌∷◌, map, length, refl, ap, ◌∙◌, inl, inr, arith}
use native.Mathlib.Decide.{ℕ_discrete}
use lib.Arith.{digits_lt, digits_div, digits_mod}
use Rattle.std.specs.List.{range_with_len}
use Rattle.std.proofs.lemmas.List.FromFn.{length-map-range_with_len, get_or-map-range_with_len}
use Rattle.systems.specs.declared.kinds.Colour.TheVariants.{Undecided, F, T}
use Rattle.systems.specs.declared.refusals.Refusal.{Refusal}
use Rattle.systems.specs.Model.{Model}
use Rattle.systems.specs.Numbers.{colour_number, refusal_number}
use Rattle.rules.specs.Clauses.{formula}
use Rattle.rules.specs.Rules.{clause_list}
use Rattle.colours.specs.declared.chains.Reason.{Reason}
use Rattle.colours.specs.Groupings.{Alike}
use Rattle.colours.specs.Values.{colour_of}
use Rattle.colours.proofs.Chaining.{undecided_verdict_has_a_cause}
use Rattle.colours.proofs.Lists.{least}
use Rattle.groupings.specs.Members.{group_of, group_count}
use Rattle.groupings.specs.Splits.{MembersDiffer, Concerned, Divided}
use Rattle.law.specs.Ledgers.{Ledger, model, places, verdict, colour_at_state, Sound, ColouredBytes}
use Rattle.law.specs.Calls.{Call, set_rule, regroup, judge, look, cause, split, refused, done, judged, looked, caused, Reply, count_of, AllHold, conditions, Accepted, Refused, accepts, refuses}
use Rattle.law.specs.Theorems.{Answerable}
use Rattle.groupings.proofs.Splitting.{alike?}
use Rattle.law.proofs.Causing.{undecided_verdict}
use Rattle.law.proofs.Deciding.{concerned?, all_or_first}

module _ (M : Model) (l : Ledger) where
  -- the colours of all positions
  byte_at : ℕ → ℕ
  byte_at k = colour_number (colour_of (model M l) (formula l.rule (k % length l.rule)) (k / length l.rule))

  all_bytes : List ℕ
  all_bytes = map byte_at (range_with_len 0 (places M l))

  all_coloured : ColouredBytes M l all_bytes
  unfolding all_bytes byte_at
  all_coloured = let size = length-map-range_with_len byte_at 0 (places M l) in (
    size,
    record {
      fits = omega (arith, size);
      shows = λ g c a b.
          let n = length l.rule in
          let k = g * n + c in
          get_or-map-range_with_len byte_at 0 (places M l) k k 0 (digits_lt a b) (omega arith)
          ∙ ap (λ x. colour_number (colour_of (model M l) (formula l.rule x) (k / n))) (digits_mod g b)
          ∙ ap (λ y. colour_number (colour_of (model M l) (formula l.rule c) y)) (digits_div g b);
    },
  )

  module _ (slip : Reason) (d : MembersDiffer M slip l.groups) where
    lead : (s : ℕ) × Concerned M slip l.groups s × ((h : ℕ) → h < s → ¬ Concerned M slip l.groups h)
    lead = elim (least (Concerned M slip l.groups) M.states (λ s b. concerned? M l slip s)) [
      | inl x ↦ (x.0, x.2, x.3)
      | inr free ↦ absurd (free d.0 d.2.0 d.2)
    ]

    -- the group of a state after the split
    moved : (s : ℕ) → (n : ℕ)
        × (¬ Concerned M slip l.groups s → n ≡ group_of l.groups s)
        × (Concerned M slip l.groups s → Alike M (group_of l.groups) slip lead.0 s → n ≡ group_of l.groups s)
        × (Concerned M slip l.groups s → ¬ Alike M (group_of l.groups) slip lead.0 s → n ≡ group_count l.groups)
    moved s = elim (concerned? M l slip s) [
      | no k ↦ (group_of l.groups s, (λ k. refl), (λ c a. refl), λ c n. absurd (k c))
      | yes c ↦ elim (alike? M (group_of l.groups) slip lead.0 s) [
        | yes a ↦ (group_of l.groups s, (λ k. refl), (λ c a. refl), λ c n. absurd (n a))
        | no n ↦ (group_count l.groups, (λ k. absurd (k c)), (λ c a. absurd (n a)), λ c n. refl)
      ]
    ]

    parts : List ℕ
    parts = map (λ s. (moved s).0) (range_with_len 0 (length l.groups))

    part_of : Sound M l → (s : ℕ) → s < M.states → group_of parts s ≡ (moved s).0
    unfolding parts
    part_of w s b = get_or-map-range_with_len (λ s. (moved s).0) 0 (length l.groups) s s 0 (omega (arith, w.for_each)) (omega arith)

    divided : Sound M l → Divided M slip l.groups parts
    unfolding parts
    divided w = record {
      same_states = length-map-range_with_len (λ s. (moved s).0) 0 (length l.groups);
      lead = lead.0;
      member = lead.1;
      lowest = lead.2;
      others = λ s b k. part_of w s b ∙ (moved s).1 k;
      stays = λ s c a. part_of w s c.0 ∙ (moved s).2 c a;
      leaves = λ s c n. part_of w s c.0 ∙ (moved s).3 c n;
    }

  refusing : (e : Refusal) → (reply : Reply) × Refused M l e reply l
  refusing e = elim (ℕ_discrete (refusal_number e) 17) [
    | yes k ↦ (record { answer = refused e; bytes = all_bytes }, (refl, refl, inl (k, all_coloured)))
    | no k ↦ (record { answer = refused e; bytes = [] }, (refl, refl, inr (k, refl)))
  ]

  accepting : Sound M l → (c : Call) → AllHold (conditions M l c) → (reply : Reply) × (after : Ledger) × Accepted M l c reply after
  accepting w (set_rule r) h = (record { answer = done; bytes = [] }, record { rule = clause_list r; groups = l.groups }, (refl, refl))
  accepting w (regroup xs) h = (record { answer = done; bytes = [] }, record { rule = l.rule; groups = xs }, (refl, refl))
  accepting w (judge board queue) h = (
    record { answer = judged (verdict M l) (count_of T all_bytes) (count_of F all_bytes) (count_of Undecided all_bytes); bytes = all_bytes },
    l,
    (all_coloured, refl, refl),
  )
  accepting w (look board queue s c) h = (record { answer = looked (colour_at_state M l s c); bytes = all_bytes }, l, (all_coloured, refl, refl))
  accepting w (cause board queue links chain) h =
      let x = undecided_verdict_has_a_cause (model M l) l.rule w.founded w.some (undecided_verdict M l h.1.0) in (
        record { answer = caused x.2 (length (x.0 ∷ x.1)) (x.0 ∷ x.1); bytes = all_bytes },
        l,
        (all_coloured, refl, (x.2, x.0, x.1, refl, x.3)),
      )
  accepting w (split slip) h = (
    record { answer = done; bytes = [] },
    record { rule = l.rule; groups = parts slip h.1.0 },
    (refl, refl, divided slip h.1.0 w),
  )

pub answerable : Answerable
answerable M l w c = elim (all_or_first M l c) [
  | inl h ↦ (let x = accepting M l w c h in (x.0, x.1, accepts h x.2))
  | inr f ↦ (let x = refusing M l f.0 in (x.0, l, refuses f.0 f.1 x.1))
]
