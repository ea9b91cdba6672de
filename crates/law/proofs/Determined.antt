-- The ledger and the call fix the reply, but for the chain of a cause, and so the calls of a run fix its ledgers.
use Rattle.std.proofs.Common.{◌≡◌, ℕ, ◌*◌, ◌/◌, ◌%◌, ◌<◌, ◌⊎◌, List, [], ◌∷◌, length, get_or, sym, ap, ◌∙◌, subst, ap₂, inl, inr, mod-lt, div-lt_iff_lt-mul, div-add-mod', arith}
use native.Mathlib.Decide.{ℕ_discrete, dec_lt}
use Rattle.std.proofs.lemmas.List.{ext_get_or}
use Rattle.systems.specs.declared.kinds.Colour.TheVariants.{Undecided, F, T}
use Rattle.systems.specs.declared.refusals.Refusal.{Refusal}
use Rattle.systems.specs.Model.{Model}
use Rattle.systems.specs.Numbers.{refusal_number}
use Rattle.colours.specs.declared.chains.Reason.{Reason}
use Rattle.colours.specs.Groupings.{Alike, group_named}
use Rattle.groupings.specs.Members.{group_of, group_count}
use Rattle.groupings.specs.Splits.{Divided}
use Rattle.law.specs.Ledgers.{Ledger, verdict, Sound, ColouredBytes}
use Rattle.law.specs.Calls.{set_rule, regroup, judge, look, cause, split, refused, judged, Reply, Condition, count_of, AllHold, FirstFailing, conditions, Refused, Agrees, accepts, refuses}
use Rattle.law.specs.Runs.{Run}
use Rattle.law.specs.Theorems.{RepliesDetermined, OneRun}
use Rattle.groupings.proofs.Splitting.{alike?}
use Rattle.law.proofs.Histories.{after_sound}

not_both : (cs : List Condition) (e : Refusal) → AllHold cs → FirstFailing cs e → ⊥
not_both [] e a f = f
not_both (c ∷ cs) e a (inl f) = f.0 a.0
not_both (c ∷ cs) e a (inr f) = not_both cs e a.1 f.1

first_once : (cs : List Condition) (e d : Refusal) → FirstFailing cs e → FirstFailing cs d → e ≡ d
first_once [] e d f g = absurd f
first_once (c ∷ cs) e d (inl f) (inl g) = f.1 ∙ sym g.1
first_once (c ∷ cs) e d (inl f) (inr g) = absurd (f.0 g.0)
first_once (c ∷ cs) e d (inr f) (inl g) = absurd (g.0 f.0)
first_once (c ∷ cs) e d (inr f) (inr g) = first_once cs e d f.1 g.1

ledger_once : (r q : Ledger) → r.rule ≡ q.rule → r.groups ≡ q.groups → r ≡ q
ledger_once r q a b = ap₂ (λ x y. record { rule = x; groups = y }) a b

module _ (M : Model) (l : Ledger) (w : Sound M l) where
  coloured_once : (xs ys : List ℕ) → ColouredBytes M l xs → ColouredBytes M l ys → xs ≡ ys
  coloured_once xs ys a b = ext_get_or 0 xs ys (a.0 ∙ sym b.0) (λ k low.
      let n = length l.rule in
      let some : 0 < n = w.some in
      let inside : k < group_count l.groups * n = subst (λ m. k < m) a.0 low in
      let group : k / n < group_count l.groups = (div-lt_iff_lt-mul some).1 inside in
      subst (λ j. get_or xs j 0 ≡ get_or ys j 0) (div-add-mod' k n)
      (a.1.shows (k / n) (k % n) group (mod-lt k some) ∙ sym (b.1.shows (k / n) (k % n) group (mod-lt k some))))

  module _ (slip : Reason) (ys zs : List ℕ) (a : Divided M slip l.groups ys) (b : Divided M slip l.groups zs) where
    lead_once : a.lead ≡ b.lead
    lead_once = elim (dec_lt a.lead b.lead) [
      | yes h ↦ absurd (b.lowest a.lead h a.member)
      | no n ↦ elim (dec_lt b.lead a.lead) [ yes h ↦ absurd (a.lowest b.lead h b.member) | no m ↦ omega arith ]
    ]

    group_once : (s : ℕ) → s < M.states → group_of ys s ≡ group_of zs s
    group_once s low = elim (ℕ_discrete (group_of l.groups s) (group_named slip)) [
      | no n ↦ a.others s low (λ m. n m.1) ∙ sym (b.others s low (λ m. n m.1))
      | yes e ↦ elim (alike? M (group_of l.groups) slip a.lead s) [
        | yes x ↦ a.stays s (low, e) x ∙ sym (b.stays s (low, e) (subst (λ t. Alike M (group_of l.groups) slip t s) lead_once x))
        | no n ↦ a.leaves s (low, e) n
            ∙ sym (b.leaves s (low, e) (λ x. n (subst (λ t. Alike M (group_of l.groups) slip t s) (sym lead_once) x)))
      ]
    ]

    divided_once : ys ≡ zs
    divided_once = ext_get_or 0 ys zs (a.same_states ∙ sym b.same_states)
        (λ k low. group_once k (subst (λ n. k < n) (a.same_states ∙ w.for_each) low))

  refused_once : (e d : Refusal) (x y : Reply) (r q : Ledger) → e ≡ d → Refused M l e x r → Refused M l d y q
      → (x.answer ≡ y.answer) × (x.bytes ≡ y.bytes) × (r ≡ q)
  refused_once e d x y r q same a b = (a.0 ∙ ap refused same ∙ sym b.0, bytes a.2 b.2, a.1 ∙ sym b.1)
    where
      bytes : ((refusal_number e ≡ 17) × ColouredBytes M l x.bytes) ⊎ (¬ (refusal_number e ≡ 17) × (x.bytes ≡ []))
          → ((refusal_number d ≡ 17) × ColouredBytes M l y.bytes) ⊎ (¬ (refusal_number d ≡ 17) × (y.bytes ≡ [])) → x.bytes ≡ y.bytes
      bytes (inl h) (inl k) = coloured_once x.bytes y.bytes h.1 k.1
      bytes (inl h) (inr k) = absurd (k.0 (sym (ap refusal_number same) ∙ h.0))
      bytes (inr h) (inl k) = absurd (h.0 (ap refusal_number same ∙ k.0))
      bytes (inr h) (inr k) = h.1 ∙ sym k.1

pub replies_determined : RepliesDetermined
replies_determined M l w c x y r q (accepts h a) (refuses e f b) = absurd (not_both (conditions M l c) e h f)
replies_determined M l w c x y r q (refuses e f a) (accepts h b) = absurd (not_both (conditions M l c) e h f)
replies_determined M l w c x y r q (refuses e f a) (refuses d g b) =
    let s = refused_once M l w e d x y r q (first_once (conditions M l c) e d f g) a b in
    (inl s.0, s.1, s.2)
replies_determined M l w (set_rule u) x y r q (accepts h a) (accepts k b) =
    let s = a.0 ∙ sym b.0 in (inl (ap (λ z. z.answer) s), ap (λ z. z.bytes) s, a.1 ∙ sym b.1)
replies_determined M l w (regroup gs) x y r q (accepts h a) (accepts k b) =
    let s = a.0 ∙ sym b.0 in (inl (ap (λ z. z.answer) s), ap (λ z. z.bytes) s, a.1 ∙ sym b.1)
replies_determined M l w (judge m n) x y r q (accepts h a) (accepts k b) =
    let s = coloured_once M l w x.bytes y.bytes a.0 b.0 in
    (inl (a.2 ∙ ap (λ bytes. judged (verdict M l) (count_of T bytes) (count_of F bytes) (count_of Undecided bytes)) s ∙ sym b.2), s, a.1 ∙ sym b.1)
replies_determined M l w (look m n s c) x y r q (accepts h a) (accepts k b) =
    (inl (a.2 ∙ sym b.2), coloured_once M l w x.bytes y.bytes a.0 b.0, a.1 ∙ sym b.1)
replies_determined M l w (cause m n o p) x y r q (accepts h a) (accepts k b) =
    let u = a.2 in
    let v = b.2 in (
      inr ((u.0, length (u.1 ∷ u.2), u.1 ∷ u.2, u.3), (v.0, length (v.1 ∷ v.2), v.1 ∷ v.2, v.3)),
      coloured_once M l w x.bytes y.bytes a.0 b.0,
      a.1 ∙ sym b.1,
    )
replies_determined M l w (split slip) x y r q (accepts h a) (accepts k b) =
    let s = a.0 ∙ sym b.0 in (
      inl (ap (λ z. z.answer) s),
      ap (λ z. z.bytes) s,
      ledger_once r q (a.1 ∙ sym b.1) (divided_once M l w slip r.groups q.groups a.2 b.2),
    )

pub one_run : OneRun
one_run M l w [] [] a b s = tt
one_run M l w [] (d ∷ ds) a b s = absurd (let n = ap length s in omega (arith, n))
one_run M l w (e ∷ es) [] a b s = absurd (let n = ap length s in omega (arith, n))
one_run M l w (e ∷ es) (d ∷ ds) a b s =
    let call : e.call ≡ d.call = grind (arith, s) in
    let before : Sound M e.before = subst (Sound M) (sym a.0) w in
    let same : d.before ≡ e.before = b.0 ∙ sym a.0 in
    let agreed : Agrees M e.before e.call d.reply d.after =
    subst (λ c. Agrees M e.before c d.reply d.after) (sym call)
    (subst (λ m. Agrees M m d.call d.reply d.after) same b.1) in
    let one = replies_determined M e.before before e.call e.reply d.reply e.after d.after a.1 agreed in (
      (sym same, one.2, one.0, one.1),
      one_run M e.after (after_sound M l e w a.0 a.1) es ds a.2 (subst (λ m. Run M m ds) (sym one.2) b.2) (grind (arith, s)),
    )
