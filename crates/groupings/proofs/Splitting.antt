-- Flagging the members that do not answer as the lowest-numbered one does splits the group as it should.
use Rattle.std.proofs.Common.{◌≡◌, ℕ, zero, suc, ◌+◌, ◌<◌, ◌≤◌, Decides, Bool, true, false, List, [], ◌∷◌, length, replicate, take, set, Option, Some, None, Ok, sym, refl, ap, ◌∙◌, subst, ⊎_elim, add-one, not-suc-le-zero, arith, length-set, get_or-set_other}
use native.Mathlib.Decide.{ℕ_discrete}
use Rattle.std.specs.List.{list_any}
use Rattle.std.specs.Option.{ok_or}
use Rattle.std.proofs.lemmas.Bool.{cases_Bool, cases_eq, cases_lt, both_ways, eq-eqb, cond-true, cond-false}
use Rattle.std.proofs.lemmas.Bool.Decides.{Decides-like}
use Rattle.std.proofs.lemmas.Grind.{get_or-set_at}
use Rattle.std.proofs.lemmas.List.{get_or-replicate, get_or_past}
use Rattle.systems.specs.Model.{Model}
use Rattle.colours.specs.Groupings.{Alike, group_named, strength}
use Rattle.colours.specs.declared.chains.Reason.{Reason}
use Rattle.colours.specs.declared.chains.Reason.TheVariants.{UnknownMark, UnsureStep}
use Rattle.colours.proofs.Numbers.{same_colour?, same_step?}
use Rattle.systems.proofs.Questions.{mark_in_range}
use Rattle.groupings.specs.Answers.{answer_of}
use Rattle.groupings.specs.Joined.{asked}
use Rattle.groupings.proofs.Strengths.{strength_known}
use Rattle.groupings.specs.Members.{group_of, group_count, AllUsed, flagged, Moved}
use Rattle.groupings.specs.Grouped.{Split}
use Rattle.groupings.specs.Memberships.{groups_of, groups_in}
use Rattle.groupings.specs.laws.GroupLaws.{states_are}
use Rattle.groupings.specs.declared.groups.answers.Answer.TheVariants.{Mark, Strength}
use Rattle.groupings.specs.declared.members.Membership.{Membership}
use Rattle.groupings.specs.Splits.{Within, Concerned, MembersDiffer, Divided, Told}

-- one of the first n is flagged
abbrev pub any_flagged : List Bool → ℕ → Bool
any_flagged flags n = list_any (λ b. b) (take n flags)

found_flag : (n : ℕ) (flags : List Bool) → any_flagged flags n ≡ true → (s : ℕ) × (flagged flags s ≡ true)
found_flag zero flags e = absurd (both_ways false refl e)
found_flag (suc n) [] e = absurd (both_ways false refl e)
found_flag (suc n) (true ∷ flags) e = (0, refl)
found_flag (suc n) (false ∷ flags) e = let rest = found_flag n flags e in (rest.0 + 1, rw add-one rest.1)

flag_found : (n : ℕ) (flags : List Bool) (s : ℕ) → s < n → flagged flags s ≡ true → any_flagged flags n ≡ true
flag_found zero flags s l e = absurd (not-suc-le-zero l)
flag_found (suc n) [] s l e = absurd (both_ways false refl e)
flag_found (suc n) (true ∷ flags) s l e = refl
flag_found (suc n) (false ∷ flags) zero l e = absurd (both_ways false refl e)
flag_found (suc n) (false ∷ flags) (suc s) l e = flag_found n flags s (omega arith) e

-- flags at 128 states, of which i are set, one by one, to tell of P
module _ (P : ℕ → Type 0) where
  pub record Flagged (i : ℕ) (flags : List Bool) : Type 0 where
    pub long : length flags ≡ 128
    pub tells : (s : ℕ) → s < i → Decides (flagged flags s) (P s)
    pub none : (s : ℕ) → i ≤ s → flagged flags s ≡ false

  pub flagged_none : Flagged 0 (replicate 128 false)
  flagged_none = record {
    long = refl;
    tells = λ s l. absurd (not-suc-le-zero l);
    none = λ s l.
        ⊎_elim
        (λ (k : s < 128). get_or-replicate 128 s false false k)
        (λ (k : 128 ≤ s). get_or_past (replicate 128 false) s false k)
        (cases_lt s 128);
  }

  pub flagged_more : (i : ℕ) (flags : List Bool) (b : Bool) → i < 128 → Decides b (P i) → Flagged i flags → Flagged (i + 1) (set flags i b)
  flagged_more i flags b low decides f =
      let within : i < length flags = omega (arith, f.long) in
      record {
        long = length-set flags i b ∙ f.long;
        tells = λ s l. elim (ℕ_discrete s i) [
          | yes e ↦
              subst (λ (c : Bool). Decides c (P s)) (sym (get_or-set_at flags i s b false e within))
              (subst (λ (z : ℕ). Decides b (P z)) (sym e) decides)
          | no n ↦ subst (λ (c : Bool). Decides c (P s)) (sym (get_or-set_other flags i s b false n)) (f.tells s (omega arith))
        ];
        none = λ s l. get_or-set_other flags i s b false (λ e. omega (arith, e)) ∙ f.none s (omega arith);
      }

  -- where P holds of none of the others
  pub flagged_all : (i : ℕ) (flags : List Bool) → ((s : ℕ) → P s → s < i) → Flagged i flags → (s : ℕ) → Decides (flagged flags s) (P s)
  flagged_all i flags low f s =
      ⊎_elim
      (λ (l : s < i). f.tells s l)
      (λ (l : i ≤ s). ((λ e. absurd (both_ways (flagged flags s) (f.none s l) e)), (λ p. absurd (omega (arith, low s p)))))
      (cases_lt s i)

module _ (M : Model) (group : ℕ → ℕ) where
  pub alike_told : (reason : Reason) (s t : ℕ) → Alike M group reason s t → answer_of M group reason s ≡ answer_of M group reason t
  alike_told (UnknownMark g p) s t e = ap Mark e
  alike_told (UnsureStep g h) s t e = ap Strength e

  pub told_alike : (reason : Reason) (s t : ℕ) → answer_of M group reason s ≡ answer_of M group reason t → Alike M group reason s t
  told_alike (UnknownMark g p) s t e = cc
  told_alike (UnsureStep g h) s t e = cc

  pub alike? : (reason : Reason) (s t : ℕ) → Dec (Alike M group reason s t)
  alike? (UnknownMark g p) s t = same_colour? (M.mark s p) (M.mark t p)
  alike? (UnsureStep g h) s t = same_step? (strength M group s h) (strength M group t h)

  pub through : (reason : Reason) (l s t : ℕ) → Alike M group reason l s → Alike M group reason l t → Alike M group reason s t
  through (UnknownMark g p) l s t a b = sym a ∙ b
  through (UnsureStep g h) l s t a b = sym a ∙ b

  pub itself : (reason : Reason) (s : ℕ) → Alike M group reason s s
  itself (UnknownMark g p) s = refl
  itself (UnsureStep g h) s = refl

  -- the group of a reason within so many groups is one of them
  pub group_within : (reason : Reason) (groups : ℕ) → Within groups M.marks reason → group_named reason < groups
  group_within (UnknownMark g p) groups w = w.0
  group_within (UnsureStep g h) groups w = w.0

-- a state that there is gives the answers that it is asked for
answer_known : (M : Model) (group : ℕ → ℕ) (reason : Reason) (groups s : ℕ) → Within groups M.marks reason → s < M.states → answer_of (asked M) group reason s ≡ answer_of M group reason s
answer_known M group (UnknownMark g p) groups s w l = ap Mark (mark_in_range M s l p w.1)
answer_known M group (UnsureStep g h) groups s w l = ap Strength (strength_known M group s h l)

module _ (M : Model) (reason : Reason) (xs : List ℕ) (flags : List Bool) (lead : ℕ) (within : Within (group_count xs) M.marks reason) (low : lead < M.states) where
  -- flags at 128 states tell of all states
  pub told_at :
      M.states ≤ 128 → length flags ≡ 128
      → ((s : ℕ) → s < 128 → Decides (flagged flags s) (Concerned M reason xs s × ¬ (answer_of (asked M) (group_of xs) reason s ≡ answer_of (asked M) (group_of xs) reason lead)))
      → (s : ℕ) → Decides (flagged flags s) (Concerned M reason xs s × ¬ Alike M (group_of xs) reason lead s)
  told_at few long at s =
      let known = λ (t : ℕ) (l : t < M.states). answer_known M (group_of xs) reason (group_count xs) t within l in
      ⊎_elim
      (λ (l : s < 128).
      Decides-like (flagged flags s) (λ p. (p.0, λ a. p.1 (known s p.0.0 ∙ sym (alike_told M (group_of xs) reason lead s a) ∙ sym (known lead low))))
      (λ p. (p.0, λ e. p.1 (told_alike M (group_of xs) reason lead s (sym (known lead low) ∙ sym e ∙ known s p.0.0)))) (at s l))
      (λ (l : 128 ≤ s).
      ((λ e. absurd (both_ways (flagged flags s) (get_or_past flags s false (omega arith)) e)), (λ p. absurd (omega (arith, p.0.0)))))
      (cases_lt s 128)

module _ (M : Model) (reason : Reason) (xs : List ℕ) (flags : List Bool) (fits : length xs ≡ M.states) (told : Told M reason xs flags) (n : ℕ) (all : n ≡ length xs) where
  unflagged : (s : ℕ) → ¬ (flagged flags s ≡ true) → flagged flags s ≡ false
  unflagged s n = ⊎_elim (λ e. absurd (n e)) (λ e. e) (cases_Bool (flagged flags s))

  staying : (s : ℕ) → Alike M (group_of xs) reason told.lead s → flagged flags s ≡ false
  staying s a = unflagged s (λ e. ((told.at s).0 e).1 a)

  elsewhere : (s : ℕ) → ¬ Concerned M reason xs s → flagged flags s ≡ false
  elsewhere s n = unflagged s (λ e. n ((told.at s).0 e).0)

  -- where none is flagged, all members answer alike
  pub none_differ : any_flagged flags n ≡ false → ¬ MembersDiffer M reason xs
  none_differ none differ =
      let as_lead : (s : ℕ) → Concerned M reason xs s → Alike M (group_of xs) reason told.lead s = λ s m.
      elim (alike? M (group_of xs) reason told.lead s) [
        | yes a ↦ a
        | no d ↦ absurd (both_ways (any_flagged flags n) none (flag_found n flags s (omega (arith, m.0)) ((told.at s).1 (m, d))))
      ] in
      differ.4 (through M (group_of xs) reason told.lead differ.0 differ.1 (as_lead differ.0 differ.2) (as_lead differ.1 differ.3))

  -- where one is flagged, two differ
  pub one_leaves : any_flagged flags n ≡ true → (s : ℕ) × (s < length xs) × (flagged flags s ≡ true)
  one_leaves some =
      let one = found_flag n flags some in
      let tells = (told.at one.0).0 one.1 in
      (one.0, omega (arith, tells.0.0), one.1)

  pub two_differ : any_flagged flags n ≡ true → MembersDiffer M reason xs
  two_differ some =
      let one = found_flag n flags some in
      let tells = (told.at one.0).0 one.1 in
      (told.lead, one.0, told.member, tells.0, tells.1)

  -- every group keeps a member
  pub one_stays : AllUsed xs → (h : ℕ) → h < group_count xs → (s : ℕ) × (s < length xs) × (group_of xs s ≡ h) × (flagged flags s ≡ false)
  one_stays used h l =
      ⊎_elim
      (λ (e : h ≡ group_named reason).
      (told.lead, omega (arith, told.member.0), told.member.1 ∙ sym e, staying told.lead (itself M (group_of xs) reason told.lead)))
      (λ (n : h ≡ group_named reason → ⊥).
      let u = used h l in
      (u.0, u.1, u.2, elsewhere u.0 (λ m. n (sym u.2 ∙ m.1))))
      (cases_eq h (group_named reason))

  pub moved_divided : (ys : List ℕ) → Moved flags xs ys → Divided M reason xs ys
  moved_divided ys moved = record {
    same_states = moved.0;
    lead = told.lead;
    member = told.member;
    lowest = told.lowest;
    others = λ s l n. moved.1 s (omega arith) ∙ cond-false _ _ _ (elsewhere s n);
    stays = λ s m a. moved.1 s (omega (arith, m.0)) ∙ cond-false _ _ _ (staying s a);
    leaves = λ s m n. moved.1 s (omega (arith, m.0)) ∙ cond-true _ _ _ ((told.at s).1 (m, n));
  }

-- a membership for n states says what it says of n
fits_itself : (m : Membership) (n : ℕ) → length (groups_of m) ≡ n → groups_in m n ≡ groups_of m
fits_itself m n e = cond-true _ _ _ (eq-eqb m.states n (sym (states_are m) ∙ e))

pub split_accepted :
    (M : Model) (reason : Reason) (before : List ℕ) (xs : List ℕ) (after : Membership) → xs ≡ before → length xs ≡ M.states
    → Within (group_count xs) M.marks reason → MembersDiffer M reason xs → Divided M reason xs (groups_of after)
    → Split M reason before (groups_in after M.states) (Ok tt)
split_accepted M reason before xs after e all within differ divided =
    subst (λ (b : List ℕ). Split M reason b (groups_in after M.states) (Ok tt)) e
    (within, differ, subst (Divided M reason xs) (sym (fits_itself after M.states (divided.same_states ∙ all))) divided)

pub some_from_ok : {X E : Type 0} (o : Option X) (e : E) (x : X) → ok_or o e ≡ Ok x → o ≡ Some x
some_from_ok None e x h = cc
some_from_ok (Some y) e x h = cc
