-- What the pieces at the start of the text do to the state of the reader of single bytes.
use Rattle.std.proofs.Common.{◌≡◌, ℕ, ◌+◌, ◌≢◌, List, [], ◌∷◌, drop, Some, None, Ok, Err, Option, Result, sym, refl, ap, ◌∙◌, arith, length-drop}
use Rattle.std.specs.Prelude.{option_map}
use Rattle.std.specs.Fn.{Shared, FnReturns}
use Rattle.std.specs.Result.{IsErrAnd, MatchResult}
use Rattle.std.proofs.lemmas.Bool.{ne_eqb}
use Rattle.std.proofs.lemmas.Result.{err_from_is_err_and}
use Rattle.rules.specs.declared.syntax.Quantifier.{Quantifier}
use Rattle.rules.specs.declared.syntax.Operator.{Operator}
use Rattle.rules.specs.declared.pieces.Bracket.{Bracket}
use Rattle.rules.specs.declared.pieces.Head.{Head}
use Rattle.rules.specs.declared.pieces.Start.{Start}
use Rattle.rules.specs.declared.pieces.Stuck.{Stuck}
use Rattle.rules.specs.reader.Bytes.{start_of, follow_of, joining, digit_of, closes}
use Rattle.rules.specs.Trees.{Tree}
use Rattle.rules.specs.reader.Machine.{State, want, have, digit_wanted, after_one, letter, headed, started, after_digit, after, second, step, stuck, ended, finish, outcome}
use Rattle.rules.specs.reader.Scans.{spaces, Takes, Goes, Stops, Reads, marked, between_rules, joined_by, in_bracket, closed}
use Rattle.rules.proofs.Steps.{goes, stays, Spacious, spacious_want, spacious_have, skipped, no_space}

-- a byte is taken where the step of each state goes by what the byte means, and no rule ends
pub taken : {K X : Type 0} (σ : K → State) (τ : X → K → State) (f : ℕ → Option X) {F : Type 0} (g : Shared F (ℕ × Unit {0}) (Option X)) (c : F) (old new : List ℕ) (r : Result X Stuck)
    → ((k : K) (b : ℕ) (bs : List ℕ) → old ≡ b ∷ bs → step (σ k) b ≡ option_map (λ x. τ x k) (f b))
    → ((k : K) → finish (σ k) ≡ stuck 0)
    → Takes g c old new r
    → ((b : ℕ) (o : Option X) → FnReturns g c (b, tt) o → o ≡ f b)
    → Reads σ τ old new r
unfolding outcome
taken σ τ f g c old new (Ok x) s e t h = (
  rw t.1 (omega arith),
  λ k. ap (outcome (σ k)) t.1 ∙ goes (σ k) (τ x k) t.0 new (s k t.0 new t.1 ∙ ap (option_map (λ x. τ x k)) (sym (h t.0 (Some x) t.2))),
)
taken σ τ f g c [] new (Err d) s e t h = (omega (arith, t.1), λ k. e k ∙ ap stuck (sym t.1))
taken σ τ f g c (b ∷ bs) new (Err d) s e t h = (
  omega (arith, t.1),
  λ k. stays (σ k) b bs (s k b bs refl ∙ ap (option_map (λ x. τ x k)) (sym (h b None (t.2 b bs refl)))) ∙ ap stuck (sym t.1),
)

-- after spaces, which change nothing
pub after_spaces : {K X : Type 0} (σ : K → State) (τ : X → K → State) (old new : List ℕ) (r : Result X Stuck)
    → ((k : K) → Spacious (σ k))
    → Reads σ τ (drop (spaces old) old) new r
    → Reads σ τ old new r
after_spaces σ τ old new (Ok x) sp h =
    let l = length-drop (spaces old) old in
    (omega (arith, h.0), λ k. skipped (σ k) old (sp k) ∙ h.1 k)
after_spaces σ τ old new (Err e) sp h =
    let l = length-drop (spaces old) old in
    (omega (arith, h.0), λ k. skipped (σ k) old (sp k) ∙ h.1 k)

-- and after a piece: a piece, or what is no piece of its own
pub then_reads : {K X Y : Type 0} (σ : K → State) (υ : X → K → State) (τ : Y → K → State) (old mid new : List ℕ) (x : X) (r : Result Y Stuck)
    → Reads σ υ old mid (Ok x)
    → Reads (υ x) τ mid new r
    → Reads σ τ old new r
then_reads σ υ τ old mid new x (Ok y) g h = (omega (arith, g.0, h.0), λ k. g.1 k ∙ h.1 k)
then_reads σ υ τ old mid new x (Err e) g h = (omega (arith, g.0, h.0), λ k. g.1 k ∙ h.1 k)

pub then_goes : {K X Y : Type 0} (σ : K → State) (υ : X → K → State) (τ : Y → K → State) (old mid new : List ℕ) (x : X) (y : Y)
    → Reads σ υ old mid (Ok x)
    → Goes (υ x) τ mid new y
    → Reads σ τ old new (Ok y)
then_goes σ υ τ old mid new x y g h = (omega (arith, g.0, h.0), λ k. g.1 k ∙ h.1 k)

-- where no rule goes on, what is wanted makes no difference
pub stopped : {K Y : Type 0} (σ : K → State) (τ : Y → K → State) (old new : List ℕ) (e : Stuck) (r : Result Y Stuck)
    → IsErrAnd r (λ d. d ≡ e)
    → Stops σ old e.left
    → Reads σ τ old new r
stopped σ τ old new e r q h = let p = err_from_is_err_and r q in rw (p.1, p.2) h

-- the pieces
pub began : (old new : List ℕ) (r : Result Start Stuck) {F : Type 0} (g : Shared F (ℕ × Unit {0}) (Option Start)) (c : F)
    → Takes g c (drop (spaces old) old) new r
    → ((b : ℕ) (o : Option Start) → FnReturns g c (b, tt) o → o ≡ start_of b)
    → Reads want started old new r
unfolding step finish
began old new r g c t h = after_spaces want started old new r spacious_want (taken want started start_of g c (drop (spaces old) old) new r (λ k b bs e. rw (no_space old b bs e) refl) (λ k. refl) t h)

pub followed : (q : Quantifier) (old new : List ℕ) (r : Result Head Stuck) {F : Type 0} (g : Shared F (ℕ × Unit {0}) (Option Head)) (c : F)
    → Takes g c old new r
    → ((b : ℕ) (o : Option Head) → FnReturns g c (b, tt) o → o ≡ follow_of q b)
    → Reads (letter q) headed old new r
unfolding step finish
followed q old new r g c t h = taken (letter q) headed (follow_of q) g c old new r (λ k b bs e. refl) (λ k. refl) t h

pub digit_read : (old new : List ℕ) (r : Result ℕ Stuck) {F : Type 0} (g : Shared F (ℕ × Unit {0}) (Option ℕ)) (c : F)
    → Takes g c old new r
    → ((b : ℕ) (o : Option ℕ) → FnReturns g c (b, tt) o → o ≡ digit_of 9 b)
    → Reads digit_wanted after_digit old new r
unfolding step finish
digit_read old new r g c t h = taken digit_wanted after_digit (digit_of 9) g c old new r (λ k b bs e. refl) (λ k. refl) t h

pub operator_read : (k : Bracket) (old new : List ℕ) (r : Result Operator Stuck) {F : Type 0} (g : Shared F (ℕ × Unit {0}) (Option Operator)) (c : F)
    → Takes g c (drop (spaces old) old) new r
    → ((b : ℕ) (o : Option Operator) → FnReturns g c (b, tt) o → o ≡ joining k b)
    → Reads (between_rules k) joined_by old new r
unfolding step after finish ended
operator_read k old new r g c t h = after_spaces (between_rules k) joined_by old new r (λ j. spacious_have j.0 _) (taken (between_rules k) joined_by (joining k) g c (drop (spaces old) old) new r (λ j b bs e. rw (no_space old b bs e) refl) (λ k. refl) t h)

pub closing_read : (old new : List ℕ) (r : Result (Unit {0}) Stuck) {F : Type 0} (g : Shared F (ℕ × Unit {0}) (Option (Unit {0}))) (c : F)
    → Takes g c (drop (spaces old) old) new r
    → ((b : ℕ) (o : Option (Unit {0})) → FnReturns g c (b, tt) o → o ≡ closes b)
    → Reads in_bracket closed old new r
unfolding step after finish ended
closing_read old new r g c t h = after_spaces in_bracket closed old new r (λ k. spacious_have k.1.0 _) (taken in_bracket closed closes g c (drop (spaces old) old) new r (λ k b bs e. rw (no_space old b bs e) refl) (λ k. refl) t h)

-- a digit that is no 1 is the whole number
pub digit_alone : (old new : List ℕ) (n : ℕ) → n ≢ 1 → Reads digit_wanted after_digit old new (Ok n) → Reads digit_wanted marked old new (Ok n)
digit_alone old new n ne h = (h.0, λ k. h.1 k ∙ ap (λ σ. outcome σ new) (rw (ne_eqb n 1 ne) refl))

-- after p1, a second digit or none
pub second_read : (old new : List ℕ) (r : Result ℕ Stuck) {F : Type 0} (g : Shared F (ℕ × Unit {0}) (Option ℕ)) (c : F) (m : ℕ)
    → Takes g c old new r
    → ((b : ℕ) (o : Option ℕ) → FnReturns g c (b, tt) o → o ≡ digit_of 5 b)
    → MatchResult r (λ n. m ≡ 10 + n) (λ _. m ≡ 1)
    → Goes after_one marked old new m
unfolding outcome step second finish
second_read old new (Ok n) g c m t h e = (rw t.1 (omega arith), λ k. rw e (ap (outcome (after_one k)) t.1 ∙ goes (after_one k) (have (Tree.mark (10 + n)) k) t.0 new (ap (λ o. second o k t.0) (sym (h t.0 (Some n) t.2)))))
second_read [] new (Err d) g c m t h e = (rw t.0 (omega arith), λ k. rw (e, t.0) refl)
second_read (b ∷ bs) new (Err d) g c m t h e = (rw t.0 (omega arith), λ k. rw (e, t.0, ← h b None (t.2 b bs refl)) refl)
