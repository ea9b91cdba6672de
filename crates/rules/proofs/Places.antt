-- Where no rule goes on.
use Rattle.std.proofs.Common.{◌≡◌, ℕ, suc, ◌+◌, ◌<◌, List, [], ◌∷◌, ◌++◌, length, take, Some, None, Option, sym, refl, ap, ◌∙◌, subst, append_assoc, append-nil, arith}
use Rattle.rules.specs.Trees.{Tree}
use Rattle.rules.specs.Grammar.{Spells, Begins}
use Rattle.rules.specs.reader.Machine.{Frame, under, left, right, State, want, have, digit_wanted, after_one, letter, step, accepted, stuck, ended, finish, continue, outcome}
use Rattle.rules.proofs.Complete.{read_whole}
use Rattle.rules.proofs.Sound.{Reached, Onward, advance, reached_begins}

ended_stuck : (k : List Frame) (s : Tree) (n : ℕ) → ended s k ≡ stuck n → n ≡ 0
unfolding ended
ended_stuck [] s n e = let z : ◌≡◌ {A = ℕ} 0 1 = cc in absurd (omega arith)
ended_stuck (under o ∷ k) s n e = ended_stuck k (Tree.unary o s) n e
ended_stuck (left c ∷ k) s n e = cc
ended_stuck (right o r ∷ k) s n e = cc

finish_stuck : (σ : State) (n : ℕ) → finish σ ≡ stuck n → n ≡ 0
unfolding finish
finish_stuck (want k) n e = cc
finish_stuck (have s k) n e = ended_stuck k s n e
finish_stuck (digit_wanted k) n e = cc
finish_stuck (after_one k) n e = ended_stuck k (Tree.mark 1) n e
finish_stuck (letter q k) n e = cc

-- where the reader stops, some rule begins so far, and none one byte further
abbrev Halts : State → List ℕ → List ℕ → ℕ → Type 0
Halts σ pre bs n = (i : ℕ) × (i + n ≡ length bs) × Begins (pre ++ take i bs) × (i < length bs → (more : List ℕ) (t : Tree) → outcome σ (take (suc i) bs ++ more) ≡ accepted t → ⊥)

halts : (bs : List ℕ) (σ : State) (pre : List ℕ) (n : ℕ) → Reached σ pre → outcome σ bs ≡ stuck n → Halts σ pre bs n
unfolding outcome
halts [] σ pre n h e = (0, omega (arith, finish_stuck σ n e), subst Begins (sym (append-nil pre)) (reached_begins σ pre h), λ l. absurd (omega arith))
halts (b ∷ bs) σ pre n h e = by (step σ b) refl (advance σ b pre h) e (λ τ g f. halts bs τ (pre ++ b ∷ []) n g f)
  where
    by : (o : Option State) → step σ b ≡ o → Onward o (pre ++ b ∷ []) → continue o (suc (length bs)) (λ τ. outcome τ bs) ≡ stuck n → ((τ : State) → Reached τ (pre ++ b ∷ []) → outcome τ bs ≡ stuck n → Halts τ (pre ++ b ∷ []) bs n) → Halts σ pre (b ∷ bs) n
    by None s g e f =
        let z : n ≡ suc (length bs) = cc in
        (0, omega arith, subst Begins (sym (append-nil pre)) (reached_begins σ pre h), λ l more t w. none more t (ap (λ o. continue o (suc (length more)) (λ τ. outcome τ more)) (sym s) ∙ w))
      where
        none : (more : List ℕ) (t : Tree) → stuck (suc (length more)) ≡ accepted t → ⊥
        none more t e = let z : ◌≡◌ {A = ℕ} 0 1 = cc in omega arith
    by (Some τ) s g e f =
        let r = f τ g e in (
          suc r.0,
          omega (arith, r.1),
          subst Begins (append_assoc pre (b ∷ []) (take r.0 bs)) r.2,
          λ l more t w. r.3 (omega arith) more t (ap (λ o. continue o (suc (length (take (suc r.0) bs ++ more))) (λ τ. outcome τ (take (suc r.0) bs ++ more))) (sym s) ∙ w),
        )

-- no rule is the text, and this is the place where none goes on
pub stuck_place : (bs : List ℕ) (n : ℕ) → outcome (want []) bs ≡ stuck n → (i : ℕ) × (i + n ≡ length bs) × Begins (take i bs) × (i < length bs → Begins (take (suc i) bs) → ⊥) × ((t : Tree) → Spells t bs → ⊥)
stuck_place bs n e =
    let r = halts bs (want []) [] n (λ s c sp. sp) e in (
      r.0,
      r.1,
      r.2,
      (λ l g. r.3 l g.1 g.0 (read_whole g.2)),
      λ t d. never t (sym (read_whole d) ∙ e),
    )
  where
    never : (t : Tree) → accepted t ≡ stuck n → ⊥
    never t e = let z : ◌≡◌ {A = ℕ} 0 1 = cc in omega arith
