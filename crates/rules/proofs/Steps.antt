-- Single steps of the reader that takes one byte at a time.
use Rattle.std.proofs.Common.{◌≡◌, ℕ, suc, Bool, true, false, eqb, List, [], ◌∷◌, length, drop, Some, None, sym, refl, ap, ◌∙◌, one-add}
use Rattle.std.proofs.lemmas.Bool.{eqb-true}
use Rattle.rules.specs.declared.pieces.Prefix.{Prefix}
use Rattle.rules.specs.Trees.{Tree}
use Rattle.rules.specs.reader.Machine.{Frame, under, left, right, State, want, have, after, step, stuck, ended, finish, continue, outcome}
use Rattle.rules.specs.reader.Scans.{spaces}

pub goes : (σ τ : State) (b : ℕ) (bs : List ℕ) → step σ b ≡ Some τ → outcome σ (b ∷ bs) ≡ outcome τ bs
unfolding outcome
goes σ τ b bs e = ap (λ o. continue o (suc (length bs)) (λ τ. outcome τ bs)) e

pub stays : (σ : State) (b : ℕ) (bs : List ℕ) → step σ b ≡ None → outcome σ (b ∷ bs) ≡ stuck (suc (length bs))
unfolding outcome
stays σ b bs e = ap (λ o. continue o (suc (length bs)) (λ τ. outcome τ bs)) e

-- a space changes nothing in this state
abbrev pub Spacious : State → Type 0
Spacious σ = (bs : List ℕ) → outcome σ (32 ∷ bs) ≡ outcome σ bs

pub spacious_want : (k : List Frame) → Spacious (want k)
unfolding outcome step
spacious_want k bs = refl

-- a rule after a prefix is a rule with the prefix
pub under_read : (o : Prefix) (s : Tree) (k : List Frame) (bs : List ℕ) → outcome (have s (under o ∷ k)) bs ≡ outcome (have (Tree.unary o s) k) bs
unfolding outcome step after finish ended
under_read o s k [] = refl
under_read o s k (b ∷ bs) = refl

pub spacious_have : (s : Tree) (k : List Frame) → Spacious (have s k)
unfolding outcome step after
spacious_have s [] bs = refl
spacious_have s (under o ∷ k) bs = spacious_have (Tree.unary o s) k bs ∙ sym (under_read o s k bs)
spacious_have s (left c ∷ k) bs = refl
spacious_have s (right o r ∷ k) bs = refl

-- the spaces before a piece
pub skipped : (σ : State) (bs : List ℕ) → Spacious σ → outcome σ bs ≡ outcome σ (drop (spaces bs) bs)
skipped σ [] sp = refl
skipped σ (b ∷ bs) sp = by (eqb b 32) refl (skipped σ bs sp)
  where
    by : (t : Bool) → eqb b 32 ≡ t → outcome σ bs ≡ outcome σ (drop (spaces bs) bs) → outcome σ (b ∷ bs) ≡ outcome σ (drop (spaces (b ∷ bs)) (b ∷ bs))
    by true e h = rw (e, one-add, eqb-true b 32 e) (sp bs ∙ h)
    by false e h = rw e refl

pub no_space : (bs : List ℕ) (b : ℕ) (cs : List ℕ) → drop (spaces bs) bs ≡ b ∷ cs → eqb b 32 ≡ false
no_space [] b cs e = cc
no_space (x ∷ bs) b cs e = by (eqb x 32) refl e (λ f. no_space bs b cs f)
  where
    by : (t : Bool) → eqb x 32 ≡ t → drop (spaces (x ∷ bs)) (x ∷ bs) ≡ b ∷ cs → (drop (spaces bs) bs ≡ b ∷ cs → eqb b 32 ≡ false) → eqb b 32 ≡ false
    by true f e h = h (rw (f, one-add) at e)
    by false f e h = let g : x ∷ bs ≡ b ∷ cs = rw f at e in let z : x ≡ b = cc in rw z at f
