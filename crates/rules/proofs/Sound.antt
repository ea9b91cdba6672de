-- What the reader that takes one byte at a time reads is a rule of the grammar.
use Rattle.std.proofs.Common.{◌≡◌, ℕ, zero, suc, ◌+◌, ◌<◌, ◌≤◌, Bool, true, false, cond, ◌&&◌, eqb, leb, List, [], ◌∷◌, ◌++◌, length, replicate, Some, None, codes, Option, sym, refl, ap, ◌∙◌, subst, inl, inr, ◌⊎◌, append_assoc, append-nil, arith}
use Rattle.std.specs.Prelude.{option_map}
use Rattle.std.proofs.lemmas.Bool.{cases_eq, ne_eqb, eqb-true, leb-true, and_parts, lt-ltb, le-ltb, cond_both}
use Rattle.rules.specs.declared.syntax.Quantifier.{Quantifier}
use Rattle.rules.specs.declared.pieces.Prefix.{Prefix}
use Rattle.rules.specs.declared.syntax.Operator.{Operator}
use Rattle.rules.specs.declared.pieces.Bracket.{Bracket}
use Rattle.rules.specs.declared.pieces.Start.{Start}
use Rattle.rules.specs.declared.pieces.Head.{Head}
use Rattle.rules.specs.reader.Bytes.{start_of, follow_of, joining, digit_of, closes}
use Rattle.rules.specs.Trees.{Tree}
use Rattle.rules.specs.Grammar.{Spells, a_constant, a_mark, a_prefix, a_pair, space_before, space_after, digit, numeral, letter as letters, in_front, opening, between, Begins}
use Rattle.rules.specs.reader.Machine.{Frame, under, left, right, State, want, have, digit_wanted, after_one, letter, headed, started, after_digit, after, second, step, accepted, ended, finish, continue, outcome}
use Rattle.rules.proofs.Complete.{bracket}

-- spaces after a rule
spread : {s : Tree} {c : List ℕ} (n : ℕ) → Spells s c → Spells s (c ++ replicate n 32)
spread {s} {c} zero d = subst (Spells s) (sym (append-nil c)) d
spread {s} {c} (suc n) d = subst (Spells s) (append_assoc c (32 ∷ []) (replicate n 32)) (spread n (space_after d))

-- the text is that of the rule s and what stands before it, in this context
abbrev Wraps : List Frame → Tree → List ℕ → Type 0
Wraps [] s pre = Spells s pre
Wraps (under o ∷ k) s pre = Wraps k (Tree.unary o s) pre
Wraps (left c ∷ k) s pre = (n : ℕ) (o : Operator) → bracket o ≡ c → (q : Tree) (d : List ℕ) → Spells q d → Wraps k (Tree.binary o s q) (pre ++ (replicate n 32 ++ (between o ++ (d ++ codes ")"))))
Wraps (right o r ∷ k) s pre = (n : ℕ) → Wraps k (Tree.binary o r s) (pre ++ (replicate n 32 ++ codes ")"))

wraps_space : (k : List Frame) (s : Tree) (pre : List ℕ) → Wraps k s pre → Wraps k s (pre ++ codes " ")
wraps_space [] s pre h = space_after h
wraps_space (under o ∷ k) s pre h = wraps_space k (Tree.unary o s) pre h
wraps_space (left c ∷ k) s pre h = λ n o e q d sp. subst (Wraps k (Tree.binary o s q)) (sym (append_assoc pre (32 ∷ []) _)) (h (suc n) o e q d sp)
wraps_space (right o r ∷ k) s pre h = λ n. subst (Wraps k (Tree.binary o r s)) (sym (append_assoc pre (32 ∷ []) _)) (h (suc n))

-- the text leads to the state
abbrev pub Reached : State → List ℕ → Type 0
Reached (want k) pre = (s : Tree) (c : List ℕ) → Spells s c → Wraps k s (pre ++ c)
Reached (have s k) pre = Wraps k s pre
Reached (digit_wanted k) pre = (m : ℕ) → m < 16 → Wraps k (Tree.mark m) (pre ++ numeral m)
Reached (after_one k) pre = Wraps k (Tree.mark 1) pre × ((m : ℕ) → 10 ≤ m → m < 16 → Wraps k (Tree.mark m) (pre ++ (38 + m) ∷ []))
Reached (letter q k) pre = (start : List ℕ) × (pre ≡ start ++ letters q) × ((s : Tree) (c : List ℕ) → Spells s c → Wraps k s (start ++ c))

pub shorter : (a b : List ℕ) → Begins (a ++ b) → Begins a
shorter a b h = (h.0, b ++ h.1, subst (Spells h.0) (append_assoc a b h.1) h.2)

-- some rule begins with the text
wraps_begins : (k : List Frame) (s : Tree) (pre : List ℕ) → Wraps k s pre → Begins pre
wraps_begins [] s pre h = (s, [], subst (Spells s) (sym (append-nil pre)) h)
wraps_begins (under o ∷ k) s pre h = wraps_begins k (Tree.unary o s) pre h
wraps_begins (left c ∷ k) s pre h = shorter pre _ (wraps_begins k _ _ (h 0 (some_sign c).0 (some_sign c).1 (Tree.constant true) (codes "1") (a_constant true)))
  where
    some_sign : (c : Bracket) → (o : Operator) × (bracket o ≡ c)
    some_sign Bracket.Plain = (Operator.And, refl)
    some_sign (Bracket.Quantified Quantifier.A) = (Operator.AU, refl)
    some_sign (Bracket.Quantified Quantifier.E) = (Operator.EU, refl)
wraps_begins (right o r ∷ k) s pre h = shorter pre _ (wraps_begins k _ _ (h 0))

-- how a bracket is written
abbrev opens : Bracket → List ℕ
opens Bracket.Plain = codes "("
opens (Bracket.Quantified q) = letters q ++ codes "("

-- how a piece is written
abbrev Written : Head → List ℕ → Type 0
Written (Head.Constant v) bs = bs ≡ digit v
Written (Head.Mark m) bs = (m < 16) × (bs ≡ codes "p" ++ numeral m)
Written (Head.Prefix o) bs = bs ≡ in_front o
Written (Head.Open c) bs = bs ≡ opens c

-- what the bytes mean
abbrev Begun : ℕ → Option Start → Type 0
Begun b (Some (Start.Piece h)) = Written h (b ∷ [])
Begun b (Some Start.Mark) = (b ∷ []) ≡ codes "p"
Begun b (Some (Start.Letter q)) = (b ∷ []) ≡ letters q
Begun b None = Unit {0}

one : (b c : ℕ) → eqb b c ≡ true → (b ∷ []) ≡ (c ∷ [])
one b c e = ap (λ x. x ∷ []) (eqb-true b c e)

begun_of : (b : ℕ) → Begun b (start_of b)
begun_of b =
    cond_both (eqb b 48) _ _ (Begun b) (one b 48) λ _.
    cond_both (eqb b 49) _ _ (Begun b) (one b 49) λ _.
    cond_both (eqb b 112) _ _ (Begun b) (one b 112) λ _.
    cond_both (eqb b 33) _ _ (Begun b) (one b 33) λ _.
    cond_both (eqb b 65) _ _ (Begun b) (one b 65) λ _.
    cond_both (eqb b 69) _ _ (Begun b) (one b 69) λ _.
    cond_both (eqb b 40) _ _ (Begun b) (one b 40) λ _. tt

abbrev Followed : Quantifier → ℕ → Option Head → Type 0
Followed q b (Some h) = Written h (letters q ++ b ∷ [])
Followed q b None = Unit {0}

followed_of : (q : Quantifier) (b : ℕ) → Followed q b (follow_of q b)
followed_of q b =
    cond_both (eqb b 88) _ _ (Followed q b) (λ e. ap (λ x. letters q ++ x) (one b 88 e)) λ _.
    cond_both (eqb b 71) _ _ (Followed q b) (λ e. ap (λ x. letters q ++ x) (one b 71 e)) λ _.
    cond_both (eqb b 70) _ _ (Followed q b) (λ e. ap (λ x. letters q ++ x) (one b 70 e)) λ _.
    cond_both (eqb b 40) _ _ (Followed q b) (λ e. ap (λ x. letters q ++ x) (one b 40 e)) λ _. tt

abbrev Signed : Bracket → ℕ → Option Operator → Type 0
Signed c b (Some o) = (bracket o ≡ c) × (between o ≡ b ∷ [])
Signed c b None = Unit {0}

signed_of : (c : Bracket) (b : ℕ) → Signed c b (joining c b)
signed_of Bracket.Plain b =
    cond_both (eqb b 38) _ _ (Signed Bracket.Plain b) (λ e. (refl, sym (one b 38 e))) λ _.
    cond_both (eqb b 124) _ _ (Signed Bracket.Plain b) (λ e. (refl, sym (one b 124 e))) λ _. tt
signed_of (Bracket.Quantified Quantifier.A) b =
    cond_both (eqb b 85) _ _ (Signed (Bracket.Quantified Quantifier.A) b) (λ e. (refl, sym (one b 85 e))) λ _.
    cond_both (eqb b 86) _ _ (Signed (Bracket.Quantified Quantifier.A) b) (λ e. (refl, sym (one b 86 e))) λ _. tt
signed_of (Bracket.Quantified Quantifier.E) b =
    cond_both (eqb b 85) _ _ (Signed (Bracket.Quantified Quantifier.E) b) (λ e. (refl, sym (one b 85 e))) λ _.
    cond_both (eqb b 86) _ _ (Signed (Bracket.Quantified Quantifier.E) b) (λ e. (refl, sym (one b 86 e))) λ _. tt

-- the text leads to the state, if there is one
abbrev pub Onward : Option State → List ℕ → Type 0
Onward None pre = Unit {0}
Onward (Some σ) pre = Reached σ pre

-- a bracket before two rules
open_bracket : (k : List Frame) (c : Bracket) (pre piece : List ℕ) → ((o : Operator) → bracket o ≡ c → opening o ≡ piece) → Reached (want k) pre → Reached (want (left c ∷ k)) (pre ++ piece)
open_bracket k c pre piece f h = λ s x sp n o e q d sq.
    subst (Wraps k (Tree.binary o s q)) (seam o e x n d)
    (h (Tree.binary o s q) (opening o ++ ((x ++ replicate n 32) ++ (between o ++ (d ++ codes ")")))) (a_pair o (spread n sp) sq))
  where
    seam : (o : Operator) → bracket o ≡ c → (x : List ℕ) (n : ℕ) (d : List ℕ) → pre ++ (opening o ++ ((x ++ replicate n 32) ++ (between o ++ (d ++ codes ")")))) ≡ ((pre ++ piece) ++ x) ++ (replicate n 32 ++ (between o ++ (d ++ codes ")")))
    seam o e x n d = rw (f o e) (simp append_assoc)

opening_bracket : (o : Operator) → opening o ≡ opens (bracket o)
opening_bracket Operator.And = refl
opening_bracket Operator.Or = refl
opening_bracket Operator.AU = refl
opening_bracket Operator.AV = refl
opening_bracket Operator.EU = refl
opening_bracket Operator.EV = refl

opened_by : (c : Bracket) (o : Operator) → bracket o ≡ c → opening o ≡ opens c
opened_by c o e = opening_bracket o ∙ ap opens e

-- an operator before a rule
under_operator : (k : List Frame) (o : Prefix) (pre piece : List ℕ) → in_front o ≡ piece → Reached (want k) pre → Reached (want (under o ∷ k)) (pre ++ piece)
under_operator k o pre piece e h = λ s c sp. subst (Wraps k (Tree.unary o s)) (ap (λ x. pre ++ (x ++ c)) e ∙ sym (append_assoc pre piece c)) (h (Tree.unary o s) (in_front o ++ c) (a_prefix o sp))

-- a piece
on_head : (h : Head) (k : List Frame) (pre piece : List ℕ) → Written h piece → Reached (want k) pre → Reached (headed h k) (pre ++ piece)
on_head (Head.Constant v) k pre piece e h = subst (λ y. Wraps k (Tree.constant v) (pre ++ y)) (sym e) (h (Tree.constant v) (digit v) (a_constant v))
on_head (Head.Mark m) k pre piece e h = subst (λ y. Wraps k (Tree.mark m) (pre ++ y)) (sym e.1) (h (Tree.mark m) (codes "p" ++ numeral m) (a_mark m e.0))
on_head (Head.Prefix o) k pre piece e h = under_operator k o pre piece (sym e) h
on_head (Head.Open c) k pre piece e h = open_bracket k c pre piece (λ o g. opened_by c o g ∙ sym e) h

on_begin : (x : Option Start) (b : ℕ) (k : List Frame) (pre : List ℕ) → Begun b x → Reached (want k) pre → Onward (option_map (λ x. started x k) x) (pre ++ b ∷ [])
on_begin (Some (Start.Piece x)) b k pre e h = on_head x k pre (b ∷ []) e h
on_begin (Some Start.Mark) b k pre e h = λ m low. subst (λ y. Wraps k (Tree.mark m) y) (ap (λ y. pre ++ (y ++ numeral m)) (sym e) ∙ sym (append_assoc pre (b ∷ []) (numeral m))) (h (Tree.mark m) (codes "p" ++ numeral m) (a_mark m low))
on_begin (Some (Start.Letter q)) b k pre e h = (pre, ap (λ y. pre ++ y) e, h)
on_begin None b k pre e h = tt

on_follow : (q : Quantifier) (x : Option Head) (b : ℕ) (k : List Frame) (pre : List ℕ) → Followed q b x → Reached (letter q k) pre → Onward (option_map (λ h. headed h k) x) (pre ++ b ∷ [])
on_follow q (Some x) b k pre e h = subst (Reached (headed x k)) (sym (append_assoc h.0 (letters q) (b ∷ [])) ∙ ap (λ y. y ++ b ∷ []) (sym h.1)) (on_head x k h.0 (letters q ++ b ∷ []) e h.2)
on_follow q None b k pre e h = tt

on_sign : (c : Bracket) (x : Option Operator) (b : ℕ) (s : Tree) (k : List Frame) (pre : List ℕ) → Signed c b x → Wraps (left c ∷ k) s pre → Onward (option_map (λ o. want (right o s ∷ k)) x) (pre ++ b ∷ [])
on_sign c (Some o) b s k pre e h = λ q d sq n. subst (Wraps k (Tree.binary o s q)) (seam d n) (h 0 o e.0 q (d ++ replicate n 32) (spread n sq))
  where
    seam : (d : List ℕ) (n : ℕ) → pre ++ (between o ++ ((d ++ replicate n 32) ++ codes ")")) ≡ ((pre ++ b ∷ []) ++ d) ++ (replicate n 32 ++ codes ")")
    seam d n = rw e.1 (simp append_assoc)
on_sign c None b s k pre e h = tt

on_cond : (t : Bool) (x y : Option State) (pre : List ℕ) → (t ≡ true → Onward x pre) → (t ≡ false → Onward y pre) → Onward (cond t x y) pre
on_cond true x y pre f g = f refl
on_cond false x y pre f g = g refl

-- a bracket after two rules
abbrev Closed : ℕ → Option (Unit {0}) → Type 0
Closed b (Some u) = (b ∷ []) ≡ codes ")"
Closed b None = Unit {0}

closed_of : (b : ℕ) → Closed b (closes b)
closed_of b = cond_both (eqb b 41) _ _ (Closed b) (one b 41) λ _. tt

on_close : (x : Option (Unit {0})) (s : Tree) (o : Operator) (r : Tree) (k : List Frame) (b : ℕ) (pre : List ℕ) → Closed b x → Wraps (right o r ∷ k) s pre → Onward (option_map (λ _. have (Tree.binary o r s) k) x) (pre ++ b ∷ [])
on_close (Some u) s o r k b pre e h = subst (λ y. Wraps k (Tree.binary o r s) (pre ++ y)) (sym e) (h 0)
on_close None s o r k b pre e h = tt

a_space : (s : Tree) (k : List Frame) (b : ℕ) (pre : List ℕ) → eqb b 32 ≡ true → Wraps k s pre → Wraps k s (pre ++ b ∷ [])
a_space s k b pre e h = subst (λ y. Wraps k s (pre ++ y)) (sym (one b 32 e)) (wraps_space k s pre h)

on_after : (s : Tree) (k : List Frame) (b : ℕ) (pre : List ℕ) → Wraps k s pre → Onward (after s k b) (pre ++ b ∷ [])
unfolding after
on_after s [] b pre h = on_cond (eqb b 32) _ _ _ (λ e. a_space s [] b pre e h) (λ _. tt)
on_after s (under o ∷ k) b pre h = on_after (Tree.unary o s) k b pre h
on_after s (left c ∷ k) b pre h = on_cond (eqb b 32) _ _ _ (λ e. a_space s (left c ∷ k) b pre e h) (λ _. on_sign c (joining c b) b s k pre (signed_of c b) h)
on_after s (right o r ∷ k) b pre h = on_cond (eqb b 32) _ _ _ (λ e. a_space s (right o r ∷ k) b pre e h) (λ _. on_close (closes b) s o r k b pre (closed_of b) h)

-- one digit, or two
abbrev Digit : ℕ → ℕ → Option ℕ → Type 0
Digit most b (Some n) = (n ≤ most) × (b ≡ 48 + n)
Digit most b None = Unit {0}

digit_one : (most b : ℕ) → Digit most b (digit_of most b)
digit_one most b =
    cond_both (leb 48 b && leb b (48 + most)) _ _ (Digit most b)
    (λ e. let h = and_parts (leb 48 b) (leb b (48 + most)) e in (omega (arith, leb-true 48 b h.0, leb-true b (48 + most) h.1), omega (arith, leb-true 48 b h.0)))
    λ _. tt

on_digit : (x : Option ℕ) (b : ℕ) (k : List Frame) (pre : List ℕ) → Digit 9 b x → Reached (digit_wanted k) pre → Onward (option_map (λ n. after_digit n k) x) (pre ++ b ∷ [])
on_digit None b k pre e h = tt
on_digit (Some n) b k pre e h = by (cases_eq n 1)
  where
    here : Wraps k (Tree.mark n) (pre ++ b ∷ [])
    here = rw e.1 (rw (lt-ltb n 10 (omega (arith, e.0))) at (h n (omega (arith, e.0))))

    teens : n ≡ 1 → (m : ℕ) → 10 ≤ m → m < 16 → Wraps k (Tree.mark m) ((pre ++ b ∷ []) ++ (38 + m) ∷ [])
    teens z m l g = rw (append_assoc, e.1, z) (rw (le-ltb m 10 l) at (h m g))

    by : (n ≡ 1) ⊎ (n ≡ 1 → ⊥) → Reached (after_digit n k) (pre ++ b ∷ [])
    by (inl z) = rw z (rw z at here, teens z)
    by (inr z) = rw (ne_eqb n 1 z) here

on_second : (x : Option ℕ) (b : ℕ) (k : List Frame) (pre : List ℕ) → Digit 5 b x → Reached (after_one k) pre → Onward (second x k b) (pre ++ b ∷ [])
unfolding second
on_second None b k pre e h = on_after (Tree.mark 1) k b pre h.0
on_second (Some n) b k pre e h = let z : 38 + (10 + n) ≡ b = omega (arith, e.1) in rw z at (h.1 (10 + n) (omega arith) (omega (arith, e.0)))

-- one byte more
pub advance : (σ : State) (b : ℕ) (pre : List ℕ) → Reached σ pre → Onward (step σ b) (pre ++ b ∷ [])
unfolding step
advance (want k) b pre h = on_cond (eqb b 32) _ _ _ (λ e s c sp. subst (Wraps k s) (ap (λ y. pre ++ (y ++ c)) (sym (one b 32 e)) ∙ sym (append_assoc pre (b ∷ []) c)) (h s (32 ∷ c) (space_before sp))) (λ _. on_begin (start_of b) b k pre (begun_of b) h)
advance (have s k) b pre h = on_after s k b pre h
advance (digit_wanted k) b pre h = on_digit (digit_of 9 b) b k pre (digit_one 9 b) h
advance (after_one k) b pre h = on_second (digit_of 5 b) b k pre (digit_one 5 b) h
advance (letter q k) b pre h = on_follow q (follow_of q b) b k pre (followed_of q b) h

-- some rule begins with a text that leads to a state
pub reached_begins : (σ : State) (pre : List ℕ) → Reached σ pre → Begins pre
reached_begins (want k) pre h = shorter pre (codes "1") (wraps_begins k (Tree.constant true) _ (h (Tree.constant true) (codes "1") (a_constant true)))
reached_begins (have s k) pre h = wraps_begins k s pre h
reached_begins (digit_wanted k) pre h = shorter pre (numeral 0) (wraps_begins k (Tree.mark 0) _ (h 0 (omega arith)))
reached_begins (after_one k) pre h = wraps_begins k (Tree.mark 1) pre h.0
reached_begins (letter q k) pre h =
    subst Begins (sym h.1)
    (shorter (h.0 ++ letters q) (codes "X1")
    (subst Begins (ap (λ y. h.0 ++ y) (append_assoc (letters q) (codes "X") (codes "1")) ∙ sym (append_assoc h.0 (letters q) (codes "X1")))
    (wraps_begins k _ _ (h.2 (Tree.unary (Prefix.Next q) (Tree.constant true)) _ (a_prefix (Prefix.Next q) (a_constant true))))))

ended_sound : (k : List Frame) (s t : Tree) (pre : List ℕ) → Wraps k s pre → ended s k ≡ accepted t → Spells t pre
unfolding ended
ended_sound [] s t pre h e = let z : s ≡ t = cc in subst (λ y. Spells y pre) z h
ended_sound (under o ∷ k) s t pre h e = ended_sound k (Tree.unary o s) t pre h e
ended_sound (left c ∷ k) s t pre h e = let z : ◌≡◌ {A = ℕ} 0 1 = cc in absurd (omega arith)
ended_sound (right o r ∷ k) s t pre h e = let z : ◌≡◌ {A = ℕ} 0 1 = cc in absurd (omega arith)

finish_sound : (σ : State) (t : Tree) (pre : List ℕ) → Reached σ pre → finish σ ≡ accepted t → Spells t pre
unfolding finish
finish_sound (want k) t pre h e = let z : ◌≡◌ {A = ℕ} 0 1 = cc in absurd (omega arith)
finish_sound (have s k) t pre h e = ended_sound k s t pre h e
finish_sound (digit_wanted k) t pre h e = let z : ◌≡◌ {A = ℕ} 0 1 = cc in absurd (omega arith)
finish_sound (after_one k) t pre h e = ended_sound k (Tree.mark 1) t pre h.0 e
finish_sound (letter q k) t pre h e = let z : ◌≡◌ {A = ℕ} 0 1 = cc in absurd (omega arith)

sound_from : (bs : List ℕ) (σ : State) (t : Tree) (pre : List ℕ) → Reached σ pre → outcome σ bs ≡ accepted t → Spells t (pre ++ bs)
unfolding outcome
sound_from [] σ t pre h e = subst (Spells t) (sym (append-nil pre)) (finish_sound σ t pre h e)
sound_from (b ∷ bs) σ t pre h e = by (step σ b) (advance σ b pre h) e (λ τ g f. sound_from bs τ t (pre ++ b ∷ []) g f)
  where
    by : (o : Option State) → Onward o (pre ++ b ∷ []) → continue o (suc (length bs)) (λ τ. outcome τ bs) ≡ accepted t → ((τ : State) → Reached τ (pre ++ b ∷ []) → outcome τ bs ≡ accepted t → Spells t ((pre ++ b ∷ []) ++ bs)) → Spells t (pre ++ b ∷ bs)
    by None g e f = let z : ◌≡◌ {A = ℕ} 0 1 = cc in absurd (omega arith)
    by (Some τ) g e f = subst (Spells t) (append_assoc pre (b ∷ []) bs) (f τ g e)

pub sound : (bs : List ℕ) (t : Tree) → outcome (want []) bs ≡ accepted t → Spells t bs
sound bs t e = sound_from bs (want []) t [] (λ s c sp. sp) e
