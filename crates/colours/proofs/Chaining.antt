-- From an undecided position a chain leads to an end: the positions that chains reach are gathered until one has an end.
use Rattle.std.proofs.Common.{◌≡◌, ℕ, zero, suc, ◌-◌, ◌<◌, ◌≤◌, Bool, true, false, ◌⊎◌, List, [], ◌∷◌, ◌++◌, length, sym, refl, ap, subst, ap₂, inl, inr, not-suc-le-zero, arith}
use native.Mathlib.Decide.{ℕ_discrete}
use Rattle.std.specs.List.{AllByRecursion}
use Rattle.systems.specs.declared.kinds.Colour.{Colour}
use Rattle.systems.specs.declared.kinds.Colour.TheVariants.{Undecided, F, T}
use Rattle.systems.specs.Model.{Model, Starts}
use Rattle.rules.specs.declared.syntax.Clause.{Clause}
use Rattle.rules.specs.declared.syntax.Clause.TheVariants.{Constant, Mark, Next, Pair}
use Rattle.rules.specs.Formulas.{Formula}
use Rattle.rules.specs.Clauses.{WellFounded, whole}
use Rattle.colours.specs.declared.chains.Position.{Position}
use Rattle.colours.specs.declared.chains.Reason.{Reason}
use Rattle.colours.specs.declared.chains.Reason.TheVariants.{UnknownMark, UnsureStep}
use Rattle.colours.specs.Walks.{Walk, last, Among, Distinct}
use Rattle.colours.specs.Colours.{colouring, HasColour, HasVerdict}
use Rattle.colours.specs.Values.{colour_of}
use Rattle.colours.specs.Groupings.{grouped}
use Rattle.colours.specs.Chains.{clause_at, Unknown, Open, GoesOn, Ends, EndsInStep, Chain}
use Rattle.colours.specs.Theorems.{UndecidedHasAChain, UndecidedVerdictHasACause, NoSearchRunsDry, MarksKnown, ChainsPartMembers}
use Rattle.colours.proofs.Lists.{find, least, in_left, in_right, drop_at, length_drop_at, move, last_of}
use Rattle.colours.proofs.Computed.{colours_shown}
use Rattle.colours.proofs.Causes.{closed_is_empty}
use Rattle.colours.proofs.Deciding.{undecided?, open?, goes_on?, end?}
use Rattle.colours.proofs.Exactness.{unknown_parts_members}

pub no_search_runs_dry : NoSearchRunsDry
no_search_runs_dry M cs founded seen opened on no_end = closed_is_empty M cs founded (λ p. seen p ≡ true) opened on no_end

position? : (p q : Position) → Dec (p ≡ q)
position? p q = elim (ℕ_discrete p.group q.group) [
  | no n ↦ no (λ e. n (ap (λ x. x.group) e))
  | yes a ↦ elim (ℕ_discrete p.clause q.clause) [
    | no n ↦ no (λ e. n (ap (λ x. x.clause) e))
    | yes b ↦ yes (ap₂ (λ x y. record { group = x; clause = y }) a b)
  ]
]

among? : (p : Position) (qs : List Position) → Dec (Among p qs)
among? p [] = no (λ m. m)
among? p (q ∷ qs) = elim (position? p q) [
  | yes e ↦ yes (inl e)
  | no n ↦ elim (among? p qs) [ yes m ↦ yes (inr m) | no k ↦ no (elim [ inl e ↦ n e | inr m ↦ k m ]) ]
]

-- the positions of G groups and C clauses
row : ℕ → ℕ → List Position
row g zero = []
row g (suc c) = record { group = g; clause = c } ∷ row g c

grid : ℕ → ℕ → List Position
grid zero C = []
grid (suc g) C = row g C ++ grid g C

in_row : (g C : ℕ) (p : Position) → p.group ≡ g → p.clause < C → Among p (row g C)
unfolding row
in_row g zero p e b = absurd (not-suc-le-zero b)
in_row g (suc c) p e b = elim (ℕ_discrete p.clause c) [
  | yes i ↦ inl (ap₂ (λ x y. record { group = x; clause = y }) e i)
  | no n ↦ inr (in_row g c p e (omega arith))
]

in_grid : (G C : ℕ) (p : Position) → p.group < G → p.clause < C → Among p (grid G C)
unfolding grid
in_grid zero C p a b = absurd (not-suc-le-zero a)
in_grid (suc g) C p a b = elim (ℕ_discrete p.group g) [
  | yes e ↦ in_left p (row g C) (grid g C) (in_row g C p e b)
  | no n ↦ in_right p (row g C) (grid g C) (in_grid g C p (omega arith) b)
]

module _ (step : Position → Position → Type 0) (P : Position → Type 0) where
  -- a walk of different positions from p to e
  abbrev PathTo : Position → Position → Type 0
  PathTo p e = (ps : List Position) × Walk step p ps × AllByRecursion P (p ∷ ps) × Distinct (p ∷ ps) × (last p ps ≡ e)

  -- from where p stands on it
  from_there : (p q e : Position) (qs : List Position) → Among p (q ∷ qs) → Walk step q qs → AllByRecursion P (q ∷ qs) → Distinct (q ∷ qs)
      → last q qs ≡ e → PathTo p e
  from_there p q e qs (inl same) w a d l = subst (λ x. PathTo x e) (sym same) (qs, w, a, d, l)
  from_there p q e [] (inr m) w a d l = absurd m
  from_there p q e (r ∷ rs) (inr m) w a d l = from_there p r e rs m w.1 a.1 d.1 l

  -- one step more in front
  in_front : (p q e : Position) → P p → step p q → PathTo q e → PathTo p e
  in_front p q e x s (qs, w, a, d, l) = elim (among? p (q ∷ qs)) [
    | yes m ↦ from_there p q e qs m w a d l
    | no n ↦ (q ∷ qs, (s, w), (x, a), (n, d), l)
  ]

  alone : (p : Position) → P p → PathTo p p
  alone p x = ([], tt, (x, tt), ((λ m. m), tt), refl)

  -- one step more at the end
  at_end : (p e n : Position) → PathTo p e → step e n → P n → PathTo p n
  at_end p e n (ps, w, a, d, l) s x = go p ps w a (subst (λ y. step y n) (sym l) s)
    where
      go : (p : Position) (ps : List Position) → Walk step p ps → AllByRecursion P (p ∷ ps) → step (last p ps) n → PathTo p n
      go p [] w a s = in_front p n n a.0 s (alone n x)
      go p (q ∷ qs) w a s = in_front p q n a.0 w.0 (go q qs w.1 a.1 s)

module _ (M : Model) (cs : List Clause) (founded : WellFounded cs) (p : Position) (start : Open M cs p) where
  abbrev Chained : Type 0
  Chained = (ps : List Position) × (reason : Reason) × Chain M cs p ps reason

  abbrev Reached : Position → Type 0
  Reached n = PathTo (GoesOn M cs) (Open M cs) p n

  reached_open : (n : Position) → Reached n → Open M cs n
  reached_open n v = subst (Open M cs) v.4 (last_of (Open M cs) p v.0 v.2)

  chained : (n : Position) (reason : Reason) → Reached n → Ends M cs n reason → Chained
  chained n reason v e = (
    v.0,
    reason,
    record
        { linked = v.1; undecided = v.2; different = v.3; ended = subst (λ y. Ends M cs y reason) (sym v.4) e },
  )

  -- y is undecided and follows one of xs
  abbrev NextTo : List Position → Position → Type 0
  NextTo xs y = Open M cs y × ((x : Position) × Among x xs × GoesOn M cs x y)

  next_to? : (xs : List Position) → ((x : Position) → Among x xs → Reached x) → (y : Position) → NextTo xs y ⊎ (¬ NextTo xs y)
  next_to? xs sound y = elim (open? M cs y) [
    | no k ↦ inr (λ h. k h.0)
    | yes o ↦ elim (find (λ x. GoesOn M cs x y) (λ x. ¬ GoesOn M cs x y) xs
        (λ x m. elim (goes_on? M cs x y (reached_open x (sound x m)).0) [ yes h ↦ inl h | no k ↦ inr k ])) [
          | inl f ↦ inl (o, f)
          | inr none ↦ inr (λ h. none h.1.0 h.1.1 h.1.2)
        ]
  ]

  -- nothing follows xs but themselves, and none has an end
  dry : (xs ys : List Position) → ((n : Position) → Open M cs n → Among n xs ⊎ Among n ys) → ((x : Position) → Among x xs → Reached x)
      → Among p xs
      → ((x : Position) → Among x xs → (reason : Reason) → ¬ Ends M cs x reason) → ((y : Position) → Among y ys → ¬ NextTo xs y) → ⊥
  dry xs ys parted sound here no_end none = closed_is_empty M cs founded (λ x. Among x xs) (λ x m. reached_open x (sound x m))
      (λ x n m g o. elim (parted n o) [ inl k ↦ k | inr k ↦ absurd (none n k (o, (x, m, g))) ])
      (λ x reason m. no_end x m reason) p here

  -- a chain, or one more position that is reached
  look : (xs ys : List Position) → ((n : Position) → Open M cs n → Among n xs ⊎ Among n ys) → ((x : Position) → Among x xs → Reached x)
      → Among p xs
      → Chained ⊎ ((y : Position) × Among y ys × NextTo xs y)
  look xs ys parted sound here = elim (find (λ x. (reason : Reason) × Ends M cs x reason) (λ x. (reason : Reason) → ¬ Ends M cs x reason) xs
      (λ x m. end? M cs founded x (reached_open x (sound x m)))) [
        | inl f ↦ inl (chained f.0 f.2.0 (sound f.0 f.1) f.2.1)
        | inr no_end ↦ elim (find (NextTo xs) (λ y. ¬ NextTo xs y) ys (λ y m. next_to? xs sound y)) [
          | inl w ↦ inr w
          | inr none ↦ absurd (dry xs ys parted sound here no_end none)
        ]
      ]

  reached_next : (xs : List Position) → ((x : Position) → Among x xs → Reached x) → (y : Position) → NextTo xs y → (x : Position)
      → Among x (y ∷ xs) → Reached x
  reached_next xs sound y w x (inl e) =
      subst Reached (sym e) (at_end (GoesOn M cs) (Open M cs) p w.1.0 y (sound w.1.0 w.1.1) w.1.2 w.0)
  reached_next xs sound y w x (inr m) = sound x m

  gather : (k : ℕ) (xs ys : List Position) → length ys ≤ k → ((n : Position) → Open M cs n → Among n xs ⊎ Among n ys)
      → ((x : Position) → Among x xs → Reached x) → Among p xs → Chained
  gather zero xs ys short parted sound here = elim (look xs ys parted sound here) [
    | inl c ↦ c
    | inr w ↦ absurd (omega (arith, length_drop_at w.0 ys w.1))
  ]
  gather (suc k) xs ys short parted sound here = elim (look xs ys parted sound here) [
    | inl c ↦ c
    | inr w ↦ gather k (w.0 ∷ xs) (drop_at w.0 ys w.1) (omega (arith, length_drop_at w.0 ys w.1))
        (λ n o. move n w.0 xs ys w.1 (parted n o)) (reached_next xs sound w.0 w.2) (inr here)
  ]

  chain_found : Chained
  chain_found = gather (length (grid M.states (length cs))) (p ∷ []) (grid M.states (length cs)) (omega arith)
      (λ n o. inr (in_grid M.states (length cs) n o.0 o.1))
      (λ x. elim [ inl e ↦ subst Reached (sym e) (alone (GoesOn M cs) (Open M cs) p start) | inr m ↦ absurd m ]) (inl refl)

pub undecided_has_a_chain : UndecidedHasAChain
undecided_has_a_chain = chain_found

module _ (M : Model) (f : Formula) where
  abbrev OpenStart : ℕ → Type 0
  OpenStart s = Starts M s × HasColour (colouring M f) s Undecided

  open_start? : (s : ℕ) → s < M.states → Dec (OpenStart s)
  open_start? s b = go (M.start s) refl
    where
      go : (start : Bool) → M.start s ≡ start → Dec (OpenStart s)
      go true e = elim (undecided? M f s b) [ yes u ↦ yes ((b, e), u) | no k ↦ no (λ h. k h.1) ]
      go false e = no (λ h. let i = h.0.1 in grind arith)

  lowest_open : HasVerdict M f Undecided → (g : ℕ) × (g < M.states) × OpenStart g × ((h : ℕ) → h < g → ¬ OpenStart h)
  lowest_open u = elim (least OpenStart M.states open_start?) [
    | inl x ↦ x
    | inr free ↦ absurd (u.0 (λ s k. go free s k (colour_of M f s) (colours_shown M f s k.0)))
  ]
    where
      go : ((h : ℕ) → h < M.states → ¬ OpenStart h) → (s : ℕ) → Starts M s → (v : Colour) → HasColour (colouring M f) s v
          → (colouring M f).is_T s
      go free s k T h = h
      go free s k F h = absurd (u.1 (s, k, h))
      go free s k Undecided h = absurd (free s k.0 (k, h))

pub undecided_verdict_has_a_cause : UndecidedVerdictHasACause
undecided_verdict_has_a_cause M cs founded some u =
    let x = lowest_open M (whole cs) u in
    let p : Position = record { group = x.0; clause = length cs - 1 } in
    let w = undecided_has_a_chain M cs founded p (x.1, omega (arith, some), x.2.1) in (
      p,
      w.0,
      w.1,
      record {
        lowest = (x.2.0, x.2.1, λ h b k v. x.3 h b (k, v));
        from_rule = omega (arith, some);
        chain = w.2;
      },
    )

-- what a chain ends in is unknown
end_unknown : (M : Model) (cs : List Clause) → MarksKnown M.marks cs → (p : Position) (reason : Reason) → Open M cs p
    → Ends M cs p reason → Unknown M reason
end_unknown M cs known p (UnknownMark g m) o e =
    (subst (λ x. x < M.states) (sym e.0) o.0, known p.clause m e.2.0 o.1 e.2.1, e.1)
end_unknown M cs known p (UnsureStep g t) o e = go (clause_at cs p.clause) e.1
  where
    go : (c : Clause) → EndsInStep M cs c p.clause g t → Unknown M (UnsureStep g t)
    go (Constant x) h = absurd h
    go (Mark m negated) h = absurd h
    go (Next k r) h = h.0
    go (Pair x r q) h = h.0

pub chains_part_members : ChainsPartMembers
chains_part_members M exact group groups cs known p ps reason c =
    unknown_parts_members M exact group groups reason
    (end_unknown (grouped M group groups) cs known (last p ps) reason (last_of (Open (grouped M group groups) cs) p ps c.undecided)
    c.ended)
