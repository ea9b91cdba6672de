-- What is told of a model is told of every model that agrees with it: the colours of a board, the verdict, and what explains it.
use Rattle.std.proofs.Common.{◌≡◌, ℕ, ◌-◌, ◌*◌, ◌<◌, ◌≤◌, false, List, [], ◌∷◌, length, take, sym, ap, ◌∙◌, subst, inl, inr, arith, length-take-le, get_or-take}
use Rattle.std.specs.List.{AllByRecursion}
use Rattle.std.proofs.lemmas.Nat.{mul-add-lt}
use Rattle.systems.specs.declared.kinds.Colour.{Colour}
use Rattle.systems.specs.declared.kinds.Colour.TheVariants.{Undecided, F, T}
use Rattle.systems.specs.Model.{Model, Starts, Agree}
use Rattle.systems.specs.Numbers.{colour_number}
use Rattle.rules.specs.declared.syntax.Quantifier.{Quantifier}
use Rattle.rules.specs.declared.syntax.Quantifier.TheVariants.{A, E}
use Rattle.rules.specs.declared.syntax.Operator.{Operator}
use Rattle.rules.specs.declared.syntax.Operator.TheVariants.{And, Or, AU, AV, EU, EV}
use Rattle.rules.specs.declared.syntax.Clause.{Clause}
use Rattle.rules.specs.declared.syntax.Clause.TheVariants.{Constant, Mark, Next, Pair}
use Rattle.rules.specs.Formulas.{Formula, MarksBelow}
use Rattle.rules.specs.Clauses.{PartsBelow, WellFounded, formula, whole, clauses, MarkBelow}
use Rattle.rules.proofs.Listing.{size_pos, listed_whole, marks_of_clauses}
use Rattle.colours.specs.declared.chains.Position.{Position}
use Rattle.colours.specs.declared.chains.Reason.{Reason}
use Rattle.colours.specs.declared.chains.Reason.TheVariants.{UnknownMark, UnsureStep}
use Rattle.colours.specs.Walks.{Walk, last}
use Rattle.colours.specs.Colours.{colouring, HasColour, HasVerdict}
use Rattle.colours.specs.Values.{colour_of, verdict_of}
use Rattle.colours.specs.Boards.{place, positions, Coloured}
use Rattle.colours.specs.Chains.{clause_at, Unsurely, Looks, Shown, Awaited, colours, Open, Follows, EndsInStep, GoesOn, Ends, Chain, LowestOpenStart, Cause}
use Rattle.colours.proofs.Lists.{all_at, last_of, all_weaker}
use Rattle.colours.proofs.Verdicts.{one_verdict}
use Rattle.colours.proofs.Agreement.{agree_back, within, possibly, starts, same_colour, agreeing_models_colour_alike}
use Rattle.colours.proofs.Chaining.{undecided_verdict_has_a_cause}

pub positions_agree : (M L : Model) (cs : List Clause) → Agree M L → positions M cs ≡ positions L cs
positions_agree M L cs a = ap (λ n. n * length cs) a.states

place_below : (G C g c : ℕ) → g < G → c < C → place C g c < G * C
place_below G C g c low part = omega (arith, mul-add-lt g C c G low part)

-- the bytes of a board past the last position tell nothing
pub coloured_front : (M : Model) (cs : List Clause) (b : List ℕ) → Coloured M cs b
    → (length (take (positions M cs) b) ≡ positions M cs) × Coloured M cs (take (positions M cs) b)
coloured_front M cs b h =
    let n = positions M cs in
    let e = length-take-le n b h.fits in (
      e,
      record {
        fits = omega (arith, e);
        shows = λ g c low part. get_or-take n b (place (length cs) g c) 0 (place_below M.states (length cs) g c low part) ∙ h.shows g c low part;
      },
    )

-- from L over to M
unsurely : (M L : Model) → Agree M L → (s t : ℕ) → Unsurely L s t → Unsurely M s t
unsurely M L a s t k =
    let back = within L M (agree_back M L a) in
    let b = back s k.0 in
    let c = back t k.1 in
    (b, c, a.step s t b c ∙ k.2)

module _ (M L : Model) (cs : List Clause) (a : Agree M L) (founded : WellFounded cs) (known : AllByRecursion (MarkBelow M.marks) cs) where
  known_at : (i : ℕ) → i < length cs → MarkBelow M.marks (clause_at cs i)
  known_at i b = all_at (MarkBelow M.marks) cs i (Constant false) b known

  known_marks : (i : ℕ) → i < length cs → MarksBelow M.marks (formula cs i)
  known_marks = marks_of_clauses M.marks cs founded known

  pub colour_agrees : (i s : ℕ) → i < length cs → s < M.states → colour_of M (formula cs i) s ≡ colour_of L (formula cs i) s
  colour_agrees i s k b = (agreeing_models_colour_alike M L a (formula cs i) (known_marks i k)).0 s b

  pub coloured_agrees : (b : List ℕ) → Coloured L cs b → Coloured M cs b
  coloured_agrees b h = record {
    fits = rw (positions_agree M L cs a) h.fits;
    shows = λ g c low part. h.shows g c (within M L a g low) part ∙ ap colour_number (sym (colour_agrees c g part low));
  }

  pub verdict_agrees : 1 ≤ length cs → verdict_of L (whole cs) ≡ verdict_of M (whole cs)
  verdict_agrees some = sym (agreeing_models_colour_alike M L a (whole cs) (known_marks (length cs - 1) (omega arith))).1

  back : Agree L M
  back = agree_back M L a

  -- a colour goes over, and comes back
  colour : (v : Colour) (i s : ℕ) → i < length cs → s < M.states → HasColour (colours L cs i) s v → HasColour (colours M cs i) s v
  colour v i s k b =
      let marks = subst (λ n. MarksBelow n (formula cs i)) a.marks (known_marks i k) in
      same_colour L M back (formula cs i) marks v s (within M L a s b)

  colour_back : (v : Colour) (i s : ℕ) → i < length cs → s < M.states → HasColour (colours M cs i) s v → HasColour (colours L cs i) s v
  colour_back v i s k b = same_colour M L a (formula cs i) (known_marks i k) v s b

  opened : (p : Position) → Open L cs p → Open M cs p
  opened p o = let b = within L M back p.group o.0 in (b, o.1, colour Undecided p.clause p.group o.1 b o.2)

  looks : (o : Operator) (i s : ℕ) → i < length cs → s < M.states → Looks o (colours L cs i) s → Looks o (colours M cs i) s
  looks And i s k b h = h
  looks Or i s k b h = h
  looks AU i s k b h = λ x. h (colour_back F i s k b x)
  looks EU i s k b h = λ x. h (colour_back F i s k b x)
  looks AV i s k b h = λ x. h (colour_back T i s k b x)
  looks EV i s k b h = λ x. h (colour_back T i s k b x)

  shown : (q : Quantifier) (i s : ℕ) → i < length cs → s < M.states → Shown q (colours L cs i) s → Shown q (colours M cs i) s
  shown A i s k b h = colour F i s k b h
  shown E i s k b h = colour T i s k b h

  awaited : (o : Operator) (i s : ℕ) → i < length cs → s < M.states → Awaited o (colours L cs i) s → Awaited o (colours M cs i) s
  awaited And i s k b h = h
  awaited Or i s k b h = h
  awaited AV i s k b h = shown A i s k b h
  awaited EU i s k b h = shown E i s k b h
  awaited AU i s k b (inl h) = inl (shown A i s k b h)
  awaited AU i s k b (inr h) = inr (colour Undecided i s k b h)
  awaited EV i s k b (inl h) = inl (shown E i s k b h)
  awaited EV i s k b (inr h) = inr (colour Undecided i s k b h)

  follows : (c : Clause) (i s j t : ℕ) → i < length cs → s < M.states → PartsBelow i c → Follows L cs c i s j t → Follows M cs c i s j t
  follows (Constant x) i s j t k b parts h = h
  follows (Mark m negated) i s j t k b parts h = h
  follows (Next q r) i s j t k b parts h = (h.0, possibly M L a s t h.1)
  follows (Pair o r q) i s j t k b parts (inl h) = inl h
  follows (Pair o r q) i s j t k b parts (inr h) =
      inr (h.0, looks o r s (omega (arith, parts.0)) b h.1, possibly M L a s t h.2)

  ends_in_step : (c : Clause) (i s t : ℕ) → i < length cs → PartsBelow i c → EndsInStep L cs c i s t → EndsInStep M cs c i s t
  ends_in_step (Constant x) i s t k parts h = h
  ends_in_step (Mark m negated) i s t k parts h = h
  ends_in_step (Next q r) i s t k parts h =
      let u = unsurely M L a s t h.0 in (u, shown q r t (omega arith) u.1 h.1)
  ends_in_step (Pair o r q) i s t k parts h =
      let u = unsurely M L a s t h.0 in
      (u, looks o r s (omega (arith, parts.0)) u.0 h.1, awaited o i t k u.1 h.2)

  linked : (p : Position) (ps : List Position) → AllByRecursion (Open L cs) (p ∷ ps) → Walk (GoesOn L cs) p ps → Walk (GoesOn M cs) p ps
  linked p [] o w = tt
  linked p (n ∷ ns) o w =
      let i = p.clause in
      let k = o.0.1 in (
        follows (clause_at cs i) i p.group n.clause n.group k (within L M back p.group o.0.0) (founded i k) w.0,
        linked n ns o.1 w.1,
      )

  ended : (p : Position) (reason : Reason) → Open L cs p → Ends L cs p reason → Ends M cs p reason
  ended p (UnknownMark g m) o e =
      let b = subst (λ x. x < M.states) (sym e.0) (within L M back p.group o.0) in
      let c = subst (MarkBelow M.marks) e.2.1 (known_at p.clause o.1) in
      (e.0, a.mark g m b c ∙ e.1, e.2)
  ended p (UnsureStep g t) o e = (e.0, ends_in_step (clause_at cs p.clause) p.clause g t o.1 (founded p.clause o.1) e.1)

  chained : (p : Position) (ps : List Position) (reason : Reason) → Chain L cs p ps reason → Chain M cs p ps reason
  chained p ps reason c = record {
    linked = linked p ps c.undecided c.linked;
    undecided = all_weaker (Open L cs) (Open M cs) opened (p ∷ ps) c.undecided;
    different = c.different;
    ended = ended (last p ps) reason (last_of (Open L cs) p ps c.undecided) c.ended;
  }

  lowest : 1 ≤ length cs → (g : ℕ) → LowestOpenStart L cs g → LowestOpenStart M cs g
  lowest some g l =
      let k : length cs - 1 < length cs = omega arith in
      let s = starts L M back g l.0 in (
        s,
        colour Undecided (length cs - 1) g k s.0 l.1,
        λ h below x u. l.2 h below (starts M L a h x) (colour_back Undecided (length cs - 1) h k x.0 u),
      )

  pub cause_agrees : (p : Position) (ps : List Position) (reason : Reason) → Cause L cs p ps reason → Cause M cs p ps reason
  cause_agrees p ps reason c = record {
    lowest = lowest (omega (arith, c.from_rule)) p.group c.lowest;
    from_rule = c.from_rule;
    chain = chained p ps reason c.chain;
  }

-- where the verdict is undecided, the rule is undecided at some start
pub undecided_start : (M : Model) (f : Formula) → verdict_of M f ≡ Undecided → (g : ℕ) × Starts M g × HasColour (colouring M f) g Undecided
undecided_start M f e =
    let l = listed_whole f in
    let u = subst (HasVerdict M f) e (one_verdict M f).0 in
    let c = undecided_verdict_has_a_cause M (clauses f) l.0 (omega (arith, l.1, size_pos f)) (subst (λ x. HasVerdict M x Undecided) (sym l.2) u) in
    let o = c.3.lowest in
    (c.0.group, o.0, subst (λ x. HasColour (colouring M x) c.0.group Undecided) l.2 o.1)
