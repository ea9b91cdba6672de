-- A search on a coloured board never runs dry, and what it finds is a chain.
use Rattle.std.proofs.Common.{◌≡◌, ℕ, List, [], ◌∷◌, length, Option, sym, refl, subst, inl, inr}
use native.Mathlib.Decide.{ℕ_discrete}
use Rattle.std.specs.List.{AllByRecursion}
use Rattle.systems.specs.Model.{Model}
use Rattle.rules.specs.declared.syntax.Clause.{Clause}
use Rattle.rules.specs.Clauses.{WellFounded}
use Rattle.colours.specs.declared.chains.Position.{Position}
use Rattle.colours.specs.declared.chains.Reason.{Reason}
use Rattle.colours.specs.Walks.{Walk}
use Rattle.colours.specs.Boards.{Coloured}
use Rattle.colours.specs.Chains.{clause_at, Open, GoesOn, Ends, Chain}
use Rattle.colours.proofs.Causes.{closed_is_empty}
use Rattle.engine.specs.declared.links.Link.{Link}
use Rattle.engine.specs.search.Searches.{graph, place_of, Inside, Leads, Rooted, Led, Done, Known, Searching, Found}
use Rattle.engine.specs.search.Traces.{StandsBefore, Traced}
use Rattle.engine.proofs.Tables.{place_same}
use Rattle.engine.proofs.Meaning.{next_sound, end_sound, next_complete, end_complete}

module _ (M : Model) (cs : List Clause) (board : List ℕ) (coloured : Coloured M cs board) (founded : WellFounded cs) (start : Position)
    (opened : Open M cs start) (table : List (Option Position)) where
  -- what a look shows follows, and is undecided
  led_on : (p n : Position) → Inside M.states (length cs) p → Leads (graph M cs board) p n → GoesOn M cs p n × Open M cs n
  led_on p n i l = next_sound M cs board coloured p i (clause_at cs p.clause) (founded p.clause i.1) l.0 n l.1 l.2

  module _ (rooted : Rooted M.states (length cs) start table) (led : Led (graph M cs board) start table) where
    -- what was seen is undecided
    seen_open : (p : Position) → Known (graph M cs board) table p → Open M cs p
    seen_open p z = elim (ℕ_discrete (place_of (length cs) p) (place_of (length cs) start)) [
      | yes e ↦ subst (Open M cs) (place_same M.states (length cs) start p (opened.0, opened.1) z.0 (sym e)) opened
      | no d ↦
          (let b = rooted.1.back p z.1.0 z.0 z.1.1 d in
          (led_on z.1.0 p b.0 (led p z.1.0 z.0 z.1.1 d)).1)
    ]

    -- the way from the start goes on from each position to the next
    goes : (q : Position) (ps : List Position) → AllByRecursion (Inside M.states (length cs)) (q ∷ ps)
        → AllByRecursion (λ p. ¬ (place_of (length cs) p ≡ place_of (length cs) start)) ps
        → Walk (StandsBefore (length cs) table) q ps → Walk (GoesOn M cs) q ps × AllByRecursion (Open M cs) ps
    goes q [] i a w = (tt, tt)
    goes q (n ∷ ps) i a w =
        let s = led_on q n i.0 (led n q i.1.0 w.0 a.0) in
        let r = goes n ps i.1 a.1 w.1 in
        ((s.0, r.0), (s.1, r.1))

  pub never_dry : Searching (graph M cs board) start table [] → ⊥
  never_dry s =
      closed_is_empty M cs founded (Known (graph M cs board) table) (seen_open s.rooted s.led) on no_end start
      ((opened.0, opened.1), s.rooted.1.root)
    where
      done : (p : Position) → Known (graph M cs board) table p → Done (graph M cs board) table p
      done p z = elim (s.closed p z) [ inl w ↦ absurd w | inr d ↦ d ]

      on : (p n : Position) → Known (graph M cs board) table p → GoesOn M cs p n → Open M cs n → Known (graph M cs board) table n
      on p n z g o =
          let k = next_complete M cs board coloured p z.0 (clause_at cs p.clause) (founded p.clause z.0.1) n g o in
          ((o.0, o.1), k.2 table (done p z k.0 k.1))

      no_end : (p : Position) (reason : Reason) → Known (graph M cs board) table p → Ends M cs p reason → ⊥
      no_end p reason z e =
          let k = end_complete M cs board coloured p z.0 founded reason e in
          k.2 table (done p z k.0 k.1)

  pub chain_made : (p : Position) (reason : Reason) → Found (graph M cs board) start table p reason → (kept : List Link)
      → (t : Traced M.states (length cs) start p table kept) → Chain M cs start t.rest reason
  chain_made p reason found kept t =
      let g = goes found.rooted found.led start t.rest t.inside t.away t.walk in
      let o = seen_open found.rooted found.led p found.here in
      record {
        linked = g.0;
        undecided = (opened, g.1);
        different = t.distinct;
        ended = subst (λ x. Ends M cs x reason) (sym t.ends)
            (end_sound M cs board coloured p found.here.0 (clause_at cs p.clause) (founded p.clause found.here.0.1) founded refl o
            found.end.0 reason found.end.1 found.end.2);
      }
