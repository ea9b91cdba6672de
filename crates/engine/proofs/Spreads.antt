-- One look taken.
use Rattle.std.proofs.Common.{◌≡◌, ℕ, suc, ◌+◌, ◌*◌, ◌<◌, ◌≤◌, List, [], ◌∷◌, ◌++◌, length, replicate, set, Some, None, Option, sym, refl, ap, ◌∙◌, subst, subst₂, arith}
use Rattle.std.proofs.lemmas.List.{length_push, get_or-replicate, length-replicate}
use Rattle.colours.specs.declared.chains.Position.{Position}
use Rattle.engine.specs.declared.links.Link.{Link}
use Rattle.engine.specs.declared.cause.looking.Finding.TheVariants.{Next}
use Rattle.engine.specs.search.Searches.{Graph, place_of, Inside, before, Passed, unseen, Searching, Spreading, Saw, Space}
use Rattle.engine.proofs.Tables.{place_below, unseen_mark}
use Rattle.engine.proofs.Moves.{spread_fresh, spread_seen, begun}

module _ (m : Graph) (from : Position) (table : List (Option Position)) (waiting : List Link) (n : Position)
    (low : Inside m.groups m.clauses n) (wide : m.groups * m.clauses ≤ length table) where
  abbrev link : Link
  link = record { at = n; from = from }

  pub place_in_table : place_of m.clauses n < length table
  place_in_table = omega (arith, place_below m.groups m.clauses n low, wide)

  fewer : before m.clauses table n ≡ None
      → suc (unseen (m.groups * m.clauses) (set table (place_of m.clauses n) (Some from))) ≡ unseen (m.groups * m.clauses) table
  fewer = unseen_mark (m.groups * m.clauses) table (place_of m.clauses n) from (place_below m.groups m.clauses n low) place_in_table

  pub saw_space : (places : ℕ) → unseen (m.groups * m.clauses) table + length waiting ≤ places → Space (before m.clauses table n) waiting places
  saw_space places r = go (before m.clauses table n) refl
    where
      go : (o : Option Position) → before m.clauses table n ≡ o → Space o waiting places
      go None e = omega (arith, r, fewer e)
      go (Some q) e = tt

  module _ (table' : List (Option Position)) (waiting' : List Link)
      (saw : Saw (before m.clauses table n) m.clauses link table waiting table' waiting') where
    pub saw_sum : unseen (m.groups * m.clauses) table' + length waiting' ≡ unseen (m.groups * m.clauses) table + length waiting
    saw_sum = go (before m.clauses table n) refl saw
      where
        go : (o : Option Position) → before m.clauses table n ≡ o → Saw o m.clauses link table waiting table' waiting'
            → unseen (m.groups * m.clauses) table' + length waiting' ≡ unseen (m.groups * m.clauses) table + length waiting
        go None e s = omega (arith, fewer e, ap (unseen (m.groups * m.clauses)) s.0, ap length s.1, length_push waiting link)
        go (Some q) e s = omega (arith, ap (unseen (m.groups * m.clauses)) s.0, ap length s.1)

    pub saw_on : (start : Position) (k : ℕ) → k < m.looks from → m.look from k ≡ Some (Next n) → Spreading m start from k table waiting
        → Spreading m start from (k + 1) table' waiting'
    saw_on start k b way s = go (before m.clauses table n) refl saw
      where
        go : (o : Option Position) → before m.clauses table n ≡ o → Saw o m.clauses link table waiting table' waiting'
            → Spreading m start from (k + 1) table' waiting'
        go None e z =
            subst₂ (Spreading m start from (k + 1)) (sym z.0) (sym z.1) (spread_fresh m start from k table waiting n s b way low e)
        go (Some q) e z =
            subst₂ (Spreading m start from (k + 1)) (sym z.0) (sym z.1)
            (spread_seen m start from k table waiting s (subst (Passed m.clauses table) (sym way) (q, e)))

-- the search begins at its start, in a cleared table
module _ (m : Graph) (start : Position) (table : List (Option Position)) (low : Inside m.groups m.clauses start)
    (wide : m.groups * m.clauses ≤ length table) (n : ℕ) (clear : table ≡ replicate n None) where
  clear_at : (p : Position) → Inside m.groups m.clauses p → before m.clauses table p ≡ None
  clear_at p i =
      ap (λ t. before m.clauses t p) clear
      ∙ get_or-replicate n (place_of m.clauses p) None None
      (omega (arith, place_below m.groups m.clauses p i, wide, ap length clear, length-replicate {A = Option Position} n None))

  pub first_space : (waiting : List Link) (places : ℕ) → waiting ≡ [] → m.groups * m.clauses ≤ places → Space (before m.clauses table start) waiting places
  first_space waiting places e h =
      subst (λ o. Space o waiting places) (sym (clear_at start low)) (omega (arith, ap length e, h, place_below m.groups m.clauses start low))

  pub first_seen : (waiting : List Link) (table' : List (Option Position)) (waiting' : List Link) → waiting ≡ []
      → Saw (before m.clauses table start) m.clauses (record { at = start; from = start }) table waiting table' waiting'
      → Searching m start table' waiting'
  first_seen waiting table' waiting' e s =
      let link : Link = record { at = start; from = start } in
      let z : Saw None m.clauses link table waiting table' waiting' =
      subst (λ o. Saw o m.clauses link table waiting table' waiting') (clear_at start low) s in
      subst₂ (Searching m start) (sym z.0) (sym (z.1 ∙ ap (λ x. x ++ link ∷ []) e)) (begun m start table wide low clear_at)
