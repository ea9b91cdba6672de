-- The steps of a search keep what it keeps.
use Rattle.std.proofs.Common.{◌≡◌, ℕ, suc, ◌+◌, ◌*◌, ◌<◌, ◌≤◌, ◌⊎◌, List, [], ◌∷◌, ◌++◌, length, set, Some, None, Option, sym, ap, ◌∙◌, subst, inl, inr, not-suc-le-zero, arith, length-set}
use native.Mathlib.Decide.{ℕ_discrete}
use Rattle.std.proofs.lemmas.List.{length_push}
use Rattle.std.proofs.lemmas.List.Elements.{All-from_recursion, recursion_from_All, All-push, All-weaker}
use Rattle.colours.specs.declared.chains.Position.{Position}
use Rattle.colours.specs.declared.chains.Reason.{Reason}
use Rattle.engine.specs.declared.links.Link.{Link}
use Rattle.engine.specs.declared.cause.looking.Finding.{Finding}
use Rattle.engine.specs.declared.cause.looking.Finding.TheVariants.{End, Next}
use Rattle.engine.specs.search.Searches.{Graph, place_of, Inside, Leads, before, Seen, unseen, Ranked, Rooted, Led, Waits, Passed, Tried, Done, Known, Searching, Spreading, Found}
use Rattle.engine.proofs.Tables.{place_below, place_same, unseen_mark, unseen_le, before_same, before_other, before_at, seen_stays, apart, raised, raised_same, raised_other}

waits_push : (p : Position) (ls : List Link) (l : Link) → Waits p ls → Waits p (ls ++ l ∷ [])
waits_push p [] l w = absurd w
waits_push p (x ∷ ls) l (inl e) = inl e
waits_push p (x ∷ ls) l (inr w) = inr (waits_push p ls l w)

waits_last : (p : Position) (ls : List Link) (l : Link) → l.at ≡ p → Waits p (ls ++ l ∷ [])
waits_last p [] l e = inl e
waits_last p (x ∷ ls) l e = inr (waits_last p ls l e)

-- one look more was taken
tried_more : (m : Graph) (table : List (Option Position)) (k : ℕ) (p : Position) → Tried m table k p → Passed m.clauses table (m.look p k)
    → Tried m table (k + 1) p
tried_more m table k p before now j h = elim (ℕ_discrete j k) [
  | yes e ↦ subst (λ i. Passed m.clauses table (m.look p i)) (sym e) now
  | no d ↦ before j (omega arith)
]

-- a position that was not seen is put into the table, with the one before it, which was
module _ (m : Graph) (start : Position) (table : List (Option Position)) (n q : Position) (seen_q : Known m table q)
    (low : Inside m.groups m.clauses n) (new : before m.clauses table n ≡ None) where
  abbrev next_table : List (Option Position)
  next_table = set table (place_of m.clauses n) (Some q)

  fresh_rooted : Rooted m.groups m.clauses start table → Rooted m.groups m.clauses start next_table
  fresh_rooted r = (
    rank',
    record {
      wide = subst (λ x. G * C ≤ x) (sym (length-set table (place_of C n) (Some q))) k.wide;
      inside = k.inside;
      root = stays start k.root;
      back = λ p o i e d. back' p o i e d (ℕ_discrete (place_of C p) (place_of C n));
      shallow = λ p i s. shallow' p i s (ℕ_discrete (place_of C p) (place_of C n));
    },
  )
    where
      G : ℕ
      G = m.groups

      C : ℕ
      C = m.clauses

      rank : ℕ → ℕ
      rank = r.0

      k : Ranked G C start table rank
      k = r.1

      rank' : ℕ → ℕ
      rank' = raised rank (place_of C n) (suc (rank (place_of C q)))

      bound : place_of C n < length table
      bound = omega (arith, place_below G C n low, k.wide)

      t' : List (Option Position)
      t' = set table (place_of C n) (Some q)

      stays : (p : Position) → Seen C table p → Seen C t' p
      stays = seen_stays C table n q bound

      old : (p : Position) → Seen C table p → rank' (place_of C p) ≡ rank (place_of C p)
      old p s = raised_other rank (place_of C n) (suc (rank (place_of C q))) (place_of C p) (apart C table p n s new)

      fewer : suc (unseen (G * C) t') ≡ unseen (G * C) table
      fewer = unseen_mark (G * C) table (place_of C n) q (place_below G C n low) bound new

      back' : (p o : Position) → Inside G C p → before C t' p ≡ Some o → ¬ (place_of C p ≡ place_of C start)
          → Dec (place_of C p ≡ place_of C n)
          → Inside G C o × Seen C t' o × (rank' (place_of C o) < rank' (place_of C p))
      back' p o i e d (yes f) =
          let g : q ≡ o = cc (before_at C table n q bound p f, e) in
          subst (λ x. Inside G C x × Seen C t' x × (rank' (place_of C x) < rank' (place_of C p))) g (
            seen_q.0,
            stays q seen_q.1,
            omega (arith, old q seen_q.1, raised_same rank (place_of C n) (suc (rank (place_of C q))) (place_of C p) f),
          )
      back' p o i e d (no f) =
          let e' = sym (before_other C table n q bound p f) ∙ e in
          let b = k.back p o i e' d in
          (b.0, stays o b.1, omega (arith, b.2, old o b.1, old p (o, e')))

      shallow' : (p : Position) → Inside G C p → Seen C t' p → Dec (place_of C p ≡ place_of C n)
          → rank' (place_of C p) + unseen (G * C) t' < G * C
      shallow' p i s (yes f) =
          omega (
            arith,
            fewer,
            k.shallow q seen_q.0 seen_q.1,
            raised_same rank (place_of C n) (suc (rank (place_of C q))) (place_of C p) f,
          )
      shallow' p i s (no f) =
          let s' : Seen C table p = (s.0, sym (before_other C table n q bound p f) ∙ s.1) in
          omega (arith, fewer, k.shallow p i s', old p s')

  fresh_led : m.groups * m.clauses ≤ length table → Led m start table → Leads m q n → Led m start next_table
  fresh_led w led way p o i e d = elim (ℕ_discrete (place_of m.clauses p) (place_of m.clauses n)) [
    | yes f ↦
        (let g : q ≡ o = cc (before_at m.clauses table n q bound p f, e) in
        let h : n ≡ p = place_same m.groups m.clauses n p low i (sym f) in
        subst (λ x. Leads m x p) g (subst (λ x. Leads m q x) h way))
    | no f ↦ led p o i (sym (before_other m.clauses table n q bound p f) ∙ e) d
  ]
    where
      bound : place_of m.clauses n < length table
      bound = omega (arith, place_below m.groups m.clauses n low, w)

-- what a look showed stays seen
passed_stays : (C : ℕ) (table : List (Option Position)) (n q : Position) → place_of C n < length table → (f : Option Finding) → Passed C table f
    → Passed C (set table (place_of C n) (Some q)) f
passed_stays C table n q low (Some (End reason)) h = h
passed_stays C table n q low (Some (Next p)) h = seen_stays C table n q low p h
passed_stays C table n q low None h = h

-- the look numbered k from a position shows one that was not seen
pub spread_fresh : (m : Graph) (start from : Position) (k : ℕ) (table : List (Option Position)) (waiting : List Link) (n : Position)
    → Spreading m start from k table waiting → k < m.looks from → m.look from k ≡ Some (Next n) → Inside m.groups m.clauses n
    → before m.clauses table n ≡ None
    → Spreading m start from (k + 1) (set table (place_of m.clauses n) (Some from)) (waiting ++ record { at = n; from = from } ∷ [])
spread_fresh m start from k table waiting n s b way low new =
    record {
      rooted = fresh_rooted m start table n from s.here low new s.rooted;
      led = fresh_led m start table n from s.here low new s.rooted.1.wide s.led (k, b, way);
      known = recursion_from_All (λ l. Known m t' l.at) (waiting ++ link ∷ []) (All-push (λ l. Known m t' l.at) waiting link
          (All-weaker (λ l. Known m table l.at) (λ l. Known m t' l.at) (λ l h. (h.0, stays l.at h.1)) waiting (All-from_recursion (λ l. Known m table l.at) waiting s.known))
          (low, (from, before_same C table n from bound)));
      here = (s.here.0, stays from s.here.1);
      tried = tried_more m t' k from (λ j h. passed_stays C table n from bound (m.look from j) (s.tried j h))
          (subst (Passed C t') (sym way) (from, before_same C table n from bound));
      closed = λ p z d. closed' p z d (ℕ_discrete (place_of C p) (place_of C n));
      fits = omega (arith, s.fits, fewer, length_push waiting link);
    }
  where
    G : ℕ
    G = m.groups

    C : ℕ
    C = m.clauses

    link : Link
    link = record { at = n; from = from }

    t' : List (Option Position)
    t' = set table (place_of C n) (Some from)

    bound : place_of C n < length table
    bound = omega (arith, place_below G C n low, s.rooted.1.wide)

    stays : (p : Position) → Seen C table p → Seen C t' p
    stays = seen_stays C table n from bound

    fewer : suc (unseen (G * C) t') ≡ unseen (G * C) table
    fewer = unseen_mark (G * C) table (place_of C n) from (place_below G C n low) bound new

    closed' : (p : Position) → Known m t' p → ¬ (place_of C p ≡ place_of C from) → Dec (place_of C p ≡ place_of C n)
        → Waits p (waiting ++ link ∷ []) ⊎ Done m t' p
    closed' p z d (yes f) = inl (waits_last p waiting link (place_same G C n p low z.0 (sym f)))
    closed' p z d (no f) = elim (s.closed p (z.0, (z.1.0, sym (before_other C table n from bound p f) ∙ z.1.1)) d) [
      | inl w ↦ inl (waits_push p waiting link w)
      | inr h ↦ inr (λ j l. passed_stays C table n from bound (m.look p j) (h j l))
    ]

-- it shows nothing, or one that was seen
pub spread_seen : (m : Graph) (start from : Position) (k : ℕ) (table : List (Option Position)) (waiting : List Link)
    → Spreading m start from k table waiting → Passed m.clauses table (m.look from k) → Spreading m start from (k + 1) table waiting
spread_seen m start from k table waiting s h =
    record {
      rooted = s.rooted;
      led = s.led;
      known = s.known;
      here = s.here;
      tried = tried_more m table k from s.tried h;
      closed = s.closed;
      fits = s.fits;
    }

-- all looks were taken
pub spread_done : (m : Graph) (start from : Position) (k : ℕ) (table : List (Option Position)) (waiting : List Link)
    → Spreading m start from k table waiting → m.looks from ≤ k → Searching m start table waiting
spread_done m start from k table waiting s h =
    record {
      rooted = s.rooted;
      led = s.led;
      known = s.known;
      closed = λ p z. elim (ℕ_discrete (place_of m.clauses p) (place_of m.clauses from)) [
        | no d ↦ s.closed p z d
        | yes e ↦ inr (subst (Done m table) (place_same m.groups m.clauses from p s.here.0 z.0 (sym e))
            (λ j l. s.tried j (omega arith)))
      ];
      fits = s.fits;
    }

-- a look shows an end
pub spread_end : (m : Graph) (start from : Position) (k : ℕ) (table : List (Option Position)) (waiting : List Link) (reason : Reason)
    → Spreading m start from k table waiting → k < m.looks from → m.look from k ≡ Some (End reason) → Found m start table from reason
spread_end m start from k table waiting reason s b e = record { rooted = s.rooted; led = s.led; here = s.here; end = (k, b, e) }

-- a position leaves the queue
pub popped : (m : Graph) (start : Position) (table : List (Option Position)) (l : Link) (waiting : List Link)
    → Searching m start table (l ∷ waiting) → Spreading m start l.at 0 table waiting
popped m start table l waiting s =
    record {
      rooted = s.rooted;
      led = s.led;
      known = s.known.1;
      here = s.known.0;
      tried = λ j b. absurd (not-suc-le-zero b);
      closed = λ p z d. elim (s.closed p z) [
        | inl (inl e) ↦ absurd (d (ap (place_of m.clauses) (sym e)))
        | inl (inr w) ↦ inl w
        | inr w ↦ inr w
      ];
      fits = omega (arith, s.fits);
    }

-- a cleared table with the start
pub begun : (m : Graph) (start : Position) (table : List (Option Position)) → m.groups * m.clauses ≤ length table
    → Inside m.groups m.clauses start
    → ((p : Position) → Inside m.groups m.clauses p → before m.clauses table p ≡ None)
    → Searching m start (set table (place_of m.clauses start) (Some start)) (record { at = start; from = start } ∷ [])
begun m start table w low clear =
    record {
      rooted = (
        λ i. 0,
        record {
          wide = subst (λ x. G * C ≤ x) (sym (length-set table (place_of C start) (Some start))) w;
          inside = low;
          root = (start, before_same C table start start bound);
          back = λ p q i e d. absurd (none_else p q i e d);
          shallow = λ p i s. omega (arith, fewer, unseen_le (G * C) table);
        },
      );
      led = λ p q i e d. absurd (none_else p q i e d);
      known = ((low, (start, before_same C table start start bound)), tt);
      closed = λ p z. elim (ℕ_discrete (place_of C p) (place_of C start)) [
        | yes e ↦ inl (inl (place_same G C start p low z.0 (sym e)))
        | no d ↦ absurd (none_else p z.1.0 z.0 z.1.1 d)
      ];
      fits = omega (arith, fewer, unseen_le (G * C) table);
    }
  where
    G : ℕ
    G = m.groups

    C : ℕ
    C = m.clauses

    t' : List (Option Position)
    t' = set table (place_of C start) (Some start)

    bound : place_of C start < length table
    bound = omega (arith, place_below G C start low, w)

    fewer : suc (unseen (G * C) t') ≡ unseen (G * C) table
    fewer = unseen_mark (G * C) table (place_of C start) start (place_below G C start low) bound (clear start low)

    none_else : (p q : Position) → Inside G C p → before C t' p ≡ Some q → ¬ (place_of C p ≡ place_of C start) → ⊥
    none_else p q i e d = cc (clear p i, before_other C table start start bound p d, e)
