-- The way back, step by step, and its positions written in order.
use Rattle.std.proofs.Common.{◌≡◌, ℕ, suc, ◌+◌, ◌<◌, List, [], ◌∷◌, ◌++◌, map, reverse, length, take, drop, set, Some, Option, sym, refl, ap, ◌∙◌, inl, inr, add-one, arith, length-set}
use mathlib.Core.List.{reverse-cons}
use Rattle.std.specs.List.{AllByRecursion}
use Rattle.std.proofs.lemmas.List.{append_assoc, length_push, length-reverse, length-map, reverse-append, map_push, drop-set, reverse-reverse}
use Rattle.colours.specs.declared.chains.Position.{Position}
use Rattle.colours.specs.Walks.{Among}
use Rattle.colours.proofs.Lists.{all_weaker}
use Rattle.engine.specs.declared.links.Link.{Link}
use Rattle.engine.specs.search.Searches.{place_of, before}
use Rattle.engine.specs.search.Traces.{Tracing, Traced, Writing, position_in, some_position}
use Rattle.engine.proofs.Tables.{place_same}

-- one link more is taken out of the queue and written
pub writing_more : (all : List Link) (l : Link) (kept : List Link) (list : List (Option Position)) → Writing all (l ∷ kept) list
    → Writing all kept (set list (length kept) (some_position l))
writing_more all l kept list w =
    let one : length (w.done ++ l ∷ []) ≡ length w.done + 1 = length_push w.done l in
    let low : length kept < length list = omega (arith, w.fits) in
    let next : length kept + 1 ≡ length (l ∷ kept) = omega arith in
    record {
      done = w.done ++ l ∷ [];
      split = w.split ∙ sym (append_assoc w.done (l ∷ []) kept);
      fits = omega (arith, w.fits, one, length-set list (length kept) (some_position l));
      written =
          ap (λ n. take n (drop (length kept) (set list (length kept) (some_position l)))) (one ∙ add-one (length w.done))
          ∙ ap (take (suc (length w.done))) (drop-set list (length kept) (some_position l) low)
          ∙ ap (λ n. some_position l ∷ take (length w.done) (drop n list)) next
          ∙ ap (λ x. some_position l ∷ x) w.written
          ∙ sym (ap (map some_position) (reverse-append w.done (l ∷ [])));
    }

-- what has a lower rank than each of a list stands not in it
not_among : (rank : ℕ → ℕ) (C : ℕ) (p : Position) (ps : List Position) → AllByRecursion (λ q. rank (place_of C p) < rank (place_of C q)) ps → ¬ Among p ps
not_among rank C p [] h a = a
not_among rank C p (q ∷ ps) h (inl e) = omega (arith, h.0, ap (λ x. rank (place_of C x)) e)
not_among rank C p (q ∷ ps) h (inr a) = not_among rank C p ps h.1 a

module _ (G C : ℕ) (start end : Position) (table : List (Option Position)) (places : ℕ) where
  module _ (at : Position) (kept : List Link) (t : Tracing G C start end table places at kept) where
    module _ (d : ¬ (at ≡ start)) (from : Position) (e : before C table at ≡ Some from) where
      off_start : ¬ (place_of C at ≡ place_of C start)
      off_start f = d (place_same G C at start t.inside.0 t.ranked.inside f)

      pub tracing_more : (kept' : List Link) → kept' ≡ kept ++ record { at = at; from = from } ∷ []
          → Tracing G C start end table places from kept'
      tracing_more kept' f =
          let b = t.ranked.back at from t.inside.0 e off_start in
          let higher = all_weaker (λ p. t.rank (place_of C at) < t.rank (place_of C p)) (λ p. t.rank (place_of C from) < t.rank (place_of C p))
          (λ p h. omega (arith, h, b.2)) t.rest t.rising in
          record {
            rank = t.rank;
            ranked = t.ranked;
            room = t.room;
            rest = at ∷ t.rest;
            walk = (e, t.walk);
            ends = t.ends;
            seen = b.1;
            inside = (b.0, t.inside);
            rising = (b.2, higher);
            away = (off_start, t.away);
            distinct = (not_among t.rank C from (at ∷ t.rest) (b.2, higher), t.distinct);
            are =
                ap (map position_in) f ∙ map_push position_in kept (record { at = at; from = from }) ∙ ap (λ x. x ++ at ∷ []) t.are
                ∙ sym (reverse-cons at t.rest);
            fits = omega (arith, t.fits, b.2);
          }

  -- the start is reached
  pub tracing_done : (kept : List Link) → Tracing G C start end table places start kept → (kept' : List Link)
      → kept' ≡ kept ++ record { at = start; from = start } ∷ [] → Traced G C start end table kept'
  tracing_done kept t kept' f =
      record {
        rest = t.rest;
        walk = t.walk;
        ends = t.ends;
        inside = t.inside;
        away = t.away;
        distinct = t.distinct;
        are =
            ap (map position_in) f ∙ map_push position_in kept (record { at = start; from = start }) ∙ ap (λ x. x ++ start ∷ []) t.are
            ∙ sym (reverse-cons start t.rest);
        fits = omega (arith, t.fits);
      }

map_some : (kept : List Link) → map some_position kept ≡ map Some (map position_in kept)
map_some [] = refl
map_some (l ∷ ls) = ap (λ x. some_position l ∷ x) (map_some ls)

map_reverse : {X Y : Type 0} (f : X → Y) (xs : List X) → map f (reverse xs) ≡ reverse (map f xs)
map_reverse f [] = refl
map_reverse f (x ∷ xs) =
    ap (map f) (reverse-cons x xs) ∙ map_push f (reverse xs) x ∙ ap (λ l. l ++ f x ∷ []) (map_reverse f xs) ∙ sym (reverse-cons (f x) (map f xs))

module _ (G C : ℕ) (start end : Position) (table : List (Option Position)) (kept : List Link) (t : Traced G C start end table kept) where
  -- what was traced, taken out the last first, is the way from the start
  pub written_back : map some_position (reverse kept) ≡ map Some (start ∷ t.rest)
  written_back =
      map_some (reverse kept) ∙ ap (map Some) (map_reverse position_in kept ∙ ap reverse t.are ∙ reverse-reverse (start ∷ t.rest))

  pub traced_long : length kept ≡ length (start ∷ t.rest)
  traced_long = sym (length-map kept position_in) ∙ ap length t.are ∙ length-reverse (start ∷ t.rest)
