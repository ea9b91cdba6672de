-- The lowest start group that the board shows undecided is the one where a cause begins.
use Rattle.std.proofs.Common.{◌≡◌, ℕ, ◌-◌, ◌<◌, ◌≤◌, true, ◌&&◌, eqb, List, length, slice_index, Some, None, Option, sym, refl, ap, ◌∙◌, subst, arith}
use Rattle.std.proofs.lemmas.Bool.{false≢true, and_parts}
use Rattle.systems.specs.declared.kinds.Colour.TheVariants.{Undecided}
use Rattle.systems.specs.Model.{Model, Starts}
use Rattle.rules.specs.declared.syntax.Clause.{Clause}
use Rattle.rules.specs.Clauses.{whole}
use Rattle.colours.specs.declared.chains.Position.{Position}
use Rattle.colours.specs.declared.chains.Reason.{Reason}
use Rattle.colours.specs.Boards.{Coloured, place}
use Rattle.colours.specs.Colours.{colouring, HasColour}
use Rattle.colours.specs.Chains.{Open}
use Rattle.queue.specs.declared.ring.Ring.{Ring}
use Rattle.queue.specs.Held.{room}
use Rattle.engine.specs.declared.links.Link.{Link}
use Rattle.engine.specs.Causes.{open_start, WorkspacesFit, CauseTold, Sought}
use Rattle.engine.specs.search.Looks.{shown_at, is_shown}
use Rattle.engine.specs.search.Starts.{LowestShown, ChainTold, ChainFound}
use Rattle.engine.proofs.Meaning.{colour_shown, shown_colour}
use Rattle.engine.proofs.Looks.{shown_same, same_shown, undecided_byte}

module _ (M : Model) (cs : List Clause) (board : List ℕ) (some : 1 ≤ length cs) (coloured : Coloured M cs board) where
  abbrev rule_at : ℕ → Position
  rule_at g = record { group = g; clause = length cs - 1 }

  byte_shown : (g : ℕ) → is_shown Undecided (shown_at (length cs) board g (length cs - 1)) ≡ eqb (slice_index board (place (length cs) g (length cs - 1))) 0
  byte_shown g = undecided_byte (slice_index board (place (length cs) g (length cs - 1)))

  shown_open : (g : ℕ) → g < M.states → open_start M (length cs) board g ≡ true → Starts M g × Open M cs (rule_at g)
  shown_open g low e =
      let t = and_parts (M.start g) (eqb (slice_index board (place (length cs) g (length cs - 1))) 0) e in
      let o = shown_same Undecided (shown_at (length cs) board g (length cs - 1)) (byte_shown g ∙ t.1) in
      ((low, t.0), (low, omega arith, shown_colour M cs board coloured g (length cs - 1) low (omega arith) Undecided o))

  -- an undecided start is shown
  pub open_shown : (g : ℕ) → Starts M g → HasColour (colouring M (whole cs)) g Undecided → open_start M (length cs) board g ≡ true
  open_shown g s u =
      ap (λ b. b && eqb (slice_index board (place (length cs) g (length cs - 1))) 0) s.1
      ∙ sym (byte_shown g)
      ∙ same_shown Undecided (shown_at (length cs) board g (length cs - 1))
      (colour_shown M cs board coloured g (length cs - 1) s.0 (omega arith) Undecided u)

  pub cause_made : (p : Position) → LowestShown M (length cs) board (Some p) → (list : List (Option Position)) (answer : Option (Reason × ℕ))
      → ChainFound M cs board p list answer → CauseTold M cs list answer
  cause_made p low list answer found = told answer (found coloured opened)
    where
      same : rule_at p.group ≡ p
      same = ap (λ c. record { group = p.group; clause = c }) (sym low.0)

      start : Starts M p.group × Open M cs (rule_at p.group)
      start = shown_open p.group low.1 low.2

      opened : Open M cs p
      opened = subst (Open M cs) same start.1

      told : (answer : Option (Reason × ℕ)) → ChainTold M cs p list answer → CauseTold M cs list answer
      told None h = h
      told (Some r) h = record {
        first = p;
        rest = h.rest;
        counted = h.counted;
        stands = h.stands;
        cause = record {
          lowest = (start.0, start.1.2, λ k b s u. false≢true (sym (low.3 k b) ∙ open_shown k s u));
          from_rule = omega (arith, low.0);
          chain = h.chain;
        };
      }

-- what is sought, where no start is shown undecided, or one is and a chain was sought from it
module _ (M : Model) (cs : List Clause) (board : List ℕ) (some : 1 ≤ length cs) (links : Ring Link) (chain : List (Option Position)) where
  pub sought_none : LowestShown M (length cs) board None → Sought M cs board links chain links chain None
  sought_none none = record {
    small = λ n. record { none = refl; same_links = refl; same_chain = refl };
    decided = λ n. record { none = refl; same_links = refl; same_chain = refl };
    found = λ f coloured h s u. false≢true (sym (none h s.0) ∙ open_shown M cs board some coloured h s u);
    room_kept = refl;
  }

  pub sought_found : WorkspacesFit M cs (length board) (room links) (length chain) → (start : Position)
      → LowestShown M (length cs) board (Some start) → (links' : Ring Link) (chain' : List (Option Position)) (answer : Option (Reason × ℕ))
      → ChainFound M cs board start chain' answer → room links' ≡ room links
      → (links'' : Ring Link) (chain'' : List (Option Position)) → links'' ≡ links' → chain'' ≡ chain'
      → Sought M cs board links chain links'' chain'' answer
  sought_found fits start low links' chain' answer found kept links'' chain'' e f = record {
    small = λ n. absurd (n fits);
    decided = λ none. absurd (false≢true (sym (none start.group low.1) ∙ low.2));
    found = λ w coloured h s u. cause_made M cs board some coloured start low chain'' answer
        (subst (λ x. ChainFound M cs board start x answer) (sym f) found);
    room_kept = ap room e ∙ kept;
  }
