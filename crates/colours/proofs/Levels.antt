-- Joins and meets at the two levels, and colours told by them.
use Rattle.std.proofs.Common.{◌≡◌, ℕ, zero, suc, ◌<◌, Bool, true, false, ◌||◌, T as So, ◌⊎◌, subst, inl, inr, not-suc-le-zero, arith}
use native.Mathlib.Decide.{ℕ_discrete}
use Rattle.systems.specs.declared.kinds.Colour.{Colour}
use Rattle.systems.specs.declared.kinds.Colour.TheVariants.{F, T}
use Rattle.colours.specs.Values.{AtMost, join, meet, negate, join_below}
use Rattle.colours.specs.Levels.{Level, surely, possibly, counts}

counts_join : (l : Level) (a b : Colour) → counts l (join a b) ≡ counts l a || counts l b
counts_join l a b = grind arith

or_parts : (a b : Bool) → So (a || b) → So a ⊎ So b
or_parts true b h = inl tt
or_parts false b h = inr h

pub F_counts_not : (l : Level) → So (counts l F) → ⊥
F_counts_not l h = grind arith

pub T_counts : (l : Level) → So (counts l T)
T_counts l = grind arith

module _ (l : Level) where
  pub join_parts : (a b : Colour) → So (counts l (join a b)) → So (counts l a) ⊎ So (counts l b)
  join_parts a b h = or_parts (counts l a) (counts l b) (subst So (counts_join l a b) h)

  pub join_left : (a b : Colour) → So (counts l a) → So (counts l (join a b))
  join_left a b h = grind arith

  pub join_right : (a b : Colour) → So (counts l b) → So (counts l (join a b))
  join_right a b h = grind arith

  pub meet_parts : (a b : Colour) → So (counts l (meet a b)) → So (counts l a) × So (counts l b)
  meet_parts a b h = (grind arith, grind arith)

  pub meet_both : (a b : Colour) → So (counts l a) → So (counts l b) → So (counts l (meet a b))
  meet_both a b h k = grind arith

  pub found_below : (n : ℕ) (f : ℕ → Colour) → So (counts l (join_below n f)) → (t : ℕ) × (t < n) × So (counts l (f t))
  unfolding join_below
  found_below zero f h = absurd (F_counts_not l h)
  found_below (suc n) f h = elim (join_parts (join_below n f) (f n) h)
      [ inl k ↦ let w = found_below n f k in (w.0, omega (arith, w.1), w.2) | inr k ↦ (n, omega arith, k) ]

  pub holds_below : (n : ℕ) (f : ℕ → Colour) (t : ℕ) → t < n → So (counts l (f t)) → So (counts l (join_below n f))
  unfolding join_below
  holds_below zero f t b h = absurd (not-suc-le-zero b)
  holds_below (suc n) f t b h = elim (ℕ_discrete t n) [
    | yes e ↦ join_right (join_below n f) (f n) (subst (λ x. So (counts l (f x))) e h)
    | no k ↦ join_left (join_below n f) (f n) (holds_below n f t (omega arith) h)
  ]

-- what counts at each level where the other does is at most as true as it
pub by_levels : (a b : Colour) → ((l : Level) → So (counts l a) → So (counts l b)) → AtMost a b
by_levels a b h = let sure = h surely in let possible = h possibly in grind arith

pub at_level : (l : Level) (a b : Colour) → AtMost a b → So (counts l a) → So (counts l b)
at_level l a b h k = grind arith

-- two colours that are at most as true as each other are the same
pub same_truth : (a b : Colour) → AtMost a b → AtMost b a → a ≡ b
same_truth a b h k = grind arith

pub negate_join : (a b : Colour) → negate (join a b) ≡ meet (negate a) (negate b)
negate_join a b = grind arith

pub negate_meet : (a b : Colour) → negate (meet a b) ≡ join (negate a) (negate b)
negate_meet a b = grind arith

pub negate_negate : (a : Colour) → negate (negate a) ≡ a
negate_negate a = grind arith
