-- U is the least and V the greatest solution in truth order.
use Rattle.std.proofs.Common.{◌≡◌, ℕ, ◌+◌, ◌<◌, sym, ap, ◌∙◌, subst, arith}
use Rattle.systems.specs.declared.kinds.Colour.{Colour}
use Rattle.systems.specs.Model.{Model}
use Rattle.rules.specs.declared.syntax.Quantifier.TheVariants.{A, E}
use Rattle.rules.specs.Formulas.{Formula}
use Rattle.colours.specs.Values.{truth, AtMost, negate, until_value, release_value, colour_at, board_of, colour_of}
use Rattle.colours.specs.Levels.{Level, IsUntil, IsRelease}
use Rattle.colours.specs.Theorems.{Least, Greatest, UntilIsLeast, ReleaseIsGreatest}
use Rattle.colours.proofs.Levels.{by_levels, at_level, same_truth, negate_negate}
use Rattle.colours.proofs.Boards.{Within, until_raise, until_rest, until_grows, release_lower, release_rest, release_grows, negate_until, negate_release}
use Rattle.colours.proofs.Computed.{rising, falling, rising_is, falling_is, rising_A_is, falling_A_is}

truth_negate : (a : Colour) → truth (negate a) + truth a ≡ 2
truth_negate a = grind arith

turn : (a b : Colour) → AtMost a b → AtMost (negate b) (negate a)
turn a b h = omega (arith, truth_negate a, truth_negate b)

unturn : (a b : Colour) → AtMost (negate a) (negate b) → AtMost b a
unturn a b h = omega (arith, truth_negate a, truth_negate b)

module _ (M : Model) where
  module _ (r q z : ℕ → Colour) where
    pub until_least : IsUntil M r q z → Least M (until_value M E r q) z
    until_least is = (
      λ s b. same_truth (z s) (until_value M E r q z s)
          (by_levels (z s) (until_value M E r q z s) (λ l. up l s b)) (by_levels (until_value M E r q z s) (z s) (λ l. down l s b)),
      λ x higher s b. by_levels (z s) (x s) (λ l h.
          until_rest M l r q x (λ t c. at_level l (until_value M E r q x t) (x t) (higher t c)) s b ((is l s b).0 h)),
    )
      where
        down : (l : Level) → Within M l (until_value M E r q z) z
        down l s b h = (is l s b).1 (until_raise M l r q z (λ t c. (is l t c).0) s b h)

        up : (l : Level) → Within M l z (until_value M E r q z)
        up l s b h = until_rest M l r q (until_value M E r q z) (until_grows M l r q (until_value M E r q z) z (down l)) s b ((is l s b).0 h)

    pub release_greatest : IsRelease M r q z → Greatest M (release_value M E r q) z
    release_greatest is = (
      λ s b. same_truth (z s) (release_value M E r q z s)
          (by_levels (z s) (release_value M E r q z s) (λ l. up l s b)) (by_levels (release_value M E r q z s) (z s) (λ l. down l s b)),
      λ x lower s b. by_levels (x s) (z s) (λ l h.
          (is l s b).1 (release_rest M l r q x (λ t c. at_level l (x t) (release_value M E r q x t) (lower t c)) s b h)),
    )
      where
        up : (l : Level) → Within M l z (release_value M E r q z)
        up l s b h = release_lower M l r q z (λ t c. (is l t c).1) s b ((is l s b).0 h)

        down : (l : Level) → Within M l (release_value M E r q z) z
        down l s b h = (is l s b).1
            (release_rest M l r q (release_value M E r q z) (release_grows M l r q z (release_value M E r q z) (up l)) s b h)

  -- with T and F exchanged
  module _ (value value' : (ℕ → Colour) → ℕ → Colour) (dual : (x : ℕ → Colour) (s : ℕ) → negate (value x s) ≡ value' (λ t. negate (x t)) s)
      (z : ℕ → Colour) where
    own : ((s : ℕ) → s < M.states → negate (z s) ≡ value' (λ t. negate (z t)) s) → (s : ℕ) → s < M.states → z s ≡ value z s
    own h s b = sym (negate_negate (z s)) ∙ ap negate (h s b ∙ sym (dual z s)) ∙ negate_negate (value z s)

    least_by_greatest : Greatest M value' (λ t. negate (z t)) → Least M value z
    least_by_greatest g = (
      own g.0,
      λ x higher s b. unturn (x s) (z s)
          (g.1 (λ t. negate (x t)) (λ t c. subst (AtMost (negate (x t))) (dual x t) (turn (value x t) (x t) (higher t c))) s b),
    )

    greatest_by_least : Least M value' (λ t. negate (z t)) → Greatest M value z
    greatest_by_least g = (
      own g.0,
      λ x lower s b. unturn (z s) (x s)
          (g.1 (λ t. negate (x t)) (λ t c. subst (λ v. AtMost v (negate (x t))) (dual x t) (turn (x t) (value x t) (lower t c))) s b),
    )

-- the colours of a rule with T and F exchanged
abbrev turned : Model → Formula → ℕ → Colour
turned M f s = negate (colour_of M f s)

pub until_is_least : UntilIsLeast
unfolding board_of rising
until_is_least M E r q =
    until_least M (colour_of M r) (colour_of M q) (colour_at (rising M (colour_of M r) (colour_of M q) E))
    (rising_is M (colour_of M r) (colour_of M q))
until_is_least M A r q =
    least_by_greatest M (until_value M A (colour_of M r) (colour_of M q))
    (release_value M E (turned M r) (turned M q))
    (λ x s. negate_until M x s (colour_of M r) (colour_of M q)) (colour_at (rising M (colour_of M r) (colour_of M q) A))
    (release_greatest M (turned M r) (turned M q)
    (λ s. negate (colour_at (rising M (colour_of M r) (colour_of M q) A) s))
    (rising_A_is M (colour_of M r) (colour_of M q)))

pub release_is_greatest : ReleaseIsGreatest
unfolding board_of falling
release_is_greatest M E r q =
    release_greatest M (colour_of M r) (colour_of M q) (colour_at (falling M (colour_of M r) (colour_of M q) E))
    (falling_is M (colour_of M r) (colour_of M q))
release_is_greatest M A r q =
    greatest_by_least M (release_value M A (colour_of M r) (colour_of M q))
    (until_value M E (turned M r) (turned M q))
    (λ x s. negate_release M x s (colour_of M r) (colour_of M q)) (colour_at (falling M (colour_of M r) (colour_of M q) A))
    (until_least M (turned M r) (turned M q)
    (λ s. negate (colour_at (falling M (colour_of M r) (colour_of M q) A) s))
    (falling_A_is M (colour_of M r) (colour_of M q)))
