-- The loops of the search, a card at a time. Assumes nothing.
use Rattle.std.specs.Prelude.{if◌then◌else◌}
use Prim.Native.Nat.{ℕ, zero, suc, ◌+◌, ◌-◌, ◌%◌, ◌<◌, ◌≤◌}
use native.Mathlib.Omega.{arith}
use native.Mathlib.Numerals.{add-one}
use mathlib.Core.Path.{◌≡◌, refl, ap, ◌∙◌}
use mathlib.Core.Bool.{Bool, true, false, ◌&&◌}
use borrow.Author.Tests.{lt-ltb, le-ltb}
use lib.Dec.{eqb}
use Rattle.laws.specs.BestPlay.{greatest, smallest}
use Rattle.play.specs.declared.Play.{Play}
use Rattle.laws.proofs.Tests.{by_test}
use Rattle.play.specs.Position.{leads, step}
use Rattle.best_play.specs.Search.{within, may_in, gain_in, ours_in, most_in, least_in, value_in, best_in}
use Rattle.best_play.proofs.Within.{raised, lowered, at_ceiling, at_floor, greatest_52, smallest_52, none_within, all-within, greatest-most, smallest_13}

module _ (side : ℕ) where
  -- what a card is worth, with so many left after it
  abbrev pub worth_in : ℕ → Play → ℕ → ℕ
  worth_in left p c = gain_in side (step p c) + value_in side left (step p c)

  -- what is told of the value by the side at turn, from a floor that is known
  pub our_turn_lem : (left : ℕ) (p : Play) (high : ℕ) {b : Bool} {low floor r : ℕ} → b ≡ ours_in side p → b ≡ true → low ≡ floor
      → r ≡ within low high (most_in side left p) → r ≡ within floor high (value_in side left p)
  our_turn_lem left p high e t l f = f ∙ rw (l, ← e, t)

  pub their_turn : (left : ℕ) (p : Play) (high : ℕ) {b : Bool} {low floor r : ℕ} → b ≡ ours_in side p → b ≡ false → low ≡ floor
      → r ≡ within low high (least_in side left p) → r ≡ within floor high (value_in side left p)
  their_turn left p high e t l f = f ∙ rw (l, ← e, t)

  -- one card, that may be played or not, with the numbers told from a floor to a ceiling
  module _ (left : ℕ) (p : Play) (c best floor ceiling : ℕ) where
    worth-is : {after : Play} {gained : ℕ} → after ≡ step p c → gained ≡ gain_in side after → gained + value_in side left after ≡ worth_in left p c
    worth-is e f = rw (f, e)

    pub more_with : best ≡ within floor ceiling (greatest (may_in p) (worth_in left p) c) → {b : Bool} → b ≡ may_in p c → b ≡ true
        → {after : Play} {gained r : ℕ} → after ≡ step p c → gained ≡ gain_in side after → gained ≤ 1
        → best < ceiling
        → r ≡ within (best - gained) (ceiling - gained) (value_in side left after) → gained + r ≡ within floor ceiling (greatest (may_in p) (worth_in left p) (c + 1))
    unfolding greatest
    more_with i e t s g one high m = rw (add-one c, ← e, t, ← worth-is s g) (raised floor ceiling best _ _ _ _ i m one high)

    pub more-without : best ≡ within floor ceiling (greatest (may_in p) (worth_in left p) c) → {b : Bool} → b ≡ may_in p c → b ≡ false
        → best ≡ within floor ceiling (greatest (may_in p) (worth_in left p) (c + 1))
    unfolding greatest
    more-without i e t = rw (add-one c, ← e, t) i

    pub less_with : best ≡ within floor ceiling (smallest (may_in p) (worth_in left p) c) → {b : Bool} → b ≡ may_in p c → b ≡ true
        → {after : Play} {gained r : ℕ} → after ≡ step p c → gained ≡ gain_in side after → gained ≤ 1
        → floor < best → best ≤ ceiling
        → r ≡ within (floor - gained) (best - gained) (value_in side left after) → gained + r ≡ within floor ceiling (smallest (may_in p) (worth_in left p) (c + 1))
    unfolding smallest
    less_with i e t s g one low high m =
        rw (add-one c, ← e, t, ← worth-is s g) (lowered floor ceiling best _ _ _ _ i m one low high)

    pub less_without : best ≡ within floor ceiling (smallest (may_in p) (worth_in left p) c) → {b : Bool} → b ≡ may_in p c → b ≡ false
        → best ≡ within floor ceiling (smallest (may_in p) (worth_in left p) (c + 1))
    unfolding smallest
    less_without i e t = rw (add-one c, ← e, t) i

-- before the first card
pub most_starts : (test : ℕ → Bool) (value : ℕ → ℕ) (floor ceiling : ℕ) → floor ≤ ceiling → floor ≡ within floor ceiling (greatest test value 0)
unfolding greatest
most_starts test value floor ceiling low = none_within floor ceiling low

pub least_starts : (test : ℕ → Bool) (value : ℕ → ℕ) (floor ceiling : ℕ) → within floor ceiling 13 ≡ within floor ceiling (smallest test value 0)
unfolding smallest
least_starts test value floor ceiling = refl

module _ (side : ℕ) where
  -- with no card left, and with all cards tried
  pub most-none : (left : ℕ) (p : Play) (floor ceiling : ℕ) → left ≡ 0 → floor ≤ ceiling → floor ≡ within floor ceiling (most_in side left p)
  unfolding most_in
  most-none left p floor ceiling z low = rw z (none_within floor ceiling low)

  pub least-none : (left : ℕ) (p : Play) (floor ceiling : ℕ) → left ≡ 0 → floor ≤ ceiling → floor ≡ within floor ceiling (least_in side left p)
  unfolding least_in
  least-none left p floor ceiling z low = rw z (none_within floor ceiling low)

  pub most-all : (left : ℕ) (p : Play) → (left ≡ 0 → ⊥) → greatest (may_in p) (worth_in side (left - 1) p) 52 ≡ most_in side left p
  unfolding most_in
  most-all zero p h = absurd (h refl)
  most-all (suc n) p h = let e : suc n - 1 ≡ n = omega arith in ap (λ (x : ℕ). greatest (may_in p) (worth_in side x p) 52) e

  pub least-all : (left : ℕ) (p : Play) → (left ≡ 0 → ⊥) → smallest (may_in p) (worth_in side (left - 1) p) 52 ≡ least_in side left p
  unfolding least_in
  least-all zero p h = absurd (h refl)
  least-all (suc n) p h = let e : suc n - 1 ≡ n = omega arith in ap (λ (x : ℕ). smallest (may_in p) (worth_in side x p) 52) e

  -- with the ceiling or the floor reached
  pub most_stops : (left : ℕ) (p : Play) (floor ceiling best c : ℕ) → (left ≡ 0 → ⊥) → c ≤ 52 → floor ≤ ceiling
      → best ≡ within floor ceiling (greatest (may_in p) (worth_in side (left - 1) p) c) → best ≡ ceiling → best ≡ within floor ceiling (most_in side left p)
  most_stops left p floor ceiling best c h few low i e =
      rw (← most-all left p h) (at_ceiling floor ceiling best _ _ i e low (greatest_52 (may_in p) (worth_in side (left - 1) p) c few))

  pub least_stops : (left : ℕ) (p : Play) (floor ceiling best c : ℕ) → (left ≡ 0 → ⊥) → c ≤ 52 → floor ≤ ceiling
      → best ≡ within floor ceiling (smallest (may_in p) (worth_in side (left - 1) p) c) → best ≡ floor → best ≡ within floor ceiling (least_in side left p)
  least_stops left p floor ceiling best c h few low i e =
      rw (← least-all left p h) (at_floor floor ceiling best _ _ i e low (smallest_52 (may_in p) (worth_in side (left - 1) p) c few))

  -- neither is more than thirteen and the cards left
  gain_1 : (after : Play) → gain_in side after ≤ 1
  unfolding gain_in
  gain_1 after = one (leads after && eqb (after.leader % 2) side)
    where
      one : (b : Bool) → (if b then 1 else 0) ≤ 1
      one true = omega arith
      one false = omega arith

  value-most : (left m : ℕ) (q : Play) → most_in side left q ≤ m → least_in side left q ≤ m → value_in side left q ≤ m
  value-most left m q a b =
      by_test (ours_in side q)
      (λ (o : ours_in side q ≡ true). rw o a)
      (λ (o : ours_in side q ≡ false). rw o b)

  pub at_most : (left : ℕ) (p : Play) → (most_in side left p ≤ 13 + left) × (least_in side left p ≤ 13 + left)
  unfolding most_in least_in
  at_most zero p = (omega arith, omega arith)
  at_most (suc left) p = (
    greatest-most (may_in p) (worth_in side left p) (13 + suc left)
        (λ c. omega (arith, gain_1 (step p c), value-most left (13 + left) (step p c) (at_most left (step p c)).0 (at_most left (step p c)).1)) 52,
    omega (arith, smallest_13 (may_in p) (worth_in side left p) 52),
  )

-- the tricks that the side takes: none after all cards, else by whose turn it is; told from 0 to 65
module _ (side : ℕ) (p : Play) where
  pub best_past : 52 < p.played → 0 ≡ best_in side p
  unfolding best_in
  best_past h = rw (lt-ltb 52 p.played h)

  pub best-value : p.played ≤ 52 → {v : ℕ} → v ≡ within 0 65 (value_in side (52 - p.played) p) → v ≡ best_in side p
  unfolding best_in
  best-value h f = f ∙ all-within 65 _ value-most ∙ rw (le-ltb 52 p.played h) refl
    where
      value-most : value_in side (52 - p.played) p ≤ 65
      value-most =
          let most = at_most side (52 - p.played) p in
          by_test (ours_in side p)
          (λ (q : ours_in side p ≡ true). rw q (omega (arith, most.0)))
          (λ (q : ours_in side p ≡ false). rw q (omega (arith, most.1)))
