-- The test of a state, by its parts. Assumes nothing.
use Prim.Native.Nat.{ℕ, ◌≤◌, ◌<◌, ◌*◌, ◌^◌}
use native.Mathlib.Omega.{arith}
use mathlib.Core.Path.{◌≡◌, refl}
use mathlib.Core.Bool.{Bool, true, false, not, ◌&&◌}
use borrow.Author.Tests.{eq-eqb, eqb-true, lt-leb, le-leb, leb-true, not-true}
use lib.Dec.{leb, eqb}
use lib.IntN.{ℤ, nat_abs, ◌+ℤ◌}
use lib.ListN.{length, get_or}
use Rattle.laws.specs.Fitting.{fits}
use Rattle.laws.proofs.Tests.{and_left, and_right}
use Rattle.laws.proofs.Integers.{size_sum}
use Rattle.std.specs.Prelude.{Option, Some, None}
use Rattle.std.specs.Option.{IsSome}
use Rattle.score.specs.declared.Imps.{Imps}
use Rattle.score.specs.Units.{imp_sum, imps_added}
use Rattle.score.proofs.Sums.{few_fit}
use Rattle.team_match.specs.declared.TeamMatch.{TeamMatch}
use Rattle.team_match.specs.Matches.{boards_in, is_match}

-- four tests that hold together
four : (a b c d : Bool) → (a && (b && (c && d))) ≡ true → (a ≡ true) × (b ≡ true) × (c ≡ true) × (d ≡ true)
four a b c d e =
    let f = and_right a (b && (c && d)) e in
    let g = and_right b (c && d) f in
    (and_left a (b && (c && d)) e, and_left b (c && d) f, and_left c d g, and_right c d g)

module _ (m : TeamMatch) where
  -- a state, taken apart
  pub record Parts : Type 0 where
    pub places : length m.used ≡ 128
    pub no_zero : get_or m.used 0 false ≡ false
    pub room : length (boards_in m) ≤ 32
    pub small : nat_abs m.total.0 ≤ 24 * length (boards_in m)

  pub parts : is_match m ≡ true → Parts
  unfolding is_match
  parts e =
      let n = length (boards_in m) in
      let r = four (eqb (length m.used) 128) (not (get_or m.used 0 false)) (leb n 32) (leb (nat_abs m.total.0) (24 * n)) e in
      record { places = eqb-true _ _ r.0; no_zero = not-true _ r.1; room = leb-true _ _ r.2; small = leb-true _ _ r.3 }

  pub whole : Parts → is_match m ≡ true
  unfolding is_match
  whole p = rw (eq-eqb _ _ p.places, p.no_zero, le-leb _ _ p.room, le-leb _ _ p.small)

  -- ---- the ways out of the test
  module _ (places : length m.used ≡ 128) where
    pub zero-used : get_or m.used 0 false ≡ true → false ≡ is_match m
    unfolding is_match
    zero-used e = rw (eq-eqb _ _ places, e)

    pub too_many : (n : ℕ) → n ≡ length (boards_in m) → get_or m.used 0 false ≡ false → 32 < n → false ≡ is_match m
    unfolding is_match
    too_many n q e h = rw (eq-eqb _ _ places, e, ← q, lt-leb _ _ h)

    pub by_size : (n size : ℕ) → n ≡ length (boards_in m) → size ≡ nat_abs m.total.0 → get_or m.used 0 false ≡ false → n ≤ 32
        → leb size (24 * n) ≡ is_match m
    unfolding is_match
    by_size n size q s e h = rw (eq-eqb _ _ places, e, ← q, ← s, le-leb _ _ h)

  -- a total and a board's IMPs are few
  pub few : (gained : ℤ) → is_match m ≡ true → nat_abs gained ≤ 24 → nat_abs (m.total.0 +ℤ gained) < 2 ^ 31
  few gained e h =
      let p = parts e in
      omega (arith, size_sum m.total.0 gained, p.small, p.room)

  pub sum_fits : (gained : ℤ) → is_match m ≡ true → nat_abs gained ≤ 24 → imps_added m.total.0 gained ≡ fits (m.total.0 +ℤ gained)
  unfolding imps_added
  sum_fits gained e h = rw (few_fit (m.total.0 +ℤ gained) (few gained e h))

-- a sum that fits is answered
pub summed : (i : Imps) (y : ℤ) → imp_sum (Some i) ≡ fits y → i.0 ≡ y
summed i y e = cc

pub has_sum : (r : Option Imps) (z : ℤ) → imp_sum r ≡ fits z → IsSome r
has_sum (Some i) z e = refl
has_sum None z e = absurd (let k : ◌≡◌ {A = ℕ} 0 1 = cc in omega arith)
