-- How large the parts of a contract are, on any history: level 1 to 7, strain below 5, doubling at most 2, and, where there is a bid,
-- a declarer of the last bidder's side. Assumes nothing.
use Prim.Native.Nat.{ℕ, ◌≤◌, ◌<◌}
use native.Mathlib.Omega.{arith}
use mathlib.Core.Path.{◌≡◌, refl}
use mathlib.Core.Bool.{true, false, ◌&&◌}
use mathlib.Core.List.{List, [], ◌∷◌}
use borrow.Author.Tests.{eqb-true, eqb-false, eq-eqb, ne_eqb, leb-true}
use lib.Dec.{eqb, leb}
use Rattle.laws.specs.Cards.{no_seat, clockwise, side_of}
use Rattle.laws.specs.Auction.{double, redouble, is_bid, level_of, strain_of, to_call, last_bid, last_bidder, has_bid, doubling}
use Rattle.laws.specs.Auction.{bids_strain, first_to_bid, declarer}
use Rattle.laws.proofs.Tests.{by_test, not_both, and_right}

pub last-bid-le : (h : List ℕ) → last_bid h ≤ 37
unfolding last_bid
last-bid-le [] = omega arith
last-bid-le (c ∷ h) =
    by_test (is_bid c)
    (λ (q : is_bid c ≡ true). rw q (leb-true c 37 (and_right (leb 3 c) (leb c 37) q)))
    (λ (q : is_bid c ≡ false). rw q (last-bid-le h))

pub level_bounds : (h : List ℕ) → (1 ≤ level_of (last_bid h)) × (level_of (last_bid h) ≤ 7)
unfolding level_of
level_bounds h = omega (arith, last-bid-le h)

pub strain_lt : (bid : ℕ) → strain_of bid < 5
unfolding strain_of
strain_lt bid = omega arith

pub doubling-le : (h : List ℕ) → doubling h ≤ 2
unfolding doubling
doubling-le [] = omega arith
doubling-le (c ∷ h) =
    by_test (is_bid c)
    (λ (q : is_bid c ≡ true). rw q (omega arith))
    (λ (q : is_bid c ≡ false). by_test (eqb c double)
    (λ (r : eqb c double ≡ true). rw (q, r) (omega arith))
    (λ (r : eqb c double ≡ false). by_test (eqb c redouble)
    (λ (s : eqb c redouble ≡ true). rw (q, r, s) (omega arith))
    (λ (s : eqb c redouble ≡ false). rw (q, r, s) (doubling-le h))))

-- a player of the side
abbrev pub OfSide : ℕ → ℕ → Type 0
OfSide side seat = (seat < 4) × (side_of seat ≡ side)

module _ (d : ℕ) where
  -- whose turn it is, is a seat
  pub seat_lt : (h : List ℕ) → to_call d h < 4
  unfolding to_call clockwise
  seat_lt h = omega arith

  -- who has bid first is found again after any further call
  first_stays : (side strain c : ℕ) (h : List ℕ) → first_to_bid d side strain h < 4 → first_to_bid d side strain (c ∷ h) ≡ first_to_bid d side strain h
  unfolding first_to_bid
  first_stays side strain c h low = rw (ne_eqb (first_to_bid d side strain h) no_seat (λ e. omega arith))

  -- who bids the strain for the side is of the side
  by_side : (side strain c : ℕ) (h : List ℕ) → bids_strain d side strain h c ≡ true → side_of (to_call d h) ≡ side
  unfolding bids_strain
  by_side side strain c h r =
      eqb-true (side_of (to_call d h)) side
      (and_right (eqb (strain_of c) strain) (eqb (side_of (to_call d h)) side)
      (and_right (is_bid c) (eqb (strain_of c) strain && eqb (side_of (to_call d h)) side) r))

  -- the first player of a side to have bid a strain is nobody, or of the side
  first_side : (side strain : ℕ) (h : List ℕ) → (first_to_bid d side strain h ≡ no_seat → ⊥) → OfSide side (first_to_bid d side strain h)
  unfolding first_to_bid bids_strain
  first_side side strain [] off = absurd (off refl)
  first_side side strain (c ∷ h) off =
      let more = first_side side strain h in
      by_test (eqb (first_to_bid d side strain h) no_seat)
      (λ (q : eqb (first_to_bid d side strain h) no_seat ≡ true). by_test (bids_strain d side strain h c)
      (λ (r : bids_strain d side strain h c ≡ true). rw (q, r) (seat_lt h, by_side side strain c h r))
      (λ (r : bids_strain d side strain h c ≡ false). absurd (off (rw (q, r)))))
      (λ (q : eqb (first_to_bid d side strain h) no_seat ≡ false). rw q (more (eqb-false (first_to_bid d side strain h) no_seat q)))

  -- after a bid somebody of that side has bid its strain
  bid_named : (c : ℕ) (h : List ℕ) → is_bid c ≡ true → first_to_bid d (side_of (to_call d h)) (strain_of c) (c ∷ h) ≡ no_seat → ⊥
  unfolding first_to_bid bids_strain
  bid_named c h b e =
      let side : ℕ = side_of (to_call d h) in
      let before : ℕ = first_to_bid d side (strain_of c) h in
      by_test (eqb before no_seat)
      (λ (q : eqb before no_seat ≡ true).
      let z : to_call d h ≡ no_seat = rw (q, b, eq-eqb (strain_of c) (strain_of c) refl, eq-eqb side side refl) at e in
      omega (arith, seat_lt h))
      (λ (q : eqb before no_seat ≡ false). eqb-false before no_seat q (rw q at e))

  -- where there is a bid, the declarer is a player of the last bidder's side
  pub declarer_side : (h : List ℕ) → has_bid h ≡ true → OfSide (side_of (last_bidder d h)) (declarer d h)
  unfolding has_bid last_bid last_bidder declarer
  declarer_side [] b = not_both false b refl
  declarer_side (c ∷ h) b =
      let more = declarer_side h in
      by_test (is_bid c)
      (λ (q : is_bid c ≡ true). rw q (first_side (side_of (to_call d h)) (strain_of c) (c ∷ h) (bid_named c h q)))
      (λ (q : is_bid c ≡ false). let k = more (rw q at b) in
      rw (q, first_stays (side_of (last_bidder d h)) (strain_of (last_bid h)) c h k.0) k)
