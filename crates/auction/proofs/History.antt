-- What each field of a position says of its history: for every dealer and every history. Assumes nothing.
use Rattle.std.specs.Prelude.{if◌then◌else◌}
use Prim.Native.Nat.{ℕ, ◌-◌, ◌%◌}
use mathlib.Core.Path.{◌≡◌, refl, sym, ap, ap₂, ◌∙◌}
use mathlib.Core.Bool.{Bool, true, false, not}
use mathlib.Core.List.{List, [], ◌∷◌}
use native.Mathlib.Omega.{arith}
use borrow.Author.Tests.{eqb-true, leb-true, leb-false, eq-eqb, ne_eqb}
use lib.Dec.{eqb, leb}
use Rattle.laws.specs.Choice.{how_many}
use Rattle.laws.specs.Cards.{clockwise}
use Rattle.laws.specs.Auction.{pass, double, redouble, mark, is_bid, is_pass_or_mark, calls_made, is_marked}
use Rattle.laws.specs.Auction.{to_call, last_bid, last_bidder, doubling, passes_in_a_row, has_bid, is_over, passed_out}
use Rattle.laws.proofs.Tests.{by_test}
use Rattle.auction.specs.Position.{stands, passes_to_end, before_calls, after_call, position_of}
use Rattle.auction.specs.Asked.{over_of, passed_out_of}

-- a choice by the test's opposite
pub turned : {A : Type 0} (b : Bool) (x y : A) → (if b then x else y) ≡ (if not b then y else x)
turned true x y = refl
turned false x y = refl

-- the opposite of the opposite
twice_not : (b : Bool) → b ≡ not (not b)
twice_not true = refl
twice_not false = refl

-- a double, of a bid that stands or not
once_more : (b : Bool) → (if b then 5 else 1) % 4 ≡ 1
once_more true = refl
once_more false = refl

-- what is no call leaves the doubling, and so do a pass and a mark
kept : (b : Bool) (x : ℕ) → (if b then x else x % 4) % 4 ≡ x % 4
kept true x = refl
kept false x = omega arith

module _ (d : ℕ) where
  -- whose turn it is
  pub turn_is : (h : List ℕ) → (position_of d h).turn ≡ to_call d h
  unfolding position_of before_calls after_call to_call calls_made how_many clockwise
  turn_is [] = omega arith
  turn_is (c ∷ h) =
      by_test (eqb c mark)
      (λ (q : eqb c mark ≡ true). rw q (omega (arith, turn_is h)))
      (λ (q : eqb c mark ≡ false). rw q (omega (arith, turn_is h)))

  -- the latest code is a mark
  pub marked_is : (h : List ℕ) → (position_of d h).marked ≡ is_marked h
  unfolding position_of before_calls after_call is_marked
  marked_is [] = refl
  marked_is (c ∷ h) = refl

  -- the last bid
  pub last-is : (h : List ℕ) → (position_of d h).last ≡ last_bid h
  unfolding position_of before_calls after_call last_bid
  last-is [] = refl
  last-is (c ∷ h) = ap (λ (x : ℕ). if is_bid c then c else x) (last-is h)

  -- who made the last bid
  pub bidder-is : (h : List ℕ) → (position_of d h).bidder ≡ last_bidder d h
  unfolding position_of before_calls after_call last_bidder
  bidder-is [] = refl
  bidder-is (c ∷ h) = ap₂ (λ (x y : ℕ). if is_bid c then x else y) (turn_is h) (bidder-is h)

  -- the doubling of the last bid, whether it stands or not
  pub doubling-is : (h : List ℕ) → (position_of d h).doubling % 4 ≡ doubling h
  unfolding position_of before_calls after_call stands doubling
  doubling-is [] = refl
  doubling-is (c ∷ h) =
      let more = doubling-is h in
      by_test (is_bid c)
      (λ (q : is_bid c ≡ true). simp q)
      (λ (q : is_bid c ≡ false). by_test (eqb c double)
      (λ (r : eqb c double ≡ true). simp (q, r) (once_more (eqb (position_of d h).doubling 4)))
      (λ (r : eqb c double ≡ false). by_test (eqb c redouble)
      (λ (s : eqb c redouble ≡ true). simp (q, r, s))
      (λ (s : eqb c redouble ≡ false). simp (q, r, s) (kept (is_pass_or_mark c) (position_of d h).doubling ∙ more))))

  -- how many passes in a row are left: those that end the auction, less those made
  pub left_is : (h : List ℕ) → (position_of d h).left ≡ passes_to_end (last_bid h) - passes_in_a_row h
  unfolding position_of before_calls after_call passes_to_end last_bid passes_in_a_row
  left_is [] = refl
  left_is (c ∷ h) =
      by_test (eqb c pass)
      (λ (q : eqb c pass ≡ true). rw (eqb-true c pass q) (omega (arith, left_is h)))
      (λ (q : eqb c pass ≡ false). by_test (eqb c mark)
      (λ (m : eqb c mark ≡ true). rw (eqb-true c mark m) (left_is h))
      (λ (m : eqb c mark ≡ false). by_test (is_bid c)
      (λ (r : is_bid c ≡ true). simp (q, m, r))
      (λ (r : is_bid c ≡ false). simp (q, m, r, last-is h) (omega arith))))

  -- nothing is left of n where there were as many
  none_left : (n p : ℕ) → eqb (n - p) 0 ≡ leb n p
  none_left n p =
      by_test (leb n p)
      (λ (q : leb n p ≡ true). eq-eqb (n - p) 0 (omega (arith, leb-true n p q)) ∙ sym q)
      (λ (q : leb n p ≡ false). ne_eqb (n - p) 0 (λ e. omega (arith, leb-false n p q)) ∙ sym q)

  -- Law 22: the auction is over
  pub over-is : (h : List ℕ) → over_of (position_of d h) ≡ is_over h
  unfolding over_of passes_to_end is_over has_bid
  over-is h =
      rw (left_is h) (by_test (eqb (last_bid h) 0)
      (λ (q : eqb (last_bid h) 0 ≡ true). simp q (none_left 4 (passes_in_a_row h)))
      (λ (q : eqb (last_bid h) 0 ≡ false). simp q (none_left 3 (passes_in_a_row h))))

  -- Law 22B: there is no bid
  pub passed_out_is : (h : List ℕ) → passed_out_of (position_of d h) ≡ passed_out h
  unfolding passed_out_of passed_out has_bid
  passed_out_is h = rw (last-is h) (twice_not (eqb (last_bid h) 0))
