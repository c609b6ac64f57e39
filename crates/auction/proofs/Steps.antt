-- The position after a mark, a double or a redouble, a bid, and what is no call; the test of a double or a redouble; verdicts; the place of a refusal.
-- Assumes nothing.
use Rattle.std.specs.Prelude.{if◌then◌else◌}
use Prim.Native.Nat.{ℕ, ◌+◌, ◌-◌, ◌%◌, ◌≤◌, ◌<◌}
use mathlib.Core.Path.{◌≡◌, refl, sym, ◌∙◌}
use mathlib.Core.Bool.{Bool, true, false, not, ◌&&◌}
use native.Mathlib.Omega.{arith}
use borrow.Author.Tests.{le-ltb, lt-leb, le-leb, eq-eqb, ne_eqb, eqb-true, eqb-false}
use lib.Dec.{eqb, ltb, leb}
use Rattle.laws.specs.Cards.{clockwise, same_side}
use Rattle.laws.specs.Refusals.{wrong_mark}
use Rattle.laws.specs.CallRefusal.{place_of}
use Rattle.laws.proofs.Tests.{by_test}
use Rattle.auction.specs.declared.Auction.{Auction}
use Rattle.std.specs.Prelude.{Err}
use Rattle.laws.specs.declared.Refusal.TheVariants.{InadmissibleDouble, InsufficientBid, WrongMark}
use Rattle.auction.specs.Position.{first_place, entered, stands, passes_to_end, after_call}
use Rattle.auction.specs.Asked.{over_of, may_double_of, may_redouble_of, allow, marked_verdict, verdict_of}

and_no : (b : Bool) → (b && false) ≡ false
and_no true = refl
and_no false = refl

-- the position after a mark
pub marked : (a : Auction) (c : ℕ) → c ≡ 38
    → record { turn = a.turn; last = a.last; bidder = a.bidder; doubling = a.doubling; left = a.left; first = a.first; marked = true } ≡ after_call a c
unfolding after_call
marked a c e = rw e

module _ (a : Auction) (c : ℕ) where
  -- a double or a redouble, with the doubling after it
  pub doubled : 1 ≤ c → c ≤ 2 → {t : ℕ} → t ≡ clockwise a.turn 1 → {n : ℕ} → n ≡ passes_to_end a.last
      → {m : ℕ} → m ≡ (if eqb c 2 then 2 else if eqb a.doubling 4 then 5 else 1)
      → record { turn = t; last = a.last; bidder = a.bidder; doubling = m; left = n; first = a.first; marked = false } ≡ after_call a c
  unfolding after_call stands
  doubled l h e f g =
      by_test (eqb c 1)
      (λ (q : eqb c 1 ≡ true). rw (g, eqb-true c 1 q, e, f))
      (λ (q : eqb c 1 ≡ false). let two : c ≡ 2 = omega (arith, eqb-false c 1 q) in rw (g, two, e, f))

  -- what is no call
  pub no_call_lem : 38 < c → {t : ℕ} → t ≡ clockwise a.turn 1 → {n : ℕ} → n ≡ passes_to_end a.last
      → record { turn = t; last = a.last; bidder = a.bidder; doubling = a.doubling % 4; left = n; first = a.first; marked = false } ≡ after_call a c
  unfolding after_call
  no_call_lem h e f =
      simp (
        e,
        f,
        le-leb 3 c (omega arith),
        lt-leb c 37 (omega arith),
        ne_eqb c 0 (λ q. omega arith),
        ne_eqb c 1 (λ q. omega arith),
        ne_eqb c 2 (λ q. omega arith),
        ne_eqb c 38 (λ q. omega arith),
      )

  -- a bid, with the first bidders after it
  pub bid : 3 ≤ c → c ≤ 37 → {t : ℕ} → t ≡ clockwise a.turn 1 → {first : ℕ} → first ≡ entered a.first (first_place a.turn c) a.turn
      → record { turn = t; last = c; bidder = a.turn; doubling = 4; left = 3; first = first; marked = false } ≡ after_call a c
  unfolding after_call
  bid l h e f =
      simp (e, f, le-leb 3 c l, le-leb c 37 h, ne_eqb c 0 (λ q. omega arith), ne_eqb c 38 (λ q. omega arith))

-- two seats are of one side where the sum of their sides is even
sum_even : (b t : ℕ) → eqb ((b % 2 + t % 2) % 2) 0 ≡ same_side b t
sum_even b t =
    by_test (same_side b t)
    (λ (q : same_side b t ≡ true). eq-eqb ((b % 2 + t % 2) % 2) 0 (omega (arith, eqb-true (b % 2) (t % 2) q)) ∙ sym q)
    (λ (q : same_side b t ≡ false). ne_eqb ((b % 2 + t % 2) % 2) 0 (λ e. omega (arith, eqb-false (b % 2) (t % 2) q)) ∙ sym q)

sum_odd : (b t : ℕ) → eqb ((b % 2 + t % 2) % 2) 1 ≡ not (same_side b t)
sum_odd b t =
    by_test (same_side b t)
    (λ (q : same_side b t ≡ true). rw q (ne_eqb ((b % 2 + t % 2) % 2) 1 (λ e. omega (arith, eqb-true (b % 2) (t % 2) q))))
    (λ (q : same_side b t ≡ false). rw q (eq-eqb ((b % 2 + t % 2) % 2) 1 (omega (arith, eqb-false (b % 2) (t % 2) q))))

-- a double or a redouble by the seat at turn
module _ (a : Auction) (c : ℕ) (least : 1 ≤ c) (most : c ≤ 2) where
  -- of a bid that stands with the doubling before it
  pub may_stand : a.doubling ≡ 3 + c
      → eqb ((a.bidder % 2 + a.turn % 2) % 2) (c % 2) ≡ (if eqb c 1 then may_double_of a else may_redouble_of a)
  unfolding may_double_of may_redouble_of stands
  may_stand e =
      by_test (eqb c 1)
      (λ (q : eqb c 1 ≡ true). let one = eqb-true c 1 q in rw (e, one) (sum_odd a.bidder a.turn))
      (λ (q : eqb c 1 ≡ false). let two : c ≡ 2 = omega (arith, eqb-false c 1 q) in rw (e, two) (sum_even a.bidder a.turn))

  -- of no such bid
  pub may_not : (a.doubling ≡ 3 + c → ⊥) → false ≡ (if eqb c 1 then may_double_of a else may_redouble_of a)
  unfolding may_double_of may_redouble_of stands
  may_not n =
      by_test (eqb c 1)
      (λ (q : eqb c 1 ≡ true). let one = eqb-true c 1 q in rw one (simp (ne_eqb a.doubling 4 (λ e. n (omega arith)))))
      (λ (q : eqb c 1 ≡ false). let two : c ≡ 2 = omega (arith, eqb-false c 1 q) in rw two (simp (ne_eqb a.doubling 5 (λ e. n (omega arith)))))

  -- the verdict on it
  pub may_verdict : over_of a ≡ false → a.marked ≡ false → {b : Bool} → b ≡ (if eqb c 1 then may_double_of a else may_redouble_of a)
      → (if b then allow else Err InadmissibleDouble) ≡ verdict_of a c
  unfolding verdict_of
  may_verdict o m {b} e =
      by_test (eqb c 1)
      (λ (q : eqb c 1 ≡ true). let one = eqb-true c 1 q in rw (e, one, o, m))
      (λ (q : eqb c 1 ≡ false). let two : c ≡ 2 = omega (arith, eqb-false c 1 q) in rw (e, two, o, m))

-- the verdict on a bid or a mark
pub bid_verdict : (a : Auction) (c : ℕ) → 3 ≤ c → c ≤ 38 → over_of a ≡ false → a.marked ≡ false → {b : Bool} → ltb a.last c ≡ b
    → (if b then allow else Err InsufficientBid) ≡ verdict_of a c
unfolding verdict_of
bid_verdict a c l h o m e =
    simp (e, o, m, le-ltb 38 c h, ne_eqb c 0 (λ q. omega arith), ne_eqb c 1 (λ q. omega arith), ne_eqb c 2 (λ q. omega arith))

-- the verdict on a code after a mark: no bid, one above the last, and one that is not
module _ (a : Auction) (c : ℕ) where
  pub mark_on_call : c < 3 → Err WrongMark ≡ marked_verdict a c
  unfolding marked_verdict
  mark_on_call l = simp (lt-leb 3 c l)

  pub mark_on_above : a.last < c → Err WrongMark ≡ marked_verdict a c
  unfolding marked_verdict
  mark_on_above l = simp (lt-leb c a.last l, and_no (leb 3 c))

  pub mark_on_bid : 3 ≤ c → c ≤ a.last → allow ≡ marked_verdict a c
  unfolding marked_verdict
  mark_on_bid l h = simp (le-leb 3 c l, le-leb c a.last h)

-- the place of a refusal: a wrong mark's is the code before, and where there is none 0; any other's is its own
module _ (n codes : ℕ) where
  pub own_place : (n ≡ wrong_mark → ⊥) → codes ≡ place_of n codes
  unfolding place_of
  own_place other = rw (ne_eqb n wrong_mark other)

  pub mark-place : n ≡ wrong_mark → codes - 1 ≡ place_of n codes
  unfolding place_of
  mark-place e = rw (eq-eqb n wrong_mark e)
