-- Law 19 on a position: a double or a redouble is allowed by it exactly when the Law on the history allows it. Assumes nothing.
use Rattle.std.specs.Prelude.{if◌then◌else◌}
use Prim.Native.Nat.{ℕ, ◌+◌, ◌%◌}
use mathlib.Core.Path.{◌≡◌, refl, ap, ◌∙◌}
use mathlib.Core.Bool.{Bool, true, false, not, ◌&&◌}
use mathlib.Core.List.{List, [], ◌∷◌}
use native.Mathlib.Omega.{arith}
use borrow.Author.Tests.{eqb-true, ne_eqb}
use lib.Dec.{eqb}
use Rattle.laws.specs.Cards.{same_side}
use Rattle.laws.specs.Auction.{pass, double, redouble, mark, is_bid, to_call}
use Rattle.laws.specs.Auction.{is_pass_or_mark, before_passes, bid_by_opponents, bid_by_own_side, doubled_own_bid, may_double, may_redouble}
use Rattle.laws.proofs.Tests.{by_test}
use Rattle.auction.specs.Position.{stands, before_calls, after_call, position_of}
use Rattle.auction.specs.Asked.{may_double_of, may_redouble_of}
use Rattle.auction.proofs.History.{turn_is}

-- a conjunction whose first part is false
and-false : {a : Bool} → a ≡ false → (b : Bool) → (a && b) ≡ false
and-false e b = rw e

-- the doubling after a double: a bid does not stand undoubled, and it stands doubled where it stood
not-undoubled : (b : Bool) → eqb (if b then 5 else 1) 4 ≡ false
not-undoubled true = refl
not-undoubled false = refl

stands_doubled : (b : Bool) → eqb (if b then 5 else 1) 5 ≡ b
stands_doubled true = refl
stands_doubled false = refl

-- after a redouble or what is no call, nothing stands
nothing_stands : (b : Bool) (n doubling : ℕ) → eqb (if b then 2 else n % 4) (4 + doubling) ≡ false
nothing_stands true n doubling = ne_eqb 2 (4 + doubling) (λ e. omega arith)
nothing_stands false n doubling = ne_eqb (n % 4) (4 + doubling) (λ e. omega arith)

-- the latest call is a bid, by a seat that passes a test
latest_bid : ℕ → (ℕ → Bool) → List ℕ → Bool
latest_bid d test [] = false
latest_bid d test (c ∷ h) = is_bid c && test (to_call d h)

-- by a seat of the other side, and of one's own
opponents : (d s : ℕ) (h : List ℕ) → latest_bid d (λ b. not (same_side b s)) h ≡ bid_by_opponents d s h
unfolding latest_bid bid_by_opponents
opponents d s [] = refl
opponents d s (c ∷ h) = refl

own_side : (d s : ℕ) (h : List ℕ) → latest_bid d (λ b. same_side b s) h ≡ bid_by_own_side d s h
unfolding latest_bid bid_by_own_side
own_side d s [] = refl
own_side d s (c ∷ h) = refl

-- a code by its kind: a pass, a mark, a double, a bid, or none of these
by_kind : {A : Type 0} (c : ℕ) → (c ≡ pass → A) → (c ≡ mark → A) → (c ≡ double → A)
    → (is_pass_or_mark c ≡ false → eqb c double ≡ false → is_bid c ≡ true → A)
    → (is_pass_or_mark c ≡ false → eqb c double ≡ false → is_bid c ≡ false → A) → A
by_kind c passed marked doubled bid other =
    by_test (eqb c pass)
    (λ (q : eqb c pass ≡ true). passed (eqb-true c pass q))
    (λ (q : eqb c pass ≡ false). by_test (eqb c mark)
    (λ (m : eqb c mark ≡ true). marked (eqb-true c mark m))
    (λ (m : eqb c mark ≡ false). by_test (eqb c double)
    (λ (r : eqb c double ≡ true). doubled (eqb-true c double r))
    (λ (r : eqb c double ≡ false). let neither : is_pass_or_mark c ≡ false = rw (q, m) in by_test (is_bid c) (bid neither r) (other neither r))))

module _ (d : ℕ) where
  -- a bid stands that is not doubled: the latest call but passes is a bid, and the position has its bidder
  bid-stands : (test : ℕ → Bool) (h : List ℕ) → (stands (position_of d h) 0 && test (position_of d h).bidder) ≡ latest_bid d test (before_passes h)
  unfolding stands position_of before_calls after_call before_passes latest_bid
  bid-stands test [] = refl
  bid-stands test (c ∷ h) =
      let a = position_of d h in
      let more = bid-stands test h in
      by_kind c
      (λ p. rw p more)
      (λ p. rw p more)
      (λ p. rw p (and-false (not-undoubled (stands a 0)) _))
      (λ q r s. simp (q, r, s, turn_is d h))
      (λ q r s. simp (q, r, s) (and-false (nothing_stands (eqb c redouble) a.doubling 0) _))

  -- a bid stands that is doubled: the latest call but passes is a double of it
  double-stands : (s : ℕ) (h : List ℕ) → (stands (position_of d h) 1 && same_side (position_of d h).bidder s) ≡ doubled_own_bid d s (before_passes h)
  unfolding stands position_of before_calls after_call before_passes doubled_own_bid
  double-stands s [] = refl
  double-stands s (c ∷ h) =
      let a = position_of d h in
      let more = double-stands s h in
      let stood = bid-stands (λ b. same_side b s) h ∙ own_side d s (before_passes h) in
      by_kind c
      (λ p. rw p more)
      (λ p. rw p more)
      (λ p. rw p (ap (λ (b : Bool). b && same_side a.bidder s) (stands_doubled (stands a 0)) ∙ stood))
      (λ q r t. simp (q, r, t))
      (λ q r t. simp (q, r, t) (and-false (nothing_stands (eqb c redouble) a.doubling 1) _))

  -- Law 19A
  pub double-is : (h : List ℕ) → may_double_of (position_of d h) ≡ may_double d h
  unfolding may_double_of may_double
  double-is h =
      bid-stands (λ b. not (same_side b (position_of d h).turn)) h
      ∙ opponents d (position_of d h).turn (before_passes h)
      ∙ ap (λ (s : ℕ). bid_by_opponents d s (before_passes h)) (turn_is d h)

  -- Law 19B
  pub redouble-is : (h : List ℕ) → may_redouble_of (position_of d h) ≡ may_redouble d h
  unfolding may_redouble_of may_redouble
  redouble-is h = double-stands (position_of d h).turn h ∙ ap (λ (s : ℕ). doubled_own_bid d s (before_passes h)) (turn_is d h)
