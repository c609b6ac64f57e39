-- An auction without a mark each of whose calls is allowed has at most 319 calls, on its history alone: at every point a bid has at most nine calls
-- from it to the next one, or ten to the end. Assumes nothing.
use Prim.Native.Nat.{ℕ, suc, ◌+◌, ◌*◌, ◌≤◌, ◌<◌}
use native.Mathlib.Omega.{arith}
use mathlib.Core.Path.{◌≡◌, refl}
use mathlib.Core.Logic.{◌⊎◌, inl, inr}
use mathlib.Core.Bool.{Bool, true, false, not, ◌&&◌}
use mathlib.Core.List.{List, [], ◌∷◌, reverse, reverse_aux}
use borrow.Author.Tests.{leb-true, leb-false, eqb-true, eqb-false, ne_eqb}
use lib.Dec.{eqb, leb}
use lib.ListN.{length, get_or, length-reverse}
use Rattle.laws.specs.Choice.{how_many, some}
use Rattle.laws.specs.Cards.{clockwise, same_side}
use Rattle.laws.specs.Auction.{pass, double, redouble, mark, is_bid, calls_made, is_marked}
use Rattle.laws.specs.Auction.{to_call, last_bid, is_pass_or_mark, before_passes, bid_by_opponents, bid_by_own_side, doubled_own_bid}
use Rattle.laws.specs.Auction.{sufficient, at_or_below, may_double, may_redouble, passes_in_a_row, has_bid, is_over, allowed, doubling}
use Rattle.laws.specs.Lengths.{AllAllowed, NoMark, bids_in_turn, longest_auction}
use Rattle.laws.specs.Lawful.{first_of}
use Rattle.laws.proofs.Tests.{by_test, not_both, and_left, and_right, or_left, or_right}
use Rattle.laws.proofs.Counts.{every_below, every_below_lem}
use Rattle.laws.proofs.Histories.{Each, each-place}

-- a bid's number
pub bid-number : (c : ℕ) → is_bid c ≡ true → (3 ≤ c) × (c ≤ 37)
bid-number c e = (leb-true 3 c (and_left (leb 3 c) (leb c 37) e), leb-true c 37 (and_right (leb 3 c) (leb c 37) e))

-- the latest call is a bid
abbrev starts_with_bid : List ℕ → Bool
starts_with_bid [] = false
starts_with_bid (c ∷ h) = is_bid c

opponents_bid : (d seat : ℕ) (h : List ℕ) → bid_by_opponents d seat h ≡ true → starts_with_bid h ≡ true
unfolding bid_by_opponents
opponents_bid d seat [] e = e
opponents_bid d seat (c ∷ h) e = and_left (is_bid c) (not (same_side (to_call d h) seat)) e

own_bid : (d seat : ℕ) (h : List ℕ) → bid_by_own_side d seat h ≡ true → starts_with_bid h ≡ true
unfolding bid_by_own_side
own_bid d seat [] e = e
own_bid d seat (c ∷ h) e = and_left (is_bid c) (same_side (to_call d h) seat) e

-- a pass or a mark, as one or the other
pass_or_mark : {A : Type 0} (c : ℕ) → is_pass_or_mark c ≡ true → (c ≡ pass → A) → (c ≡ mark → A) → A
pass_or_mark c e passed marked =
    by_test (eqb c pass)
    (λ (q : eqb c pass ≡ true). passed (eqb-true c pass q))
    (λ (q : eqb c pass ≡ false). marked (eqb-true c mark (rw q at e)))

-- the last call that is no pass is a bid: it is the last bid, and not doubled
undoubled : (h : List ℕ) → starts_with_bid (before_passes h) ≡ true → (doubling h ≡ 0) × (3 ≤ last_bid h)
unfolding before_passes doubling last_bid
undoubled [] e = not_both false e refl
undoubled (c ∷ h) e =
    let more = undoubled h in
    by_test (is_pass_or_mark c)
    (λ (q : is_pass_or_mark c ≡ true). let m = more (rw q at e) in pass_or_mark c q (λ p. rw p m) (λ p. rw p m))
    (λ (q : is_pass_or_mark c ≡ false). let b : is_bid c ≡ true = rw q at e in rw b (refl, (bid-number c b).0))

-- the last call that is no pass is a double of a bid
doubled : (d seat : ℕ) (h : List ℕ) → doubled_own_bid d seat (before_passes h) ≡ true → (doubling h ≡ 1) × (3 ≤ last_bid h)
unfolding before_passes doubling last_bid doubled_own_bid
doubled d seat [] e = not_both false e refl
doubled d seat (c ∷ h) e =
    let more = doubled d seat h in
    by_test (is_pass_or_mark c)
    (λ (q : is_pass_or_mark c ≡ true). let m = more (rw q at e) in pass_or_mark c q (λ p. rw p m) (λ p. rw p m))
    (λ (q : is_pass_or_mark c ≡ false).
    let both : (eqb c double && bid_by_own_side d seat (before_passes h)) ≡ true = rw q at e in
    let is : c ≡ double = eqb-true c double (and_left (eqb c double) _ both) in
    rw is (refl, (undoubled h (own_bid d seat (before_passes h) (and_right (eqb c double) _ both))).1))

-- before the first bid there are only passes, four at most
record Unbid (h : List ℕ) : Type 0 where
  none : last_bid h ≡ 0
  only : length h ≡ passes_in_a_row h
  most : passes_in_a_row h ≤ 4

-- after it: three passes before the first bid, nine calls for each lower bid, and for the last one its own call, three for each doubling and the passes since
record Bidding (h : List ℕ) : Type 0 where
  from : 3 ≤ last_bid h
  to : last_bid h ≤ 37
  times : doubling h ≤ 2
  most : passes_in_a_row h ≤ 3
  calls : length h + 23 ≤ 9 * last_bid h + 3 * doubling h + passes_in_a_row h

abbrev Stage : List ℕ → Type 0
Stage h = Unbid h ⊎ Bidding h

-- an auction that is not over has at most three passes in a row, and after a bid two
few_passes : (h : List ℕ) → is_over h ≡ false → passes_in_a_row h ≤ 3
unfolding is_over
few_passes h e =
    by_test (has_bid h)
    (λ (q : has_bid h ≡ true). let e' = rw q at e in omega (arith, leb-false _ (passes_in_a_row h) e'))
    (λ (q : has_bid h ≡ false). let e' = rw q at e in omega (arith, leb-false _ (passes_in_a_row h) e'))

two_passes : (h : List ℕ) → 3 ≤ last_bid h → is_over h ≡ false → passes_in_a_row h ≤ 2
unfolding is_over has_bid
two_passes h b e =
    let e' = rw (ne_eqb (last_bid h) 0 (λ z. omega arith)) at e in omega (arith, leb-false _ (passes_in_a_row h) e')

-- one call more: a pass
after-pass : (h : List ℕ) → is_over h ≡ false → Stage h → Stage (pass ∷ h)
unfolding last_bid passes_in_a_row doubling
after-pass h e (inl u) = inl (record { none = u.none; only = omega (arith, u.only); most = omega (arith, few_passes h e) })
after-pass h e (inr b) =
    inr (record { from = b.from; to = b.to; times = b.times; most = omega (arith, two_passes h b.from e); calls = omega (arith, b.calls) })

-- a double or a redouble, of a bid that was doubled n times
after-doubling : (h : List ℕ) (c n : ℕ) → n ≤ 1 → is_over h ≡ false → (doubling h ≡ n) × (3 ≤ last_bid h)
    → last_bid (c ∷ h) ≡ last_bid h → passes_in_a_row (c ∷ h) ≡ 0 → doubling (c ∷ h) ≡ suc n → Stage h → Stage (c ∷ h)
after-doubling h c n most e (z, b) same none more (inl u) = absurd (omega (arith, u.none))
after-doubling h c n most e (z, b) same none more (inr s) =
    inr (record {
      from = omega arith;
      to = omega (arith, s.to);
      times = omega arith;
      most = omega arith;
      calls = omega (arith, s.calls, two_passes h b e);
    })

-- a bid above the last
after_bid : (h : List ℕ) (c : ℕ) → is_over h ≡ false → is_bid c ≡ true → last_bid h < c → Stage h → Stage (c ∷ h)
unfolding last_bid passes_in_a_row doubling
after_bid h c e q above s =
    let from : 3 ≤ c = (bid-number c q).0 in
    let to : c ≤ 37 = (bid-number c q).1 in
    let no_pass : eqb c pass ≡ false = ne_eqb c pass (λ z. omega arith) in
    let no_mark : eqb c mark ≡ false = ne_eqb c mark (λ z. omega arith) in
    let count : length h + 24 ≤ 9 * c = before s from in
    inr (record {
      from = rw q from;
      to = rw q to;
      times = rw q (omega arith);
      most = rw (no_pass, no_mark) (omega arith);
      calls = rw (q, no_pass, no_mark) (omega arith);
    })
  where
    before : Stage h → 3 ≤ c → length h + 24 ≤ 9 * c
    before (inl u) from = omega (arith, u.only, few_passes h e)
    before (inr b) from = omega (arith, b.calls, b.times, two_passes h b.from e)

-- one call more, where neither it nor the code before it is a mark
after : (d : ℕ) (h : List ℕ) (c : ℕ) → eqb c mark ≡ false → is_marked h ≡ false → allowed d h c ≡ true → Stage h → Stage (c ∷ h)
unfolding allowed may_double may_redouble sufficient last_bid passes_in_a_row doubling
after d h c n u a s =
    by_test (is_over h)
    (λ (e : is_over h ≡ true). not_both false (rw e at a) refl)
    (λ (e : is_over h ≡ false). by_test (eqb c pass)
    (λ (q : eqb c pass ≡ true). rw (eqb-true c pass q) (after-pass h e s))
    (λ (q : eqb c pass ≡ false). by_test (eqb c double)
    (λ (r : eqb c double ≡ true).
    rw (eqb-true c double r) (after-doubling h double 0 (omega arith) e (undoubled h (opponents_bid d _ _ (rw (e, u, n, q, r) at a))) refl refl refl s))
    (λ (r : eqb c double ≡ false). by_test (eqb c redouble)
    (λ (t : eqb c redouble ≡ true).
    rw (eqb-true c redouble t) (after-doubling h redouble 1 (omega arith) e (doubled d _ h (rw (e, u, n, q, r, t) at a)) refl refl refl s))
    (λ (t : eqb c redouble ≡ false).
    let both : (is_bid c && sufficient h c) ≡ true = rw (e, u, n, q, r, t) at a in
    let above = leb-true _ c (and_right (is_bid c) _ both) in
    after_bid h c e (and_left (is_bid c) _ both) (omega (arith, above)) s))))

unmarked : (h : List ℕ) → NoMark h → is_marked h ≡ false
unfolding NoMark is_marked
unmarked [] n = refl
unmarked (c ∷ h) n = ne_eqb c mark n.0

stage : (d : ℕ) (h : List ℕ) → AllAllowed d h → NoMark h → Stage h
unfolding AllAllowed NoMark last_bid passes_in_a_row
stage d [] a n = inl (record { none = refl; only = refl; most = omega arith })
stage d (c ∷ h) a n = after d h c (ne_eqb c mark n.0) (unmarked h n.1) a.0 (stage d h a.1 n.1)

-- the longest auctions without a mark have 319 calls
pub at_most_319 : (d : ℕ) (h : List ℕ) → AllAllowed d h → NoMark h → length h ≤ 319
at_most_319 d h a n = bounded (stage d h a n)
  where
    bounded : Stage h → length h ≤ 319
    bounded (inl u) = omega (arith, u.only, u.most)
    bounded (inr b) = omega (arith, b.calls, b.to, b.times, b.most)

-- calls in their order, after the history h
in_order : (d : ℕ) (h l : List ℕ) → Each (λ g c. allowed d g c ≡ true) h l → AllAllowed d h → AllAllowed d (reverse_aux l h)
unfolding Each AllAllowed
in_order d h [] e a = a
in_order d h (c ∷ l) e a = in_order d (c ∷ h) l e.1 (e.0, a)

-- marks are none in either order
no_mark_in_order : (h l : List ℕ) → NoMark l → NoMark h → NoMark (reverse_aux l h)
unfolding NoMark
no_mark_in_order h [] n m = m
no_mark_in_order h (c ∷ l) n m = no_mark_in_order (c ∷ h) l n.1 (n.0, m)

-- the same bound on calls in their order, each allowed at its place
pub at_most_319_in_order : (d : ℕ) (l : List ℕ) → ((k : ℕ) → k < length l → allowed d (first_of k l) (get_or l k 0) ≡ true) → NoMark l → length l ≤ 319
unfolding AllAllowed NoMark
at_most_319_in_order d l f n =
    let each = (each-place (λ g c. allowed d g c ≡ true) l).1 f in
    omega (arith, at_most_319 d (reverse l) (in_order d [] l each tt) (no_mark_in_order [] l n tt), length-reverse l)

-- the test of each call, computed
abbrev all_allowed : ℕ → List ℕ → Bool
all_allowed d [] = true
all_allowed d (c ∷ h) = allowed d h c && all_allowed d h

tested : (d : ℕ) (h : List ℕ) → all_allowed d h ≡ true → AllAllowed d h
unfolding AllAllowed
tested d [] e = tt
tested d (c ∷ h) e = (and_left (allowed d h c) (all_allowed d h) e, tested d h (and_right (allowed d h c) (all_allowed d h) e))

-- the test that no code is a mark, computed
untested : (h : List ℕ) → some (λ c. eqb c mark) h ≡ false → NoMark h
unfolding some NoMark
untested [] e = tt
untested (c ∷ h) e =
    (eqb-false c mark (or_left (eqb c mark) _ e), untested h (or_right (eqb c mark) _ e))

-- computed for each dealer
computed : every_below 4 (λ d. all_allowed d longest_auction) ≡ true
unfolding
    longest_auction bids_in_turn allowed is_over has_bid last_bid passes_in_a_row sufficient may_double bid_by_opponents may_redouble doubled_own_bid bid_by_own_side
    before_passes to_call calls_made how_many is_marked at_or_below clockwise
computed = refl

-- the auction of 319 calls, whoever deals: each call is allowed, and it is over after all of them
pub longest_allowed : (d : ℕ) → d < 4 → AllAllowed d longest_auction
longest_allowed d w = tested d longest_auction (every_below_lem 4 (λ d. all_allowed d longest_auction) computed d w)

pub longest_over : is_over longest_auction ≡ true
unfolding is_over has_bid last_bid passes_in_a_row bids_in_turn longest_auction
longest_over = refl

pub longest_unmarked : NoMark longest_auction
unfolding some bids_in_turn longest_auction
longest_unmarked = untested longest_auction refl

pub longest_length : length longest_auction ≡ 319
unfolding bids_in_turn longest_auction
longest_length = refl
