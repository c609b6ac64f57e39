-- Law 27A, insufficient bids that were accepted, proved. Assumes nothing.
use Prim.Native.Nat.{ℕ, suc, ◌≤◌, ◌<◌}
use native.Mathlib.Omega.{arith}
use mathlib.Core.Path.{◌≡◌, refl, sym, ap, ◌∙◌}
use mathlib.Core.Logic.{◌↔◌}
use mathlib.Core.Bool.{true, false, ◌&&◌}
use mathlib.Core.List.{List, ◌∷◌, reverse}
use borrow.Author.Tests.{leb-true, le-leb, lt-leb, lt-ltb, ltb-true, ltb-false, ne_eqb}
use lib.Dec.{leb, ltb}
use lib.ListN.{length, get_or}
use lib.Seq.{take_all}
use Rattle.laws.specs.Choice.{how_many}
use Rattle.laws.specs.Refusals.{no_call, call_after_end, wrong_mark}
use Rattle.laws.specs.Cards.{clockwise}
use Rattle.laws.specs.Law2.{dealer}
use Rattle.laws.specs.Auction.{mark, is_bid, codes_before, calls_made, is_marked, to_call, last_bid, last_bidder, has_bid, sufficient, at_or_below}
use Rattle.laws.specs.Auction.{passes_in_a_row, is_over, allowed, doubling}
use Rattle.laws.specs.CallRefusal.{call_refusal, place_of, call_place}
use Rattle.laws.specs.Record.{Parts}
use Rattle.laws.specs.Lawful.{first_of, Lawful}
use Rattle.laws.proofs.Tests.{by_test, not_both, and_left, and_right}
use Rattle.laws.proofs.Histories.{first-suc}
use Rattle.laws.proofs.LongestAuction.{bid-number}
use Rattle.promises.specs.Marks.{AtOrBelow, Marks}

at_or_below_lem : (h : List ℕ) (c : ℕ) → (is_bid c && at_or_below h c) ≡ true → AtOrBelow h c
unfolding at_or_below
at_or_below_lem h c e =
    let below = and_right (is_bid c) _ e in
    record { bid = and_left (is_bid c) _ e; after_bid = and_left (has_bid h) _ below; not_above = leb-true c (last_bid h) (and_right (has_bid h) _ below) }

below_at : (h : List ℕ) (c : ℕ) → AtOrBelow h c → (is_bid c && at_or_below h c) ≡ true
unfolding at_or_below
below_at h c a = rw (a.bid, a.after_bid, le-leb c (last_bid h) a.not_above)

-- a mark leaves the end of the auction where it was
still_over : (h : List ℕ) → is_over (mark ∷ h) ≡ is_over h
unfolding is_over has_bid last_bid passes_in_a_row
still_over h = refl

module _ (d : ℕ) where
  after_mark : (h : List ℕ) (c : ℕ) → (allowed d (mark ∷ h) c ≡ true) ↔ ((is_over h ≡ false) × AtOrBelow h c)
  unfolding allowed is_marked at_or_below has_bid last_bid
  after_mark h c = (
    λ e. by_test (is_over h)
        (λ (o : is_over h ≡ true). not_both false (rw (still_over h, o) at e) refl)
        (λ (o : is_over h ≡ false). (o, at_or_below_lem h c (rw (still_over h, o) at e))),
    λ (o, a). rw (still_over h, o) (below_at h c a),
  )

  -- a bid without a mark, in an auction that is not over
  bid-is : (h : List ℕ) (c : ℕ) → is_marked h ≡ false → is_bid c ≡ true → is_over h ≡ false → allowed d h c ≡ ltb (last_bid h) c
  unfolding allowed sufficient
  bid-is h c m b o =
      let n = bid-number c b in
      simp (
        o,
        m,
        b,
        ne_eqb c 0 (λ e. omega (arith, n.0)),
        ne_eqb c 1 (λ e. omega (arith, n.0)),
        ne_eqb c 2 (λ e. omega (arith, n.0)),
        ne_eqb c 38 (λ e. omega (arith, n.1)),
      )

  over_stops : (h : List ℕ) (c : ℕ) → allowed d h c ≡ true → is_over h ≡ false
  unfolding allowed
  over_stops h c a =
      by_test (is_over h)
      (λ (o : is_over h ≡ true). not_both false (rw o at a) refl)
      (λ (o : is_over h ≡ false). o)

  without : (h : List ℕ) (c : ℕ) → is_marked h ≡ false → is_bid c ≡ true → (allowed d h c ≡ true) ↔ ((is_over h ≡ false) × (last_bid h < c))
  without h c m b = (
    λ a. let o = over_stops h c a in (o, ltb-true (last_bid h) c (sym (bid-is h c m b o) ∙ a)),
    λ (o, l). bid-is h c m b o ∙ lt-ltb (last_bid h) c l,
  )

  wrong : (h : List ℕ) (c : ℕ) → c ≤ 38 → is_over h ≡ false → (AtOrBelow h c → ⊥)
      → (call_refusal d (mark ∷ h) c ≡ wrong_mark) × (call_place d (mark ∷ h) c ≡ codes_before h)
  unfolding call_refusal call_place place_of codes_before is_marked
  wrong h c l o n =
      by_test (allowed d (mark ∷ h) c)
      (λ (a : allowed d (mark ∷ h) c ≡ true). absurd (n ((after_mark h c).0 a).1))
      (λ (a : allowed d (mark ∷ h) c ≡ false).
      let is : call_refusal d (mark ∷ h) c ≡ wrong_mark = rw (le-leb c 38 l, still_over h, o, a) in
      (is, rw is (omega arith)))

  no_code : (h : List ℕ) (c : ℕ) → 38 < c → (call_refusal d h c ≡ no_call) × (call_place d h c ≡ codes_before h)
  unfolding call_refusal call_place place_of
  no_code h c l = let is : call_refusal d h c ≡ no_call = rw (lt-leb c 38 l) in (is, rw is)

  only_wrong : (h : List ℕ) (c : ℕ) → call_refusal d h c ≡ wrong_mark → is_marked h ≡ true
  unfolding call_refusal
  only_wrong h c e =
      by_test (is_marked h)
      (λ (m : is_marked h ≡ true). m)
      (λ (m : is_marked h ≡ false). absurd (other m))
    where
      other : is_marked h ≡ false → ⊥
      other m =
          by_test (leb c 38)
          (λ (q : leb c 38 ≡ true). by_test (is_over h)
          (λ (o : is_over h ≡ true). let z : ◌≡◌ {A = ℕ} 8 24 = rw (q, o) at e in omega arith)
          (λ (o : is_over h ≡ false). by_test (allowed d h c)
          (λ (a : allowed d h c ≡ true). let z : ◌≡◌ {A = ℕ} 0 24 = rw (q, o, a) at e in omega arith)
          (λ (a : allowed d h c ≡ false). by_test (is_bid c)
          (λ (b : is_bid c ≡ true). let z : ◌≡◌ {A = ℕ} 6 24 = rw (q, o, a, m, b) at e in omega arith)
          (λ (b : is_bid c ≡ false). let z : ◌≡◌ {A = ℕ} 7 24 = rw (b, q, o, a, m) at e in omega arith))))
          (λ (q : leb c 38 ≡ false). let z : ◌≡◌ {A = ℕ} 5 24 = rw q at e in omega arith)

  after_end : (h : List ℕ) → is_over h ≡ true → (call_refusal d h mark ≡ call_after_end) × (call_place d h mark ≡ codes_before h)
  unfolding call_refusal call_place place_of
  after_end h o = let is : call_refusal d h mark ≡ call_after_end = rw o in (is, rw is)

  unfinished : (h : List ℕ) → allowed d h mark ≡ true → is_over (mark ∷ h) ≡ false
  unfinished h a = still_over h ∙ over_stops h mark a

-- each mark of a lawful record
module _ (p : Parts) (ok : Lawful p) (k : ℕ) (low : k < length p.calls) (is : get_or p.calls k 0 ≡ mark) where
  after : first_of (suc k) p.calls ≡ mark ∷ first_of k p.calls
  after = first-suc p.calls k low ∙ ap (λ (c : ℕ). c ∷ first_of k p.calls) is

  -- is not the last code, since the auction is over after that
  not_last : suc k < length p.calls
  not_last =
      by_test (ltb (suc k) (length p.calls))
      (λ (q : ltb (suc k) (length p.calls) ≡ true). ltb-true (suc k) (length p.calls) q)
      (λ (q : ltb (suc k) (length p.calls) ≡ false).
      let all : first_of (suc k) p.calls ≡ reverse p.calls = ap reverse (take_all (suc k) p.calls (ltb-false (suc k) (length p.calls) q)) in
      let d = dealer p.board in
      let may : allowed d (first_of k p.calls) mark ≡ true = sym (ap (allowed d (first_of k p.calls)) is) ∙ ok.calls.each k low in
      not_both (is_over (reverse p.calls)) ok.calls.over (ap is_over (sym all ∙ after) ∙ unfinished d (first_of k p.calls) may))

  followed : (suc k < length p.calls) × AtOrBelow (first_of k p.calls) (get_or p.calls (suc k) 0)
  followed =
      let d = dealer p.board in
      let may = ap (λ (h : List ℕ). allowed d h (get_or p.calls (suc k) 0)) (sym after) ∙ ok.calls.each (suc k) not_last in
      (not_last, ((after_mark d (first_of k p.calls) (get_or p.calls (suc k) 0)).0 may).1)

module _ (d : ℕ) where
  no_turn : (h : List ℕ) → to_call d (mark ∷ h) ≡ to_call d h
  unfolding to_call calls_made how_many clockwise
  no_turn h = omega arith

  same_bidder : (h : List ℕ) → last_bidder d (mark ∷ h) ≡ last_bidder d h
  unfolding last_bidder
  same_bidder h = refl

  bidder : (h : List ℕ) (c : ℕ) → is_bid c ≡ true → last_bidder d (c ∷ mark ∷ h) ≡ to_call d h
  unfolding last_bidder
  bidder h c b = rw b (no_turn h)

same_passes : (h : List ℕ) → passes_in_a_row (mark ∷ h) ≡ passes_in_a_row h
unfolding passes_in_a_row
same_passes h = refl

same_bid : (h : List ℕ) → last_bid (mark ∷ h) ≡ last_bid h
unfolding last_bid
same_bid h = refl

same_doubling : (h : List ℕ) → doubling (mark ∷ h) ≡ doubling h
unfolding doubling
same_doubling h = refl

stands : (h : List ℕ) (c : ℕ) → is_bid c ≡ true → last_bid (c ∷ mark ∷ h) ≡ c
unfolding last_bid
stands h c b = rw b

undoubled : (h : List ℕ) (c : ℕ) → is_bid c ≡ true → doubling (c ∷ mark ∷ h) ≡ 0
unfolding doubling
undoubled h c b = rw b

pub marks : (d : ℕ) → Marks d
marks d =
    record {
      no_turn = no_turn d;
      same_passes = same_passes;
      same_bid = same_bid;
      same_bidder = same_bidder d;
      same_doubling = same_doubling;
      after_mark = after_mark d;
      without = without d;
      stands = stands;
      bidder = bidder d;
      undoubled = undoubled;
      followed = followed;
      no_code = no_code d;
      wrong = wrong d;
      only_wrong = only_wrong d;
      after_end = after_end d;
      unfinished = unfinished d;
    }
