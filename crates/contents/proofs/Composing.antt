-- The sections of contents one after the other: a law for each way out. Assumes nothing.
use Prim.Native.Nat.{ℕ, ◌≤◌, ◌<◌, min}
use native.Mathlib.Omega.{arith}
use mathlib.Core.Path.{◌≡◌, refl, sym, ap, ◌∙◌}
use mathlib.Core.Bool.{Bool, true, false, not, ◌&&◌, ◌||◌}
use mathlib.Core.List.{List, []}
use borrow.Author.Tests.{ltb-false}
use lib.Dec.{ltb}
use lib.ListN.{length}
use Rattle.laws.specs.Refusals.{Placed, refused_at, given, play_unfinished, no_claim_point, claim_too_many}
use Rattle.laws.specs.Cards.{clockwise}
use Rattle.laws.specs.Auction as Law
use Rattle.laws.specs.Law44.{cards_played, all_played, tricks_complete, tricks_left, cards_in_trick}
use Rattle.laws.specs.Events.{Event, cards_of}
use Rattle.laws.specs.FlatPlay.{cards_in}
use Rattle.laws.specs.Law68.{Claim, none, agreed, at_claim_point, claimable}
use Rattle.laws.specs.Reading.{Reading, Reading.found, onward, refuse}
use Rattle.laws.specs.Contents.{take_cards, take_claim}
use Rattle.laws.proofs.Tests.{by_test}
use Rattle.laws.proofs.ItemsTaken.{taken-cards}
use Rattle.laws.proofs.ContentsStop.{cards_stay}
use Rattle.laws.specs.Refused.{placed_in, checked_in}
use Rattle.laws.proofs.Answered.{is-refused, is-found}
use Rattle.auction.specs.declared.Auction.{Auction}
use Rattle.auction.specs.declared.Contract.{Contract}
use Rattle.auction.specs.Position.{position_of}
use Rattle.auction.specs.Asked.{passed_out_of, contract_of}
use Rattle.auction.proofs.History.{passed_out_is}
use Rattle.auction.proofs.Laws.{trump_is, opening_is}
use Rattle.claims.specs.Claims.{point_at}
use Rattle.contents.specs.Checked.{cards_by, claim_by, after_calls}

-- one check, and two, from any bit on
one_check : (n place : ℕ) (test : Bool) (from : ℕ) → checked_in (refuse n place test [] from) ≡ checked_in (refuse n place test [] 0)
unfolding refuse
one_check n place true from = refl
one_check n place false from = refl

two_checks : (n place m other : ℕ) (a b : Bool) (from : ℕ)
    → checked_in (onward (refuse n place a [] from) (λ u k. refuse m other b [] k)) ≡ checked_in (onward (refuse n place a [] 0) (λ u k. refuse m other b [] k))
unfolding refuse
two_checks n place m other true b from = refl
two_checks n place m other false b from = one_check m other b from

-- ---- the claim, after the calls h and the cards g
claim_law : (h g : List ℕ) (claim : Claim) (from : ℕ) → checked_in (take_claim h g claim [] from) ≡ claim_by (Law.passed_out h) (cards_played g) claim
unfolding take_claim claim_by all_played at_claim_point point_at claimable tricks_left tricks_complete cards_in_trick
claim_law h g none from = one_check play_unfinished (cards_played g) (not (Law.passed_out h) && not (all_played g)) from
claim_law h g (agreed tricks) from =
    two_checks no_claim_point (cards_played g) claim_too_many (min tricks 15) (Law.passed_out h || not (at_claim_point g)) (not (claimable g tricks)) from

-- ---- sections that pass: the value, at the bit where they began
module _ {A B : Type 0} (f : A → B) where
  pub passed_on : (r : Reading A) → ((a : A) (m : ℕ) → r ≡ found a m → m ≡ 0) → {b : B} → given b ≡ placed_in f r → (a : A) × (r ≡ found a 0) × (b ≡ f a)
  passed_on r s e =
      let k = is-found f r e in
      (k.0, k.2 ∙ ap (λ (m : ℕ). found k.0 m) (s k.0 k.1 k.2), k.3)

-- the opening leader is a seat
pub leader_lt : (d : ℕ) → clockwise d 1 < 4
unfolding clockwise
leader_lt d = omega arith

-- ---- plays and claim, after an auction that is that of the calls h
module _ (deal plays : List ℕ) (all : length deal ≡ 52) (a : Auction) (d : ℕ) (h : List ℕ) (ea : a ≡ position_of d h) (out : Bool) (eo : out ≡ passed_out_of a)
    (k : Contract) (ek : k ≡ contract_of a) (opening : ℕ) (ep : opening ≡ clockwise k.declarer 1) (claim : Claim) where
  passed : out ≡ Law.passed_out h
  passed = eo ∙ ap passed_out_of ea ∙ passed_out_is d h

  cards_law : cards_by out k.strain opening deal plays [] 0 ≡ take_cards d deal h plays [] 0
  unfolding cards_by take_cards
  cards_law =
      let trump : k.strain ≡ Law.trump_after h = ap (λ (x : Contract). x.strain) (ek ∙ ap contract_of ea) ∙ trump_is d h in
      let led : opening ≡ Law.opening_after d h = ep ∙ ap (λ (x : Contract). clockwise x.declarer 1) (ek ∙ ap contract_of ea) ∙ opening_is d h in
      rw (passed, trump, led)

  pub cards-refused : {n place : ℕ} → refused_at n place ≡ checked_in (cards_by out k.strain opening deal plays [] 0)
      → refused_at n place ≡ after_calls d deal h plays claim
  unfolding after_calls
  cards-refused e =
      let q = is-refused (λ _. tt) (take_cards d deal h plays [] 0) (e ∙ ap (λ (r : Reading (List Event)). checked_in r) cards_law) in
      rw q

  module _ (e : given tt ≡ checked_in (cards_by out k.strain opening deal plays [] 0)) where
    taken : (e : List Event) × (take_cards d deal h plays [] 0 ≡ found e 0) × (◌≡◌ {A = Unit {0}} tt tt)
    taken =
        passed_on (λ _. tt) (take_cards d deal h plays [] 0) (λ e m q. cards_stay d deal h plays 0 all q)
        (e ∙ ap (λ (r : Reading (List Event)). checked_in r) cards_law)

    many : cards_played (cards_of taken.0) ≡ cards_in plays
    many = taken-cards d deal h plays 0 all taken.1

    pub claim_checked : {r : Placed (Unit {0})} → r ≡ claim_by out (cards_in plays) claim → r ≡ after_calls d deal h plays claim
    unfolding after_calls
    claim_checked e = e ∙ rw (passed, ← many, taken.1) (sym (claim_law h (cards_of taken.0) claim 0))

-- the cards that are not refused are at most 52
pub few-played : (out : Bool) (trump opening : ℕ) (deal plays : List ℕ) → given tt ≡ checked_in (cards_by out trump opening deal plays [] 0)
    → cards_in plays ≤ 52
unfolding cards_by refuse
few-played out trump opening deal plays e =
    let many = cards_in plays in
    by_test (ltb 52 many)
    (λ (t : ltb 52 many ≡ true). absurd (let y = rw t at e in cc))
    (λ (t : ltb 52 many ≡ false). ltb-false 52 many t)
