-- Each seat holds what it was dealt less the cards it has played, so no more than 52 cards are played, and a seat that has played to twelve tricks
-- does not hold two. Assumes nothing.
use Rattle.std.specs.Prelude.{if◌then◌else◌}
use Prim.Native.Nat.{ℕ, suc, ◌≤◌, ◌<◌, ◌+◌, ◌-◌, ◌%◌}
use mathlib.Core.Path.{◌≡◌, ◌∙◌}
use mathlib.Core.Bool.{Bool, true, false}
use mathlib.Core.List.{List, [], ◌∷◌}
use native.Mathlib.Omega.{arith}
use borrow.Author.Tests.{eqb-true, eqb-false, ne_eqb, ltb-true, ltb-false, lt-ltb, le-ltb}
use lib.Dec.{eqb, ltb}
use lib.ListN.{length}
use Rattle.laws.specs.Choice.{how_many}
use Rattle.laws.specs.Cards.{no_seat, clockwise, cards_dealt}
use Rattle.laws.specs.Law44.{cards_played, tricks_complete, cards_in_trick, leader, to_play, holds}
use Rattle.laws.proofs.Tests.{by_test}
use Rattle.laws.proofs.Counts.{many-le}
use Rattle.laws.proofs.Stores.{many-set, two-places}
use Rattle.play.specs.History.{holders_of, AllPlayed, plays_of}
use Rattle.play.proofs.Cards.{fair, fewer_than_four, tricks-same, tricks-more, leader-same, in_trick_more, in_trick_last}
use Rattle.play.proofs.Holders.{turn_seat, holders_52, holds_law, stood}

-- ---- how many plays a seat has made: one to each complete trick, and one more where its turn in this trick is past
-- how far clockwise a seat is from the leader
abbrev behind : ℕ → ℕ → ℕ
behind seat lead = (seat + 4 - lead % 4) % 4

one_of : (seat lead k : ℕ) → seat < 4 → k < 4
    → (if eqb (clockwise lead k) seat then 1 else 0) + (if ltb (behind seat lead) k then 1 else 0) ≡ (if ltb (behind seat lead) (suc k) then 1 else 0)
unfolding clockwise
one_of seat lead k hs hk =
    by_test (eqb ((lead + k) % 4) seat)
    (λ (q : eqb ((lead + k) % 4) seat ≡ true).
    let e = eqb-true ((lead + k) % 4) seat q in
    rw (q, le-ltb (behind seat lead) k (omega arith), lt-ltb (behind seat lead) (suc k) (omega arith)))
    (λ (q : eqb ((lead + k) % 4) seat ≡ false).
    let n = eqb-false ((lead + k) % 4) seat q in
    rw q (by_test (ltb (behind seat lead) k)
    (λ (r : ltb (behind seat lead) k ≡ true). rw (r, lt-ltb (behind seat lead) (suc k) (omega (arith, ltb-true (behind seat lead) k r))))
    (λ (r : ltb (behind seat lead) k ≡ false). rw (r, le-ltb (behind seat lead) (suc k) (omega (arith, ltb-false (behind seat lead) k r))))))

none_yet : (b : ℕ) → 0 ≡ tricks_complete [] + (if ltb b (cards_in_trick []) then 1 else 0)
unfolding tricks_complete cards_in_trick cards_played
none_yet b = rw (le-ltb b 0 (omega arith))

pub plays_law : (trump opening seat : ℕ) (g : List ℕ) → seat < 4
    → plays_of trump opening seat g ≡ tricks_complete g + (if ltb (behind seat (leader trump opening g)) (cards_in_trick g) then 1 else 0)
unfolding plays_of to_play
plays_law trump opening seat [] h = none_yet (behind seat (leader trump opening []))
plays_law trump opening seat (c ∷ g) h =
    let more = one_of seat (leader trump opening g) (cards_in_trick g) h (fewer_than_four g) in
    by_test (ltb (cards_in_trick g) 3)
    (λ (q : ltb (cards_in_trick g) 3 ≡ true).
    let k = ltb-true (cards_in_trick g) 3 q in
    rw (tricks-same c g k, leader-same trump opening c g k, in_trick_more c g k) (omega (arith, plays_law trump opening seat g h)))
    (λ (q : ltb (cards_in_trick g) 3 ≡ false).
    let k = ltb-false (cards_in_trick g) 3 q in
    let all = rw (lt-ltb (behind seat (leader trump opening g)) (suc (cards_in_trick g)) (omega arith)) at more in
    rw (tricks-more c g k, in_trick_last c g k, le-ltb (behind seat (leader trump opening (c ∷ g))) 0 (omega arith))
    (omega (arith, plays_law trump opening seat g h)))

-- ---- what the places count after a play: a test that passes for no played card loses the seat that played
module _ (deal : List ℕ) (trump opening : ℕ) (all : length deal ≡ 52) where
  abbrev holders : List ℕ → List ℕ
  holders g = holders_of deal trump opening g

  counted : (test : ℕ → Bool) (c : ℕ) (g : List ℕ) → AllPlayed deal trump opening (c ∷ g) → ((k : ℕ) → 4 ≤ k → test k ≡ false)
      → how_many test (holders (c ∷ g)) + (if test (to_play trump opening g) then 1 else 0) ≡ how_many test (holders g)
  unfolding AllPlayed holders_of
  counted test c g w none =
      let f = fair trump opening deal g c w.0 in
      let v = 4 + to_play trump opening g in
      let place : c < length (holders g) = omega (arith, f.code, holders_52 deal trump opening all g) in
      let changed = rw (stood deal trump opening all c g f w.1, none v (omega arith)) at (many-set test no_seat (holders g) c v place) in
      omega (arith, changed)

  -- a seat holds what it was dealt less the cards it has played
  pub thirteen_less : (seat : ℕ) (g : List ℕ) → seat < 4 → AllPlayed deal trump opening g
      → cards_dealt seat (holders g) + plays_of trump opening seat g ≡ cards_dealt seat deal
  unfolding cards_dealt plays_of holders_of AllPlayed
  thirteen_less seat [] h w = omega arith
  thirteen_less seat (c ∷ g) h w =
      omega
      (arith, thirteen_less seat g h w.1, counted (λ holder. eqb holder seat) c g w (λ k n. ne_eqb k seat (λ e. omega arith)))

  -- so at most 52 cards are played
  left : (g : List ℕ) → AllPlayed deal trump opening g → how_many (λ holder. ltb holder 4) (holders g) + cards_played g ≡ how_many (λ holder. ltb holder 4) deal
  unfolding cards_played holders_of AllPlayed
  left [] w = omega arith
  left (c ∷ g) w =
      let more = rw (lt-ltb (to_play trump opening g) 4 (turn_seat trump opening g)) at (counted (λ holder. ltb holder 4) c g w (λ k n. le-ltb k 4 n)) in
      omega (arith, left g w.1)

  pub at_most_52 : (g : List ℕ) → AllPlayed deal trump opening g → cards_played g ≤ 52
  at_most_52 g w = omega (arith, left g w, many-le (λ holder. ltb holder 4) deal)

  -- ---- a seat that revokes holds two cards, so it has played to fewer than twelve tricks
  module _ (dealt : (seat : ℕ) → seat < 4 → cards_dealt seat deal ≡ 13) where
    -- the seat at turn has played to each complete trick
    pub turn_plays : (g : List ℕ) → plays_of trump opening (to_play trump opening g) g ≡ tricks_complete g
    unfolding to_play clockwise
    turn_plays g =
        let seat = to_play trump opening g in
        let k = fewer_than_four g in
        let past : ltb (behind seat (leader trump opening g)) (cards_in_trick g)
        ≡ false = le-ltb (behind seat (leader trump opening g)) (cards_in_trick g) (omega arith) in
        let all = rw past at (plays_law trump opening seat g (turn_seat trump opening g)) in
        omega arith

    -- a seat at turn with two cards has played to fewer than twelve tricks
    pub two-held : (c d : ℕ) (g : List ℕ) → AllPlayed deal trump opening g → c < 52 → d < 52 → (d ≡ c → ⊥)
        → holds deal g (to_play trump opening g) c ≡ true → holds deal g (to_play trump opening g) d ≡ true → tricks_complete g < 12
    unfolding cards_dealt
    two-held c d g w hc hd differ at_c at_d =
        let seat = to_play trump opening g in
        let low = turn_seat trump opening g in
        let n = holders_52 deal trump opening all g in
        let mine : ℕ → Bool = λ (holder : ℕ). eqb holder seat in
        let two = two-places mine no_seat 4 (ne_eqb 4 seat (λ e. omega arith)) (holders g) c d (omega arith) (omega arith) differ
        (holds_law deal trump opening all g w seat c low ∙ at_c) (holds_law deal trump opening all g w seat d low ∙ at_d) in
        omega (arith, two, thirteen_less seat g low w, turn_plays g, dealt seat low)
