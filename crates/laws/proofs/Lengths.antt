-- How long a lawful record is: an auction that is over has at least four calls, and the record at least 20 bytes, at most 440 without codes among its cards,
-- and without a mark at most 296; codes take 65 bytes more at the most. Assumes nothing.
use Prim.Native.Nat.{ℕ, ◌+◌, ◌*◌, ◌≤◌, ◌<◌}
use native.Mathlib.Nat.{mul-zero, mul-suc}
use native.Mathlib.Omega.{arith}
use mathlib.Core.Path.{◌≡◌, refl, sym}
use mathlib.Core.Bool.{true, false}
use mathlib.Core.List.{List, [], ◌∷◌, ◌++◌, reverse}
use borrow.Author.Tests.{leb-true, eqb-true}
use lib.Dec.{eqb, leb}
use lib.ListN.{length, length-reverse}
use Rattle.laws.specs.Auction.{pass, mark, last_bid, has_bid, passes_in_a_row, is_over}
use Rattle.laws.specs.Law44.{cards_played}
use Rattle.laws.specs.Law68.{Claim, none, agreed, at_claim_point}
use Rattle.laws.specs.Events.{Event, played, exposed, choice, cards_of, cards_among, codes_of}
use Rattle.laws.specs.Record.{Parts, Field, field, row, bits, event_fields, play_fields, claim_fields, layout, encode}
use Rattle.laws.specs.Law2.{dealer}
use Rattle.laws.specs.Lawful.{Claimed, Lawful}
use Rattle.laws.specs.Lengths.{NoMark, most_bytes}
use Rattle.laws.proofs.Tests.{by_test, not_both, and_right}
use Rattle.laws.proofs.Written.{bits_append}
use Rattle.laws.proofs.Spelled.{length-packed}
use Rattle.laws.proofs.Plays.{cards-reverse}
use Rattle.laws.proofs.LongestAuction.{at_most_319_in_order}

passes_le : (h : List ℕ) → passes_in_a_row h ≤ length h
unfolding passes_in_a_row
passes_le [] = omega arith
passes_le (c ∷ h) =
    by_test (eqb c pass)
    (λ (q : eqb c pass ≡ true). rw q (omega (arith, passes_le h)))
    (λ (q : eqb c pass ≡ false). by_test (eqb c mark)
    (λ (r : eqb c mark ≡ true). rw (q, r) (omega (arith, passes_le h)))
    (λ (r : eqb c mark ≡ false). rw (q, r) (omega arith)))

-- a bid stands before the passes in a row
bid-before : (h : List ℕ) → has_bid h ≡ true → passes_in_a_row h < length h
unfolding passes_in_a_row has_bid last_bid
bid-before [] b = not_both false b refl
bid-before (c ∷ h) b =
    let more = bid-before h in
    by_test (eqb c pass)
    (λ (q : eqb c pass ≡ true). let k = more (rw (eqb-true c pass q) at b) in rw q (omega arith))
    (λ (q : eqb c pass ≡ false). by_test (eqb c mark)
    (λ (r : eqb c mark ≡ true). let k = more (rw (eqb-true c mark r) at b) in rw (q, r) (omega arith))
    (λ (r : eqb c mark ≡ false). rw (q, r) (omega arith)))

-- an auction that is over has at least four calls
pub over-four : (h : List ℕ) → is_over h ≡ true → 4 ≤ length h
unfolding is_over
over-four h o =
    by_test (has_bid h)
    (λ (q : has_bid h ≡ true). let three : 3 ≤ passes_in_a_row h = leb-true 3 (passes_in_a_row h) (rw q at o) in omega (arith, bid-before h q))
    (λ (q : has_bid h ≡ false). let four : 4 ≤ passes_in_a_row h = leb-true 4 (passes_in_a_row h) (rw q at o) in omega (arith, passes_le h))

pub bits-row : (w : ℕ) (l : List ℕ) → bits (row w l) ≡ w * length l
unfolding bits row
bits-row w [] = sym (mul-zero w)
bits-row w (v ∷ l) = omega (arith, bits-row w l, mul-suc w (length l))

pub claim-bits : (claim : Claim) → (1 ≤ bits (claim_fields claim)) × (bits (claim_fields claim) ≤ 5)
unfolding claim_fields bits
claim-bits none = (omega arith, omega arith)
claim-bits (agreed tricks) = (omega arith, omega arith)

-- a card takes six bits, and a code thirteen at the most
pub plays-bits : (plays : List Event)
    → (6 * cards_among plays ≤ bits (play_fields plays)) × (bits (play_fields plays) ≤ 6 * cards_among plays + 13 * codes_of plays)
unfolding cards_among cards_of codes_of play_fields event_fields bits
plays-bits [] = (omega arith, omega arith)
plays-bits (played c ∷ plays) = let more = plays-bits plays in (omega (arith, more.0), omega (arith, more.1))
plays-bits (exposed c deliberate ∷ plays) = let more = plays-bits plays in (omega (arith, more.0), omega (arith, more.1))
plays-bits (choice kind suit ∷ plays) = let more = plays-bits plays in (omega (arith, more.0), omega (arith, more.1))

-- the fields of a record, counted in bits
pub layout-bits : (p : Parts)
    → bits (layout p) ≡ 31 + 2 * length p.deal + 6 * length p.calls + bits (play_fields p.plays) + bits (claim_fields p.claim)
unfolding layout bits
layout-bits p =
    let last : List Field = claim_fields p.claim in
    let played : List Field = field 6 (cards_among p.plays) ∷ play_fields p.plays ++ last in
    let called : List Field = field 9 (length p.calls) ∷ row 6 p.calls ++ played in
    omega (
      arith,
      bits_append (row 2 p.deal) called,
      bits-row 2 p.deal,
      bits_append (row 6 p.calls) played,
      bits-row 6 p.calls,
      bits_append (play_fields p.plays) last,
    )

-- a lawful record has at least 20 bytes
pub at_least_20 : (p : Parts) → Lawful p → 20 ≤ length (encode p)
unfolding encode
at_least_20 p ok =
    let four : 4 ≤ length (reverse p.calls) = over-four (reverse p.calls) ok.calls.over in
    omega (arith, length-packed (layout p), layout-bits p, (claim-bits p.claim).0, ok.layout.holders, length-reverse p.calls)

-- a claim stands at 51 cards at the most
most-played : (p : Parts) → Lawful p → 6 * cards_among p.plays + bits (claim_fields p.claim) ≤ 313
unfolding claim_fields bits at_claim_point cards_played cards_among
most-played p ok = by_claim p.claim ok.claim
  where
    by_claim : (claim : Claim) → Claimed (reverse p.calls) (cards_of (reverse p.plays)) claim
        → 6 * cards_among p.plays + bits (claim_fields claim) ≤ 313
    by_claim none a = omega (arith, ok.layout.cards)
    by_claim (agreed tricks) a =
        let n = cards_among (reverse p.plays) in
        omega (arith, leb-true n 51 (and_right (leb 1 n) (leb n 51) a.1), cards-reverse p.plays)

module _ (p : Parts) (ok : Lawful p) where
  -- 31 bits of board, table and counts, 104 of the deal, six for each call and card, the claim's, and thirteen for each code among the cards
  most-bits : bits (layout p) ≤ 135 + 6 * length p.calls + 313 + 13 * codes_of p.plays
  most-bits = omega (arith, layout-bits p, (plays-bits p.plays).1, most-played p ok, ok.layout.holders)

  few-calls : NoMark p.calls → length p.calls ≤ 319
  few-calls = at_most_319_in_order (dealer p.board) p.calls ok.calls.each

  -- without codes at most 440 bytes, and without a mark at most 296
  pub at_most_440 : codes_of p.plays ≡ 0 → length (encode p) ≤ 440
  unfolding encode
  at_most_440 alone = omega (arith, length-packed (layout p), most-bits, ok.layout.calls)

  pub at_most_296 : codes_of p.plays ≡ 0 → NoMark p.calls → length (encode p) ≤ 296
  unfolding encode
  at_most_296 alone unmarked = omega (arith, length-packed (layout p), most-bits, few-calls unmarked)

  -- with the forty codes that may stand, 65 bytes more
  pub at_most_505 : length (encode p) ≤ most_bytes
  unfolding encode
  at_most_505 = omega (arith, length-packed (layout p), most-bits, ok.layout.calls, ok.cards.codes)

  pub at_most_361 : NoMark p.calls → length (encode p) ≤ 361
  unfolding encode
  at_most_361 unmarked = omega (arith, length-packed (layout p), most-bits, few-calls unmarked, ok.cards.codes)
