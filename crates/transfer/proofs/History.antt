-- What the play tells is what Law 64 counts on: the revokes and the winners of the history. Assumes nothing.
use Prim.Native.Nat.{ℕ, ◌≤◌, ◌<◌}
use mathlib.Core.Path.{◌≡◌, refl, sym, ap, ap₂, ◌∙◌}
use mathlib.Core.Bool.{Bool, true, false}
use mathlib.Core.List.{List, [], ◌∷◌, ◌++◌, map, map-map}
use native.Mathlib.Omega.{arith}
use borrow.Author.Tests.{eqb-false}
use lib.Dec.{eqb}
use lib.ListN.{length, take, length-map}
use Rattle.laws.specs.Padded.{padded}
use Rattle.laws.specs.Cards.{partner_of, cards_dealt}
use Rattle.laws.specs.Law44.{cards_played, tricks_complete, won_tricks, winners}
use Rattle.laws.specs.Events.{Event, played, exposed, choice, cards_of, list_plays}
use Rattle.laws.specs.Law51.{no_suit, required}
use Rattle.laws.specs.LeadRevoke.{leads, disobeys, listed_suit, revoke_by, Counted, listed_as, counted_by, counted_revokes, all_revokes}
use Rattle.laws.specs.Kept.{NoneRefused}
use Rattle.laws.specs.Law64.{transferred_tricks}
use Rattle.laws.specs.Judgement
use Rattle.laws.proofs.Tests.{by_test}
use Rattle.laws.proofs.Padded.{padded_back, take-map}
use Rattle.laws.proofs.Revokes.{revoke-exactly}
use Rattle.laws.proofs.KeptChoices.{kept_choices}
use Rattle.laws.proofs.LeadRevokes.{following, counted-listed}
use Rattle.play.specs.Words.{bit_of}
use Rattle.play.specs.Told.{revoke_byte, no_trick, seats_of}
use Rattle.play.specs.declared.Won.{Won}
use Rattle.play.specs.History.{told_of, tricks_of, byte_of}
use Rattle.play.proofs.Holders.{turn_seat}
use Rattle.play.proofs.Thirteen.{at_most_52}
use Rattle.play.proofs.Complete.{answers-count}
use Rattle.position.specs.declared.listed.Listed.{Listed}
use Rattle.position.specs.Listed.{listed_of}
use Rattle.position.proofs.AtMost.{cards-allowed, card-held, at_most_48}
use Rattle.transfer.specs.Inputs.{counted_of, counted_in, revokes_in, winners_in, claimed_by, transferred_in}

-- ---- a revoke whose parts fit their bits is read back from its byte
record Within (r : Counted) : Type 0 where
  trick : r.trick < 16
  seat : r.seat < 4
  suit : r.suit < 4

AllWithin : List Counted → Type 0
AllWithin [] = Unit {0}
AllWithin (r ∷ rs) = Within r × AllWithin rs

same-counted : (r s : Counted) → r.trick ≡ s.trick → r.seat ≡ s.seat → r.suit ≡ s.suit → r.excused ≡ s.excused → r ≡ s
same-counted r s e f g h = rw (← e, ← f, ← g, ← h)

bit_back : (b : Bool) → eqb (bit_of b) 1 ≡ b
bit_back true = refl
bit_back false = refl

byte_back : (r : Counted) → Within r → counted_of (byte_of (listed_as r)) (bit_of r.excused) ≡ r
unfolding revoke_byte
byte_back r w =
    same-counted (counted_of (byte_of (listed_as r)) (bit_of r.excused)) r (omega (arith, w)) (omega (arith, w)) (omega (arith, w)) (bit_back r.excused)

-- the bytes of revokes, and their bits
abbrev bytes_for : List Counted → List ℕ
bytes_for rs = map byte_of (map listed_as rs)

abbrev bits_for : List Counted → List ℕ
bits_for rs = map (λ (r : Counted). bit_of r.excused) rs

counted_back : (rs : List Counted) → AllWithin rs → counted_in (bytes_for rs) (bits_for rs) ≡ rs
unfolding AllWithin counted_in
counted_back [] w = refl
counted_back (r ∷ rs) w = ap₂ (λ (x : Counted) (xs : List Counted). x ∷ xs) (byte_back r w.0) (counted_back rs w.1)

plain : (rs : List Counted) → AllWithin rs → bytes_for rs ≡ map Judgement.revoke_byte (map listed_as rs)
unfolding AllWithin revoke_byte Judgement.revoke_byte
plain [] w = refl
plain (r ∷ rs) w = ap₂ (λ (x : ℕ) (xs : List ℕ). x ∷ xs) (omega (arith, w.0)) (plain rs w.1)

all_append : (rs ss : List Counted) → AllWithin rs → AllWithin ss → AllWithin (rs ++ ss)
unfolding AllWithin
all_append [] ss v w = w
all_append (r ∷ rs) ss v w = (v.0, all_append rs ss v.1 w)

-- the winners from the answers as the code has them
pub seats-told : (trump opening : ℕ) (g : List ℕ) → seats_of (map told_of (won_tricks trump opening g)) ≡ winners trump opening g
unfolding winners
seats-told trump opening g = map-map (λ (x : Won). x.seat) told_of (won_tricks trump opening g)

pub few-tricks : (trump opening : ℕ) (g : List ℕ) → cards_played g ≤ 52 → length (won_tricks trump opening g) ≤ 13
unfolding tricks_complete
few-tricks trump opening g h = omega (arith, answers-count trump opening g)

module _ (deal : List ℕ) (trump opening : ℕ) where
  -- the revokes of a history as the code lists them
  abbrev pub listed_for : List Event → Listed
  listed_for e = listed_of (map byte_of (all_revokes trump opening deal e)) (map (λ (r : Counted). bit_of r.excused) (counted_revokes trump opening deal e))

module _ (deal : List ℕ) (trump opening : ℕ) (all : length deal ≡ 52) (dealt : (seat : ℕ) → seat < 4 → cards_dealt seat deal ≡ 13) where
  -- a revoke is listed with one of the four suits
  suit-low : (c : ℕ) (e : List Event) → NoneRefused trump opening deal (played c ∷ e) → disobeys trump opening deal e c ≡ true → listed_suit e c < 4
  unfolding listed_suit NoneRefused
  suit-low c e w q =
      by_test (leads e)
      (λ (l : leads e ≡ true). rw l (by_test (eqb (required e) no_suit)
      (λ (n : eqb (required e) no_suit ≡ true). rw n (omega (arith, (card-held deal trump opening c e w).0)))
      (λ (n : eqb (required e) no_suit ≡ false). rw n ((kept_choices trump opening deal e w.1).required_suit (eqb-false (required e) no_suit n)))))
      (λ (l : leads e ≡ false).
      let r = (revoke-exactly trump opening deal (cards_of e) c).0 (sym (following trump opening deal e c l) ∙ q) in
      rw l (omega (arith, r.could_card, r.could_suit)))

  revoke-within : (c : ℕ) (e : List Event) → NoneRefused trump opening deal (played c ∷ e) → disobeys trump opening deal e c ≡ true
      → Within (counted_by trump opening deal e c)
  unfolding counted_by revoke_by cards_of cards_played tricks_complete
  revoke-within c e w q =
      let few = at_most_52 deal trump opening all (c ∷ cards_of e) (cards-allowed deal trump opening (played c ∷ e) w) in
      record { trick = omega arith; seat = turn_seat trump opening (cards_of e); suit = suit-low c e w q }

  all-within : (e : List Event) → NoneRefused trump opening deal e → AllWithin (counted_revokes trump opening deal e)
  unfolding NoneRefused AllWithin counted_revokes list_plays
  all-within [] w = tt
  all-within (played c ∷ e) w =
      by_test (disobeys trump opening deal e c)
      (λ (q : disobeys trump opening deal e c ≡ true).
      rw q (all_append (counted_revokes trump opening deal e) _ (all-within e w.1) (revoke-within c e w q, tt)))
      (λ (q : disobeys trump opening deal e c ≡ false). rw q (all_append (counted_revokes trump opening deal e) [] (all-within e w.1) tt))
  all-within (exposed c deliberate ∷ e) w = all-within e w.1
  all-within (choice kind suit ∷ e) w = all-within e w.1

  module _ (e : List Event) (w : NoneRefused trump opening deal e) where
    abbrev cs : List Counted
    cs = counted_revokes trump opening deal e

    bytes-is : map byte_of (all_revokes trump opening deal e) ≡ bytes_for cs
    bytes-is = ap (map byte_of) (sym (counted-listed trump opening deal e))

    as_many : length (bytes_for cs) ≡ length (bits_for cs)
    as_many =
        length-map (map listed_as cs) byte_of ∙ length-map cs listed_as ∙ sym (length-map cs (λ (r : Counted). bit_of r.excused))

    few : length (bytes_for cs) ≤ 48
    few = rw (← bytes-is, length-map (all_revokes trump opening deal e) byte_of) (at_most_48 deal trump opening all dealt e w)

    -- the list of revokes, read back, is the Laws'
    pub revokes_back : revokes_in (listed_for deal trump opening e) ≡ cs
    unfolding revokes_in
    revokes_back =
        let free : take (length (bytes_for cs)) (padded 0 48 (bits_for cs)) ≡ bits_for cs = rw as_many (padded_back 0 48 (bits_for cs) (rw (← as_many) few)) in
        rw (bytes-is, padded_back 0 48 (bytes_for cs) few, free) (counted_back cs (all-within e w))

    pub winners_back : winners_in (tricks_of trump opening (cards_of e)) ≡ winners trump opening (cards_of e)
    unfolding winners_in tricks_of
    winners_back =
        let g = cards_of e in
        let ws = map told_of (won_tricks trump opening g) in
        let most = at_most_52 deal trump opening all g (cards-allowed deal trump opening e w) in
        let many : length ws ≡ length (won_tricks trump opening g) = length-map (won_tricks trump opening g) told_of in
        take-map (λ (x : Won). x.seat) (length ws) (padded no_trick 13 ws)
        ∙ ap seats_of (padded_back no_trick 13 ws (rw many (few-tricks trump opening g most)))
        ∙ seats-told trump opening g

    -- the theorem: the count on what the play tells is Law 64 on the history
    pub transferred_law : (declarer claim left : ℕ)
        → transferred_in (listed_for deal trump opening e) (tricks_of trump opening (cards_of e)) declarer claim left
        ≡ transferred_tricks (partner_of declarer) (winners trump opening (cards_of e)) (claimed_by declarer claim left) cs
    unfolding transferred_in
    transferred_law declarer claim left = rw (revokes_back, winners_back)

    -- the bytes of the list are the revokes' numbers as they are, since each part fits its bits
    pub plain-bytes : map byte_of (all_revokes trump opening deal e) ≡ map Judgement.revoke_byte (all_revokes trump opening deal e)
    plain-bytes = bytes-is ∙ plain cs (all-within e w) ∙ ap (map Judgement.revoke_byte) (counted-listed trump opening deal e)
