-- A refusal of the judge has a number from 1 to 16 or 23 to 27, and a place below 1024, for every list of numbers and buffers of any lengths. Assumes nothing.
use Rattle.std.specs.Prelude.{if◌then◌else◌}
use Prim.Native.Nat.{ℕ, zero, suc, ◌+◌, ◌*◌, ◌^◌, ◌≤◌, ◌<◌}
use native.Mathlib.Omega.{arith}
use mathlib.Core.Path.{◌≡◌, refl}
use mathlib.Core.Bool.{Bool, true, false, not, ◌&&◌, ◌||◌}
use mathlib.Core.List.{List, [], ◌∷◌}
use lib.Dec.{leb, ltb, eqb, lit≤}
use lib.ListN.{length}
use Rattle.laws.specs.Refusals.{refusal_number, refuses_record, refuses_to_last_card, refuses_behind}
use Rattle.laws.specs.Refusals.{accepted, short_buffer, record_ends, no_board_or_table, not_thirteen, auction_unfinished}
use Rattle.laws.specs.Refusals.{too_many_cards, play_unfinished, no_claim_point, claim_too_many, not_padding, too_many_codes}
use Rattle.laws.specs.Cards.{no_seat, has_thirteen, first_without_thirteen, seat_without_thirteen}
use Rattle.laws.specs.Law2.{dealer}
use Rattle.laws.specs.Auction.{is_over, passed_out, trump_after, opening_after}
use Rattle.laws.specs.CallRefusal.{call_refusal, call_place}
use Rattle.laws.specs.Law44.{cards_played, all_played}
use Rattle.laws.specs.CardRefusal.{card_refusal}
use Rattle.laws.specs.Events.{Event, played, exposure_code, begins_code, cards_of, cards_among}
use Rattle.laws.specs.CodeRefusal.{most_codes, exposure_refusal, choice_refusal}
use Rattle.laws.specs.Plays.{play_place, refuse_by, read_exposed, read_choice, read_code, read_plays}
use Rattle.laws.specs.Law68.{at_claim_point, claimable}
use Rattle.laws.specs.Record.{Parts}
use Rattle.laws.specs.Reading.{number_at, Reading, Reading.refused, Reading.found, onward, read, refuse, read_row, read_each, overfull, ending}
use Rattle.laws.specs.Judge.{read_heading, read_deal, read_calls, read_cards, read_no_claim, read_marked_claim, read_claim, read_record, read_lent}
use Rattle.laws.specs.LastCard.{ToLastCard, read_to_last_card, read_behind}
use Rattle.laws.specs.Judge.{Outcome, Outcome.refused as declined, Outcome.accepted as taken, outcome, Rooms, judge_of}
use Rattle.laws.proofs.Tests.{by_test, not_both}
use Rattle.laws.proofs.Bits.{number_lt}
use Rattle.laws.proofs.CallRefusals.{numbered_by, call-place-le}
use Rattle.laws.proofs.CardRefusals.{numbered_by as card-numbered}
use Rattle.laws.proofs.CodeRefusals.{exposure-numbered, choice-numbered}
use Rattle.laws.proofs.CodesRead.{code_found}
use Rattle.laws.proofs.Plays.{cards-reverse}
use Rattle.laws.proofs.RecordNumbers.{record_to_last_card, record_behind}
use Rattle.laws.proofs.LastCard.{record_is, last-card-found}

-- a refusal's number passes a test, and its place is below 1024
pub record Numbered (test : ℕ → Bool) (n place : ℕ) : Type 0 where
  pub number : test n ≡ true
  pub place_lt : place < 1024

pub at_place : {test : ℕ → Bool} {n place : ℕ} → test n ≡ true → place < 1024 → Numbered test n place
at_place e l = record { number = e; place_lt = l }

-- a reading that is refused is so numbered
abbrev pub Fair : (ℕ → Bool) → {A : Type 0} → Reading A → Type 0
Fair test (refused n place) = Numbered test n place
Fair test (found a at) = Unit {0}

-- by a test that passes more
fair_more : (s t : ℕ → Bool) {A : Type 0} → ((n : ℕ) → s n ≡ true → t n ≡ true) → (r : Reading A) → Fair s r → Fair t r
fair_more s t more (refused n place) f = at_place (more n f.number) f.place_lt
fair_more s t more (found a at) f = tt

module _ (test : ℕ → Bool) {B : Type 0} where
  pub fair_on : {A : Type 0} (r : Reading A) (next : A → ℕ → Reading B) → Fair test r → ((a : A) (m : ℕ) → r ≡ found a m → Fair test (next a m))
      → Fair test (onward r next)
  fair_on (refused n place) next f g = f
  fair_on (found a m) next f g = g a m refl

  pub fair_read : (w : ℕ) (bytes : List ℕ) (at : ℕ) (next : ℕ → ℕ → Reading B) → test record_ends ≡ true → ((v : ℕ) → v < 2 ^ w → Fair test (next v (at + w)))
      → Fair test (onward (read w bytes at) next)
  unfolding read
  fair_read w bytes at next ends g = go (leb (at + w) (8 * length bytes))
    where
      go : (b : Bool) → Fair test (onward (if b then found (number_at bytes at w) (at + w) else refused record_ends 0) next)
      go true = g (number_at bytes at w) (number_lt bytes at w)
      go false = at_place ends (omega arith)

  pub fair_test : (n place : ℕ) (met : Bool) (bytes : List ℕ) (at : ℕ) (next : Unit {0} → ℕ → Reading B) → (met ≡ true → Numbered test n place)
      → Fair test (next tt at)
      → Fair test (onward (refuse n place met bytes at) next)
  unfolding refuse
  fair_test n place true bytes at next f g = f refl
  fair_test n place false bytes at next f g = g

-- a refusal so numbered is not 0
pub not_0 : {test : ℕ → Bool} {n place : ℕ} → test 0 ≡ false → Numbered test n place → refusal_number n place ≡ 0 → ⊥
not_0 {test} {n} none f z =
    let e : n ≡ 0 = omega arith in
    not_both (test 0) (rw e at f.number) none

-- ---- the sections up to the last card
abbrev up_to : ℕ → Bool
up_to = refuses_to_last_card

fair_row : (w n : ℕ) (bytes : List ℕ) (at : ℕ) → Fair refuses_to_last_card (read_row w n bytes at)
unfolding read_row
fair_row w zero bytes at = tt
fair_row w (suc n) bytes at =
    fair_read up_to w bytes at _ refl (λ v l. fair_on up_to (read_row w n bytes (at + w)) _ (fair_row w n bytes (at + w)) (λ rest m q. tt))

fair_each : (w : ℕ) (place rule : List ℕ → ℕ → ℕ) → ((h : List ℕ) (c : ℕ) → place h c ≤ length h)
    → ((h : List ℕ) (c : ℕ) → not (eqb (rule h c) accepted) ≡ true → refuses_to_last_card (rule h c) ≡ true)
    → (n : ℕ) (h bytes : List ℕ) (at : ℕ) → length h + n < 1024 → Fair refuses_to_last_card (read_each w place rule n h bytes at)
unfolding read_each
fair_each w place rule p r zero h bytes at l = tt
fair_each w place rule p r (suc n) h bytes at l =
    fair_read up_to w bytes at _ refl (λ c k.
    fair_test up_to (rule h c) (place h c) (not (eqb (rule h c) accepted)) bytes (at + w) _ (λ t. at_place (r h c t) (omega (arith, p h c)))
    (fair_each w place rule p r n (c ∷ h) bytes (at + w) (omega arith)))

pub fair_heading : (bytes : List ℕ) (at : ℕ) → Fair refuses_to_last_card (read_heading bytes at)
unfolding read_heading
fair_heading bytes at =
    fair_read up_to 7 bytes at _ refl (λ board lb. fair_read up_to 9 bytes (at + 7) _ refl (λ table lt.
    fair_test up_to no_board_or_table 0 (eqb board 0) bytes (at + 7 + 9) _ (λ t. at_place refl (omega arith))
    (fair_test up_to no_board_or_table 1 (eqb table 0) bytes (at + 7 + 9) _ (λ t. at_place refl (omega arith)) tt)))

-- the first seat without thirteen cards, or nobody, is at most 4
next-short : (deal : List ℕ) (seat : ℕ) (rest : List ℕ) → seat ≤ 4 → first_without_thirteen deal rest ≤ 4 → first_without_thirteen deal (seat ∷ rest) ≤ 4
unfolding first_without_thirteen
next-short deal seat rest l more =
    by_test (has_thirteen seat deal)
    (λ (q : has_thirteen seat deal ≡ true). rw q more)
    (λ (q : has_thirteen seat deal ≡ false). rw q l)

no_short : (deal : List ℕ) → first_without_thirteen deal [] ≤ 4
unfolding first_without_thirteen
no_short deal = lit≤ tt

pub short-le : (deal : List ℕ) → seat_without_thirteen deal ≤ 4
short-le deal =
    next-short deal 0 _ (lit≤ tt) (next-short deal 1 _ (lit≤ tt) (next-short deal 2 _ (lit≤ tt) (next-short deal 3 [] (lit≤ tt) (no_short deal))))

pub fair_deal : (bytes : List ℕ) (at : ℕ) → Fair refuses_to_last_card (read_deal bytes at)
unfolding read_deal
fair_deal bytes at =
    fair_on up_to (read_row 2 52 bytes at) _ (fair_row 2 52 bytes at) (λ deal m q.
    fair_test up_to not_thirteen (seat_without_thirteen deal) (not (eqb (seat_without_thirteen deal) no_seat)) bytes m _
    (λ t. at_place refl (omega (arith, short-le deal))) tt)

-- the codes of the calls
pub fair_codes : (d n : ℕ) (bytes : List ℕ) (at : ℕ) → n < 1024 → Fair refuses_to_last_card (read_each 6 (call_place d) (call_refusal d) n [] bytes at)
fair_codes d n bytes at few =
    fair_each 6 (call_place d) (call_refusal d) (call-place-le d) (λ h c. numbered_by d h c refuses_to_last_card refl refl refl refl refl)
    n [] bytes at (omega arith)

pub fair_calls : (d : ℕ) (bytes : List ℕ) (at : ℕ) → Fair refuses_to_last_card (read_calls d bytes at)
unfolding read_calls
fair_calls d bytes at =
    fair_read up_to 9 bytes at _ refl (λ n ln.
    fair_on up_to (read_each 6 (call_place d) (call_refusal d) n [] bytes (at + 9)) _
    (fair_codes d n bytes (at + 9) (omega arith)) (λ h m q.
    fair_test up_to auction_unfinished n (not (is_over h)) bytes m _ (λ t. at_place refl (omega arith)) tt))

-- the cards and the codes before them
module _ (trump opening : ℕ) (deal : List ℕ) where
  pub fair_code : (code : ℕ) (e : List Event) (bytes : List ℕ) (at : ℕ) → play_place e < 1024
      → Fair refuses_to_last_card (read_code trump opening deal code e bytes at)
  unfolding read_exposed read_choice
  fair_code code e bytes at l = either (eqb code exposure_code)
    where
      either : (b : Bool) → Fair refuses_to_last_card ((if b then read_exposed trump opening deal e else read_choice trump opening deal e) bytes at)
      either true =
          fair_read up_to 6 bytes at _ refl (λ card lc. fair_read up_to 1 bytes (at + 6) _ refl (λ bit lb.
          let n = exposure_refusal trump opening deal e card in
          fair_test up_to n (play_place e) (not (eqb n accepted)) bytes (at + 6 + 1) _
          (λ t. at_place (exposure-numbered trump opening deal e refuses_to_last_card card refl t) l) tt))
      either false =
          fair_read up_to 2 bytes at _ refl (λ kind lk. fair_read up_to 2 bytes (at + 2) _ refl (λ suit ls.
          let n = choice_refusal trump opening deal e kind suit in
          fair_test up_to n (play_place e) (not (eqb n accepted)) bytes (at + 2 + 2) _
          (λ t. at_place (choice-numbered trump opening deal e refuses_to_last_card kind suit refl t) l) tt))

  fair_card : (n left : ℕ) (e : List Event) (bytes : List ℕ) (at code : ℕ) → play_place e + suc n < 1024
      → Fair refuses_to_last_card (read_plays trump opening deal n left (played code ∷ e) bytes (at + 6))
      → Fair refuses_to_last_card (onward (refuse_by (card_refusal trump opening deal (cards_of e) code) e bytes (at + 6))
      (λ _ m. read_plays trump opening deal n left (played code ∷ e) bytes m))
  fair_card n left e bytes at code l next =
      let number = card_refusal trump opening deal (cards_of e) code in
      fair_test up_to number (play_place e) (not (eqb number accepted)) bytes (at + 6) _
      (λ t. at_place (card-numbered trump opening deal (cards_of e) code refuses_to_last_card refl refl refl t) (omega arith)) next

  pub fair_plays : (n left : ℕ) (e : List Event) (bytes : List ℕ) (at : ℕ) → play_place e + n < 1024
      → Fair refuses_to_last_card (read_plays trump opening deal n left e bytes at)
  unfolding read_plays cards_played cards_of
  fair_plays zero left e bytes at l = tt
  fair_plays (suc n) zero e bytes at l =
      fair_read up_to 6 bytes at _ refl (λ code lc.
      fair_test up_to too_many_codes (play_place e) (begins_code code) bytes (at + 6) _ (λ t. at_place refl (omega arith))
      (fair_card n zero e bytes at code l (fair_plays n zero (played code ∷ e) bytes (at + 6) (omega arith))))
  fair_plays (suc n) (suc left) e bytes at l =
      fair_read up_to 6 bytes at _ refl (λ code lc. by_test (begins_code code)
      (λ (q : begins_code code ≡ true).
      rw q (fair_on up_to (read_code trump opening deal code e bytes (at + 6)) _ (fair_code code e bytes (at + 6) (omega arith)) (λ after m found-there.
      let same = (code_found trump opening deal code e bytes (at + 6) found-there).cards in
      fair_plays (suc n) left after bytes m (rw same l))))
      (λ (q : begins_code code ≡ false).
      rw q (fair_card n (suc left) e bytes at code l (fair_plays n (suc left) (played code ∷ e) bytes (at + 6) (omega arith)))))

pub fair_cards : (d : ℕ) (deal h bytes : List ℕ) (at : ℕ) → Fair refuses_to_last_card (read_cards d deal h bytes at)
unfolding read_cards cards_played cards_of
fair_cards d deal h bytes at =
    fair_read up_to 6 bytes at _ refl (λ n ln.
    fair_test up_to too_many_cards n (ltb 52 n || (passed_out h && ltb 0 n)) bytes (at + 6) _ (λ t. at_place refl (omega arith))
    (fair_plays (trump_after h) (opening_after d h) deal n most_codes [] bytes (at + 6) (omega arith)))

pub fair_claim : (h g bytes : List ℕ) (at : ℕ) → length g ≤ 52 → Fair refuses_behind (read_claim h g bytes at)
unfolding read_claim read_no_claim read_marked_claim cards_played
fair_claim h g bytes at l = fair_read refuses_behind 1 bytes at _ refl (λ mark lm. either (eqb mark 0))
  where
    either : (b : Bool) → Fair refuses_behind ((if b then read_no_claim h g else read_marked_claim h g) bytes (at + 1))
    either true =
        fair_test refuses_behind play_unfinished (cards_played g) (not (passed_out h) && not (all_played g)) bytes (at + 1) _
        (λ t. at_place refl (omega arith)) tt
    either false =
        fair_test refuses_behind no_claim_point (cards_played g) (passed_out h || not (at_claim_point g)) bytes (at + 1) _ (λ t. at_place refl (omega arith))
        (fair_read refuses_behind 4 bytes (at + 1) _ refl (λ tricks lt.
        fair_test refuses_behind claim_too_many tricks (not (claimable g tricks)) bytes (at + 1 + 4) _ (λ t. at_place refl (omega arith)) tt))

-- ---- the whole
pub fair_last_card : (bytes : List ℕ) → Fair refuses_to_last_card (read_to_last_card bytes 0)
unfolding read_to_last_card
fair_last_card bytes =
    fair_on up_to (read_heading bytes 0) _ (fair_heading bytes 0) (λ x m₁ q₁.
    let d : ℕ = dealer x.board in
    fair_on up_to (read_deal bytes m₁) _ (fair_deal bytes m₁) (λ deal m₂ q₂.
    fair_on up_to (read_calls d bytes m₂) _ (fair_calls d bytes m₂) (λ h m₃ q₃.
    fair_on up_to (read_cards d deal h bytes m₃) _ (fair_cards d deal h bytes m₃) (λ e m₄ q₄. tt))))

pub fair_behind : (bytes : List ℕ) (r : ToLastCard) (at : ℕ) → read_to_last_card bytes 0 ≡ found r at → Fair refuses_behind (read_behind r bytes at)
unfolding read_behind ending cards_among
fair_behind bytes r at q =
    let few = (last-card-found bytes r at q).played.count in
    fair_on refuses_behind (read_claim r.calls (cards_of r.plays) bytes at) _
    (fair_claim r.calls (cards_of r.plays) bytes at (omega (arith, few, cards-reverse r.plays))) (λ t m p.
    fair_test refuses_behind not_padding 0 (overfull bytes m) bytes m _ (λ t. at_place refl (omega arith)) tt)

fair_record : (bytes : List ℕ) → Fair refuses_record (read_record bytes 0)
fair_record bytes =
    rw (record_is bytes)
    (fair_on refuses_record (read_to_last_card bytes 0) _
    (fair_more refuses_to_last_card refuses_record record_to_last_card (read_to_last_card bytes 0) (fair_last_card bytes)) (λ r at q.
    fair_more refuses_behind refuses_record record_behind (read_behind r bytes at) (fair_behind bytes r at q)))

fair_lent : (rooms : Rooms) (bytes : List ℕ) → Fair refuses_record (read_lent rooms bytes 0)
unfolding read_lent
fair_lent rooms bytes =
    fair_test refuses_record short_buffer 0 (ltb rooms.answer 7) bytes 0 _ (λ t. at_place refl (omega arith))
    (fair_test refuses_record short_buffer 1 (ltb rooms.list 48) bytes 0 _ (λ t. at_place refl (omega arith))
    (fair_test refuses_record short_buffer 2 (ltb rooms.failures 52) bytes 0 _ (λ t. at_place refl (omega arith))
    (fair_test refuses_record short_buffer 3 (ltb rooms.winners 26) bytes 0 _ (λ t. at_place refl (omega arith)) (fair_record bytes))))

-- an outcome that is a refusal is so numbered
abbrev pub Ruled : Outcome → Type 0
Ruled (declined n place) = Numbered refuses_record n place
Ruled (taken p) = Unit {0}

pub ruled : (bytes : List ℕ) (rooms : Rooms) → Ruled (judge_of bytes rooms)
unfolding judge_of
ruled bytes rooms = go (read_lent rooms bytes 0) (fair_lent rooms bytes)
  where
    go : (r : Reading Parts) → Fair refuses_record r → Ruled (outcome r)
    go (refused n place) f = f
    go (found p m) f = tt
