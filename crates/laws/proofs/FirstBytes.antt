-- What the judge says of any bytes it says of their first 506: no section reads behind them, and a byte more than an accepted record can have is one too
-- many however many follow. Up to its last card a record is read within the first 505. Assumes nothing.
use Rattle.std.specs.Prelude.{if◌then◌else◌}
use Prim.Native.Nat.{ℕ, zero, suc, ◌+◌, ◌-◌, ◌*◌, ◌/◌, ◌^◌, ◌≤◌, ◌<◌}
use native.Mathlib.Nat.{mul-suc}
use native.Mathlib.Omega.{arith}
use mathlib.Core.Path.{◌≡◌, refl, sym, ap, ◌∙◌}
use mathlib.Core.Bool.{Bool, true, false, not, ◌&&◌, ◌||◌}
use mathlib.Core.List.{List, [], ◌∷◌, reverse}
use borrow.Author.Tests.{le-leb, ltb-true, ltb-false, eqb-true, not-false}
use lib.Dec.{ltb, eqb}
use lib.ListN.{length, take, length-reverse}
use lib.Seq.{length-take-le, get_or-take, take_all}
use Rattle.laws.specs.Refusals.{accepted, no_board_or_table, not_thirteen, auction_unfinished, short_buffer}
use Rattle.laws.specs.Refusals.{too_many_cards, play_unfinished, no_claim_point, claim_too_many, too_many_codes}
use Rattle.laws.specs.Cards.{no_seat, seat_without_thirteen}
use Rattle.laws.specs.Law2.{dealer}
use Rattle.laws.specs.Auction.{is_over, passed_out, trump_after, opening_after}
use Rattle.laws.specs.CallRefusal.{call_refusal, call_place}
use Rattle.laws.specs.Law44.{cards_played, all_played}
use Rattle.laws.specs.CardRefusal.{card_refusal}
use Rattle.laws.specs.Events.{Event, played, exposure_code, begins_code, cards_of}
use Rattle.laws.specs.CodeRefusal.{most_codes, exposure_refusal, choice_refusal}
use Rattle.laws.specs.Plays.{play_place, read_exposed, read_choice, read_code, read_plays}
use Rattle.laws.specs.Law68.{at_claim_point, claimable}
use Rattle.laws.specs.Record.{bits}
use Rattle.laws.specs.Reading.{bit_at, number_at, Reading, Reading.found, onward, read, refuse, read_row, read_each, overfull, ending}
use Rattle.laws.specs.Judge.{read_heading, read_deal, read_calls, read_cards, read_no_claim, read_marked_claim}
use Rattle.laws.specs.Judge.{read_claim, read_record, read_lent, outcome, Rooms, judge_of}
use Rattle.laws.specs.LastCard.{read_to_last_card, read_behind}
use Rattle.laws.specs.Lengths.{most_bytes, deciding_bytes}
use Rattle.laws.proofs.Tests.{by_test, or_left}
use Rattle.laws.proofs.Bits.{number_lt}
use Rattle.laws.proofs.Readings.{read_is}
use Rattle.laws.proofs.Lengths.{bits-row, claim-bits}
use Rattle.laws.proofs.CodesRead.{code_found}
use Rattle.laws.proofs.Sections.{heading_exact, deal_exact, calls_exact}
use Rattle.laws.proofs.LastCard.{alike, record_is, last-card-found}
use Rattle.laws.proofs.Claims.{claim_exact}

-- two readings that go on alike from what two equal ones found
module _ {A B : Type 0} (f g : A → ℕ → Reading B) where
  same_on : (r s : Reading A) → r ≡ s → ((a : A) (m : ℕ) → r ≡ found a m → f a m ≡ g a m) → onward r f ≡ onward s g
  same_on r s e next = rw (sym e) (alike f g r next)

-- a test is the same of any bytes
module _ {B : Type 0} (n place : ℕ) (bytes other : List ℕ) (at : ℕ) (f g : Unit {0} → ℕ → Reading B) where
  same_test : (test : Bool) → (test ≡ false → f tt at ≡ g tt at) → onward (refuse n place test bytes at) f ≡ onward (refuse n place test other at) g
  unfolding refuse
  same_test true next = refl
  same_test false next = next refl

-- bytes, of which there are at least `most`, and their first `most`
module _ (most : ℕ) (bytes : List ℕ) (long : most ≤ length bytes) where
  abbrev front : List ℕ
  front = take most bytes

  front_length : length front ≡ most
  front_length = length-take-le most bytes long

  same_bit : (i : ℕ) → i < 8 * most → bit_at bytes i ≡ bit_at front i
  unfolding bit_at
  same_bit i h = rw (get_or-take most bytes (i / 8) 0 (omega arith))

  same_number : (at w : ℕ) → at + w ≤ 8 * most → number_at bytes at w ≡ number_at front at w
  unfolding number_at
  same_number at zero h = refl
  same_number at (suc w) h = rw (same_number at w (omega arith), same_bit (at + w) (omega arith))

  -- ---- a field, a row, and codes in a row
  module _ {B : Type 0} (w at : ℕ) (f g : ℕ → ℕ → Reading B) (within : at + w ≤ 8 * most) where
    same-field : ((v : ℕ) → v < 2 ^ w → f v (at + w) ≡ g v (at + w)) → onward (read w bytes at) f ≡ onward (read w front at) g
    same-field next =
        rw (
          read_is w bytes at refl (omega arith),
          read_is w front at (sym (same_number at w within)) (rw front_length within),
        ) (next (number_at bytes at w) (number_lt bytes at w))

  same_row : (w n at : ℕ) → at + w * n ≤ 8 * most → read_row w n bytes at ≡ read_row w n front at
  unfolding read_row
  same_row w zero at h = refl
  same_row w (suc n) at h =
      let more : at + w + w * n ≤ 8 * most = omega (arith, mul-suc w n) in
      same-field w at _ _ (omega arith) (λ v low. same_on _ _ _ _ (same_row w n (at + w) more) (λ rest m q. refl))

  -- codes that a rule judges: where a turn is reached, its code stands within the first bytes
  module _ (w : ℕ) (place rule : List ℕ → ℕ → ℕ) (Reached : ℕ → List ℕ → ℕ → Type 0)
      (within : (n : ℕ) (h : List ℕ) (at : ℕ) → Reached (suc n) h at → at + w ≤ 8 * most)
      (goes_on : (n : ℕ) (h : List ℕ) (at c : ℕ) → rule h c ≡ accepted → Reached (suc n) h at → Reached n (c ∷ h) (at + w)) where
    same-each : (n : ℕ) (h : List ℕ) (at : ℕ) → Reached n h at → read_each w place rule n h bytes at ≡ read_each w place rule n h front at
    unfolding read_each
    same-each zero h at r = refl
    same-each (suc n) h at r =
        same-field w at _ _ (within n h at r) (λ c low.
        same_test (rule h c) (place h c) bytes front (at + w) _ _ (not (eqb (rule h c) accepted)) (λ t.
        same-each n (c ∷ h) (at + w) (goes_on n h at c (eqb-true (rule h c) accepted (not-false _ t)) r)))

  -- ---- the sections
  same-heading : (at : ℕ) → at + 16 ≤ 8 * most → read_heading bytes at ≡ read_heading front at
  unfolding read_heading
  same-heading at h =
      same-field 7 at _ _ (omega arith) (λ board lb. same-field 9 (at + 7) _ _ (omega arith) (λ table lt.
      same_test no_board_or_table 0 bytes front (at + 7 + 9) _ _ (eqb board 0) (λ b.
      same_test no_board_or_table 1 bytes front (at + 7 + 9) _ _ (eqb table 0) (λ t. refl))))

  same-deal : (at : ℕ) → at + 104 ≤ 8 * most → read_deal bytes at ≡ read_deal front at
  unfolding read_deal
  same-deal at h =
      same_on _ _ _ _ (same_row 2 52 at h) (λ deal m q.
      same_test not_thirteen (seat_without_thirteen deal) bytes front m _ _ (not (eqb (seat_without_thirteen deal) no_seat)) (λ t. refl))

  -- so many codes of six bits as are counted, where those of the greatest count stand within the first bytes
  counted : (place rule : List ℕ → ℕ → ℕ) (n at : ℕ) → at + 6 * n ≤ 8 * most → read_each 6 place rule n [] bytes at ≡ read_each 6 place rule n [] front at
  counted place rule n at room =
      same-each 6 place rule (λ k h m. m + 6 * k ≤ 8 * most) (λ k h m r. omega (arith, r)) (λ k h m c e r. omega (arith, r)) n [] at room

  -- at most 511 codes of calls are read
  same-calls : (d at : ℕ) → at + 9 + 6 * 511 ≤ 8 * most → read_calls d bytes at ≡ read_calls d front at
  unfolding read_calls
  same-calls d at h =
      same-field 9 at _ _ (omega arith) (λ n ln. same_on _ _ _ _ (counted (call_place d) (call_refusal d) n (at + 9) (omega arith))
      (λ calls m q. same_test auction_unfinished n bytes front m _ _ (not (is_over calls)) (λ t. refl)))

  -- what follows a code
  same_code : (trump opening : ℕ) (deal : List ℕ) (code : ℕ) (e : List Event) (at : ℕ) → at + 7 ≤ 8 * most
      → read_code trump opening deal code e bytes at ≡ read_code trump opening deal code e front at
  unfolding read_exposed read_choice
  same_code trump opening deal code e at room = either (eqb code exposure_code)
    where
      either : (b : Bool)
          → (if b then read_exposed trump opening deal e else read_choice trump opening deal e) bytes at
          ≡ (if b then read_exposed trump opening deal e else read_choice trump opening deal e) front at
      either true =
          same-field 6 at _ _ (omega arith) (λ card lc. same-field 1 (at + 6) _ _ (omega arith) (λ bit lb.
          let n = exposure_refusal trump opening deal e card in
          same_test n (play_place e) bytes front (at + 6 + 1) _ _ (not (eqb n accepted)) (λ t. refl)))
      either false =
          same-field 2 at _ _ (omega arith) (λ kind lk. same-field 2 (at + 2) _ _ (omega arith) (λ suit ls.
          let n = choice_refusal trump opening deal e kind suit in
          same_test n (play_place e) bytes front (at + 2 + 2) _ _ (not (eqb n accepted)) (λ t. refl)))

  -- six bits for each card, and thirteen for each code that may come
  module _ (trump opening : ℕ) (deal : List ℕ) where
    same-plays : (n left : ℕ) (e : List Event) (at : ℕ) → at + 6 * n + 13 * left ≤ 8 * most
        → read_plays trump opening deal n left e bytes at ≡ read_plays trump opening deal n left e front at
    unfolding read_plays
    same-plays zero left e at room = refl
    same-plays (suc n) zero e at room =
        same-field 6 at _ _ (omega arith) (λ code lc.
        let number = card_refusal trump opening deal (cards_of e) code in
        same_test too_many_codes (play_place e) bytes front (at + 6) _ _ (begins_code code) (λ t.
        same_test number (play_place e) bytes front (at + 6) _ _ (not (eqb number accepted)) (λ u.
        same-plays n zero (played code ∷ e) (at + 6) (omega arith))))
    same-plays (suc n) (suc left) e at room =
        same-field 6 at _ _ (omega arith) (λ code lc.
        let number = card_refusal trump opening deal (cards_of e) code in
        by_test (begins_code code)
        (λ (q : begins_code code ≡ true).
        rw q (same_on _ _ (read_code trump opening deal code e bytes (at + 6)) _ (same_code trump opening deal code e (at + 6) (omega arith)) (λ after m there.
        same-plays (suc n) left after m (omega (arith, (code_found trump opening deal code e bytes (at + 6) there).next)))))
        (λ (q : begins_code code ≡ false).
        rw q (same_test number (play_place e) bytes front (at + 6) _ _ (not (eqb number accepted)) (λ u.
        same-plays n (suc left) (played code ∷ e) (at + 6) (omega arith)))))

  -- at most 52 cards and forty codes are read
  same-cards : (d : ℕ) (deal h : List ℕ) (at : ℕ) → at + 6 + 6 * 52 + 13 * 40 ≤ 8 * most → read_cards d deal h bytes at ≡ read_cards d deal h front at
  unfolding read_cards
  same-cards d deal h at room =
      same-field 6 at _ _ (omega arith) (λ n ln.
      same_test too_many_cards n bytes front (at + 6) _ _ (ltb 52 n || (passed_out h && ltb 0 n)) (λ t.
      let few : n ≤ 52 = ltb-false 52 n (or_left (ltb 52 n) _ t) in
      same-plays (trump_after h) (opening_after d h) deal n most_codes [] (at + 6) (omega arith)))

  same-claim : (h g : List ℕ) (at : ℕ) → at + 5 ≤ 8 * most → read_claim h g bytes at ≡ read_claim h g front at
  unfolding read_claim read_no_claim read_marked_claim
  same-claim h g at room = same-field 1 at _ _ (omega arith) (λ mark lm. either (eqb mark 0))
    where
      either : (b : Bool)
          → (if b then read_no_claim h g else read_marked_claim h g) bytes (at + 1) ≡ (if b then read_no_claim h g else read_marked_claim h g) front (at + 1)
      either true = same_test play_unfinished (cards_played g) bytes front (at + 1) _ _ (not (passed_out h) && not (all_played g)) (λ t. refl)
      either false =
          same_test no_claim_point (cards_played g) bytes front (at + 1) _ _ (passed_out h || not (at_claim_point g)) (λ t.
          same-field 4 (at + 1) _ _ (omega arith) (λ tricks lt.
          same_test claim_too_many tricks bytes front (at + 1 + 4) _ _ (not (claimable g tricks)) (λ u. refl)))

  -- a whole byte is left in either
  same-ending : (at : ℕ) → at + 8 ≤ 8 * most → ending bytes at ≡ ending front at
  unfolding ending overfull refuse
  same-ending at h =
      rw (front_length, le-leb 8 (8 * length bytes - at) (omega arith), le-leb 8 (8 * most - at) (omega arith))

  -- ---- the whole record
  calls-few : (d at : ℕ) (h : List ℕ) {end : ℕ} → at ≤ 8 * length bytes → read_calls d bytes at ≡ found h end → (length h ≤ 511) × (end ≡ at + 9 + 6 * length h)
  unfolding bits
  calls-few d at h l q =
      let c = (calls_exact d).reads bytes at h _ l q in
      (c.0.count, omega (arith, c.1.next, bits-row 6 (reverse h), length-reverse h))

  -- up to the last card
  same-last-card : most_bytes ≤ most → read_to_last_card bytes 0 ≡ read_to_last_card front 0
  unfolding read_to_last_card bits
  same-last-card enough =
      same_on _ _ _ _ (same-heading 0 (omega arith)) (λ x m₁ q₁.
      let d : ℕ = dealer x.board in
      let h₁ = heading_exact.reads bytes 0 x m₁ (omega arith) q₁ in
      let e₁ : m₁ ≡ 16 = omega (arith, h₁.1.next) in
      same_on _ _ _ _ (same-deal m₁ (omega arith)) (λ deal m₂ q₂.
      let h₂ = deal_exact.reads bytes m₁ deal m₂ h₁.1.whole q₂ in
      let e₂ : m₂ ≡ 120 = omega (arith, h₂.1.next, bits-row 2 deal, h₂.0.holders) in
      same_on _ _ _ _ (same-calls d m₂ (omega arith)) (λ h m₃ q₃.
      let c = calls-few d m₂ h h₂.1.whole q₃ in
      let e₃ : m₃ ≤ 3195 = omega (arith, c.0, c.1) in
      same_on _ _ _ _ (same-cards d deal h m₃ (omega arith)) (λ e m₄ q₄. refl))))

  same_record : deciding_bytes ≤ most → read_record bytes 0 ≡ read_record front 0
  unfolding read_behind
  same_record enough =
      record_is bytes
      ∙ same_on _ _ _ _ (same-last-card (omega arith)) (λ r m₄ q₄.
      let s = last-card-found bytes r m₄ q₄ in
      let g : List ℕ = cards_of r.plays in
      same_on _ _ _ _ (same-claim r.calls g m₄ (omega (arith, s.next))) (λ t m₅ q₅.
      let h₅ = (claim_exact r.calls g).reads bytes m₄ t m₅ s.whole q₅ in
      let e₅ : m₅ ≤ 4038 = omega (arith, s.next, h₅.1.next, (claim-bits t).1) in
      same_on _ _ _ _ (same-ending m₅ (omega arith)) (λ u m₆ q₆. refl)))
      ∙ sym (record_is front)

  same_lent : deciding_bytes ≤ most → (rooms : Rooms) → judge_of bytes rooms ≡ judge_of front rooms
  unfolding judge_of read_lent
  same_lent enough rooms =
      ap outcome
      (same_test short_buffer 0 bytes front 0 _ _ (ltb rooms.answer 7) (λ a.
      same_test short_buffer 1 bytes front 0 _ _ (ltb rooms.list 48) (λ b.
      same_test short_buffer 2 bytes front 0 _ _ (ltb rooms.failures 52) (λ c.
      same_test short_buffer 3 bytes front 0 _ _ (ltb rooms.winners 26) (λ d. same_record enough)))))

-- ---- the theorems: as many first bytes as decide, or more, are judged as the whole, and read up to the last card as the whole
module _ (most : ℕ) (bytes : List ℕ) where
  by_length : {A : Type 0} (said : List ℕ → A) → (most ≤ length bytes → said bytes ≡ said (take most bytes)) → said bytes ≡ said (take most bytes)
  by_length said same =
      by_test (ltb (length bytes) most)
      (λ (q : ltb (length bytes) most ≡ true). rw (take_all most bytes (omega (arith, ltb-true (length bytes) most q))))
      (λ (q : ltb (length bytes) most ≡ false). same (ltb-false (length bytes) most q))

  pub first_bytes : deciding_bytes ≤ most → (rooms : Rooms) → judge_of bytes rooms ≡ judge_of (take most bytes) rooms
  first_bytes enough rooms = by_length (λ s. judge_of s rooms) (λ long. same_lent most bytes long enough rooms)

  pub first-to-last-card : most_bytes ≤ most → read_to_last_card bytes 0 ≡ read_to_last_card (take most bytes) 0
  first-to-last-card enough = by_length (λ s. read_to_last_card s 0) (λ long. same-last-card most bytes long enough)
