-- The judge accepts exactly the encodings of lawful parts, its number is 0 or a refusal with its place, and the byte examples of docs/RULES.md.
-- Assumes nothing.
use Prim.Native.Nat.{ℕ, ◌≤◌, ◌<◌}
use native.Mathlib.Omega.{arith}
use mathlib.Core.Path.{◌≡◌, refl, ap}
use mathlib.Core.Logic.{◌↔◌, ◌⊎◌, inl, inr}
use mathlib.Core.List.{List}
use borrow.Author.Tests.{le-ltb, lt-ltb, ltb-false}
use lib.Dec.{ltb}
use lib.ListN.{length}
use Rattle.laws.specs.Bytes.{Bytes}
use Rattle.laws.specs.Refusals.{short_buffer}
use Rattle.laws.specs.Record.{Parts, encode, packed}
use Rattle.laws.specs.Reading.{Reading, Reading.refused as stopped, Reading.found}
use Rattle.laws.specs.Judge.{Outcome, Outcome.refused, Outcome.accepted, outcome, read_lent, Rooms, least_rooms, Enough, judge_of, number_of}
use Rattle.laws.specs.Lawful.{Lawful}
use Rattle.laws.proofs.Bytes.{bytes-of}
use Rattle.laws.proofs.Readings.{first_test, test_is, test_stops}
use Rattle.laws.proofs.CardRefusals.{already_played, anothers_card}
use Rattle.laws.proofs.Accepts.{least-enough, accepts_parts, read_back, unique}
use Rattle.laws.proofs.Numbered.{Ruled, ruled, not_0}
use Rattle.laws.proofs.Lengths.{at_least_20}
use Rattle.promises.specs.Demand2.{Refusal, passed_out_parts, one_club, Demand2Accepts}
use Rattle.promises.proofs.Demand2Records.{judged}

-- an outcome with the number 0 is accepted: no refusal has the number 0
reached : (o : Outcome) → Ruled o → number_of o ≡ 0 → (p : Parts) × (o ≡ accepted p)
reached (refused n place) f z = absurd (not_0 refl f z)
reached (accepted p) f z = (p, refl)

pub either : (o : Outcome) → Ruled o → (number_of o ≡ 0) ⊎ Refusal (number_of o)
either (refused n place) f = inr (record { refusal = n; place = place; is = refl; of_record = f.number; places = f.place_lt })
either (accepted p) f = inl refl

-- what is accepted was read to its end
pub was_found : {p : Parts} (r : Reading Parts) → outcome r ≡ accepted p → (e : ℕ) × (r ≡ found p e)
was_found (stopped n place) o = let z : ◌≡◌ {A = ℕ} 0 1 = cc in absurd (omega arith)
was_found {p} (found a end) o = let same : a ≡ p = cc in (end, ap (λ (x : Parts). found x end) same)

module _ (bytes : List ℕ) (rooms : Rooms) where
  zero_accepts : (number_of (judge_of bytes rooms) ≡ 0) ↔ ((p : Parts) × (judge_of bytes rooms ≡ accepted p))
  zero_accepts = (reached (judge_of bytes rooms) (ruled bytes rooms), λ (p, e). ap number_of e)

  short_answer : rooms.answer < 7 → judge_of bytes rooms ≡ refused short_buffer 0
  unfolding judge_of read_lent
  short_answer h = simp (lt-ltb rooms.answer 7 h, test_stops)

  short_list : 7 ≤ rooms.answer → rooms.list < 48 → judge_of bytes rooms ≡ refused short_buffer 1
  unfolding judge_of read_lent
  short_list h k = simp (le-ltb rooms.answer 7 h, lt-ltb rooms.list 48 k, test_is, test_stops)

  short_failures : 7 ≤ rooms.answer → 48 ≤ rooms.list → rooms.failures < 52 → judge_of bytes rooms ≡ refused short_buffer 2
  unfolding judge_of read_lent
  short_failures h k f = simp (le-ltb rooms.answer 7 h, le-ltb rooms.list 48 k, lt-ltb rooms.failures 52 f, test_is, test_stops)

  short_winners : 7 ≤ rooms.answer → 48 ≤ rooms.list → 52 ≤ rooms.failures → rooms.winners < 26 → judge_of bytes rooms ≡ refused short_buffer 3
  unfolding judge_of read_lent
  short_winners h k f w =
      simp (
        le-ltb rooms.answer 7 h,
        le-ltb rooms.list 48 k,
        le-ltb rooms.failures 52 f,
        lt-ltb rooms.winners 26 w,
        test_is,
        test_stops,
      )

  -- what is accepted was lent buffers of at least 7, 48, 52 and 26 bytes
  pub lent_enough : (p : Parts) → judge_of bytes rooms ≡ accepted p → Enough rooms
  unfolding judge_of read_lent
  lent_enough p q =
      let r = was_found (read_lent rooms bytes 0) q in
      let a = first_test short_buffer 0 (ltb rooms.answer 7) bytes 0 _ r.1 in
      let l = first_test short_buffer 1 (ltb rooms.list 48) bytes 0 _ a.1 in
      let f = first_test short_buffer 2 (ltb rooms.failures 52) bytes 0 _ l.1 in
      let w = first_test short_buffer 3 (ltb rooms.winners 26) bytes 0 _ f.1 in
      record {
        answer = ltb-false rooms.answer 7 a.0;
        list = ltb-false rooms.list 48 l.0;
        failures = ltb-false rooms.failures 52 f.0;
        winners = ltb-false rooms.winners 26 w.0;
      }

  -- what is accepted is the encoding of lawful parts
  pub accepted-lawful : Bytes bytes → (p : Parts) → judge_of bytes rooms ≡ accepted p → Lawful p × (bytes ≡ encode p)
  accepted-lawful small p q = (accepts_parts rooms (lent_enough p q) bytes small p).0 q

  accepted_20 : Bytes bytes → (p : Parts) → judge_of bytes rooms ≡ accepted p → 20 ≤ length bytes
  accepted_20 small p q = let w = accepted-lawful small p q in rw w.1 (at_least_20 p w.0)

  module _ (small : Bytes bytes) (enough : Enough rooms) where
    accepts : (number_of (judge_of bytes rooms) ≡ 0) ↔ ((p : Parts) × Lawful p × (bytes ≡ encode p))
    accepts = (
      λ z. let a = zero_accepts.0 z in let w = (accepts_parts rooms enough bytes small a.0).0 a.1 in (a.0, w.0, w.1),
      λ (p, ok, e). ap number_of ((accepts_parts rooms enough bytes small p).1 (ok, e)),
    )

bytes_encoded : (p : Parts) → Bytes (encode p)
unfolding encode packed
bytes_encoded p = bytes-of _ _

-- parts whose encoding the judge accepts as them are lawful
pub by_judging : (p : Parts) → judge_of (encode p) least_rooms ≡ accepted p → Lawful p
by_judging p e = ((accepts_parts least_rooms least-enough (encode p) (bytes_encoded p) p).0 e).0

pub demand_2_accepts : Demand2Accepts
demand_2_accepts =
    record {
      accepts = λ bytes small rooms enough. accepts bytes rooms small enough;
      accepts_parts = λ bytes small rooms enough p. accepts_parts rooms enough bytes small p;
      read_back = λ p ok rooms enough. read_back rooms enough p ok;
      encoded_bytes = bytes_encoded;
      unique = unique;
      zero_accepts = zero_accepts;
      zero_or_refusal = λ bytes rooms. either (judge_of bytes rooms) (ruled bytes rooms);
      short_answer = short_answer;
      short_list = short_list;
      short_failures = short_failures;
      short_winners = short_winners;
      at_least_20 = λ bytes small rooms p q. accepted_20 bytes rooms small p q;
      passed_out_lem = (by_judging passed_out_parts judged.passed_out_lem, judged.no_contract, judged.bytes);
      one_byte_less = judged.one_less_lem;
      one_byte_more = judged.one_more;
      with_contract = (by_judging (one_club 12) judged.claim_12, judged.contract);
      one_too_many = judged.claim_13;
      already_played = already_played;
      anothers_card = anothers_card;
      own_again = judged.own_again;
      easts_again = judged.easts_again;
      easts = judged.easts;
    }
