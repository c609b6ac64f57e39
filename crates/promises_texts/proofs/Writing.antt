-- Writing a record from its contents, proved. Assumes nothing.
use Prim.Native.Nat.{ℕ, ◌≤◌, ◌<◌}
use native.Mathlib.Omega.{arith}
use mathlib.Core.Path.{◌≡◌, refl, sym, ap, ◌∙◌}
use mathlib.Core.Logic.{◌↔◌}
use mathlib.Core.Bool.{true, false}
use mathlib.Core.List.{List}
use borrow.Author.Tests.{le-ltb, lt-ltb, ltb-false}
use lib.Dec.{ltb}
use lib.ListN.{length, take, drop}
use Rattle.laws.specs.Bytes.{Bytes}
use Rattle.laws.specs.Refusals.{short_record_buffer, refusal_number, refuses_contents}
use Rattle.laws.specs.FlatPlay.{items_of, events_among}
use Rattle.laws.specs.Record.{Parts, encode}
use Rattle.laws.specs.Judge.{Outcome, Outcome.refused as declined, Outcome.accepted, Rooms, Enough, judge_of}
use Rattle.laws.specs.Lawful.{Lawful}
use Rattle.laws.specs.Contents.{Given, given_of, Fits, contents_of}
use Rattle.laws.specs.Writing.{Written, refused, written, write_by, write_of, number_of, record_left}
use Rattle.laws.proofs.Tests.{by_test}
use Rattle.laws.proofs.RecordNumbers.{contents_from_1}
use Rattle.laws.proofs.Accepts.{accepts_parts}
use Rattle.laws.proofs.Lengths.{at_most_505}
use Rattle.laws.proofs.FlatPlay.{reads_back, all_events, flat_back}
use Rattle.laws.proofs.Taken.{fits_tell}
use Rattle.laws.proofs.ContentsLawful.{accepted-fits, lawful_fit, judged-alike, accepted-lawful}
use Rattle.laws.proofs.ContentsNumbered.{contents_numbered}
use Rattle.promises_texts.specs.Writing.{with_plays, Writing}
use Rattle.promises.proofs.Demand1.{front-is, behind-is, length_over}
use Rattle.promises.proofs.Demand2Accepts.{lent_enough}
use Rattle.promises_texts.proofs.WritingBeyond.{declines, prefix, beyond}

-- two cases of what is said
clash : {n place : ℕ} {bytes : List ℕ} → refused n place ≡ written bytes → ⊥
clash e = let z : ◌≡◌ {A = ℕ} 0 1 = cc in omega arith

same_bytes : {a b : List ℕ} → written a ≡ written b → a ≡ b
same_bytes e = cc

same-refusal : {n m place at : ℕ} → refused n place ≡ refused m at → (n ≡ m) × (place ≡ at)
same-refusal e = (cc, cc)

-- a refusal's number is not below 1024
not_low : (n place : ℕ) → refuses_contents n ≡ true → refusal_number n place < 1024 → ⊥
not_low n place t l = omega (arith, contents_from_1 n t)

-- ---- what is written
-- bytes are written only of contents that are accepted, as the parts that they give, and then there is room
record Wrote (c : Given) (room : ℕ) (bytes : List ℕ) : Type 0 where
  parts : Parts
  same : c ≡ given_of parts
  taken : contents_of c ≡ accepted parts
  enough : length (encode parts) ≤ room
  are : bytes ≡ encode parts

module _ (c : Given) (room : ℕ) where
  wrote : (bytes : List ℕ) → write_of c room ≡ written bytes → Wrote c room bytes
  unfolding write_of
  wrote bytes e = go (contents_of c) refl e
    where
      go : (o : Outcome) → contents_of c ≡ o → write_by o room ≡ written bytes → Wrote c room bytes
      go (declined n place) o w = absurd (clash w)
      go (accepted p) o w =
          by_test (ltb room (length (encode p)))
          (λ (t : ltb room (length (encode p)) ≡ true). absurd (let z : refused short_record_buffer 0 ≡ written bytes = rw t at w in clash z))
          (λ (t : ltb room (length (encode p)) ≡ false).
          let z : written (encode p) ≡ written bytes = rw t at w in
          record { parts = p; same = (accepted-fits c o).0; taken = o; enough = ltb-false room _ t; are = sym (same_bytes z) })

  never : (n place : ℕ) → write_of c room ≡ refused n place → (refuses_contents n ≡ true) × (place < 1024)
  unfolding write_of
  never n place e = go (contents_of c) refl e
    where
      go : (o : Outcome) → contents_of c ≡ o → write_by o room ≡ refused n place → (refuses_contents n ≡ true) × (place < 1024)
      go (declined m at) o w =
          let same = same-refusal w in
          let f = contents_numbered c o in
          (rw (← same.0) f.number, rw (← same.1) f.place_lt)
      go (accepted q) o w =
          by_test (ltb room (length (encode q)))
          (λ (t : ltb room (length (encode q)) ≡ true).
          let same = same-refusal (let z : refused short_record_buffer 0 ≡ refused n place = rw t at w in z) in
          (rw (← same.0), rw (← same.1) (omega arith)))
          (λ (t : ltb room (length (encode q)) ≡ false). absurd (clash (sym (let z : written (encode q) ≡ refused n place = rw t at w in z))))

-- ---- parts that fit are told by what they give
abbrev given_with : Given → List ℕ → Given
given_with c l = record { board = c.board; table = c.table; deal = c.deal; calls = c.calls; plays = l; claim = c.claim }

abbrev parts_of : Given → Parts
parts_of c = with_plays c (events_among (items_of c.plays))

told : (p : Parts) → Fits p → p ≡ parts_of (given_of p)
told p fits =
    let tell = fits_tell p.plays fits.plays in
    ap (with_plays (given_of p)) (sym (ap events_among (reads_back p.plays tell) ∙ all_events p.plays))

one : (p q : Parts) → Fits p → Fits q → given_of p ≡ given_of q → p ≡ q
one p q a b e = told p a ∙ ap parts_of e ∙ sym (told q b)

-- what is accepted gives lawful parts
taken-given : (c : Given) {p : Parts} → contents_of c ≡ accepted p → contents_of (given_of p) ≡ accepted p
taken-given c e = sym (ap contents_of (accepted-fits c e).0) ∙ e

taken-lawful : (c : Given) {p : Parts} → contents_of c ≡ accepted p → Lawful p
taken-lawful c {p} e = (accepted-lawful p).0 (taken-given c e)

module _ (c : Given) (room : ℕ) (bytes : List ℕ) where
  writes : (write_of c room ≡ written bytes) ↔ ((p : Parts) × (c ≡ given_of p) × Lawful p × (length (encode p) ≤ room) × (bytes ≡ encode p))
  unfolding write_of
  writes = (
    λ e. let w = wrote c room bytes e in (w.parts, w.same, taken-lawful c w.taken, w.enough, w.are),
    λ (p, same, ok, enough, are). rw (same, are) (simp ((accepted-lawful p).1 ok, le-ltb room (length (encode p)) enough)),
  )

  judged : write_of c room ≡ written bytes → (rooms : Rooms) → Enough rooms → (p : Parts) × (c ≡ given_of p) × (judge_of bytes rooms ≡ accepted p)
  judged e rooms enough =
      let w = wrote c room bytes e in
      let p = w.parts in
      let fits = (accepted-fits c w.taken).1 in
      (p, w.same, ap (λ (b : List ℕ). judge_of b rooms) w.are ∙ judged-alike rooms enough p fits ∙ taken-given c w.taken)

module _ (p : Parts) (room : ℕ) where
  short : Lawful p → room < length (encode p) → write_of (given_of p) room ≡ refused short_record_buffer 0
  unfolding write_of
  short ok few = simp ((accepted-lawful p).1 ok, lt-ltb room (length (encode p)) few)

  agrees : Fits p → (Lawful p → ⊥) → (rooms : Rooms) → Enough rooms
      → (n : ℕ) × (place : ℕ) × (write_of (given_of p) room ≡ refused n place) × (judge_of (encode p) rooms ≡ declined n place)
  agrees fits unlawful rooms enough = go (contents_of (given_of p)) refl
    where
      go : (o : Outcome) → contents_of (given_of p) ≡ o
          → (n : ℕ) × (place : ℕ) × (write_of (given_of p) room ≡ refused n place) × (judge_of (encode p) rooms ≡ declined n place)
      go (declined n place) e = (n, place, declines (given_of p) room e, judged-alike rooms enough p fits ∙ e)
      go (accepted q) e =
          let f = accepted-fits (given_of p) e in
          absurd (unlawful (rw (one p q fits f.1 f.0) (taken-lawful (given_of p) e)))

-- the parts of an accepted record are written to its bytes
rewritten : (bytes : List ℕ) → Bytes bytes → (rooms : Rooms) (p : Parts) → judge_of bytes rooms ≡ accepted p
    → (room : ℕ) → length bytes ≤ room → write_of (given_of p) room ≡ written bytes
rewritten bytes small rooms p e room enough =
    let w = (accepts_parts rooms (lent_enough bytes rooms p e) bytes small p).0 e in
    (writes (given_of p) room bytes).1 (p, refl, w.0, rw (← w.1) enough, w.1)

-- ---- the number returned, and the buffer
module _ (c : Given) (room : ℕ) where
  number : (number_of (write_of c room) < 1024) ↔ ((bytes : List ℕ) × (write_of c room ≡ written bytes))
  number = (go (write_of c room) refl, λ (bytes, e). few bytes e)
    where
      go : (w : Written) → write_of c room ≡ w → number_of w < 1024 → (bytes : List ℕ) × (w ≡ written bytes)
      go (refused n place) e l = absurd (not_low n place (never c room n place e).0 l)
      go (written bytes) e l = (bytes, refl)

      few : (bytes : List ℕ) → write_of c room ≡ written bytes → number_of (write_of c room) < 1024
      few bytes e =
          let w = wrote c room bytes e in
          rw (e, w.are) (omega (arith, at_most_505 w.parts (taken-lawful c w.taken)))

module _ (c : Given) (old : List ℕ) where
  abbrev left : List ℕ
  left = record_left (write_of c (length old)) old

  same_length : length left ≡ length old
  unfolding record_left
  same_length = go (write_of c (length old)) refl
    where
      go : (w : Written) → write_of c (length old) ≡ w → length (record_left w old) ≡ length old
      go (refused n place) e = refl
      go (written bytes) e = let w = wrote c (length old) bytes e in length_over bytes old (rw w.are w.enough)

  front : (bytes : List ℕ) → write_of c (length old) ≡ written bytes → take (length bytes) left ≡ bytes
  unfolding record_left
  front bytes e = rw e (front-is bytes old)

  behind : (bytes : List ℕ) → write_of c (length old) ≡ written bytes → drop (length bytes) left ≡ drop (length bytes) old
  unfolding record_left
  behind bytes e = rw e (behind-is bytes old)

  untouched : (n place : ℕ) → write_of c (length old) ≡ refused n place → left ≡ old
  unfolding record_left
  untouched n place e = rw e

pub writing : Writing
writing =
    record {
      writes = writes;
      one = λ p q a b e. one p q (lawful_fit p a) (lawful_fit q b) e;
      flat = λ c whole. (parts_of c, ap (λ (l : List ℕ). given_with c l) (sym (flat_back c.plays whole)));
      short = short;
      agrees = λ p fits unlawful room rooms enough. agrees p room fits unlawful rooms enough;
      prefix = prefix;
      beyond = beyond;
      judged = judged;
      rewritten = rewritten;
      never = never;
      never_these = (refl, refl, refl);
      number = number;
      count = λ c room bytes e. rw e;
      front = front;
      behind = behind;
      untouched = untouched;
      same_length = same_length;
    }
