-- What judging a record comes to in the number returned and in the four buffers. Assumes nothing.
use Prim.Native.Nat.{ℕ, ◌≤◌, ◌<◌, ◌+◌, ◌*◌}
use native.Mathlib.Nat.{zero-add}
use native.Mathlib.Numerals.{add-one}
use native.Mathlib.Omega.{arith}
use mathlib.Core.Path.{◌≡◌, ap, ◌∙◌, subst}
use mathlib.Core.List.{List, ◌++◌, map}
use borrow.Author.Tests.{lt-ltb, le-ltb}
use lib.ListN.{length, take, drop, get_or, set, length-map, get_or-map}
use lib.Seq.{paste-suc}
use Rattle.laws.specs.Record.{Parts, number, bytes_of}
use Rattle.laws.specs.Reading.{Reading, Reading.found, refuse}
use Rattle.laws.specs.Judge as Judge
use Rattle.laws.specs.Failures.{failure_bytes}
use Rattle.laws.specs.Law44.{Won}
use Rattle.laws.specs.Judgement.{answer_fields, won_tricks_of, revokes_of, failures_of, revoke_byte, revoke_bytes, failures_bytes, won_bytes}
use Rattle.laws.specs.Lent.{rooms_of, ◌over◌, answer_left, list_left, failures_left, winners_left}
use Rattle.laws.proofs.Bytes.{length-bytes}
use Rattle.laws.proofs.Padded.{padded_back, length-padded}
use Rattle.laws.proofs.TricksWon.{bytes-long, byte_seat, byte_card}
use Rattle.laws.proofs.Accepts.{lent_is}
use Rattle.laws.specs.Refusals.{refused_at, given}
use Rattle.laws.proofs.Answered.{is-refused, is-found}
use Rattle.play.specs.declared.Won.{Won as Told}
use Rattle.play.specs.Told.{no_trick}
use Rattle.play.specs.History.{law_of}
use Rattle.judgement.specs.declared.whole.Judged.{Judged}
use Rattle.judgement.specs.Whole.{judgement_of, judged_of, listed_in}
use Rattle.judgement.proofs.Told.{seven_bytes, few-found, tricks-count, winners-told, winners-long}

-- ---- bytes over the front of a buffer
-- a turn of a loop that copies s over the front of d
pub front-more : (l d s : List ℕ) (j : ℕ) → l ≡ take j s ++ drop j d → j < length d → j < length s → set l j (get_or s j 0) ≡ take (j + 1) s ++ drop (j + 1) d
front-more l d s j e hd hs =
    let z : 0 + j < length d = omega arith in
    rw (e, add-one j) (simp zero-add at (paste-suc d 0 s j 0 z hs))

-- a turn of a loop that copies the bytes of tricks over the front of d
pub pair_more : (l d : List ℕ) (ws : List Told) (i : ℕ) → l ≡ take (2 * i) (won_bytes (map law_of ws)) ++ drop (2 * i) d → i < length ws
    → 2 * length ws ≤ length d
    → set (set l (2 * i) (get_or ws i no_trick).seat) (2 * i + 1) (get_or ws i no_trick).card
    ≡ take (2 * (i + 1)) (won_bytes (map law_of ws)) ++ drop (2 * (i + 1)) d
pair_more l d ws i e h k =
    let s = won_bytes (map law_of ws) in
    let long : length s ≡ 2 * length ws = bytes-long (map law_of ws) ∙ ap (λ (n : ℕ). 2 * n) (length-map ws law_of) in
    let at = get_or-map law_of ws i no_trick in
    let seat : get_or s (2 * i) 0 ≡ (get_or ws i no_trick).seat = byte_seat (map law_of ws) i ∙ ap (λ (w : Won). w.seat) at in
    let card : get_or s (2 * i + 1) 0 ≡ (get_or ws i no_trick).card = byte_card (map law_of ws) i ∙ ap (λ (w : Won). w.card) at in
    let next : 2 * i + 1 + 1 ≡ 2 * (i + 1) = omega arith in
    let one = front-more l d s (2 * i) e (omega arith) (omega arith) in
    let two = front-more (set l (2 * i) (get_or s (2 * i) 0)) d s (2 * i + 1) one (omega arith) (omega arith) in
    rw (seat, card, next) at two

-- four buffers that are long enough
pub enough-of : (answer list failures winners : List ℕ) → 7 ≤ length answer → 48 ≤ length list → 52 ≤ length failures → 26 ≤ length winners
    → Judge.Enough (rooms_of answer list failures winners)
enough-of answer list failures winners h k l m = record { answer = h; list = k; failures = l; winners = m }

-- ---- the judge's answer
module _ (bytes : List ℕ) (answer list failures winners : List ℕ) where
  abbrev said : Judge.Outcome
  said = Judge.judge_of bytes (rooms_of answer list failures winners)

  -- the number returned and the four buffers
  pub record Left (n : ℕ) (a l f w : List ℕ) : Type 0 where
    pub number : n ≡ Judge.number_of said
    pub answered : a ≡ answer_left said answer
    pub listed : l ≡ list_left said list
    pub failed : f ≡ failures_left said failures
    pub won : w ≡ winners_left said winners

  kept : {n place : ℕ} → said ≡ Judge.Outcome.refused n place → Left (n * 1024 + place) answer list failures winners
  unfolding answer_left list_left failures_left winners_left
  kept o = record { number = rw o; answered = rw o; listed = rw o; failed = rw o; won = rw o }

  answer-said : length answer < 7 → said ≡ Judge.Outcome.refused 1 0
  unfolding Judge.judge_of Judge.read_lent refuse
  answer-said h = rw (lt-ltb (length answer) 7 h)

  pub short_answer : length answer < 7 → Left 1024 answer list failures winners
  short_answer h = kept (answer-said h)

  list-said : 7 ≤ length answer → length list < 48 → said ≡ Judge.Outcome.refused 1 1
  unfolding Judge.judge_of Judge.read_lent refuse
  list-said h k = rw (le-ltb (length answer) 7 h, lt-ltb (length list) 48 k)

  pub short_list : 7 ≤ length answer → length list < 48 → Left 1025 answer list failures winners
  short_list h k = kept (list-said h k)

  failures-said : 7 ≤ length answer → 48 ≤ length list → length failures < 52 → said ≡ Judge.Outcome.refused 1 2
  unfolding Judge.judge_of Judge.read_lent refuse
  failures-said h k l = rw (le-ltb (length answer) 7 h, le-ltb (length list) 48 k, lt-ltb (length failures) 52 l)

  pub short_failures : 7 ≤ length answer → 48 ≤ length list → length failures < 52 → Left 1026 answer list failures winners
  short_failures h k l = kept (failures-said h k l)

  winners-said : 7 ≤ length answer → 48 ≤ length list → 52 ≤ length failures → length winners < 26 → said ≡ Judge.Outcome.refused 1 3
  unfolding Judge.judge_of Judge.read_lent refuse
  winners-said h k l m =
      rw (le-ltb (length answer) 7 h, le-ltb (length list) 48 k, le-ltb (length failures) 52 l, lt-ltb (length winners) 26 m)

  pub short_winners : 7 ≤ length answer → 48 ≤ length list → 52 ≤ length failures → length winners < 26 → Left 1027 answer list failures winners
  short_winners h k l m = kept (winners-said h k l m)

  module _ (enough : Judge.Enough (rooms_of answer list failures winners)) where
    abbrev reading : Reading Parts
    reading = Judge.read_record bytes 0

    said-is : said ≡ Judge.outcome reading
    said-is = lent_is (rooms_of answer list failures winners) enough bytes

    pub judge_refuses : {n place : ℕ} → refused_at n place ≡ judged_of reading → Left (n * 1024 + place) answer list failures winners
    judge_refuses e = kept (said-is ∙ ap Judge.outcome (is-refused judgement_of reading e))

    module _ {j : Judged} (ej : given j ≡ judged_of reading) where
      told : (p : Parts) × (at : ℕ) × (reading ≡ found p at) × (j ≡ judgement_of p)
      told = is-found judgement_of reading ej

      -- how many revokes and tricks there are to be put
      pub few-listed : (j.revokes.count ≤ 48) × (j.tricks.count ≤ 13)
      unfolding listed_in
      few-listed = let f = few-found bytes told.2 in rw told.3 (f.revokes, rw (tricks-count told.0) f.tricks)

      -- what putting the answer's bits, the list, the plays against Law 50 and the winners leaves
      abbrev Put : Judged → List ℕ → List ℕ → List ℕ → List ℕ → Type 0
      Put x a m f w =
          (a ≡ bytes_of 7 x.bits ++ drop 7 answer)
          × (m ≡ take x.revokes.count x.revokes.list ++ drop x.revokes.count list)
          × (f ≡ x.failures ++ drop 52 failures)
          × (w ≡ take (2 * x.tricks.count) (won_bytes (map law_of x.tricks.answers)) ++ drop (2 * x.tricks.count) winners)

      takes : (p : Parts) {at : ℕ} → reading ≡ found p at → said ≡ Judge.Outcome.accepted p → {a m f w : List ℕ} → Put (judgement_of p) a m f w → Left 0 a m f w
      unfolding answer_left list_left failures_left winners_left failures_bytes ◌over◌ listed_in revoke_bytes
      takes p q o w =
          let n = length-map (revokes_of p) revoke_byte in
          let some = few-found bytes q in
          let back = padded_back 0 48 (revoke_bytes p) (omega (arith, n, some.revokes)) in
          record {
            number = rw o;
            answered = rw (o, seven_bytes p, length-bytes 7 (number (answer_fields p))) w.0;
            listed = rw (o, n) (w.1 ∙ ap (λ (x : List ℕ). x ++ drop (length (revokes_of p)) list) (rw n at back));
            failed = rw (o, length-padded 0 52 (failure_bytes (failures_of p))) w.2;
            won = rw (o, winners-long p) (w.3 ∙ rw (tricks-count p) (rw (tricks-count p) at (ap (λ (x : List ℕ). x ++ drop (2 * length (won_tricks_of p)) winners)
                (winners-told p some.tricks))));
          }

      pub judge_accepts : {a m f w : List ℕ} → Put j a m f w → Left 0 a m f w
      judge_accepts {a} {m} {f} {w} put =
          takes told.0 told.2 (said-is ∙ ap Judge.outcome told.2) (subst (λ (x : Judged). Put x a m f w) told.3 put)
