-- What is told of an accepted record: seven bytes, at most 48 revokes, at most 13 tricks and their bytes. Assumes nothing.
use Prim.Native.Nat.{ℕ, ◌≤◌, ◌*◌}
use native.Mathlib.Omega.{arith}
use mathlib.Core.Path.{◌≡◌, refl, sym, ap, ◌∙◌}
use mathlib.Core.Bool.{Bool, true, false}
use mathlib.Core.List.{List, map, map-map, map-id, reverse-reverse}
use lib.ListN.{length, take, length-map}
use Rattle.laws.specs.Auction.{passed_out}
use Rattle.laws.specs.Record.{Parts, bits, number, bytes_of, packed}
use Rattle.laws.specs.Reading.{Reading.found}
use Rattle.laws.specs.LastCard.{read_to_last_card, read_behind}
use Rattle.laws.specs.Judge as Judge
use Rattle.laws.specs.Events as Events
use Rattle.laws.specs.Law44.{Won}
use Rattle.laws.specs.Padded.{padded}
use Rattle.laws.specs.Judgement.{answer_fields, answer_bytes, played_fields, calls_of, won_tricks_of, revokes_of, won_bytes, winners_bytes}
use Rattle.laws.proofs.Bytes.{length-bytes}
use Rattle.laws.proofs.Padded.{padded_back, take-map}
use Rattle.laws.proofs.TricksWon.{bytes-long, bytes-first}
use Rattle.laws.proofs.Readings.{first-of, first-ending}
use Rattle.laws.proofs.LastCard.{record_is, last-card-found}
use Rattle.play.specs.Told.{no_trick}
use Rattle.play.specs.History.{told_of, law_of}
use Rattle.play.proofs.Thirteen.{at_most_52}
use Rattle.position.proofs.AtMost.{cards-allowed, at_most_48}
use Rattle.transfer.proofs.History.{few-tricks}
use Rattle.last_card.proofs.Composing.{found-same}
use Rattle.last_card.proofs.Standing.{events_played}
use Rattle.judgement.specs.Whole.{tricks_told}

-- ---- the answer's fields make seven bytes
pub answer-bits : (p : Parts) → bits (answer_fields p) ≡ 56
unfolding answer_fields played_fields bits
answer-bits p = go (passed_out (calls_of p)) refl
  where
    go : (out : Bool) → passed_out (calls_of p) ≡ out → bits (answer_fields p) ≡ 56
    go true e = rw e
    go false e = rw e

pub seven_bytes : (p : Parts) → answer_bytes p ≡ bytes_of 7 (number (answer_fields p))
unfolding answer_bytes packed
seven_bytes p = rw (answer-bits p)

pub seven_long : (p : Parts) → length (answer_bytes p) ≡ 7
seven_long p = rw (seven_bytes p) (length-bytes 7 (number (answer_fields p)))

-- ---- what a record that was read has at the most
pub record Few (p : Parts) : Type 0 where
  pub revokes : length (revokes_of p) ≤ 48
  pub tricks : length (won_tricks_of p) ≤ 13

pub few-found : (bytes : List ℕ) {p : Parts} {e : ℕ} → Judge.read_record bytes 0 ≡ found p e → Few p
unfolding read_behind revokes_of won_tricks_of
few-found bytes {p} q =
    let x = first-of (read_to_last_card bytes 0) _ (sym (record_is bytes) ∙ q) in
    let r = x.0 in
    let c = first-of (Judge.read_claim r.calls (Events.cards_of r.plays) bytes x.1) _ x.3 in
    let z = first-ending bytes c.1 _ c.3 in
    let same = (found-same z.1).0 in
    let s = last-card-found bytes r x.1 x.2 in
    let w = events_played s in
    let played = Events.cards_of r.plays in
    let most = at_most_52 r.deal _ _ s.dealt.holders played (cards-allowed r.deal _ _ r.plays w) in
    record {
      revokes = rw (sym same, reverse-reverse r.calls, reverse-reverse r.plays)
          (at_most_48 r.deal _ _ s.dealt.holders s.dealt.thirteen r.plays w);
      tricks = rw (sym same, reverse-reverse r.calls, reverse-reverse r.plays) (few-tricks _ _ played most);
    }

-- ---- at most 13 tricks, and their bytes
pub tricks-count : (p : Parts) → (tricks_told p).count ≡ length (won_tricks_of p)
unfolding tricks_told
tricks-count p = length-map (won_tricks_of p) told_of

-- the answers in thirteen places, as the Laws have them, begin with those of the complete tricks
answers_back : (ws : List Won) → length ws ≤ 13 → take (length ws) (map law_of (padded no_trick 13 (map told_of ws))) ≡ ws
answers_back ws h =
    let told = map told_of ws in
    let many = length-map ws told_of in
    take-map law_of (length ws) (padded no_trick 13 told)
    ∙ ap (map law_of) (rw many at (padded_back no_trick 13 told (omega (arith, many))))
    ∙ map-map law_of told_of ws ∙ map-id ws

pub winners-told : (p : Parts) → length (won_tricks_of p) ≤ 13
    → take (2 * (tricks_told p).count) (won_bytes (map law_of (tricks_told p).answers)) ≡ winners_bytes p
unfolding winners_bytes tricks_told
winners-told p h =
    rw (tricks-count p) (bytes-first (length (won_tricks_of p)) _ ∙ ap won_bytes (answers_back (won_tricks_of p) h))

pub winners-long : (p : Parts) → length (winners_bytes p) ≡ 2 * length (won_tricks_of p)
unfolding winners_bytes
winners-long p = bytes-long (won_tricks_of p)
