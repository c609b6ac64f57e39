-- What follows from the record that was read up to its last card: the judgement is the Laws' on the whole. Assumes nothing.
use Prim.Native.Nat.{ℕ, ◌≤◌, ◌<◌}
use native.Mathlib.Omega.{arith}
use mathlib.Core.Path.{◌≡◌, refl, sym, ap, ◌∙◌, subst}
use mathlib.Core.List.{List}
use Rattle.laws.specs.Refusals.{Placed, refused_at, given}
use Rattle.laws.specs.Law2.{dealer}
use Rattle.laws.specs.Auction as Law
use Rattle.laws.specs.Events.{Event, cards_of}
use Rattle.laws.specs.Record.{Parts}
use Rattle.laws.specs.Reading.{Reading, Reading.found, onward}
use Rattle.laws.specs.Judge.{read_record}
use Rattle.laws.specs.LastCard.{ToLastCard, read_to_last_card, read_behind}
use Rattle.laws.proofs.LastCard.{record_is, last-card-found}
use Rattle.auction.proofs.Laws.{contract-is}
use Rattle.position.proofs.AtMost.{cards-allowed}
use Rattle.position.proofs.TableStands.{play-is}
use Rattle.play.proofs.Stands.{stands}
use Rattle.play.proofs.Thirteen.{at_most_52}
use Rattle.last_card.specs.declared.reached.Reached.{Reached}
use Rattle.judgement.specs.declared.whole.Judged.{Judged}
use Rattle.last_card.specs.declared.reading.Read.{Read}
use Rattle.last_card.specs.Reached.{reached_as, reached_of}
use Rattle.last_card.proofs.Told.{told-refused, told-found}
use Rattle.last_card.proofs.Standing.{thirteen-each, events_played}
use Rattle.judgement.specs.Whole.{OfCards, after_cards, judged_of}

-- ---- from what was read on
module _ (bytes : List ℕ) where
  abbrev reading : Reading ToLastCard
  reading = read_to_last_card bytes 0

  abbrev rest : Reading ToLastCard → Reading Parts
  rest q = onward q (λ r at. read_behind r bytes at)

  pub reached_refused : {n place : ℕ} → refused_at n place ≡ reached_of reading → refused_at n place ≡ judged_of (read_record bytes 0)
  reached_refused e = sym (ap judged_of (record_is bytes ∙ ap rest (told-refused reached_as reading e)))

  module _ {x : Read Reached} (et : given x ≡ reached_of reading) where
    found-as : (r : ToLastCard) × (reading ≡ found r x.next) × (x.value ≡ reached_as r)
    found-as = told-found reached_as reading et

    pub reached_bounds : (x.value.after.play.played ≤ 52) × (x.next < 32768)
    reached_bounds =
        let r = found-as.0 in
        let s = last-card-found bytes r x.next found-as.1 in
        let trump = Law.trump_after r.calls in
        let opening = Law.opening_after (dealer r.board) r.calls in
        let g = cards_of r.plays in
        let allowed = cards-allowed r.deal trump opening r.plays (events_played s) in (
          rw (found-as.2, play-is r.deal trump opening r.plays (events_played s), (stands r.deal trump opening s.dealt.holders g allowed).played)
              (at_most_52 r.deal trump opening s.dealt.holders g allowed),
          omega (arith, s.next),
        )

    -- the answer, given any histories that these positions are of
    abbrev Tells : Placed Judged → Reached → Type 0
    Tells j y = (deal h : List ℕ) (e : List Event) → OfCards y.board y.out y.contract deal h e y.after
        → j ≡ judged_of (after_cards y.board y.table deal h e bytes x.next)

    pub reached_read : {j : Placed Judged} → Tells j x.value → j ≡ judged_of (read_record bytes 0)
    reached_read {j} f =
        let r = found-as.0 in
        let s = last-card-found bytes r x.next found-as.1 in
        subst (Tells j) found-as.2 f r.deal r.calls r.plays (record {
          passed = refl;
          contract = contract-is (dealer r.board) r.calls;
          deal_of_lem = thirteen-each s;
          position = refl;
          played = events_played s;
        })
        ∙ sym (ap judged_of (record_is bytes ∙ ap rest found-as.1))
