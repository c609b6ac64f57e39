-- The loop over cards up to the first code: the play's position is that of the cards, and its refusal is the Law's.
-- Assumes nothing.
use Prim.Native.Nat.{ℕ, suc, ◌≤◌, ◌<◌, ◌+◌, ◌-◌, ◌*◌}
use native.Mathlib.Omega.{arith}
use mathlib.Core.Path.{◌≡◌, refl, sym, ap, ◌∙◌}
use mathlib.Core.Bool.{false}
use mathlib.Core.List.{List, [], ◌∷◌}
use borrow.Author.Tests.{eq-eqb, ne_eqb}
use lib.ListN.{length}
use Rattle.laws.specs.Law44.{cards_played}
use Rattle.laws.specs.Events.{Event, played, begins_code, cards_of, as_events}
use Rattle.laws.specs.CardRefusal.{card_refusal}
use Rattle.laws.specs.CodeRefusal.{most_codes}
use Rattle.laws.specs.Reading.{Reading.refused, Reading.found, onward, read, refuse}
use Rattle.laws.specs.Plays.{play_place, refuse_by, read_plays}
use Rattle.laws.proofs.CardRefusals.{accepted-playable, playable-dealt}
use Rattle.laws.proofs.CardsAlone.{cards-alone, no_codes}
use Rattle.laws.proofs.Plays.{card_no_code}
use Rattle.deal.specs.Hands.{words_of}
use Rattle.play.specs.declared.Play.{Play}
use Rattle.play.specs.Position.{start_of, step, refusal_of}
use Rattle.play.specs.History.{position_of, AllPlayed}
use Rattle.play.proofs.Verdicts.{verdict_law}
use Rattle.position.specs.declared.table.Table.{Table}
use Rattle.position.specs.Table.{table_with}
use Rattle.position.proofs.TableStands.{alone-is, none-alone}
use Rattle.laws.specs.Refusals.{Placed, refused_at, given, record_ends}
use Rattle.last_card.specs.declared.reading.Read.{Read}
use Rattle.position.specs.History.{ThirteenEach, OfEvents}
use Rattle.last_card.specs.Sections.{plays_by, cards_of as told}
use Rattle.last_card.proofs.PlayTurns.{turn_short, turn_card}

-- after i of n cards, at the bit `here`: p is the position of the cards
pub record CardsAt (bytes deal : List ℕ) (trump opening at n : ℕ) (p : Play) (here i : ℕ) : Type 0 where
  pub cards : List ℕ
  pub position : p ≡ position_of deal trump opening cards
  pub many : length cards ≡ i
  pub clean : AllPlayed deal trump opening cards
  pub few : i ≤ n
  pub along : here ≡ at + 6 * i
  pub same : read_plays trump opening deal (n - i) most_codes (as_events cards) bytes here ≡ read_plays trump opening deal n most_codes [] bytes at

module _ (bytes deal : List ℕ) (trump opening at n : ℕ) where
  abbrev whole : Placed (Read Table)
  whole = told deal trump opening (read_plays trump opening deal n most_codes [] bytes at)

  pub card-begins : {p : Play} → p ≡ start_of deal (words_of deal) trump opening → CardsAt bytes deal trump opening at n p at 0
  unfolding position_of AllPlayed as_events
  card-begins e =
      let m : n - 0 ≡ n = omega arith in
      record { cards = []; position = e; many = refl; clean = tt; few = omega arith; along = omega arith; same = rw m }

  module _ {p : Play} {here i : ℕ} (r : CardsAt bytes deal trump opening at n p here i) where
    -- the cards as events, and their position
    abbrev events : List Event
    events = as_events r.cards

    table_is : {t : Table} → t ≡ table_with p opening → t ≡ Rattle.position.specs.History.position_of deal trump opening events
    table_is e = e ∙ ap (λ (x : Play). table_with x opening) r.position ∙ sym (alone-is deal trump opening r.cards)

    pub card_ends : n ≤ i → (t : Table) → t ≡ table_with p opening → given (record { value = t; next = here }) ≡ whole
    unfolding read_plays
    card_ends h t e =
        let m : n - i ≡ 0 = omega (arith, r.few) in
        ap (λ (x : Table). given (record { value = x; next = here })) (table_is e) ∙ ap (told deal trump opening) (rw m at r.same)

    module _ (t : i < n) where
      next-is : n - i ≡ suc (n - (i + 1))
      next-is = omega arith

      pub card-short : read 6 bytes here ≡ refused record_ends 0 → refused_at record_ends 0 ≡ whole
      card-short q = ap (told deal trump opening) (sym (turn_short deal trump opening bytes _ events here most_codes q) ∙ rw next-is at r.same)

      module _ (all : length deal ≡ 52) {c f : ℕ} (q : read 6 bytes here ≡ found c (here + 6)) (e : f ≡ refusal_of p c) where
        law : f ≡ card_refusal trump opening deal r.cards c
        law = e ∙ ap (λ (x : Play). refusal_of x c) r.position ∙ verdict_law deal trump opening all r.cards r.clean c

        after-card : begins_code c ≡ false
            → onward (refuse_by f events bytes (here + 6)) (λ u m. read_plays trump opening deal (n - (i + 1)) most_codes (played c ∷ events) bytes m)
            ≡ read_plays trump opening deal n most_codes [] bytes at
        after-card no_code =
            let is : card_refusal trump opening deal (cards_of events) c ≡ f = rw (cards-alone r.cards) (sym law) in
            rw is at (sym (turn_card deal trump opening bytes _ events here c q most_codes no_code) ∙ rw next-is at r.same)

        pub card_stops : begins_code c ≡ false → (f ≡ 0 → ⊥) → refused_at f i ≡ whole
        unfolding refuse cards_played
        card_stops no_code z =
            let place : play_place events ≡ i = ap length (cards-alone r.cards) ∙ r.many in
            ap (told deal trump opening) (rw (ne_eqb f 0 z, place) at (after-card no_code))

        pub card-goes : f ≡ 0 → {b : Play} → b ≡ step p c → CardsAt bytes deal trump opening at n b (here + 6) (i + 1)
        unfolding position_of AllPlayed as_events refuse
        card-goes z s =
            let low = playable-dealt trump opening deal r.cards c (accepted-playable trump opening deal r.cards c (sym law ∙ z)) in
            let no_code = card_no_code c (omega (arith, low)) in
            record {
              cards = c ∷ r.cards;
              position = s ∙ ap (λ (x : Play). step x c) r.position;
              many = omega (arith, r.many);
              clean = (sym law ∙ z, r.clean);
              few = omega arith;
              along = omega (arith, r.along);
              same = rw (eq-eqb f 0 z) at (after-card no_code);
            }

      -- from the first code on
      pub of-cards : ThirteenEach deal → opening < 4 → (t : Table) → t ≡ table_with p opening → OfEvents deal trump opening events t i
      unfolding cards_played
      of-cards d low t e =
          record {
            deal_of_lem = d;
            seat = low;
            position = table_is e;
            none_refused = none-alone deal trump opening r.cards r.clean;
            many = sym (ap length (cards-alone r.cards) ∙ r.many);
          }

      on_is : plays_by trump opening deal n events bytes here ≡ read_plays trump opening deal n most_codes [] bytes at
      unfolding plays_by cards_played
      on_is = rw (cards-alone r.cards, r.many, no_codes r.cards) r.same

      pub on_with_codes : told deal trump opening (plays_by trump opening deal n events bytes here) ≡ whole
      on_with_codes = ap (told deal trump opening) on_is
