-- The loop over cards up to the first code: the play's position is that of the cards, and its refusal is the Law's. Assumes nothing.
use Prim.Native.Nat.{ℕ, ◌≤◌, ◌<◌, ◌+◌}
use native.Mathlib.Omega.{arith}
use mathlib.Core.Path.{◌≡◌, refl, sym, ap, ◌∙◌}
use mathlib.Core.Bool.{false}
use mathlib.Core.List.{List, [], ◌∷◌}
use borrow.Author.Tests.{eq-eqb, ne_eqb}
use lib.ListN.{length, get_or}
use Rattle.laws.specs.Choice.{how_many}
use Rattle.laws.specs.Refusals.{Placed, refused_at, given}
use Rattle.laws.specs.Refused.{checked_in}
use Rattle.laws.specs.Law44.{cards_played}
use Rattle.laws.specs.Events.{Event, played, begins_code, as_events}
use Rattle.laws.specs.CardRefusal.{card_refusal}
use Rattle.laws.specs.CodeRefusal.{event_refusal}
use Rattle.laws.specs.Reading.{refuse}
use Rattle.laws.specs.FlatPlay.{event, items_of, is_card, cards_in, is_misplaced, item_refusal, after_item}
use Rattle.laws.specs.Plays.{play_place}
use Rattle.laws.specs.Contents.{take_items}
use Rattle.laws.proofs.CardRefusals.{accepted-playable, playable-dealt}
use Rattle.laws.proofs.CardsAlone.{cards-alone}
use Rattle.laws.proofs.Plays.{card_no_code}
use Rattle.deal.specs.Hands.{words_of}
use Rattle.play.specs.declared.Play.{Play}
use Rattle.play.specs.Position.{start_of, step, refusal_of}
use Rattle.play.specs.History.{position_of, AllPlayed}
use Rattle.play.proofs.Verdicts.{verdict_law}
use Rattle.position.specs.declared.table.Table.{Table}
use Rattle.position.specs.Table.{table_with}
use Rattle.position.specs.History.{ThirteenEach, OfEvents}
use Rattle.position.proofs.TableStands.{alone-is, none-alone}
use Rattle.contents.proofs.Items.{items_at, none_at, card_at_lem}

-- after i cards: p is their position
pub record CardsAt (plays deal : List ℕ) (trump opening : ℕ) (p : Play) (i : ℕ) : Type 0 where
  pub cards : List ℕ
  pub position : p ≡ position_of deal trump opening cards
  pub many : length cards ≡ i
  pub clean : AllPlayed deal trump opening cards
  pub count : i + how_many is_card (items_at plays i) ≡ cards_in plays
  pub same : take_items trump opening deal (items_at plays i) (as_events cards) [] 0 ≡ take_items trump opening deal (items_of plays) [] [] 0

module _ (plays deal : List ℕ) (trump opening : ℕ) where
  abbrev whole : Placed (Unit {0})
  whole = checked_in (take_items trump opening deal (items_of plays) [] [] 0)

  pub card-begins : {p : Play} → p ≡ start_of deal (words_of deal) trump opening → CardsAt plays deal trump opening p 0
  unfolding position_of AllPlayed as_events cards_in
  card-begins e = record { cards = []; position = e; many = refl; clean = tt; count = omega arith; same = refl }

  module _ {p : Play} {i : ℕ} (r : CardsAt plays deal trump opening p i) where
    abbrev events : List Event
    events = as_events r.cards

    place_is : play_place events ≡ i
    unfolding cards_played
    place_is = ap length (cards-alone r.cards) ∙ r.many

    pub card_ends : length plays ≤ i → given tt ≡ whole
    unfolding take_items
    card_ends h = ap checked_in (rw (none_at plays i h) at r.same)

    module _ (h : i < length plays) (all : length deal ≡ 52) {c f : ℕ} (q : c ≡ get_or plays i 0) (e : f ≡ refusal_of p c) where
      law : f ≡ card_refusal trump opening deal r.cards c
      law = e ∙ ap (λ (x : Play). refusal_of x c) r.position ∙ verdict_law deal trump opening all r.cards r.clean c

      item_is : item_refusal trump opening deal events (event (played c)) (items_at plays (i + 1)) ≡ f
      unfolding item_refusal is_misplaced event_refusal
      item_is = rw (cards-alone r.cards) (sym law)

      pub card_stops : begins_code c ≡ false → (f ≡ 0 → ⊥) → refused_at f i ≡ whole
      unfolding take_items refuse
      card_stops b z = ap checked_in (rw (card_at_lem plays i h c q b, item_is, ne_eqb f 0 z, place_is) at r.same)

      pub card-goes : f ≡ 0 → {b : Play} → b ≡ step p c → CardsAt plays deal trump opening b (i + 1)
      unfolding position_of AllPlayed as_events take_items refuse after_item how_many is_card
      card-goes z s =
          let low = playable-dealt trump opening deal r.cards c (accepted-playable trump opening deal r.cards c (sym law ∙ z)) in
          let b = card_no_code c (omega (arith, low)) in
          let more = rw (card_at_lem plays i h c q b) at r.count in
          record {
            cards = c ∷ r.cards;
            position = s ∙ ap (λ (x : Play). step x c) r.position;
            many = omega (arith, r.many);
            clean = (sym law ∙ z, r.clean);
            count = omega (arith, more);
            same = rw (card_at_lem plays i h c q b, item_is, eq-eqb f 0 z) at r.same;
          }

    -- from the first code on
    pub of-cards : ThirteenEach deal → opening < 4 → (t : Table) → t ≡ table_with p opening → OfEvents deal trump opening events t i
    of-cards d low t e =
        record {
          deal_of_lem = d;
          seat = low;
          position = e ∙ ap (λ (x : Play). table_with x opening) r.position ∙ sym (alone-is deal trump opening r.cards);
          none_refused = none-alone deal trump opening r.cards r.clean;
          many = sym place_is;
        }

    pub on_with_codes : checked_in (take_items trump opening deal (items_at plays i) events [] 0) ≡ whole
    on_with_codes = ap checked_in r.same
