-- The loop over cards with codes among them: what the reading comes to from a turn on is what it comes to in all. Assumes nothing.
use Prim.Native.Nat.{ℕ, zero, suc, ◌≤◌, ◌<◌, ◌+◌, ◌-◌}
use native.Mathlib.Omega.{arith}
use mathlib.Core.Path.{◌≡◌, refl, sym, ap, ◌∙◌}
use mathlib.Core.Bool.{true, false}
use mathlib.Core.List.{List, ◌∷◌}
use borrow.Author.Tests.{eq-eqb, ne_eqb, leb-true, leb-false}
use lib.Dec.{eqb, leb}
use Rattle.laws.specs.Refusals.{Placed, refused_at, given, too_many_codes}
use Rattle.laws.specs.Law44.{cards_played}
use Rattle.laws.specs.Events.{Event, played, begins_code, cards_of, codes_of}
use Rattle.laws.specs.CardRefusal.{card_refusal}
use Rattle.laws.specs.CodeRefusal.{most_codes, codes_full, event_refusal}
use Rattle.laws.specs.Kept.{NoneRefused}
use Rattle.laws.specs.Reading.{Reading, Reading.refused, Reading.found, onward, read, refuse}
use Rattle.laws.specs.Plays.{play_place, refuse_by, read_code, read_plays}
use Rattle.laws.proofs.Tests.{by_test}
use Rattle.laws.proofs.Readings.{first_test}
use Rattle.laws.proofs.CodesRead.{code_turn, code_found}
use Rattle.play.specs.Position.{refusal_of}
use Rattle.position.specs.declared.table.Table.{Table}
use Rattle.penalty.specs.Position.{after_card}
use Rattle.position.specs.Table.{after_play}
use Rattle.position.specs.History.{position_of}
use Rattle.position.proofs.Refusing.{card_law}
use Rattle.last_card.specs.declared.reading.Read.{Read}
use Rattle.position.specs.History.{OfEvents}
use Rattle.last_card.specs.Sections.{code_by, plays_by, cards_of as told}
use Rattle.last_card.proofs.Told.{told-refused, told-found}

-- ---- one turn of the reading, with a card to come
module _ (deal : List ℕ) (trump opening : ℕ) (bytes : List ℕ) (n : ℕ) (e : List Event) (here : ℕ) where
  abbrev plays : ℕ → ℕ → List Event → ℕ → Reading (List Event)
  plays m left d at = read_plays trump opening deal m left d bytes at

  pub turn_short : (left : ℕ) {m place : ℕ} → read 6 bytes here ≡ refused m place → plays (suc n) left e here ≡ refused m place
  unfolding read_plays
  turn_short zero q = rw q
  turn_short (suc left) q = rw q

  module _ (c : ℕ) (q : read 6 bytes here ≡ found c (here + 6)) where
    pub turn_card : (left : ℕ) → begins_code c ≡ false
        → plays (suc n) left e here ≡ onward (refuse_by (card_refusal trump opening deal (cards_of e) c) e bytes (here + 6)) (λ u m. plays n left (played c ∷ e) m)
    unfolding read_plays refuse
    turn_card zero i = rw (q, i)
    turn_card (suc left) i = rw (q, i)

    turn_over : begins_code c ≡ true → plays (suc n) zero e here ≡ refused too_many_codes (play_place e)
    unfolding read_plays refuse
    turn_over i = rw (q, i)

-- ---- the same, by the events
module _ (deal : List ℕ) (trump opening : ℕ) (bytes : List ℕ) (count : ℕ) where
  -- what is read from the events e on
  abbrev from : List Event → ℕ → Reading (List Event)
  from e here = plays_by trump opening deal count e bytes here

  module _ (e : List Event) (more : play_place e < count) (here : ℕ) where
    next-is : count - play_place e ≡ suc (count - suc (play_place e))
    next-is = omega arith

    from-short : {m at : ℕ} → read 6 bytes here ≡ refused m at → from e here ≡ refused m at
    unfolding plays_by
    from-short q = rw next-is (turn_short deal trump opening bytes _ e here (most_codes - codes_of e) q)

    module _ (c : ℕ) (q : read 6 bytes here ≡ found c (here + 6)) where
      from-card : begins_code c ≡ false
          → from e here ≡ onward (refuse_by (card_refusal trump opening deal (cards_of e) c) e bytes (here + 6)) (λ u m. from (played c ∷ e) m)
      unfolding plays_by cards_of codes_of cards_played
      from-card i = rw next-is (turn_card deal trump opening bytes _ e here c q (most_codes - codes_of e) i)

      -- what follows the code, and then the rest
      code_on : (r : Reading (List Event)) → read_code trump opening deal c e bytes (here + 6) ≡ r → codes_of e < most_codes
          → onward r (λ after m. read_plays trump opening deal (count - play_place e) (most_codes - suc (codes_of e)) after bytes m)
          ≡ onward r (λ after m. from after m)
      unfolding plays_by
      code_on (refused n place) f room = refl
      code_on (found after m) f room =
          let k = code_found trump opening deal c e bytes (here + 6) f in
          rw (k.cards, k.codes)

      from_code : begins_code c ≡ true → from e here ≡ onward (code_by trump opening deal c e bytes (here + 6)) (λ after m. from after m)
      unfolding plays_by code_by refuse codes_full
      from_code i =
          by_test (codes_full e)
          (λ (f : codes_full e ≡ true).
          let none : most_codes - codes_of e ≡ 0 = omega (arith, leb-true most_codes (codes_of e) f) in
          rw (next-is, none, f) (turn_over deal trump opening bytes _ e here c q i))
          (λ (f : codes_full e ≡ false).
          let room = leb-false most_codes (codes_of e) f in
          let one : most_codes - codes_of e ≡ suc (most_codes - suc (codes_of e)) = omega arith in
          rw (one, f)
          (code_turn trump opening deal (count - play_place e) (most_codes - suc (codes_of e)) c e bytes here (omega arith) i q
          ∙ code_on (read_code trump opening deal c e bytes (here + 6)) refl room))

-- a card leaves the number of codes
pub same_codes : {after : Table} (t : Table) (c : ℕ) → after ≡ after_play t c → after.penalty.codes ≡ t.penalty.codes
unfolding after_play after_card
same_codes t c e =
    ap (λ (x : Table). x.penalty.codes) e
    ∙ by_test (eqb t.penalty.codes 0)
    (λ (q : eqb t.penalty.codes 0 ≡ true). rw q)
    (λ (q : eqb t.penalty.codes 0 ≡ false). rw q (by_test (leb 52 c)
    (λ (k : leb 52 c ≡ true). rw k)
    (λ (k : leb 52 c ≡ false). rw k)))

-- ---- the loop: after some turns the position is that of events from which on the reading comes to the same
pub record Turned (deal : List ℕ) (trump opening : ℕ) (bytes : List ℕ) (count : ℕ) (first : List Event) (at : ℕ) (t : Table) (here i : ℕ) : Type 0 where
  pub events : List Event
  pub of_events : OfEvents deal trump opening events t i
  pub same : plays_by trump opening deal count events bytes here ≡ plays_by trump opening deal count first bytes at

module _ (deal : List ℕ) (trump opening : ℕ) (bytes : List ℕ) (count : ℕ) (first : List Event) (at : ℕ) where
  abbrev whole : Placed (Read Table)
  whole = told deal trump opening (plays_by trump opening deal count first bytes at)

  pub turns_begin : (t : Table) (place : ℕ) → OfEvents deal trump opening first t place → Turned deal trump opening bytes count first at t at place
  turns_begin t place o = record { events = first; of_events = o; same = refl }

  module _ {t : Table} {here i : ℕ} (r : Turned deal trump opening bytes count first at t here i) where
    pub turns_end : count ≤ i → given (record { value = t; next = here }) ≡ whole
    unfolding plays_by read_plays
    turns_end h =
        let none : count - play_place r.events ≡ 0 = omega (arith, r.of_events.many) in
        ap (λ (x : Table). given (record { value = x; next = here })) r.of_events.position
        ∙ ap (told deal trump opening) (rw none at r.same)

    module _ (few : count ≤ 52) (more : i < count) where
      place_lt : play_place r.events < count
      place_lt = omega (arith, r.of_events.many)

      pub turns_short : {m place : ℕ} → read 6 bytes here ≡ refused m place → refused_at m place ≡ whole
      turns_short q =
          ap (told deal trump opening) (sym (from-short deal trump opening bytes count r.events place_lt here q) ∙ r.same)

      module _ (c : ℕ) (q : read 6 bytes here ≡ found c (here + 6)) where
        -- a code
        module _ (i-code : begins_code c ≡ true) where
          abbrev coded : Reading (List Event)
          coded = code_by trump opening deal c r.events bytes (here + 6)

          after_code : onward coded (λ after m. plays_by trump opening deal count after bytes m) ≡ plays_by trump opening deal count first bytes at
          after_code = sym (from_code deal trump opening bytes count r.events place_lt here c q i-code) ∙ r.same

          pub code_stops : {m place : ℕ} → refused_at m place ≡ told deal trump opening coded → refused_at m place ≡ whole
          code_stops e = ap (told deal trump opening) (rw (told-refused (position_of deal trump opening) coded e) at after_code)

          pub code_goes : {x : Read Table} → given x ≡ told deal trump opening coded → Turned deal trump opening bytes count first at x.value x.next i
          unfolding code_by
          code_goes {x} e =
              let f = told-found (position_of deal trump opening) coded e in
              let room = first_test too_many_codes (play_place r.events) (codes_full r.events) bytes (here + 6) _ f.1 in
              let k = code_found trump opening deal c r.events bytes (here + 6) room.1 in
              let o = r.of_events in
              record {
                events = f.0;
                of_events = record {
                  deal_of_lem = o.deal_of_lem;
                  seat = o.seat;
                  position = f.2;
                  none_refused = k.stands room.0 o.none_refused;
                  many = o.many ∙ sym (ap cards_played k.cards);
                };
                same = rw f.1 at after_code;
              }

        -- a card
        module _ (no_code : begins_code c ≡ false) (f : ℕ) (ef : f ≡ refusal_of t.play c) where
          card_is : f ≡ card_refusal trump opening deal (cards_of r.events) c
          card_is =
              let o = r.of_events in
              ef ∙ ap (λ (x : Table). refusal_of x.play c) o.position
              ∙ card_law deal trump opening o.deal_of_lem.places o.deal_of_lem.thirteen o.seat r.events o.none_refused c

          after-card : onward (refuse_by f r.events bytes (here + 6)) (λ u m. plays_by trump opening deal count (played c ∷ r.events) bytes m)
              ≡ plays_by trump opening deal count first bytes at
          after-card = rw card_is (sym (from-card deal trump opening bytes count r.events place_lt here c q no_code) ∙ r.same)

          pub card_stops : (f ≡ 0 → ⊥) → refused_at f i ≡ whole
          unfolding refuse
          card_stops z = rw (o_many) (ap (told deal trump opening) (rw (ne_eqb f 0 z) at after-card))
            where
              o_many : i ≡ play_place r.events
              o_many = r.of_events.many

          pub card-goes : f ≡ 0 → (after : Table) → after ≡ after_play t c
              → Turned deal trump opening bytes count first at after (here + 6) (i + 1)
          unfolding refuse position_of NoneRefused event_refusal cards_of cards_played
          card-goes z after s =
              let o = r.of_events in
              record {
                events = played c ∷ r.events;
                of_events = record {
                  deal_of_lem = o.deal_of_lem;
                  seat = o.seat;
                  position = s ∙ ap (λ (x : Table). after_play x c) o.position;
                  none_refused = (sym card_is ∙ z, o.none_refused);
                  many = omega (arith, o.many);
                };
                same = rw (eq-eqb f 0 z) at after-card;
              }
