-- The position that the code keeps is the Laws' after every history of events of which none is refused, and what it says of the next event is the Law's.
-- Assumes nothing.
use Rattle.std.specs.Prelude.{Some}
use Prim.Native.Nat.{ℕ, ◌≤◌, ◌<◌, ◌+◌, ◌%◌}
use mathlib.Core.Path.{◌≡◌, refl, sym, ap, ◌∙◌}
use mathlib.Core.Bool.{Bool, true, false, not}
use mathlib.Core.List.{List, [], ◌∷◌}
use native.Mathlib.Nat.{mod-eq_of_lt}
use native.Mathlib.Omega.{arith}
use borrow.Author.Tests.{eqb-true, eqb-false, eq-eqb, lt-leb, ltb-true}
use lib.Dec.{eqb, leb, ltb}
use lib.ListN.{length, get_or}
use Rattle.laws.specs.Cards.{no_seat, suit_of, clockwise, partner_of, same_side, dealt_to, cards_dealt}
use Rattle.laws.specs.Law44.{cards_played, tricks_complete, cards_in_trick, trick_under_way, leader, to_play, holds}
use Rattle.laws.specs.Events.{Event, played, exposed, choice, cards_of, as_events}
use Rattle.laws.specs.Law50.{leader_after, is_exposable}
use Rattle.laws.specs.LeadRevoke.{disobeys}
use Rattle.laws.specs.Failures.{failure_by}
use Rattle.laws.specs.CodeRefusal.{event_refusal}
use Rattle.laws.specs.Kept.{NoneRefused}
use Rattle.laws.proofs.Tests.{by_test, and_left}
use Rattle.laws.proofs.Counts.{any_default}
use Rattle.laws.proofs.CardsAlone.{without-codes, none_required, none-forbidden, none-faced, none-major, no_codes, refused-alone}
use Rattle.laws.proofs.CodeRefusals.{exposable, chosen, room}
use Rattle.laws.proofs.KeptCards.{defenders-card, exposed_defender, exposed_unplayed, exposed_unfaced}
use Rattle.laws.proofs.KeptChoices.{opened}
use Rattle.deal.specs.Hands.{words_of}
use Rattle.deal.proofs.Built.{at_seat}
use Rattle.play.specs.declared.Play.{Play}
use Rattle.play.specs.Position.{hand_of, step}
use Rattle.play.specs.History as PlayHistory
use Rattle.play.specs.History.{AllPlayed, holders_of}
use Rattle.play.proofs.Cards.{fair}
use Rattle.play.proofs.Masks.{word_by, word_same, word_places}
use Rattle.play.proofs.Holders.{turn_seat, holders_52, holds_law}
use Rattle.play.proofs.Thirteen.{at_most_52}
use Rattle.play.proofs.Worth.{winner-low}
use Rattle.play.proofs.Stands as PlayStands
use Rattle.penalty.specs.declared.Penalty.{Penalty}
use Rattle.position.specs.declared.table.Table.{Table}
use Rattle.penalty.specs.Position.{start_of}
use Rattle.position.specs.Table.{table_of, table_with, turn_in, entry_in, revokes_in, found_of, found_after, keeps_lead, after_play}
use Rattle.position.specs.Table.{with_play, owner_word, partner_word, after_exposed, after_choice}
use Rattle.position.specs.History.{position_of, entry_of}
use Rattle.position.proofs.AtMost.{cards-allowed, card-held, at_most_24}
use Rattle.penalty.proofs.Stands.{Stands, AtTurn, starts, obeys-is, excused-is, fails_is}
use Rattle.penalty.proofs.Stepping.{dealt_word, card-stands, exposed-stands, choice-stands}
use Rattle.position.proofs.FoundStands.{FoundStands, found_starts, found-exposed, found-choice, found_by, found-alone}

-- the table with the play after a card is the table after it
pub one_table : (t : Table) (c : ℕ) {after : Table} {q : Play} → after ≡ with_play t q c → q ≡ step t.play c → after ≡ after_play t c
unfolding after_play
one_table t c e s = e ∙ ap (λ (x : Play). with_play t x c) s

-- a card more leaves the defenders' side, and the play is the one after it
same_side_lem : (t : Table) (c : ℕ) → (after_play t c).side ≡ t.side
unfolding after_play
same_side_lem t c =
    by_test (eqb t.penalty.codes 0)
    (λ (q : eqb t.penalty.codes 0 ≡ true). rw q)
    (λ (q : eqb t.penalty.codes 0 ≡ false). rw q (by_test (leb 52 c) (λ (r : leb 52 c ≡ true). rw r) (λ (r : leb 52 c ≡ false). rw r)))

next-play : (t : Table) (c : ℕ) → c < 52 → (after_play t c).play ≡ step t.play c
unfolding after_play
next-play t c h =
    by_test (eqb t.penalty.codes 0)
    (λ (q : eqb t.penalty.codes 0 ≡ true). rw q)
    (λ (q : eqb t.penalty.codes 0 ≡ false). rw (q, lt-leb 52 c h))

module _ (deal : List ℕ) (trump opening : ℕ) where
  -- the play's position is that of the cards
  pub play-is : (e : List Event) → NoneRefused trump opening deal e
      → (position_of deal trump opening e).play ≡ PlayHistory.position_of deal trump opening (cards_of e)
  unfolding position_of PlayHistory.position_of table_of after_exposed after_choice cards_of NoneRefused event_refusal
  play-is [] w = refl
  play-is (played c ∷ e) w =
      let f = fair trump opening deal (cards_of e) c w.0 in
      next-play (position_of deal trump opening e) c f.code ∙ ap (λ (p : Play). step p c) (play-is e w.1)
  play-is (exposed c deliberate ∷ e) w = play-is e w.1
  play-is (choice kind suit ∷ e) w = play-is e w.1

  -- cards alone leave the penalty cards as they were
  pub alone-is : (g : List ℕ) → position_of deal trump opening (as_events g) ≡ table_with (PlayHistory.position_of deal trump opening g) opening
  unfolding position_of as_events PlayHistory.position_of after_play table_of start_of
  alone-is [] = refl
  alone-is (c ∷ g) = rw (alone-is g)

  -- cards that are allowed are events of which none is refused
  pub none-alone : (g : List ℕ) → AllPlayed deal trump opening g → NoneRefused trump opening deal (as_events g)
  unfolding AllPlayed NoneRefused as_events
  none-alone [] w = tt
  none-alone (c ∷ g) w = (refused-alone trump opening deal g c ∙ w.0, none-alone g w.1)

  pub side_is : (e : List Event) → (position_of deal trump opening e).side ≡ opening % 2
  unfolding position_of table_of after_exposed after_choice
  side_is [] = refl
  side_is (played c ∷ e) = same_side_lem (position_of deal trump opening e) c ∙ side_is e
  side_is (exposed c deliberate ∷ e) = side_is e
  side_is (choice kind suit ∷ e) = side_is e

  -- the position stands for the events: the play for their cards, the penalty cards and what is found for all of them
  pub record TableStands (all : length deal ≡ 52) (t : Table) (e : List Event) : Type 0 where
    pub play : PlayStands.Stands deal trump opening all t.play (cards_of e)
    pub side : t.side ≡ opening % 2
    pub penalty : Stands deal trump opening t.penalty e
    pub found : FoundStands deal trump opening t.found e

  -- who leads is one of four
  pub leader-low : opening < 4 → (g : List ℕ) → leader trump opening g < 4
  unfolding leader
  leader-low low [] = low
  leader-low low (c ∷ g) =
      by_test (eqb (cards_in_trick (c ∷ g)) 0)
      (λ (q : eqb (cards_in_trick (c ∷ g)) 0 ≡ true). rw q (winner-low trump (leader trump opening g) c (trick_under_way g)))
      (λ (q : eqb (cards_in_trick (c ∷ g)) 0 ≡ false). rw q (leader-low low g))

  -- without codes a card more needs no step of the penalty cards
  penalty_alone : {p : Penalty} (c : ℕ) (g : List ℕ) → Stands deal trump opening p (as_events g) → Stands deal trump opening p (as_events (c ∷ g))
  penalty_alone c g s =
      record {
        faced = s.faced ∙ word_same 52 _ _ (λ k h. none-faced trump opening deal g k ∙ sym (none-faced trump opening deal (c ∷ g) k));
        major = s.major ∙ word_same 52 _ _ (λ k h. none-major trump opening deal g k ∙ sym (none-major trump opening deal (c ∷ g) k));
        forbidden = s.forbidden
            ∙ word_same 52 _ _ (λ k h. none-forbidden trump opening g (suit_of k) ∙ sym (none-forbidden trump opening (c ∷ g) (suit_of k)));
        requires = s.requires ∙ none_required g ∙ sym (none_required (c ∷ g));
        codes = s.codes ∙ no_codes g ∙ sym (no_codes (c ∷ g));
      }

  module _ (all : length deal ≡ 52) (dealt : (seat : ℕ) → seat < 4 → cards_dealt seat deal ≡ 13) where
    -- a seat's word among those of the four hands
    dealt_word_lem : (seat : ℕ) → seat < 4 → get_or (words_of deal) seat 0 ≡ dealt_word deal trump opening seat
    dealt_word_lem seat low = at_seat deal seat low ∙ word_places seat deal ∙ rw all

    module _ {t : Table} {e : List Event} (s : TableStands all t e) (w : NoneRefused trump opening deal e) where
      abbrev g : List ℕ
      g = cards_of e

      allowed : AllPlayed deal trump opening g
      allowed = cards-allowed deal trump opening e w

      -- ---- the turn
      hand_word : hand_of t.play ≡ word_by 52 (λ k. holds deal g (to_play trump opening g) k)
      hand_word =
          let seat = to_play trump opening g in
          PlayStands.hand_is deal trump opening all s.play allowed
          ∙ word_places seat (holders_of deal trump opening g)
          ∙ rw (holders_52 deal trump opening all g)
          (word_same 52 _ _ (λ k h. holds_law deal trump opening all g allowed seat k (turn_seat trump opening g)))

      turn_stands : AtTurn deal trump opening (turn_in t) e
      unfolding turn_in
      turn_stands =
          record {
            hand = hand_word;
            first = λ n. rw (PlayStands.lead_test deal trump opening all s.play, n) refl;
            led = λ n. rw (PlayStands.lead_test deal trump opening all s.play, n) (ap Some (s.play.led (eqb-false (cards_in_trick g) 0 n)));
          }

      -- ---- what is found of a card
      module _ (c : ℕ) (v : NoneRefused trump opening deal (played c ∷ e)) where
        few-cards : cards_played g ≤ 51
        unfolding cards_of cards_played
        few-cards = let n = at_most_52 deal trump opening all (c ∷ g) (cards-allowed deal trump opening (played c ∷ e) v) in omega arith

        entry-is : entry_in t c ≡ entry_of deal trump opening (failure_by trump opening e c)
        unfolding entry_in failure_by tricks_complete
        entry-is =
            let low = (card-held deal trump opening c e v).0 in
            rw (PlayStands.turn_is deal trump opening all s.play, s.play.played) (omega (arith, few-cards, turn_seat trump opening g))

        entry-low : entry_in t c < 4096
        unfolding entry_in
        entry-low = omega arith

        found-is : FoundStands deal trump opening (found_after t c) (played c ∷ e)
        unfolding found_after found_of revokes_in disobeys
        found-is =
            let held = card-held deal trump opening c e v in
            let turn = turn_stands in
            found_by deal trump opening c s.found (omega (arith, few-cards)) (at_most_24 deal trump opening all dealt e w) _ _ _ _ _ (entry_in t c)
            (PlayStands.lead_test deal trump opening all s.play)
            (ap not (obeys-is deal trump opening s.penalty turn c held.0 held.1))
            (excused-is deal trump opening s.penalty turn w)
            (fails_is deal trump opening s.penalty turn w c held.0)
            s.penalty.requires
            entry-is
            entry-low

      -- ---- the owner of a card, and the leader's partner
      owner_is : (c : ℕ) → is_exposable trump opening deal e c ≡ true → owner_word t c ≡ dealt_word deal trump opening (dealt_to deal c)
      unfolding owner_word holds
      owner_is c x =
          let d = exposed_defender trump opening deal e c x in
          let owner = dealt_to deal c in
          let low = ltb-true owner 4 (and_left (ltb owner 4) (same_side owner opening) d) in
          let code : c < 52 = omega (arith, defenders-card opening deal c d) in
          let stands : eqb (dealt_to (holders_of deal trump opening g) c) owner ≡ true =
          holds_law deal trump opening all g allowed owner c low ∙ rw (eq-eqb owner owner refl, exposed_unplayed trump opening deal e c x) in
          let place : c < length (holders_of deal trump opening g) = omega (arith, holders_52 deal trump opening all g) in
          let at : get_or (holders_of deal trump opening g) c 0 ≡ owner =
          any_default (holders_of deal trump opening g) c 0 no_seat place ∙ eqb-true (dealt_to (holders_of deal trump opening g) c) owner stands in
          rw (lt-leb 52 c code, s.play.dealt, s.play.holders, at, mod-eq_of_lt low) (dealt_word_lem owner low)

      pub partner_is : partner_word t ≡ dealt_word deal trump opening (partner_of (leader_after trump opening e))
      unfolding partner_word clockwise
      partner_is =
          let same : (leader trump opening g % 4 + 2) % 4 ≡ (leader trump opening g + 2) % 4 = omega arith in
          rw (s.play.dealt, s.play.leads, same) (dealt_word_lem ((leader trump opening g + 2) % 4) (omega arith))

    module _ (low : opening < 4) where
      -- the leader keeps the lead, by the position and by the Law
      keeps_is : {t : Table} (e : List Event) (c : ℕ) → TableStands all t e → (step t.play c).leader ≡ leader trump opening (c ∷ cards_of e) % 4
          → keeps_lead t (step t.play c) ≡ eqb (leader trump opening (c ∷ cards_of e)) (leader trump opening (cards_of e))
      unfolding keeps_lead
      keeps_is e c s next =
          rw (next, s.play.leads, mod-eq_of_lt (leader-low low (c ∷ cards_of e)), mod-eq_of_lt (leader-low low (cards_of e)))

      -- the play of the next position
      play-stands : (e : List Event) → NoneRefused trump opening deal e
          → PlayStands.Stands deal trump opening all (position_of deal trump opening e).play (cards_of e)
      play-stands e w = rw (play-is e w) (PlayStands.stands deal trump opening all (cards_of e) (cards-allowed deal trump opening e w))

      card-table : (c : ℕ) (e : List Event) (t : Table) → TableStands all t e → NoneRefused trump opening deal (played c ∷ e)
          → PlayStands.Stands deal trump opening all (after_play t c).play (c ∷ cards_of e)
          → (Stands deal trump opening (after_play t c).penalty (played c ∷ e)) × (FoundStands deal trump opening (after_play t c).found (played c ∷ e))
      unfolding after_play NoneRefused as_events
      card-table c e t s w next =
          by_test (eqb t.penalty.codes 0)
          (λ (q : eqb t.penalty.codes 0 ≡ true).
          let alone = without-codes e (sym s.penalty.codes ∙ eqb-true t.penalty.codes 0 q) in
          rw q (
            rw alone (penalty_alone c (cards_of e) (rw alone at s.penalty)),
            rw alone (found-alone deal trump opening c (cards_of e) (rw alone at s.found)),
          ))
          (λ (q : eqb t.penalty.codes 0 ≡ false).
          let code = (card-held deal trump opening c e w).0 in
          let n = rw (q, lt-leb 52 c code) at next.leads in
          rw (q, lt-leb 52 c code) (
            card-stands deal trump opening c (keeps_lead t (step t.play c)) s.penalty code (keeps_is e c s n),
            found-is s w.1 c w,
          ))

      -- a card, an exposure and a choice that is not refused
      card_stood : (c : ℕ) (e : List Event) (t : Table) → TableStands all t e → NoneRefused trump opening deal (played c ∷ e)
          → PlayStands.Stands deal trump opening all (after_play t c).play (cards_of (played c ∷ e)) → (after_play t c).side ≡ opening % 2
          → TableStands all (after_play t c) (played c ∷ e)
      unfolding cards_of
      card_stood c e t s w next side = let r = card-table c e t s w next in record { play = next; side = side; penalty = r.0; found = r.1 }

      exposed_stood : (c : ℕ) (deliberate : Bool) (e : List Event) (t : Table) → TableStands all t e → NoneRefused trump opening deal (exposed c deliberate ∷ e)
          → TableStands all (after_exposed t c deliberate) (exposed c deliberate ∷ e)
      unfolding after_exposed cards_of NoneRefused
      exposed_stood c deliberate e t s w =
          let x = exposable trump opening deal e c deliberate w.0 in
          let code : c < 52 = omega (arith, defenders-card opening deal c (exposed_defender trump opening deal e c x.1)) in
          let unfaced = exposed_unfaced trump opening deal e c x.1 in
          record {
            play = s.play;
            side = s.side;
            penalty = rw (owner_is s w.1 c x.1)
                (exposed-stands deal trump opening c deliberate s.penalty code unfaced (room e x.0));
            found = found-exposed deal trump opening c deliberate s.found;
          }

      choice_stood : (kind suit : ℕ) (e : List Event) (t : Table) → TableStands all t e → NoneRefused trump opening deal (choice kind suit ∷ e)
          → TableStands all (after_choice t kind suit) (choice kind suit ∷ e)
      unfolding after_choice cards_of NoneRefused
      choice_stood kind suit e t s w =
          let x = chosen trump opening deal e kind suit w.0 in
          record {
            play = s.play;
            side = s.side;
            penalty = rw (partner_is s w.1)
                (choice-stands deal trump opening kind suit s.penalty (room e x.0) (opened trump opening deal e kind suit x.1).kinds);
            found = found-choice deal trump opening kind suit s.found;
          }

      started : NoneRefused trump opening deal [] → TableStands all (table_of deal (words_of deal) trump opening) []
      unfolding table_of position_of
      started w = record { play = play-stands [] w; side = refl; penalty = starts deal trump opening; found = found_starts deal trump opening }

      -- the theorem: the position stands for every history of which no event is refused
      pub table-stands : (e : List Event) → NoneRefused trump opening deal e → TableStands all (position_of deal trump opening e) e
      unfolding NoneRefused position_of
      table-stands [] w = started w
      table-stands (played c ∷ e) w =
          card_stood c e (position_of deal trump opening e) (table-stands e w.1) w (play-stands (played c ∷ e) w) (side_is (played c ∷ e))
      table-stands (exposed c deliberate ∷ e) w = exposed_stood c deliberate e (position_of deal trump opening e) (table-stands e w.1) w
      table-stands (choice kind suit ∷ e) w = choice_stood kind suit e (position_of deal trump opening e) (table-stands e w.1) w
