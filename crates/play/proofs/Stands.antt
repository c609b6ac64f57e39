-- The position that the code keeps is the Laws' after every history that the verdicts allow: each field, a card at a time. Assumes nothing.
use Prim.Native.Nat.{ℕ, zero, suc, ◌≤◌, ◌<◌, ◌/◌, ◌%◌, ◌^◌, max}
use mathlib.Core.Path.{◌≡◌, refl, sym, ◌∙◌}
use mathlib.Core.Bool.{true, false, not, ◌&&◌}
use mathlib.Core.List.{List, [], ◌∷◌}
use native.Mathlib.Nat.{mod-eq_of_lt, pow-suc, pow-le-pow_right}
use native.Mathlib.Omega.{arith}
use borrow.Author.Tests.{eqb-true, eqb-false, eq-eqb, ne_eqb, lt-leb, leb-true, leb-false}
use lib.Bits.{bit_xor}
use lib.Dec.{eqb, leb}
use lib.ListN.{length, get_or, take}
use lib.Pow.{pow_mono}
use Rattle.laws.specs.Choice.{some}
use Rattle.laws.specs.Cards.{suit_of, clockwise, dealt_to, no_seat}
use Rattle.laws.specs.Law44.{cards_played, tricks_complete, cards_in_trick, trick_under_way, suit_led, winning_card, leader, to_play, is_played, holds}
use Rattle.laws.specs.Law61.{holds_suit, is_revoke}
use Rattle.laws.proofs.Tests.{by_test, not_both}
use Rattle.laws.proofs.Counts.{any_default}
use Rattle.deal.specs.Hands.{word_of, words_of}
use Rattle.deal.proofs.Built.{at_seat}
use Rattle.deal.proofs.Held.{has-holds}
use Rattle.play.specs.declared.Play.{Play}
use Rattle.play.specs.Words.{bit_of, with_bit, with_four, with_entry}
use Rattle.play.specs.Position.{put_played, start_of, turn_of, hand_of, could_follow, leads, worth_of, revokes_with, with_lead, with_card, with_trick, step}
use Rattle.play.specs.History.{position_of, AllPlayed, holders_of, best_worth, entries_of, fours_of, low_of, high_of, revoked_of}
use Rattle.play.proofs.Cards.{fair, trick-more, trick-last, trick-size, in_trick_more, in_trick_last}
use Rattle.play.proofs.Cards.{leader-same, not_in_trick}
use Rattle.play.proofs.Masks.{word_by, word_same, word_and, word_without, word_places}
use Rattle.play.proofs.Holders.{turn_seat, holders_52, holds_law, stood, suit_law}
use Rattle.play.proofs.Thirteen.{at_most_52}
use Rattle.play.proofs.Winning.{winning_played}
use Rattle.play.proofs.Worth.{winner-low, best-more}
use Rattle.play.proofs.UnderWay.{led_on, none_under_way, four-over, bit-low, neither, in_play, few-tricks, best-seat, best-card, won_by_lem}
use Rattle.play.proofs.UnderWay.{in_trick_test, one_more}
use Rattle.play.proofs.Bounds.{entries-low, fours_low}

module _ (deal : List ℕ) (trump opening : ℕ) (all : length deal ≡ 52) where
  -- the fields of a position are what the Laws say after the cards
  pub record Stands (p : Play) (g : List ℕ) : Type 0 where
    pub holders : p.holders ≡ holders_of deal trump opening g
    pub dealt : p.dealt ≡ words_of deal
    pub left : p.left ≡ word_by 52 (λ i. not (is_played g i))
    pub trumps : p.trump ≡ trump
    pub played : p.played ≡ cards_played g
    pub leads : p.leader ≡ leader trump opening g % 4
    pub led : (cards_in_trick g ≡ 0 → ⊥) → p.led ≡ suit_led (trick_under_way g)
    pub best : p.best ≡ best_worth trump (leader trump opening g) (trick_under_way g)
    pub tricks : p.tricks ≡ entries_of trump opening g
    pub low : p.low ≡ fours_of (low_of trump) g
    pub high : p.high ≡ fours_of (high_of trump) g
    pub revoked : p.revoked ≡ revoked_of deal trump opening g

  starts : Stands (start_of deal (words_of deal) trump opening) []
  unfolding start_of holders_of is_played some cards_played leader best_worth trick_under_way cards_in_trick entries_of fours_of revoked_of word_by
  starts = record {
    holders = refl;
    dealt = refl;
    left = refl;
    trumps = refl;
    played = refl;
    leads = refl;
    led = λ ne. absurd
        (ne refl);
    best = refl;
    tricks = refl;
    low = refl;
    high = refl;
    revoked = refl;
  }

  -- ---- what a position that stands says of the next card
  module _ {p : Play} {g : List ℕ} (s : Stands p g) where
    pub turn_is : turn_of p ≡ to_play trump opening g
    unfolding turn_of to_play clockwise cards_in_trick
    turn_is = rw (s.leads, s.played) (omega arith)

    pub lead_test : leads p ≡ eqb (cards_in_trick g) 0
    unfolding cards_in_trick
    lead_test = rw s.played

    -- the suit led, once the card is played
    led_is : (c : ℕ) → (with_lead p c).led ≡ suit_led (c ∷ trick_under_way g)
    unfolding with_lead suit_led
    led_is c =
        rw lead_test (by_test (eqb (cards_in_trick g) 0)
        (λ (q : eqb (cards_in_trick g) 0 ≡ true). rw (q, none_under_way g (eqb-true (cards_in_trick g) 0 q)))
        (λ (q : eqb (cards_in_trick g) 0 ≡ false).
        let n = eqb-false (cards_in_trick g) 0 q in
        rw q (s.led n ∙ sym (led_on c (trick_under_way g) (λ e. n (sym (trick-size g) ∙ e))))))

    -- the hand of the seat at turn
    pub hand_is : AllPlayed deal trump opening g → hand_of p ≡ word_of (to_play trump opening g) (holders_of deal trump opening g)
    unfolding hand_of holds
    hand_is w =
        let seat = to_play trump opening g in
        let low = turn_seat trump opening g in
        let dealt : get_or p.dealt (turn_of p) 0 ≡ word_by 52 (λ i. eqb (dealt_to deal i) seat) =
        rw (turn_is, s.dealt) (at_seat deal seat low ∙ word_places seat deal ∙ rw all) in
        let now : word_of seat (holders_of deal trump opening g) ≡ word_by 52 (λ i. eqb (dealt_to (holders_of deal trump opening g) i) seat) =
        word_places seat (holders_of deal trump opening g) ∙ rw (holders_52 deal trump opening all g) in
        rw (dealt, s.left) (word_and 52 (λ i. eqb (dealt_to deal i) seat) (λ i. not (is_played g i))
        ∙ word_same 52 (λ i. eqb (dealt_to deal i) seat && not (is_played g i)) (λ i. eqb (dealt_to (holders_of deal trump opening g) i) seat)
        (λ i h. sym (holds_law deal trump opening all g w seat i low))
        ∙ sym now)

    -- whether it has a card of the suit led
    pub could-is : AllPlayed deal trump opening g → could_follow p ≡ holds_suit deal g (to_play trump opening g) (p.led % 4)
    unfolding could_follow
    could-is w =
        let seat = to_play trump opening g in
        rw (hand_is w) (has-holds (holders_of deal trump opening g) (holders_52 deal trump opening all g) seat (p.led % 4)
        ∙ suit_law deal trump opening all g w seat (p.led % 4) (turn_seat trump opening g))

  -- the suit led is one of four
  led_low : (n : ℕ) (g : List ℕ) → AllPlayed deal trump opening g → suit_led (take n g) < 4
  unfolding AllPlayed suit_led
  led_low zero g w = omega arith
  led_low (suc n) [] w = omega arith
  led_low (suc zero) (c ∷ g) w = omega (arith, (fair trump opening deal g c w.0).code)
  led_low (suc (suc n)) (c ∷ []) w = omega (arith, (fair trump opening deal [] c w.0).code)
  led_low (suc (suc n)) (c ∷ d ∷ g) w = led_low (suc n) (d ∷ g) w.1

  pub under_way_low : (g : List ℕ) → AllPlayed deal trump opening g → suit_led (trick_under_way g) < 4
  unfolding trick_under_way
  under_way_low g w = led_low (cards_in_trick g) g w

  -- what was played is a card
  pub played-low : (g : List ℕ) → AllPlayed deal trump opening g → (x : ℕ) → is_played g x ≡ true → x < 52
  unfolding AllPlayed is_played some
  played-low [] w x e = not_both false e refl
  played-low (c ∷ g) w x e =
      by_test (eqb c x)
      (λ (q : eqb c x ≡ true). omega (arith, eqb-true c x q, (fair trump opening deal g c w.0).code))
      (λ (q : eqb c x ≡ false). played-low g w.1 x (rw q at e))

  -- the position with the lead stands for the same cards
  with_lead_stands : {p : Play} {g : List ℕ} (c : ℕ) → Stands p g → Stands (with_lead p c) g
  unfolding with_lead
  with_lead_stands {p} {g} c s =
      record {
        holders = s.holders;
        dealt = s.dealt;
        left = s.left;
        trumps = s.trumps;
        played = s.played;
        leads = s.leads;
        led = λ ne. rw (lead_test s, ne_eqb (cards_in_trick g) 0 ne) (s.led ne);
        best = s.best;
        tricks = s.tricks;
        low = s.low;
        high = s.high;
        revoked = s.revoked;
      }

  -- the test of a revoke is the Law's
  revoke-is : {p : Play} {g : List ℕ} (c : ℕ) → Stands p g → AllPlayed deal trump opening g → revokes_with (with_lead p c) c ≡ is_revoke trump opening deal g c
  unfolding revokes_with is_revoke suit_led
  revoke-is {p} {g} c s w =
      let q = with_lead_stands c s in
      rw (could-is q w, led_is s c) (by_test (eqb (cards_in_trick g) 0)
      (λ (e : eqb (cards_in_trick g) 0 ≡ true). rw (e, none_under_way g (eqb-true (cards_in_trick g) 0 e), eq-eqb (suit_of c) (suit_of c) refl))
      (λ (e : eqb (cards_in_trick g) 0 ≡ false).
      let n = eqb-false (cards_in_trick g) 0 e in
      rw (e, led_on c (trick_under_way g) (λ z. n (sym (trick-size g) ∙ z)), mod-eq_of_lt (under_way_low g w))))

  -- a bit for each card
  revoked_low : (g : List ℕ) → revoked_of deal trump opening g < 2 ^ cards_played g
  unfolding revoked_of cards_played
  revoked_low [] = omega arith
  revoked_low (c ∷ g) = rw pow-suc (omega (arith, revoked_low g, bit-low (is_revoke trump opening deal g c)))

  -- ---- the card on the table
  on_holders : (c : ℕ) (g : List ℕ) → AllPlayed deal trump opening (c ∷ g) → put_played (holders_of deal trump opening g) c ≡ holders_of deal trump opening (c ∷ g)
  unfolding put_played holders_of AllPlayed
  on_holders c g w =
      let f = fair trump opening deal g c w.0 in
      let n = holders_52 deal trump opening all g in
      let held : get_or (holders_of deal trump opening g) c 0 ≡ to_play trump opening g =
      any_default (holders_of deal trump opening g) c 0 no_seat (omega (arith, f.code)) ∙ stood deal trump opening all c g f w.1 in
      rw (held, four-over (to_play trump opening g) (turn_seat trump opening g))

  on_left : (c : ℕ) (g : List ℕ) → c < 52 → is_played g c ≡ false → bit_xor (word_by 52 (λ i. not (is_played g i))) (2 ^ c)
      ≡ word_by 52 (λ i. not (is_played (c ∷ g) i))
  unfolding is_played some
  on_left c g h absent =
      word_without 52 c (λ i. not (is_played g i)) h (rw absent)
      ∙ word_same 52 (λ i. not (eqb c i) && not (is_played g i)) (λ i. not (is_played (c ∷ g) i)) (λ i b. neither (eqb c i) (is_played g i))

  turn_by : (g : List ℕ) → to_play trump opening g ≡ clockwise (leader trump opening g) (cards_played (trick_under_way g))
  unfolding to_play
  turn_by g = rw (trick-size g)

  on_best : {p : Play} (c : ℕ) (g : List ℕ) → Stands p g → AllPlayed deal trump opening (c ∷ g)
      → max (with_lead p c).best (worth_of (with_lead p c) c) ≡ best_worth trump (leader trump opening g) (c ∷ trick_under_way g)
  unfolding worth_of AllPlayed
  on_best {p} c g s w =
      let f = fair trump opening deal g c w.0 in
      let q = with_lead_stands c s in
      rw (turn_is q ∙ turn_by g, led_is s c, q.trumps, q.best)
      (best-more trump (leader trump opening g) c (trick_under_way g) f.code (λ x e. played-low g w.1 x (in_play g x e)) (not_in_trick g c f.unplayed))

  on_revoked : {p : Play} (c : ℕ) (g : List ℕ) → Stands p g → AllPlayed deal trump opening g → cards_played g ≤ 52
      → with_bit (with_lead p c).revoked (bit_of (revokes_with (with_lead p c) c)) ≡ revoked_of deal trump opening (c ∷ g)
  unfolding with_bit revoked_of
  on_revoked {p} c g s w most =
      let q = with_lead_stands c s in
      let small : revoked_of deal trump opening g < 2 ^ 63 = omega (arith, revoked_low g, pow_mono {i = cards_played g} {j = 52} most) in
      rw (revoke-is c s w, q.revoked, mod-eq_of_lt small, mod-eq_of_lt (bit-low (is_revoke trump opening deal g c)))

  record OnTable (r : Play) (c : ℕ) (g : List ℕ) : Type 0 where
    holders : r.holders ≡ holders_of deal trump opening (c ∷ g)
    dealt : r.dealt ≡ words_of deal
    left : r.left ≡ word_by 52 (λ i. not (is_played (c ∷ g) i))
    trumps : r.trump ≡ trump
    played : r.played ≡ cards_played (c ∷ g)
    leads : r.leader ≡ leader trump opening g % 4
    led : r.led ≡ suit_led (c ∷ trick_under_way g)
    best : r.best ≡ best_worth trump (leader trump opening g) (c ∷ trick_under_way g)
    tricks : r.tricks ≡ entries_of trump opening g
    low : r.low ≡ fours_of (low_of trump) g
    high : r.high ≡ fours_of (high_of trump) g
    revoked : r.revoked ≡ revoked_of deal trump opening (c ∷ g)

  on_table : {p : Play} {g : List ℕ} (c : ℕ) → Stands p g → AllPlayed deal trump opening (c ∷ g) → OnTable (with_card (with_lead p c) c) c g
  unfolding with_card AllPlayed
  on_table {p} {g} c s w =
      let f = fair trump opening deal g c w.0 in
      let most = at_most_52 deal trump opening all (c ∷ g) w in
      let q = with_lead_stands c s in
      record {
        holders = rw q.holders (on_holders c g w);
        dealt = q.dealt;
        left = rw q.left (on_left c g f.code f.unplayed);
        trumps = q.trumps;
        played = rw q.played (one_more c g most);
        leads = q.leads;
        led = led_is s c;
        best = on_best c g s w;
        tricks = q.tricks;
        low = q.low;
        high = q.high;
        revoked = on_revoked c g s w.1 (at_most_52 deal trump opening all g w.1);
      }

  -- ---- the trick counted
  -- the card that wins is a card
  pub winning_low : (c : ℕ) (g : List ℕ) → AllPlayed deal trump opening (c ∷ g) → winning_card trump (c ∷ trick_under_way g) < 52
  unfolding AllPlayed is_played some
  winning_low c g w =
      let x = winning_card trump (c ∷ trick_under_way g) in
      let in_trick = winning_played trump c (trick_under_way g) in
      by_test (eqb c x)
      (λ (q : eqb c x ≡ true). omega (arith, eqb-true c x q, (fair trump opening deal g c w.0).code))
      (λ (q : eqb c x ≡ false). played-low g w.1 x (in_play g x (rw q at in_trick)))

  incomplete : {r : Play} {c : ℕ} {g : List ℕ} → OnTable r c g → cards_in_trick g < 3 → Stands (with_trick r) (c ∷ g)
  unfolding with_trick entries_of fours_of
  incomplete {r} {c} {g} o k =
      let more = in_trick_more c g k in
      let goes : eqb (r.played % 4) 0 ≡ false = rw o.played (in_trick_test c g ∙ rw more (ne_eqb (suc (cards_in_trick g)) 0 (λ e. omega arith))) in
      let under = trick-more c g k in
      let lead = leader-same trump opening c g k in
      record {
        holders = o.holders;
        dealt = o.dealt;
        left = o.left;
        trumps = o.trumps;
        played = o.played;
        leads = rw (goes, lead) o.leads;
        led = λ ne. rw under o.led;
        best = rw (goes, under, lead) o.best;
        tricks = rw (goes, more, ne_eqb (suc (cards_in_trick g)) 0 (λ e. omega arith)) o.tricks;
        low = rw (goes, more, ne_eqb (suc (cards_in_trick g)) 0 (λ e. omega arith)) o.low;
        high = rw (goes, more, ne_eqb (suc (cards_in_trick g)) 0 (λ e. omega arith)) o.high;
        revoked = o.revoked;
      }

  complete : {r : Play} {c : ℕ} {g : List ℕ} → OnTable r c g → AllPlayed deal trump opening (c ∷ g) → 3 ≤ cards_in_trick g → Stands (with_trick r) (c ∷ g)
  unfolding with_trick with_entry with_four entries_of fours_of best_worth
  complete {r} {c} {g} o w k =
      let most = at_most_52 deal trump opening all (c ∷ g) w in
      let last = in_trick_last c g k in
      let ends : eqb (r.played % 4) 0 ≡ true = rw o.played (in_trick_test c g ∙ rw last) in
      let under = trick-last c g k in
      let won : r.best % 4 ≡ leader trump opening (c ∷ g) = rw o.best
      (best-seat trump (leader trump opening g) c (trick_under_way g) ∙ sym (won_by_lem trump opening c g last)) in
      let low : leader trump opening (c ∷ g) < 4 = rw (won_by_lem trump opening c g last) (winner-low trump (leader trump opening g) c (trick_under_way g)) in
      let few : suc (tricks_complete g) ≤ 13 = few-tricks c g most in
      let small : entries_of trump opening g < 2 ^ 60 = omega (arith, entries-low trump opening g, pow-le-pow_right {n = 16} (omega arith) few) in
      let fours : (number : List ℕ → ℕ) → fours_of number g < 2 ^ 60 =
      λ number. omega (arith, fours_low number g, pow-le-pow_right {n = 16} (omega arith) few, pow-suc 16 (tricks_complete g)) in
      let card : r.best / 4 % 64 ≡ winning_card trump (c ∷ trick_under_way g) = rw o.best
      (best-card trump (leader trump opening g) c (trick_under_way g) (winning_low c g w)) in
      record {
        holders = o.holders;
        dealt = o.dealt;
        left = o.left;
        trumps = o.trumps;
        played = o.played;
        leads = rw (ends, won, mod-eq_of_lt low);
        led = λ ne. absurd (ne last);
        best = rw (ends, under);
        tricks = rw (ends, last, won, o.led, o.tricks, mod-eq_of_lt small);
        low = rw (ends, last, card, o.low, mod-eq_of_lt (fours (low_of trump)));
        high = rw (ends, last, card, o.high, mod-eq_of_lt (fours (high_of trump)));
        revoked = o.revoked;
      }

  counted : {r : Play} {c : ℕ} {g : List ℕ} → OnTable r c g → AllPlayed deal trump opening (c ∷ g) → Stands (with_trick r) (c ∷ g)
  unfolding with_trick
  counted {r} {c} {g} o w =
      by_test (leb 3 (cards_in_trick g))
      (λ (q : leb 3 (cards_in_trick g) ≡ true). complete o w (leb-true 3 (cards_in_trick g) q))
      (λ (q : leb 3 (cards_in_trick g) ≡ false). incomplete o (leb-false 3 (cards_in_trick g) q))

  pub stands : (g : List ℕ) → AllPlayed deal trump opening g → Stands (position_of deal trump opening g) g
  unfolding position_of AllPlayed step
  stands [] w = starts
  stands (c ∷ g) w =
      let f = fair trump opening deal g c w.0 in
      rw (lt-leb 52 c f.code) (counted (on_table c (stands g w.1) w) w)
