-- A text of the subset of Portable Bridge Notation is refused with 3, 4, 6 to 9, 12, 23, 32 or 33 before it is written, and a place below 1024: it has no
-- mark, no code and no claim, and where Play stands it lists 52 cards. Assumes nothing.
use Prim.Native.Nat.{ℕ, ◌+◌, ◌≤◌, ◌<◌, min}
use native.Mathlib.Omega.{arith}
use mathlib.Core.Path.{◌≡◌, refl, sym, ap, ◌∙◌}
use mathlib.Core.Bool.{Bool, true, false, not, ◌&&◌, ◌||◌}
use mathlib.Core.List.{List, [], ◌∷◌, map}
use borrow.Author.Tests.{ne_eqb, le-leb, lt-leb, ltb-false, not-true, not-false}
use lib.Dec.{eqb, ltb, leb}
use lib.ListN.{length}
use Rattle.laws.specs.Choice.{some}
use Rattle.laws.specs.Refusals.{accepted, no_board_or_table, not_thirteen, auction_unfinished, play_unfinished, too_many_calls, too_many_cards, outside_subset}
use Rattle.laws.specs.Refusals.{refuses_game}
use Rattle.laws.specs.Cards.{no_seat, seat_without_thirteen}
use Rattle.laws.specs.Law2.{dealer}
use Rattle.laws.specs.Auction.{is_bid, is_marked, is_over, allowed, passed_out, trump_after, opening_after}
use Rattle.laws.specs.CallRefusal.{is_code, call_refusal, call_place}
use Rattle.laws.specs.Law44.{cards_played, all_played, playable, to_play, has_played}
use Rattle.laws.specs.CardRefusal.{card_refusal}
use Rattle.laws.specs.Events.{Event, played, begins_code, cards_of}
use Rattle.laws.specs.CodeRefusal.{event_refusal}
use Rattle.laws.specs.FlatPlay.{event, cards_in, is_misplaced, item_refusal, after_item}
use Rattle.laws.specs.Plays.{play_place}
use Rattle.laws.specs.Record.{Parts}
use Rattle.laws.specs.Lawful.{Lawful}
use Rattle.laws.specs.Judge.{Outcome.refused as declined, Outcome.accepted as accepts, outcome}
use Rattle.laws.specs.Reading.{Reading, Reading.refused, Reading.found, onward, refuse}
use Rattle.laws.specs.Contents.{take_heading, are_seats, take_deal, take_each, take_calls, take_items, take_cards, take_claim}
use Rattle.laws.specs.PbnText.{Listed, absent, columns, Game, EachBelow, Listable, Sayable}
use Rattle.laws.specs.PbnOrder.{order_of_play}
use Rattle.laws.specs.PbnReading.{Parsed, outside, game, parse}
use Rattle.laws.specs.Pbn.{last_place, play_line, play_stands, cards_listed, take_game, pbn_outcome}
use Rattle.laws.proofs.Tests.{by_test, not_both, and_left}
use Rattle.laws.proofs.CallRefusals.{call-place-le}
use Rattle.laws.proofs.FlatPlay.{items-alone, cards-alone}
use Rattle.laws.proofs.ItemsTaken.{taken-cards}
use Rattle.laws.proofs.Numbered.{Numbered, at_place, Fair, fair_on, fair_test, short-le}
use Rattle.laws.proofs.PbnOrder.{in_columns}
use Rattle.laws.proofs.PbnParse.{only_so}
use Rattle.laws.proofs.PbnRecord.{calls-few, game-lawful}
use Rattle.laws.proofs.PbnSame.{columns-length, listed-each}

-- a check with nothing behind it, and one whose passing is used
fair_last : (n place : ℕ) (met : Bool) (from : ℕ) → (met ≡ true → Numbered refuses_game n place) → Fair refuses_game (refuse n place met [] from)
unfolding refuse
fair_last n place true from f = f refl
fair_last n place false from f = tt

fair_check : {B : Type 0} (n place : ℕ) (met : Bool) (from : ℕ) (next : Unit {0} → ℕ → Reading B) → (met ≡ true → Numbered refuses_game n place)
    → (met ≡ false → Fair refuses_game (next tt from)) → Fair refuses_game (onward (refuse n place met [] from) next)
unfolding refuse
fair_check n place true from next f g = f refl
fair_check n place false from next f g = g refl

fair_heading : (board table from : ℕ) → Fair refuses_game (take_heading board table [] from)
unfolding take_heading
fair_heading board table from =
    fair_test refuses_game no_board_or_table 0 (ltb 127 board) [] from _ (λ t. at_place refl (omega arith))
    (fair_test refuses_game no_board_or_table 0 (eqb board 0) [] from _ (λ t. at_place refl (omega arith))
    (fair_test refuses_game no_board_or_table 1 (ltb 511 table) [] from _ (λ t. at_place refl (omega arith))
    (fair_last no_board_or_table 1 (eqb table 0) from (λ t. at_place refl (omega arith)))))

fair_deal : (deal : List ℕ) (from : ℕ) → Fair refuses_game (take_deal deal [] from)
unfolding take_deal
fair_deal deal from =
    fair_test refuses_game not_thirteen no_seat (not (are_seats deal)) [] from _ (λ t. at_place refl (omega arith))
    (fair_last not_thirteen (seat_without_thirteen deal) (not (eqb (seat_without_thirteen deal) no_seat)) from (λ t. at_place refl (omega (arith, short-le deal))))

-- ---- the calls: no code is over 37, so none is a mark
call-number : (d : ℕ) (h : List ℕ) (c : ℕ) → c < 38 → is_marked h ≡ false → not (eqb (call_refusal d h c) accepted) ≡ true
    → refuses_game (call_refusal d h c) ≡ true
unfolding call_refusal
call-number d h c low unmarked t =
    let code : is_code c ≡ true = le-leb c 38 (omega arith) in
    by_test (is_over h)
    (λ (q : is_over h ≡ true). rw (code, q))
    (λ (q : is_over h ≡ false).
    by_test (allowed d h c)
    (λ (r : allowed d h c ≡ true). not_both false (rw (code, q, r) at t) refl)
    (λ (r : allowed d h c ≡ false). by_bid q r code (is_bid c) refl))
  where
    by_bid : is_over h ≡ false → allowed d h c ≡ false → is_code c ≡ true → (b : Bool) → is_bid c ≡ b → refuses_game (call_refusal d h c) ≡ true
    by_bid q r code true s = rw (code, q, r, unmarked, s)
    by_bid q r code false s = rw (code, q, r, unmarked, s)

fair_each : (d : ℕ) (l h : List ℕ) (from : ℕ) → EachBelow 38 l → is_marked h ≡ false → length h + length l ≤ 511
    → Fair refuses_game (take_each (call_place d) (call_refusal d) l h [] from)
unfolding take_each EachBelow is_marked
fair_each d [] h from each unmarked few = tt
fair_each d (c ∷ l) h from each unmarked few =
    fair_test refuses_game (call_refusal d h c) (call_place d h c) (not (eqb (call_refusal d h c) accepted)) [] from _
    (λ t. at_place (call-number d h c each.0 unmarked t) (omega (arith, call-place-le d h c)))
    (fair_each d l (c ∷ h) from each.1 (ne_eqb c 38 (λ e. omega (arith, each.0))) (omega arith))

fair_calls : (d : ℕ) (calls : List ℕ) (from : ℕ) → EachBelow 38 calls → Fair refuses_game (take_calls d calls [] from)
unfolding take_calls is_marked
fair_calls d calls from each =
    fair_check too_many_calls 511 (ltb 511 (length calls)) from _ (λ t. at_place refl (omega arith)) (λ f.
    let few = ltb-false 511 (length calls) f in
    fair_on refuses_game (take_each (call_place d) (call_refusal d) calls [] [] from) _ (fair_each d calls [] from each refl (omega arith)) (λ h m q.
    fair_test refuses_game auction_unfinished (length calls) (not (is_over h)) [] m _ (λ t. at_place refl (omega arith)) tt))

-- ---- the cards: no code is over 51, and where there is a contract there are 52
no_codes : (l : List ℕ) → EachBelow 52 l → some begins_code l ≡ false
unfolding some EachBelow
no_codes [] each = refl
no_codes (c ∷ l) each =
    rw (ne_eqb c 52 (λ e. omega (arith, each.0)), ne_eqb c 53 (λ e. omega (arith, each.0))) (no_codes l each.1)

module _ (trump opening : ℕ) (deal : List ℕ) where
  card-number : (g : List ℕ) (c : ℕ) → c < 52 → not (eqb (card_refusal trump opening deal g c) accepted) ≡ true
      → refuses_game (card_refusal trump opening deal g c) ≡ true
  unfolding card_refusal
  card-number g c low t =
      let card : leb 52 c ≡ false = lt-leb 52 c low in
      by_test (playable trump opening deal g c)
      (λ (q : playable trump opening deal g c ≡ true). not_both false (rw (card, q) at t) refl)
      (λ (q : playable trump opening deal g c ≡ false). by_played card q (has_played deal g (to_play trump opening g) c) refl)
    where
      by_played : leb 52 c ≡ false → playable trump opening deal g c ≡ false → (b : Bool) → has_played deal g (to_play trump opening g) c ≡ b
          → refuses_game (card_refusal trump opening deal g c) ≡ true
      by_played card q true s = rw (card, q, s)
      by_played card q false s = rw (card, q, s)

  fair_items : (l : List ℕ) (e : List Event) (from : ℕ) → EachBelow 52 l → play_place e + length l < 1024
      → Fair refuses_game (take_items trump opening deal (map (λ (c : ℕ). event (played c)) l) e [] from)
  unfolding take_items item_refusal is_misplaced event_refusal after_item cards_played cards_of EachBelow
  fair_items [] e from each few = tt
  fair_items (c ∷ l) e from each few =
      let n = card_refusal trump opening deal (cards_of e) c in
      fair_test refuses_game n (play_place e) (not (eqb n accepted)) [] from _ (λ t. at_place (card-number (cards_of e) c each.0 t) (omega arith))
      (fair_items l (played c ∷ e) from each.1 (omega arith))

module _ (d : ℕ) (deal h : List ℕ) (all : length deal ≡ 52) where
  -- how many cards Play lists, where it stands
  record Counted (n : ℕ) : Type 0 where
    fits : (ltb 52 n || (passed_out h && ltb 0 n)) ≡ false
    few : n ≤ 52
    whole : (not (passed_out h) && not (eqb n 52)) ≡ false

  counted : (play : Listed) → Listable play → play_stands d h play ≡ true → Counted (length (cards_listed (trump_after h) play))
  unfolding cards_listed play_stands
  counted absent ok stands = record { fits = rw stands; few = omega arith; whole = rw stands }
  counted (columns seat cards) ok stands =
      let bid : passed_out h ≡ false = not-true _ (and_left _ _ stands) in
      let listed = order_of_play (trump_after h) seat cards in
      let n : length listed ≡ 52
      = sym (columns-length (trump_after h) seat seat listed) ∙ ap length (in_columns (trump_after h) seat ok.0 seat ok.0 cards) ∙ ok.1 in
      rw n (record { fits = rw bid; few = omega arith; whole = rw bid })

  module _ (play : Listed) (ok : Listable play) (stands : play_stands d h play ≡ true) where
    abbrev listed : List ℕ
    listed = cards_listed (trump_after h) play

    alone : some begins_code listed ≡ false
    alone = no_codes listed (listed-each (trump_after h) play ok)

    many : length listed ≡ cards_in listed
    many = cards-alone listed alone

    counts : Counted (cards_in listed)
    counts = rw many at (counted play ok stands)

    fair_cards : (from : ℕ) → Fair refuses_game (take_cards d deal h (cards_listed (trump_after h) play) [] from)
    unfolding take_cards cards_played cards_of
    fair_cards from =
        let n = cards_in listed in
        fair_check too_many_cards (min n 63) (ltb 52 n || (passed_out h && ltb 0 n)) from _ (λ t. not_both _ t counts.fits) (λ f.
        rw (items-alone listed alone)
        (fair_items (trump_after h) (opening_after d h) deal listed [] from (listed-each (trump_after h) play ok)
        (omega (arith, counts.few, many))))

    played_out_lem : (from : ℕ) {e : List Event} {m : ℕ} → take_cards d deal h (cards_listed (trump_after h) play) [] from ≡ found e m
        → (not (passed_out h) && not (all_played (cards_of e))) ≡ false
    unfolding all_played
    played_out_lem from q = rw (taken-cards d deal h listed from all q) counts.whole

-- ---- the whole
play-line : (l : List ℕ) → length l ≤ 511 → play_line l < 1024
unfolding play_line
play-line l few = omega arith

pub fair_game : (x : Game) (table : ℕ) → Sayable x → Fair refuses_game (take_game x table [] 0)
unfolding take_game take_claim
fair_game x table ok =
    let d = dealer x.board in
    fair_on refuses_game (take_heading x.board table [] 0) _ (fair_heading x.board table 0) (λ u m₁ q₁.
    fair_test refuses_game outside_subset 3 (not (eqb x.caller d)) [] m₁ _ (λ t. at_place refl (omega arith))
    (fair_on refuses_game (take_deal x.holders [] m₁) _ (fair_deal x.holders m₁) (λ u m₂ q₂.
    fair_on refuses_game (take_calls d x.calls [] m₂) _ (fair_calls d x.calls m₂ ok.calls) (λ h m₃ q₃.
    fair_check outside_subset (play_line x.calls) (not (play_stands d h x.play)) m₃ _
    (λ t. at_place refl (play-line x.calls (calls-few d x.calls m₂ q₃))) (λ f.
    let stands = not-false _ f in
    fair_on refuses_game (take_cards d x.holders h (cards_listed (trump_after h) x.play) [] m₃) _
    (fair_cards d x.holders h ok.deal x.play ok.play stands m₃) (λ e m₄ q₄.
    fair_check play_unfinished (cards_played (cards_of e)) (not (passed_out h) && not (all_played (cards_of e))) m₄ _
    (λ t. not_both _ t (played_out_lem d x.holders h ok.deal x.play ok.play stands m₃ q₄)) (λ g. tt)))))))

-- ---- what is said of any text
module _ (t : List ℕ) (table : ℕ) where
  pub said-refused : {n place : ℕ} → pbn_outcome (parse t) table ≡ declined n place → Numbered refuses_game n place
  unfolding pbn_outcome
  said-refused {n} {place} e = by_parse (parse t) refl e
    where
      by_taken : (r : Reading Parts) → Fair refuses_game r → outcome r ≡ declined n place → Numbered refuses_game n place
      by_taken (refused m at) f o = let ea : m ≡ n = cc in let eb : at ≡ place = cc in rw (← ea, ← eb) f
      by_taken (found p m) f o = let z : ◌≡◌ {A = ℕ} 0 1 = cc in absurd (omega arith)

      by_parse : (r : Parsed) → parse t ≡ r → pbn_outcome r table ≡ declined n place → Numbered refuses_game n place
      by_parse (outside line) q o =
          let ea : outside_subset ≡ n = cc in
          let eb : min line last_place ≡ place = cc in
          rw (← ea, ← eb) (at_place refl (omega arith))
      by_parse (game x) q o = by_taken (take_game x table [] 0) (fair_game x table (only_so t x q).0) o

  pub said-lawful : {p : Parts} → pbn_outcome (parse t) table ≡ accepts p → Lawful p
  unfolding pbn_outcome
  said-lawful {p} e = by_parse (parse t) e
    where
      by_taken : (x : Game) (r : Reading Parts) → take_game x table [] 0 ≡ r → outcome r ≡ accepts p → Lawful p
      by_taken x (refused m at) q o = let z : ◌≡◌ {A = ℕ} 0 1 = cc in absurd (omega arith)
      by_taken x (found a m) q o = let same : a ≡ p = cc in rw same at (game-lawful x table q)

      by_parse : (r : Parsed) → pbn_outcome r table ≡ accepts p → Lawful p
      by_parse (outside line) o = let z : ◌≡◌ {A = ℕ} 0 1 = cc in absurd (omega arith)
      by_parse (game x) o = by_taken x (take_game x table [] 0) refl o
