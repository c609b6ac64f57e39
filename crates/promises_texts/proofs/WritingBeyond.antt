-- Contents that are refused: alike up to the section that is refused, and numbers that no field can hold. Assumes nothing.
use Prim.Native.Nat.{ℕ, ◌≤◌, ◌<◌}
use native.Mathlib.Omega.{arith}
use mathlib.Core.Path.{◌≡◌, refl, sym, ap, ◌∙◌}
use mathlib.Core.Logic.{◌⊎◌, ⊎_elim}
use mathlib.Core.Bool.{true}
use mathlib.Core.List.{List, [], ◌∷◌, reverse}
use borrow.Author.Tests.{le-leb, le-ltb, ne_eqb}
use lib.Dec.{eqb, ltb}
use Rattle.laws.specs.Choice.{some}
use Rattle.laws.specs.Law2.{dealer}
use Rattle.laws.specs.Auction.{passed_out}
use Rattle.laws.specs.CardRefusal.{card_refusal}
use Rattle.laws.specs.Events.{Event, played, exposed, choice, exposure_code, choice_code, cards_of, cards_among}
use Rattle.laws.specs.CodeRefusal.{event_refusal}
use Rattle.laws.specs.FlatPlay.{Item, event, broken, code_item, items_of, cards_in, is_misplaced, item_refusal}
use Rattle.laws.specs.Record.{Parts}
use Rattle.laws.specs.Reading.{Reading, Reading.refused as stopped, Reading.found, onward}
use Rattle.laws.specs.Judge.{Outcome.refused as declined}
use Rattle.laws.specs.Contents.{Given, take_heading, take_deal, take_calls, take_cards, take_parts, contents_of}
use Rattle.laws.specs.Writing.{refused, write_of}
use Rattle.laws.proofs.FlatPlay.{card-first, code_first, as_in_record}
use Rattle.laws.proofs.ItemsTaken.{some-many}
use Rattle.laws.proofs.ContentsStop.{heading_passes, board_stops, table_stops, deal_passes, number_stops, holder_stops, codes_stop, calls-pass, call_stops}
use Rattle.laws.proofs.ContentsStop.{cards-pass, count_stops, claim_stops}
use Rattle.laws.proofs.PlaysStop.{no_room, room-left, coded, cut-first, bit-broken, full-refused, broken-refused, last-refused, exposed-refused, choice-refused}
use Rattle.laws.proofs.PlaysStop.{code_no_card, none_after, out_stops, play_stops}
use Rattle.promises_texts.specs.Writing.{Section, heading, deal, calls, cards, claim, Alike, checks_to, HeadingStands, DealStands, CallsStand}
use Rattle.promises_texts.specs.Writing.{trump_of, opening_of, PlaysTo, BeyondPlays, Beyond}

-- a refusal of the contents is the writer's
pub declines : (c : Given) (room : ℕ) {n place : ℕ} → contents_of c ≡ declined n place → write_of c room ≡ refused n place
unfolding write_of
declines c room e = rw e

-- ---- alike up to a section
-- a refusal in what follows a first step, or in that step
stop_on : {A B C : Type 0} (r : Reading A) (f : A → ℕ → Reading B) (g : A → ℕ → Reading C) {n place : ℕ} → onward r f ≡ stopped n place
    → ((a : A) (m : ℕ) → f a m ≡ stopped n place → g a m ≡ stopped n place) → onward r g ≡ stopped n place
stop_on (stopped m at) f g e k = same_stop e
  where
    same_stop : {B C : Type 0} {m at n place : ℕ} → ◌≡◌ {A = Reading B} (stopped m at) (stopped n place) → ◌≡◌ {A = Reading C} (stopped m at) (stopped n place)
    same_stop {m = m} {at} {n} {place} e = let a : m ≡ n = cc in let b : at ≡ place = cc in rw (a, b)
stop_on (found a m) f g e k = k a m e

no_stop : {A P : Type 0} {a : A} {m n place : ℕ} → ◌≡◌ {A = Reading A} (found a m) (stopped n place) → P
no_stop e = absurd (let z : ◌≡◌ {A = ℕ} 0 1 = cc in omega arith)

whole : (r : Reading Parts) {n place : ℕ} → onward r (λ q m. found (tt {0}) m) ≡ stopped n place → r ≡ stopped n place
whole (stopped m at) {n} {place} e = let a : m ≡ n = cc in let b : at ≡ place = cc in rw (a, b)
whole (found q m) e = no_stop e

stops_whole : (s : Section) (c : Given) {n place : ℕ} → checks_to s c [] 0 ≡ stopped n place → take_parts c [] 0 ≡ stopped n place
unfolding checks_to take_parts
stops_whole heading c e = rw e
stops_whole deal c e = stop_on (take_heading c.board c.table [] 0) _ _ e (λ u m d. rw d)
stops_whole calls c e =
    stop_on (take_heading c.board c.table [] 0) _ _ e (λ u m d.
    stop_on (take_deal c.deal [] m) _ _ d (λ u k b.
    stop_on (take_calls (dealer c.board) c.calls [] k) _ _ b (λ h i z. no_stop z)))
stops_whole cards c e =
    stop_on (take_heading c.board c.table [] 0) _ _ e (λ u m d.
    stop_on (take_deal c.deal [] m) _ _ d (λ u k b.
    stop_on (take_calls (dealer c.board) c.calls [] k) _ _ b (λ h i g.
    stop_on (take_cards (dealer c.board) c.deal h c.plays [] i) _ _ g (λ h i z. no_stop z))))
stops_whole claim c e = whole (take_parts c [] 0) e

-- the checks up to a section look at nothing behind it
alike : (s : Section) (c e : Given) → Alike s c e → checks_to s c [] 0 ≡ checks_to s e [] 0
unfolding checks_to
alike heading c e (b, t) = rw (b, t)
alike deal c e (b, t, d) = rw (b, t, d)
alike calls c e (b, t, d, k) = rw (b, t, d, k)
alike cards c e (b, t, d, k, g) = rw (b, t, d, k, g)
alike claim c e q = rw q

module _ (c : Given) (room : ℕ) where
  stops : {n place : ℕ} → take_parts c [] 0 ≡ stopped n place → write_of c room ≡ refused n place
  unfolding contents_of
  stops e = declines c room (rw e)

pub prefix : (s : Section) (c e : Given) → Alike s c e → (n place : ℕ) → checks_to s c [] 0 ≡ stopped n place → (room : ℕ) → write_of e room ≡ refused n place
prefix s c e same n place q room = stops e room (stops_whole s e (sym (alike s c e same) ∙ q))

-- ---- numbers that no field can hold
module _ (c : Given) (room : ℕ) where
  abbrev d : ℕ
  d = dealer c.board

  abbrev h : List ℕ
  h = reverse c.calls

  heading-stands : HeadingStands c → take_heading c.board c.table [] 0 ≡ found tt 0
  heading-stands s = heading_passes c.board c.table 0 s.board_from s.board_to s.table_from s.table_to

  deal-stands : DealStands c → take_deal c.deal [] 0 ≡ found tt 0
  deal-stands s = deal_passes c.deal 0 s.holders s.holder s.thirteen

  calls_stand : CallsStand c → take_calls d c.calls [] 0 ≡ found h 0
  calls_stand s = calls-pass d c.calls 0 s.few s.called.each s.called.over

  -- after the calls, a refusal of the cards
  cards_stop : CallsStand c → {n place : ℕ} → take_cards d c.deal h c.plays [] 0 ≡ stopped n place → write_of c room ≡ refused n place
  unfolding take_parts
  cards_stop s e = stops c room (simp (heading-stands s.dealt.heading, deal-stands s.dealt, calls_stand s, e))

  module _ (before : List Event) where
    -- the first item behind plays that may stand, where it is refused
    item_stops : (l : List ℕ) → PlaysTo c before l → (i : Item) (rest : List Item) → items_of l ≡ i ∷ rest
        → {n : ℕ} → item_refusal (trump_of c) (opening_of c) c.deal (reverse before) i rest ≡ n → (n ≡ 0 → ⊥)
        → write_of c room ≡ refused n (cards_among before)
    item_stops l s i rest items {n} r nonzero =
        cards_stop s.calls
        (rw s.split
        (play_stops d c.deal h s.calls.dealt.holders 0 before l s.each s.follow s.codes (rw s.split at s.few)
        (rw s.split at s.none_if_passed_out) i rest items n r nonzero))

    beyond-plays : BeyondPlays c room before
    unfolding code_item cards_in event_refusal card_refusal is_misplaced
    beyond-plays =
        record {
          play = λ l s v rest items placed n r nonzero.
              item_stops l s (event v) rest items (as_in_record _ _ c.deal (reverse before) v rest placed ∙ r) nonzero;
          card = λ k l s over.
              item_stops (k ∷ l) s (event (played k)) (items_of l)
              (card-first k l (rw (ne_eqb k 52 (λ z. omega arith), ne_eqb k 53 (λ z. omega arith))))
              (as_in_record _ _ c.deal (reverse before) (played k) (items_of l) refl ∙ rw (le-leb 52 k (omega arith))) (λ z. omega arith);
          full = λ x l s begins f.
              let k = coded x l begins in
              item_stops (x ∷ l) s k.first k.rest k.items
              (full-refused _ _ _ _ k.first k.rest k.no_card_lem (no_room before f)) (λ z. omega arith);
          cut = λ x l s begins free few.
              item_stops (x ∷ l) s broken [] (cut-first x l begins few) (broken-refused _ _ _ _ [] (room-left before free)) (λ z. omega arith);
          bit = λ k bit l s free over.
              item_stops (exposure_code ∷ k ∷ bit ∷ l) s broken (items_of l)
              (code_first exposure_code k bit l refl ∙ ap (λ (i : Item). i ∷ items_of l) (bit-broken k bit over))
              (broken-refused _ _ _ _ (items_of l) (room-left before free)) (λ z. omega arith);
          last = λ x y z l s begins free none.
              item_stops (x ∷ y ∷ z ∷ l) s (code_item x y z) (items_of l) (code_first x y z l begins)
              (last-refused _ _ _ _ (code_item x y z) (items_of l) (code_no_card x y z) (none_after (items_of l) none) (room-left before free)) (λ z. omega arith);
          exposure = λ k bit l s free low after over.
              let v : Event = exposed k (eqb bit 1) in
              item_stops (exposure_code ∷ k ∷ bit ∷ l) s (event v) (items_of l)
              (code_first exposure_code k bit l refl ∙ ap (λ (i : Item). i ∷ items_of l) (rw (le-ltb 1 bit low)))
              (as_in_record _ _ c.deal (reverse before) v (items_of l) (rw (some-many (items_of l) after))
              ∙ exposed-refused _ _ _ _ s.calls.dealt.holders k (eqb bit 1) (room-left before free) over) (λ z. omega arith);
          choice = λ kind suit l s free after over.
              let v : Event = choice kind suit in
              item_stops (choice_code ∷ kind ∷ suit ∷ l) s (event v) (items_of l) (code_first choice_code kind suit l refl)
              (as_in_record _ _ c.deal (reverse before) v (items_of l) (rw (some-many (items_of l) after))
              ∙ choice-refused _ _ _ _ s.calls.dealt.holders kind suit (room-left before free) over) (λ z. omega arith);
        }

  pub beyond : Beyond c room
  unfolding take_parts
  beyond =
      record {
        board = λ o. stops c room (simp (board_stops c.board c.table 0 o));
        table = λ a b o. stops c room (simp (table_stops c.board c.table 0 a b o));
        holders = λ s o. stops c room (simp (heading-stands s, number_stops c.deal 0 o));
        holder = λ s k w o. stops c room (simp (heading-stands s, holder_stops c.deal 0 k w o));
        codes = λ s o. stops c room (simp (heading-stands s.heading, deal-stands s, codes_stop d c.calls 0 o));
        call = λ s few k w each o. stops c room (simp (heading-stands s.heading, deal-stands s, call_stops d c.calls 0 few k w each o));
        cards = λ s.
            ⊎_elim
            (λ (o : 52 < cards_in c.plays). cards_stop s (count_stops d c.deal h s.dealt.holders 0 c.plays o))
            (λ (o : (passed_out h ≡ true) × (1 ≤ cards_in c.plays)). cards_stop s (out_stops d c.deal h s.dealt.holders 0 c.plays o.0 o.1));
        plays = beyond-plays;
        claim = λ plays s contract point tricks e o.
            let at = s.calls in
            let p = s.in_order in
            stops c room (simp (
              heading-stands at.dealt.heading,
              deal-stands at.dealt,
              calls_stand at,
              s.same,
              cards-pass d c.deal h at.dealt.holders 0 plays p.each p.follow p.codes s.few p.none_if_passed_out,
              e,
              claim_stops h (cards_of (reverse plays)) tricks 0 contract point o,
            ));
      }
