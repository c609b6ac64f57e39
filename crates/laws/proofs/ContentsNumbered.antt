-- A refusal of contents has a number from 3 to 15, 22 to 27 or 33, and a place below 1024. Assumes nothing.
use Rattle.std.specs.Prelude.{if◌then◌else◌}
use Prim.Native.Nat.{ℕ, ◌+◌, ◌≤◌, ◌<◌, min}
use native.Mathlib.Omega.{arith}
use mathlib.Core.Path.{◌≡◌, refl}
use mathlib.Core.Bool.{Bool, true, false, not, ◌&&◌, ◌||◌}
use mathlib.Core.List.{List, [], ◌∷◌}
use borrow.Author.Tests.{eqb-true, not-false, ltb-false}
use lib.Dec.{ltb, eqb}
use lib.ListN.{length}
use Rattle.laws.specs.Refusals.{accepted, no_board_or_table, not_thirteen, auction_unfinished}
use Rattle.laws.specs.Refusals.{too_many_cards, play_unfinished, no_claim_point, claim_too_many, too_many_calls, too_many_codes, choice_not_open}
use Rattle.laws.specs.Refusals.{refuses_contents}
use Rattle.laws.specs.Cards.{no_seat, seat_without_thirteen}
use Rattle.laws.specs.Law2.{dealer}
use Rattle.laws.specs.Auction.{is_over, passed_out, trump_after, opening_after}
use Rattle.laws.specs.CallRefusal.{call_refusal, call_place}
use Rattle.laws.specs.Law44.{cards_played, all_played}
use Rattle.laws.specs.Choice.{how_many}
use Rattle.laws.specs.Events.{Event, played, exposed, choice, cards_of}
use Rattle.laws.specs.CodeRefusal.{codes_full, event_refusal}
use Rattle.laws.specs.FlatPlay.{Item, event, broken, items_of, is_card, cards_in, is_misplaced, item_refusal, after_item}
use Rattle.laws.specs.Plays.{play_place}
use Rattle.laws.specs.Law68.{Claim, none, agreed, at_claim_point, claimable}
use Rattle.laws.specs.Record.{Parts}
use Rattle.laws.specs.Reading.{Reading, Reading.refused, Reading.found, onward, refuse}
use Rattle.laws.specs.Judge.{Outcome.refused as declined, outcome}
use Rattle.laws.specs.Contents.{Given, take_heading, are_seats, take_deal, take_each, take_calls, take_items, take_cards, take_claim, take_parts, contents_of}
use Rattle.laws.proofs.Tests.{by_test, or_left}
use Rattle.laws.proofs.CallRefusals.{numbered_by, call-place-le}
use Rattle.laws.proofs.CardRefusals.{numbered_by as card-numbered-by}
use Rattle.laws.proofs.CodeRefusals.{exposure-numbered, choice-numbered}
use Rattle.laws.proofs.Numbered.{short-le}
use Rattle.laws.proofs.ItemsTaken.{cards-kept, taken-cards}
use Rattle.laws.proofs.ContentsLawful.{deal-kept}

-- a number and a place as a refusal of contents has them
pub record Refuses (n place : ℕ) : Type 0 where
  pub number : refuses_contents n ≡ true
  pub place_lt : place < 1024

at_place : {n place : ℕ} → refuses_contents n ≡ true → place < 1024 → Refuses n place
at_place e l = record { number = e; place_lt = l }

-- checks that refuse do so with such a number
abbrev pub Sound : {A : Type 0} → Reading A → Type 0
Sound (refused n place) = Refuses n place
Sound (found a at) = Unit {0}

module _ {B : Type 0} where
  sound_on : {A : Type 0} (r : Reading A) (next : A → ℕ → Reading B) → Sound r → ((a : A) (m : ℕ) → r ≡ found a m → Sound (next a m)) → Sound (onward r next)
  sound_on (refused n place) next f g = f
  sound_on (found a m) next f g = g a m refl

  sound_test : (n place : ℕ) (test : Bool) (from : ℕ) (next : Unit {0} → ℕ → Reading B) → (test ≡ true → Refuses n place)
      → (test ≡ false → Sound (next tt from))
      → Sound (onward (refuse n place test [] from) next)
  unfolding refuse
  sound_test n place true from next f g = f refl
  sound_test n place false from next f g = g refl

sound_last : (n place : ℕ) (test : Bool) (from : ℕ) → (test ≡ true → Refuses n place) → Sound (refuse n place test [] from)
unfolding refuse
sound_last n place true from f = f refl
sound_last n place false from f = tt

pub sound_heading : (board table from : ℕ) → Sound (take_heading board table [] from)
unfolding take_heading
sound_heading board table from =
    sound_test no_board_or_table 0 (ltb 127 board) from _ (λ t. at_place refl (omega arith)) (λ f.
    sound_test no_board_or_table 0 (eqb board 0) from _ (λ t. at_place refl (omega arith)) (λ f.
    sound_test no_board_or_table 1 (ltb 511 table) from _ (λ t. at_place refl (omega arith)) (λ f.
    sound_last no_board_or_table 1 (eqb table 0) from (λ t. at_place refl (omega arith)))))

pub sound_deal : (deal : List ℕ) (from : ℕ) → Sound (take_deal deal [] from)
unfolding take_deal
sound_deal deal from =
    sound_test not_thirteen no_seat (not (are_seats deal)) from _ (λ t. at_place refl (omega arith)) (λ f.
    sound_last not_thirteen (seat_without_thirteen deal) (not (eqb (seat_without_thirteen deal) no_seat)) from (λ t. at_place refl (omega (arith, short-le deal))))

-- codes: Good is what holds of every history that is not refused
module _ (place rule : List ℕ → ℕ → ℕ) (Good : List ℕ → Type 0) (more : (h : List ℕ) (c : ℕ) → rule h c ≡ accepted → Good h → Good (c ∷ h))
    (number : (h : List ℕ) (c : ℕ) → not (eqb (rule h c) accepted) ≡ true → refuses_contents (rule h c) ≡ true) where
  sound_each : (l h : List ℕ) (from : ℕ) → Good h → ((b : List ℕ) (c : ℕ) → Good b → length b ≤ length h + length l → place b c < 1024)
      → Sound (take_each place rule l h [] from)
  unfolding take_each
  sound_each [] h from g few = tt
  sound_each (c ∷ l) h from g few =
      sound_test (rule h c) (place h c) (not (eqb (rule h c) accepted)) from _ (λ t. at_place (number h c t) (few h c g (omega arith))) (λ f.
      sound_each l (c ∷ h) from (more h c (eqb-true _ _ (not-false _ f)) g) (λ b e gb le. few b e gb (omega arith)))

pub sound_calls : (d : ℕ) (calls : List ℕ) (from : ℕ) → Sound (take_calls d calls [] from)
unfolding take_calls
sound_calls d calls from =
    sound_test too_many_calls 511 (ltb 511 (length calls)) from _ (λ t. at_place refl (omega arith)) (λ f.
    let few = ltb-false 511 (length calls) f in
    sound_on (take_each (call_place d) (call_refusal d) calls [] [] from) _
    (sound_each (call_place d) (call_refusal d) (λ h. Unit {0}) (λ h c e u. tt)
    (λ h c. numbered_by d h c refuses_contents refl refl refl refl refl) calls [] from tt (λ b c u le. omega (arith, call-place-le d b c)))
    (λ h m q. sound_test auction_unfinished (length calls) (not (is_over h)) m _ (λ t. at_place refl (omega arith)) (λ g. tt)))

-- the items of the plays
module _ (trump opening : ℕ) (deal : List ℕ) where
  by_room : (full : Bool) → refuses_contents (if full then too_many_codes else choice_not_open) ≡ true
  by_room true = refl
  by_room false = refl

  -- a code is numbered by the codes before it, or by its rule
  code_numbered : (full : Bool) (n : ℕ) → (not (eqb n accepted) ≡ true → refuses_contents n ≡ true)
      → not (eqb (if full then too_many_codes else n) accepted) ≡ true → refuses_contents (if full then too_many_codes else n) ≡ true
  code_numbered true n f e = refl
  code_numbered false n f e = f e

  event-numbered : (e : List Event) (v : Event) → not (eqb (event_refusal trump opening deal e v) accepted) ≡ true
      → refuses_contents (event_refusal trump opening deal e v) ≡ true
  unfolding event_refusal
  event-numbered e (played c) t = card-numbered-by trump opening deal (cards_of e) c refuses_contents refl refl refl t
  event-numbered e (exposed c deliberate) t =
      code_numbered (codes_full e) _ (exposure-numbered trump opening deal e refuses_contents c refl) t
  event-numbered e (choice kind suit) t =
      code_numbered (codes_full e) _ (choice-numbered trump opening deal e refuses_contents kind suit refl) t

  item_numbered : (e : List Event) (i : Item) (rest : List Item) → not (eqb (item_refusal trump opening deal e i rest) accepted) ≡ true
      → refuses_contents (item_refusal trump opening deal e i rest) ≡ true
  unfolding item_refusal
  item_numbered e (event v) rest t =
      by_test (is_misplaced (event v) rest)
      (λ (q : is_misplaced (event v) rest ≡ true). rw q (by_room (codes_full e)))
      (λ (q : is_misplaced (event v) rest ≡ false). rw q (event-numbered e v (rw q at t)))
  item_numbered e broken rest t = by_room (codes_full e)

  -- the place of an item and the cards that come, with an item less to come
  place-next : (e : List Event) (i : Item) (rest : List Item) → play_place (after_item i e) + how_many is_card rest ≤ play_place e + how_many is_card (i ∷ rest)
  unfolding after_item how_many is_card cards_played cards_of
  place-next e (event (played c)) rest = omega arith
  place-next e (event (exposed c deliberate)) rest = omega arith
  place-next e (event (choice kind suit)) rest = omega arith
  place-next e broken rest = omega arith

  sound_items : (items : List Item) (e : List Event) (from : ℕ) → play_place e + how_many is_card items < 1024
      → Sound (take_items trump opening deal items e [] from)
  unfolding take_items
  sound_items [] e from l = tt
  sound_items (i ∷ rest) e from l =
      let n = item_refusal trump opening deal e i rest in
      sound_test n (play_place e) (not (eqb n accepted)) from _ (λ t. at_place (item_numbered e i rest t) (omega arith)) (λ f.
      sound_items rest (after_item i e) from (omega (arith, place-next e i rest)))

pub sound_cards : (d : ℕ) (deal h plays : List ℕ) (from : ℕ) → Sound (take_cards d deal h plays [] from)
unfolding take_cards cards_played cards_of cards_in
sound_cards d deal h plays from =
    let n = cards_in plays in
    let test = ltb 52 n || (passed_out h && ltb 0 n) in
    sound_test too_many_cards (min n 63) test from _ (λ t. at_place refl (omega arith)) (λ f.
    let few = ltb-false 52 n (or_left (ltb 52 n) _ f) in
    sound_items (trump_after h) (opening_after d h) deal (items_of plays) [] from (omega arith))

sound_claim : (h g : List ℕ) (claim : Claim) (from : ℕ) → cards_played g ≤ 52 → Sound (take_claim h g claim [] from)
unfolding take_claim
sound_claim h g none from few = sound_last play_unfinished (cards_played g) (not (passed_out h) && not (all_played g)) from (λ t. at_place refl (omega arith))
sound_claim h g (agreed tricks) from few =
    sound_test no_claim_point (cards_played g) (passed_out h || not (at_claim_point g)) from _ (λ t. at_place refl (omega arith)) (λ f.
    sound_last claim_too_many (min tricks 15) (not (claimable g tricks)) from (λ t. at_place refl (omega arith)))

-- the cards that are taken are at most 52
few-taken : (d : ℕ) (deal h plays : List ℕ) (from : ℕ) {e : List Event} {m : ℕ} → length deal ≡ 52 → take_cards d deal h plays [] from ≡ found e m
    → cards_played (cards_of e) ≤ 52
few-taken d deal h plays from all q = omega (arith, taken-cards d deal h plays from all q, (cards-kept d deal h plays from all q).few)

sound_parts : (c : Given) → Sound (take_parts c [] 0)
unfolding take_parts
sound_parts c =
    let d = dealer c.board in
    sound_on (take_heading c.board c.table [] 0) _ (sound_heading c.board c.table 0) (λ u n₁ q₁.
    sound_on (take_deal c.deal [] n₁) _ (sound_deal c.deal n₁) (λ u n₂ q₂.
    sound_on (take_calls d c.calls [] n₂) _ (sound_calls d c.calls n₂) (λ h n₃ q₃.
    sound_on (take_cards d c.deal h c.plays [] n₃) _ (sound_cards d c.deal h c.plays n₃) (λ e n₄ q₄.
    let few = few-taken d c.deal h c.plays n₃ (deal-kept c.deal n₁ q₂).all q₄ in
    sound_on (take_claim h (cards_of e) c.claim [] n₄) _ (sound_claim h (cards_of e) c.claim n₄ few) (λ u n₅ q₅. tt)))))

pub contents_numbered : (c : Given) {n place : ℕ} → contents_of c ≡ declined n place → Refuses n place
unfolding contents_of
contents_numbered c {n} {place} e = go (take_parts c [] 0) (sound_parts c) e
  where
    go : (r : Reading Parts) → Sound r → outcome r ≡ declined n place → Refuses n place
    go (refused a b) f o = let ea : a ≡ n = cc in let eb : b ≡ place = cc in rw (← ea, ← eb) f
    go (found q m) f o = let z : ◌≡◌ {A = ℕ} 0 1 = cc in absurd (omega arith)
