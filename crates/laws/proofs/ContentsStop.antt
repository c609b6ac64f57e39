-- How far the checks of contents go: what lets a section pass, and where codes are refused. Assumes nothing.
use Prim.Native.Nat.{ℕ, zero, suc, ◌≤◌, ◌<◌, min}
use native.Mathlib.Omega.{arith}
use mathlib.Core.Path.{◌≡◌, refl, sym, ◌∙◌}
use mathlib.Core.Bool.{Bool, true, false, not, ◌&&◌, ◌||◌}
use mathlib.Core.Logic.{◌⊎◌, inl}
use mathlib.Core.List.{List, [], ◌∷◌, ◌++◌, append-nil, reverse, reverse_aux}
use borrow.Author.Tests.{eqb-false, eq-eqb, ne_eqb, le-ltb, lt-ltb, lt-leb}
use lib.Dec.{ltb, eqb}
use lib.ListN.{length, get_or, take, length-reverse, length-take}
use Rattle.laws.specs.Choice.{some}
use Rattle.laws.specs.Refusals.{accepted, no_board_or_table, not_thirteen, no_call, auction_unfinished, too_many_cards, claim_too_many, too_many_calls}
use Rattle.laws.specs.Cards.{no_seat, cards_dealt, seat_without_thirteen}
use Rattle.laws.specs.Auction.{codes_before, is_over, passed_out, allowed, trump_after, opening_after}
use Rattle.laws.specs.CallRefusal.{call_refusal, place_of, call_place}
use Rattle.laws.specs.Law44.{tricks_left}
use Rattle.laws.specs.Events.{Event, cards_among, codes_of}
use Rattle.laws.specs.CodeRefusal.{most_codes}
use Rattle.laws.specs.FlatPlay.{items_of, cards_in, flat_of}
use Rattle.laws.specs.Plays.{EachStands, CardsFollow}
use Rattle.laws.specs.Law68.{agreed, at_claim_point, claimable}
use Rattle.laws.specs.Lawful.{first_of}
use Rattle.laws.specs.Reading.{Reading, Reading.refused, Reading.found, refuse}
use Rattle.laws.specs.Contents.{take_heading, are_seats, take_deal, take_each, take_calls, take_items, take_cards, take_claim}
use Rattle.laws.proofs.Tests.{by_test}
use Rattle.laws.proofs.Histories.{Each, each-place}
use Rattle.laws.proofs.CallRefusals.{accepted-is}
use Rattle.laws.proofs.FlatPlay.{reads_on, cards-counted}
use Rattle.laws.proofs.PlaysFit.{each_fits}
use Rattle.laws.proofs.Taken.{fits_tell}
use Rattle.laws.proofs.ItemsTaken.{front_passes, cards-kept}
use Rattle.laws.proofs.Readings.{refused-found, first-of, first_test, test_is, test_stops}
use Rattle.laws.proofs.Sections.{short_none}
use Rattle.laws.proofs.Contents.{none_over}

-- ---- board and table
module _ (board table from : ℕ) where
  pub heading_passes : 1 ≤ board → board ≤ 127 → 1 ≤ table → table ≤ 511 → take_heading board table [] from ≡ found tt from
  unfolding take_heading
  heading_passes a b c d =
      simp (le-ltb 127 board b, ne_eqb board 0 (λ e. omega arith), le-ltb 511 table d, ne_eqb table 0 (λ e. omega arith), test_is)

  pub board_stops : 127 < board → take_heading board table [] from ≡ refused no_board_or_table 0
  unfolding take_heading
  board_stops h = simp (lt-ltb 127 board h, test_stops)

  pub table_stops : 1 ≤ board → board ≤ 127 → 511 < table → take_heading board table [] from ≡ refused no_board_or_table 1
  unfolding take_heading
  table_stops a b h = simp (le-ltb 127 board b, ne_eqb board 0 (λ e. omega arith), lt-ltb 511 table h, test_is, test_stops)

-- ---- the deal
one-over : (l : List ℕ) (k : ℕ) → k < length l → 3 < get_or l k 0 → some (λ holder. ltb 3 holder) l ≡ true
unfolding some
one-over [] k h o = absurd (omega arith)
one-over (x ∷ l) zero h o = rw (lt-ltb 3 x o)
one-over (x ∷ l) (suc k) h o = rw (one-over l k (omega arith) o) (or_true (ltb 3 x))
  where
    or_true : (b : Bool) → (b || true) ≡ true
    or_true true = refl
    or_true false = refl

module _ (deal : List ℕ) (from : ℕ) where
  pub deal_passes : length deal ≡ 52 → ((k : ℕ) → k < 52 → get_or deal k 0 ≤ 3) → ((seat : ℕ) → seat < 4 → cards_dealt seat deal ≡ 13)
      → take_deal deal [] from ≡ found tt from
  unfolding take_deal are_seats
  deal_passes all seats thirteen =
      simp (eq-eqb (length deal) 52 all, none_over deal (λ k h. seats k (omega arith)), short_none deal thirteen, test_is)

  pub number_stops : (length deal ≡ 52 → ⊥) → take_deal deal [] from ≡ refused not_thirteen no_seat
  unfolding take_deal are_seats
  number_stops ne = simp (ne_eqb (length deal) 52 ne, test_stops)

  pub holder_stops : (k : ℕ) → k < length deal → 3 < get_or deal k 0 → take_deal deal [] from ≡ refused not_thirteen no_seat
  unfolding take_deal are_seats
  holder_stops k h o = simp (one-over deal k h o, and-false (eqb (length deal) 52), test_stops)
    where
      and-false : (b : Bool) → (b && false) ≡ false
      and-false true = refl
      and-false false = refl

-- ---- codes
module _ (place rule : List ℕ → ℕ → ℕ) where
  pub each_passes : (l h : List ℕ) (from : ℕ) → Each (λ b c. rule b c ≡ accepted) h l → take_each place rule l h [] from ≡ found (reverse_aux l h) from
  unfolding take_each Each
  each_passes [] h from e = refl
  each_passes (c ∷ l) h from e =
      simp (eq-eqb (rule h c) accepted e.0, test_is) (each_passes l (c ∷ h) from e.1)

  -- the first code that its rule refuses, with so many codes before it that pass
  pub each_stops : (l h : List ℕ) (k from : ℕ) → k < length l → ((j : ℕ) → j < k → rule (reverse_aux (take j l) h) (get_or l j 0) ≡ accepted)
      → (n : ℕ) → rule (reverse_aux (take k l) h) (get_or l k 0) ≡ n → (n ≡ accepted → ⊥)
      → take_each place rule l h [] from ≡ refused n (place (reverse_aux (take k l) h) (get_or l k 0))
  unfolding take_each
  each_stops [] h k from w f n e z = absurd (omega arith)
  each_stops (c ∷ l) h zero from w f n e z = simp (e, ne_eqb n accepted z, test_stops)
  each_stops (c ∷ l) h (suc k) from w f n e z =
      simp (eq-eqb (rule h c) accepted (f 0 (omega arith)), test_is)
      (each_stops l (c ∷ h) k from (omega arith) (λ j i. f (suc j) (omega arith)) n e z)

-- the first k members of a list that has them are k
pub first-length : (l : List ℕ) (k : ℕ) → k < length l → length (first_of k l) ≡ k
first-length l k h = length-reverse (take k l) ∙ rw (length-take k l) (omega arith)

-- ---- the calls
no_call_lem : (d : ℕ) (h : List ℕ) (c : ℕ) → 38 < c → call_refusal d h c ≡ no_call
unfolding call_refusal
no_call_lem d h c o = rw (lt-leb c 38 o)

-- which is refused at its own place
no_call_place : (d : ℕ) (h : List ℕ) (c : ℕ) → 38 < c → call_place d h c ≡ length h
unfolding call_place place_of codes_before
no_call_place d h c o = rw (no_call_lem d h c o)

module _ (d : ℕ) (calls : List ℕ) (from : ℕ) where
  pub codes_stop : 511 < length calls → take_calls d calls [] from ≡ refused too_many_calls 511
  unfolding take_calls
  codes_stop o = simp (lt-ltb 511 (length calls) o, test_stops)

  pub calls-pass : length calls ≤ 511 → ((k : ℕ) → k < length calls → allowed d (first_of k calls) (get_or calls k 0) ≡ true) → is_over (reverse calls) ≡ true
      → take_calls d calls [] from ≡ found (reverse calls) from
  unfolding take_calls
  calls-pass few each over =
      let e = (each-place (λ h c. call_refusal d h c ≡ accepted) calls).1 (λ k h. (accepted-is d _ _).1 (each k h)) in
      simp (le-ltb 511 (length calls) few, each_passes (call_place d) (call_refusal d) calls [] from e, over, test_is)

  pub call_stops : length calls ≤ 511 → (k : ℕ) → k < length calls → ((j : ℕ) → j < k → allowed d (first_of j calls) (get_or calls j 0) ≡ true)
      → 38 < get_or calls k 0 → take_calls d calls [] from ≡ refused no_call k
  unfolding take_calls
  call_stops few k h each o =
      let s = each_stops (call_place d) (call_refusal d) calls [] k from h (λ j i. (accepted-is d _ _).1 (each j i)) no_call (no_call_lem d _ _ o) (λ z. omega arith) in
      simp (le-ltb 511 (length calls) few, test_is, s, no_call_place d (first_of k calls) (get_or calls k 0) o, first-length calls k h)

-- ---- the cards and the codes before them, after the calls h
module _ (d : ℕ) (deal h : List ℕ) (all : length deal ≡ 52) (from : ℕ) where
  abbrev trump : ℕ
  trump = trump_after h

  abbrev opening : ℕ
  opening = opening_after d h

  -- the number of cards passes: at most 52, and none where the auction was passed out
  counted : (n : ℕ) → n ≤ 52 → (passed_out h ≡ true → n ≡ 0) → (ltb 52 n || (passed_out h && ltb 0 n)) ≡ false
  counted n few none =
      by_test (passed_out h)
      (λ (q : passed_out h ≡ true). rw (le-ltb 52 n few, q) (le-ltb 0 n (omega (arith, none q))))
      (λ (q : passed_out h ≡ false). rw (le-ltb 52 n few, q))

  pub count_stops : (plays : List ℕ) → 52 < cards_in plays → take_cards d deal h plays [] from ≡ refused too_many_cards (min (cards_in plays) 63)
  unfolding take_cards
  count_stops plays o = simp (lt-ltb 52 (cards_in plays) o, test_stops)

  count_passes : (plays : List ℕ) → cards_in plays ≤ 52 → (passed_out h ≡ true → cards_in plays ≡ 0)
      → take_cards d deal h plays [] from ≡ take_items trump opening deal (items_of plays) [] [] from
  unfolding take_cards
  count_passes plays few none = simp (counted (cards_in plays) few none, test_is)

  -- plays that may stand, before the items of other numbers
  pub plays-pass : (before : List Event) (l : List ℕ) → EachStands trump opening deal [] before → CardsFollow before ⊎ (1 ≤ cards_in l)
      → codes_of before ≤ most_codes → cards_in (flat_of before ++ l) ≤ 52 → (passed_out h ≡ true → cards_in (flat_of before ++ l) ≡ 0)
      → take_cards d deal h (flat_of before ++ l) [] from ≡ take_items trump opening deal (items_of l) (reverse before) [] from
  unfolding cards_in
  plays-pass before l each follow codes few none =
      let tell = fits_tell before (each_fits trump opening deal all [] before each) in
      count_passes (flat_of before ++ l) few none
      ∙ rw (reads_on before l tell) (front_passes trump opening deal all before (items_of l) from each follow codes)

  pub cards-pass : (plays : List Event) → EachStands trump opening deal [] plays → CardsFollow plays → codes_of plays ≤ most_codes → cards_among plays ≤ 52
      → (passed_out h ≡ true → cards_among plays ≡ 0) → take_cards d deal h (flat_of plays) [] from ≡ found (reverse plays) from
  unfolding items_of take_items
  cards-pass plays each follow codes few none =
      let counts = cards-counted plays (fits_tell plays (each_fits trump opening deal all [] plays each)) in
      let end : flat_of plays ++ [] ≡ flat_of plays = append-nil (flat_of plays) in
      rw end at (plays-pass plays [] each (inl follow) codes (rw (end, counts) few) (rw (end, counts) none))

-- ---- the claim, after the calls h and the cards g
pub claim_stops : (h g : List ℕ) (tricks from : ℕ) → passed_out h ≡ false → at_claim_point g ≡ true → tricks_left g < tricks
    → take_claim h g (agreed tricks) [] from ≡ refused claim_too_many (min tricks 15)
unfolding take_claim claimable
claim_stops h g tricks from played point more = simp (played, point, lt-leb tricks (tricks_left g) more, test_is, test_stops)

-- a value is no refusal, and a refusal has one number
pub found-refused : {A P : Type 0} {n place end : ℕ} {a : A} → ◌≡◌ {A = Reading A} (found a end) (refused n place) → P
found-refused e = refused-found (sym e)

number-of : {A : Type 0} {n m p q : ℕ} → ◌≡◌ {A = Reading A} (refused n p) (refused m q) → n ≡ m
number-of e = cc

-- ---- a check reads nothing, so what passes is where it was
stays_refuse : (n place : ℕ) (test : Bool) (from : ℕ) {m : ℕ} {u : Unit {0}} → refuse n place test [] from ≡ found u m → m ≡ from
unfolding refuse
stays_refuse n place true from e = refused-found e
stays_refuse n place false from {m} e = let z : from ≡ m = cc in sym z

pub heading_stays : (board table from : ℕ) {u : Unit {0}} {m : ℕ} → take_heading board table [] from ≡ found u m → m ≡ from
unfolding take_heading
heading_stays board table from q =
    let a = first_test no_board_or_table 0 (ltb 127 board) [] from _ q in
    let b = first_test no_board_or_table 0 (eqb board 0) [] from _ a.1 in
    let c = first_test no_board_or_table 1 (ltb 511 table) [] from _ b.1 in
    stays_refuse no_board_or_table 1 (eqb table 0) from c.1

pub deal_stays : (deal : List ℕ) (from : ℕ) {u : Unit {0}} {m : ℕ} → take_deal deal [] from ≡ found u m → m ≡ from
unfolding take_deal
deal_stays deal from q =
    stays_refuse not_thirteen (seat_without_thirteen deal) (not (eqb (seat_without_thirteen deal) no_seat)) from
    (first_test not_thirteen no_seat (not (are_seats deal)) [] from _ q).1

module _ (place rule : List ℕ → ℕ → ℕ) where
  pub each_stays : (l h : List ℕ) (from : ℕ) {g : List ℕ} {m : ℕ} → take_each place rule l h [] from ≡ found g m → m ≡ from
  unfolding take_each
  each_stays [] h from {m = m} e = let z : from ≡ m = cc in sym z
  each_stays (c ∷ l) h from e = each_stays l (c ∷ h) from (first_test (rule h c) (place h c) (not (eqb (rule h c) accepted)) [] from _ e).1

  -- a code is refused with a number that is not 0
  pub each-numbered : (l h : List ℕ) (from : ℕ) {n p : ℕ} → take_each place rule l h [] from ≡ refused n p → n ≡ accepted → ⊥
  unfolding take_each refuse
  each-numbered [] h from e z = found-refused e
  each-numbered (c ∷ l) h from {n} {p} e z =
      by_test (eqb (rule h c) accepted)
      (λ (t : eqb (rule h c) accepted ≡ true). each-numbered l (c ∷ h) from (rw t at e) z)
      (λ (t : eqb (rule h c) accepted ≡ false). eqb-false (rule h c) accepted t (number-of (rw t at e) ∙ z))

pub calls_stay : (d : ℕ) (calls : List ℕ) (from : ℕ) {h : List ℕ} {m : ℕ} → take_calls d calls [] from ≡ found h m → m ≡ from
unfolding take_calls
calls_stay d calls from {h} {m} q =
    let f = first_test too_many_calls 511 _ [] from _ q in
    let a = first-of (take_each (call_place d) (call_refusal d) calls [] [] from) _ f.1 in
    let t = first_test auction_unfinished (length calls) (not (is_over a.0)) [] a.1 _ a.3 in
    let last : a.1 ≡ m = cc in
    sym last ∙ each_stays (call_place d) (call_refusal d) calls [] from a.2

pub cards_stay : (d : ℕ) (deal h plays : List ℕ) (from : ℕ) {e : List Event} {m : ℕ} → length deal ≡ 52 → take_cards d deal h plays [] from ≡ found e m
    → m ≡ from
cards_stay d deal h plays from all q = (cards-kept d deal h plays from all q).items.stays
