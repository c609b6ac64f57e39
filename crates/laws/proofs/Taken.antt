-- Contents that stand in a list of bytes are judged there as they are taken: section by section, the reader and the checks of contents say the same.
-- Assumes nothing.
use Rattle.std.specs.Prelude.{if◌then◌else◌}
use Prim.Native.Nat.{ℕ, zero, suc, ◌+◌, ◌≤◌, min}
use native.Mathlib.Omega.{arith}
use mathlib.Core.Path.{◌≡◌, refl, sym, ap, ◌∙◌}
use mathlib.Core.Bool.{Bool, true, false, not, ◌&&◌, ◌||◌}
use mathlib.Core.List.{List, [], ◌∷◌, map, reverse_aux}
use borrow.Author.Tests.{le-ltb, le-leb, lt-leb}
use lib.Dec.{ltb, eqb}
use lib.ListN.{length}
use Rattle.laws.specs.Refusals.{accepted, no_board_or_table, not_thirteen, auction_unfinished, play_unfinished, no_claim_point, claim_too_many}
use Rattle.laws.specs.Refusals.{too_many_cards, too_many_codes}
use Rattle.laws.specs.Cards.{no_seat, seat_without_thirteen}
use Rattle.laws.specs.Auction.{is_over, passed_out, trump_after, opening_after}
use Rattle.laws.specs.CallRefusal.{call_refusal, call_place}
use Rattle.laws.specs.Law44.{cards_played, all_played}
use Rattle.laws.specs.CardRefusal.{card_refusal}
use Rattle.laws.specs.Events.{Event, played, exposed, choice, exposure_code, choice_code, begins_code, cards_of, cards_among, codes_of}
use Rattle.laws.specs.CodeRefusal.{most_codes, codes_full, exposure_refusal, choice_refusal, event_refusal}
use Rattle.laws.specs.FlatPlay.{event, is_misplaced, item_refusal, after_item, flat_of}
use Rattle.laws.specs.Plays.{play_place, refuse_by, read_exposed, read_choice, read_plays, CardsFollow}
use Rattle.laws.specs.Law68.{Claim, none, agreed, at_claim_point, claimable}
use Rattle.laws.specs.Record.{field, row, event_fields, play_fields, claim_fields}
use Rattle.laws.specs.Reading.{Reading, Reading.refused, Reading.found, onward, read, refuse, check_code, read_each}
use Rattle.laws.specs.Checks.{check_board, check_over, check_count, check_claim_point}
use Rattle.laws.specs.Judge.{Heading, read_heading, read_deal, read_calls, read_cards, read_no_claim, read_marked_claim, read_claim}
use Rattle.laws.specs.Contents.{EventFits, EachFits, take_heading, are_seats, take_deal, take_each, take_calls, take_items, take_cards, take_claim}
use Rattle.laws.proofs.Histories.{Each}
use Rattle.laws.proofs.Spelled.{Stands}
use Rattle.laws.proofs.Readings.{first_test, read_is, test_is, test_stops}
use Rattle.laws.proofs.CodesRead.{test_of, code_turn}
use Rattle.laws.proofs.FlatPlay.{Tells, AllTell, reads_back, some-card, cards-counted}
use Rattle.laws.proofs.Exact.{Narrow, stands_here, stands-fits, stands-rest, stands_end, row_exact}
use Rattle.laws.proofs.Sections.{heading_fields}

-- ---- steps one after the other
pub onward_assoc : {A B C : Type 0} (r : Reading A) (f : A → ℕ → Reading B) (g : B → ℕ → Reading C)
    → onward (onward r f) g ≡ onward r (λ a m. onward (f a m) g)
onward_assoc (refused n place) f g = refl
onward_assoc (found a m) f g = refl

-- a first step that ends at a bit, and what follows it there
pub in_turn : {A B C : Type 0} (r : Reading A) (end : ℕ) (f : A → ℕ → Reading C) (g : A → ℕ → Reading B) (k : B → ℕ → Reading C)
    → ((a : A) (m : ℕ) → r ≡ found a m → f a end ≡ onward (g a m) k) → onward (onward r (λ a m. found a end)) f ≡ onward (onward r g) k
in_turn (refused n place) end f g k e = refl
in_turn (found a m) end f g k e = e a m refl

module _ {B : Type 0} (n place : ℕ) where
  -- a check says the same on any bytes
  pub same_check : (test : Bool) (bytes : List ℕ) (at from : ℕ) (f g : Unit {0} → ℕ → Reading B) → f tt at ≡ g tt from
      → onward (refuse n place test bytes at) f ≡ onward (refuse n place test [] from) g
  unfolding refuse
  same_check true bytes at from f g e = refl
  same_check false bytes at from f g e = e

  -- a check that passes
  pub passes : {test : Bool} (from : ℕ) (g : Unit {0} → ℕ → Reading B) → test ≡ false → onward (refuse n place test [] from) g ≡ g tt from
  unfolding refuse
  passes from g e = rw e

module _ (bytes : List ℕ) (at : ℕ) {end : ℕ} (from : ℕ) where
  -- board and table
  pub heading-taken : (x : Heading) → x.board ≤ 127 → x.table ≤ 511 → Stands bytes at (heading_fields x) end
      → read_heading bytes at ≡ onward (take_heading x.board x.table [] from) (λ u m. found x end)
  unfolding read_heading take_heading
  heading-taken x lb lt h =
      let k = stands-rest h in
      simp (
        read_is 7 bytes at (stands_here h) (stands-fits h),
        read_is 9 bytes (at + 7) (stands_here k) (stands-fits k),
        le-ltb 127 x.board lb,
        le-ltb 511 x.table lt,
        test_is,
      )
      (same_check no_board_or_table 0 (eqb x.board 0) bytes (at + 7 + 9) from _ _
      (same_check no_board_or_table 1 (eqb x.table 0) bytes (at + 7 + 9) from _ _ (ap (λ (m : ℕ). found x m) (stands_end (stands-rest k))))
      ∙ sym (onward_assoc (check_board x.board [] from) _ _))

  -- the deal
  pub deal-taken : (deal : List ℕ) → are_seats deal ≡ true → length deal ≡ 52 → Each (Narrow 2) [] deal → Stands bytes at (row 2 deal) end
      → read_deal bytes at ≡ onward (take_deal deal [] from) (λ u m. found deal end)
  unfolding read_deal take_deal
  deal-taken deal seats all narrow h =
      simp ((row_exact 2 52).is bytes at deal end (all, narrow) h, seats, test_is)
      (same_check not_thirteen (seat_without_thirteen deal) (not (eqb (seat_without_thirteen deal) no_seat)) bytes end from _ _ refl)

-- codes
module _ (place rule : List ℕ → ℕ → ℕ) where
  pub each-taken : (l h bytes : List ℕ) (at : ℕ) {end : ℕ} (from : ℕ) → Stands bytes at (row 6 l) end
      → read_each 6 place rule (length l) h bytes at ≡ onward (take_each place rule l h [] from) (λ g m. found g end)
  unfolding read_each take_each row
  each-taken [] h bytes at from k = ap (λ (m : ℕ). found h m) (stands_end k)
  each-taken (c ∷ l) h bytes at from k =
      simp (read_is 6 bytes at (stands_here k) (stands-fits k))
      (same_check (rule h c) (place h c) (not (eqb (rule h c) accepted)) bytes (at + 6) from _ _ (each-taken l (c ∷ h) bytes (at + 6) from (stands-rest k))
      ∙ sym (onward_assoc (check_code place rule h c [] from) _ _))

  -- what is taken to the end is the whole history
  pub each_history : (l h : List ℕ) (from : ℕ) {g : List ℕ} {m : ℕ} → take_each place rule l h [] from ≡ found g m → g ≡ reverse_aux l h
  unfolding take_each
  each_history [] h from {g} e = sym (let z : h ≡ g = cc in z)
  each_history (c ∷ l) h from e = each_history l (c ∷ h) from (first_test (rule h c) (place h c) (not (eqb (rule h c) accepted)) [] from _ e).1

-- ---- the cards and the codes before them
-- the numbers of events that fit tell them
pub fits_tell : (vs : List Event) → EachFits vs → AllTell vs
unfolding EachFits EventFits AllTell Tells
fits_tell [] f = tt
fits_tell (played c ∷ vs) f = (f.0.1, fits_tell vs f.1)
fits_tell (exposed c deliberate ∷ vs) f = (tt, fits_tell vs f.1)
fits_tell (choice kind suit ∷ vs) f = (tt, fits_tell vs f.1)

-- a check that both sides make, and then the same
checked : (n : ℕ) (e : List Event) (bytes : List ℕ) (at from : ℕ) (f g : Unit {0} → ℕ → Reading (List Event)) (k : List Event → ℕ → Reading (List Event))
    → f tt at ≡ onward (g tt from) k → onward (refuse_by n e bytes at) f ≡ onward (onward (refuse_by n e [] from) g) k
checked n e bytes at from f g k h =
    same_check n (play_place e) (not (eqb n accepted)) bytes at from f (λ u m. onward (g u m) k) h ∙ sym (onward_assoc (refuse_by n e [] from) g k)

module _ (trump opening : ℕ) (deal : List ℕ) where
  exposed-there : (e : List Event) (c : ℕ) (d : Bool) (bytes : List ℕ) (at : ℕ) → read 6 bytes at ≡ found c (at + 6)
      → read 1 bytes (at + 6) ≡ found (if d then 1 else 0) (at + 6 + 1)
      → read_exposed trump opening deal e bytes at
      ≡ onward (refuse_by (exposure_refusal trump opening deal e c) e bytes (at + 6 + 1)) (λ u m. found (exposed c d ∷ e) m)
  unfolding read_exposed
  exposed-there e c d bytes at r s = simp (r, s, test_of d)

  choice-there : (e : List Event) (kind suit : ℕ) (bytes : List ℕ) (at : ℕ) → read 2 bytes at ≡ found kind (at + 2)
      → read 2 bytes (at + 2) ≡ found suit (at + 2 + 2)
      → read_choice trump opening deal e bytes at
      ≡ onward (refuse_by (choice_refusal trump opening deal e kind suit) e bytes (at + 2 + 2)) (λ u m. found (choice kind suit ∷ e) m)
  unfolding read_choice
  choice-there e kind suit bytes at r s = simp (r, s)

  -- a code that has a card after it is refused as in a record: with room for it by its rule, and else by the number of codes
  module _ (e vs : List Event) (card : 1 ≤ cards_among vs) where
    exposed_item : (c : ℕ) (d : Bool) → codes_full e ≡ false
        → item_refusal trump opening deal e (event (exposed c d)) (map event vs) ≡ exposure_refusal trump opening deal e c
    unfolding item_refusal is_misplaced event_refusal
    exposed_item c d room = rw (some-card vs card, room)

    choice_item : (kind suit : ℕ) → codes_full e ≡ false
        → item_refusal trump opening deal e (event (choice kind suit)) (map event vs) ≡ choice_refusal trump opening deal e kind suit
    unfolding item_refusal is_misplaced event_refusal
    choice_item kind suit room = rw (some-card vs card, room)

    exposed-full : (c : ℕ) (d : Bool) → codes_full e ≡ true → item_refusal trump opening deal e (event (exposed c d)) (map event vs) ≡ too_many_codes
    unfolding item_refusal is_misplaced event_refusal
    exposed-full c d full = rw (some-card vs card, full)

    choice-full : (kind suit : ℕ) → codes_full e ≡ true → item_refusal trump opening deal e (event (choice kind suit)) (map event vs) ≡ too_many_codes
    unfolding item_refusal is_misplaced event_refusal
    choice-full kind suit full = rw (some-card vs card, full)

  -- a 41st code before a card
  code_over : (n code : ℕ) (e : List Event) (bytes : List ℕ) (at : ℕ) → 1 ≤ n → begins_code code ≡ true → read 6 bytes at ≡ found code (at + 6)
      → read_plays trump opening deal n zero e bytes at ≡ refused too_many_codes (play_place e)
  unfolding read_plays
  code_over zero code e bytes at h i r = absurd (omega arith)
  code_over (suc n) code e bytes at h i r = simp (r, test_stops too_many_codes (play_place e) bytes (at + 6) i)

  pub items-taken : (vs e : List Event) (left : ℕ) (bytes : List ℕ) (at : ℕ) {end : ℕ} (from : ℕ) → EachFits vs → CardsFollow vs → left + codes_of e ≡ 40
      → Stands bytes at (play_fields vs) end
      → read_plays trump opening deal (cards_among vs) left e bytes at
      ≡ onward (take_items trump opening deal (map event vs) e [] from) (λ g m. found g end)
  unfolding read_plays take_items play_fields event_fields cards_among cards_of codes_of EachFits EventFits CardsFollow after_item codes_full item_refusal is_misplaced
      event_refusal
  items-taken [] e left bytes at from fits follow l k = ap (λ (m : ℕ). found e m) (stands_end k)
  items-taken (played c ∷ vs) e zero bytes at from fits follow l k =
      simp (read_is 6 bytes at (stands_here k) (stands-fits k), test_is too_many_codes (play_place e) bytes (at + 6) fits.0.1)
      (checked (card_refusal trump opening deal (cards_of e) c) e bytes (at + 6) from _ _ _
      (items-taken vs (played c ∷ e) zero bytes (at + 6) from fits.1 follow l (stands-rest k)))
  items-taken (played c ∷ vs) e (suc left) bytes at from fits follow l k =
      simp (read_is 6 bytes at (stands_here k) (stands-fits k), fits.0.1)
      (checked (card_refusal trump opening deal (cards_of e) c) e bytes (at + 6) from _ _ _
      (items-taken vs (played c ∷ e) (suc left) bytes (at + 6) from fits.1 follow l (stands-rest k)))
  items-taken (exposed c d ∷ vs) e zero bytes at from fits follow l k =
      code_over (cards_among vs) exposure_code e bytes at follow.0 refl (read_is 6 bytes at (stands_here k) (stands-fits k))
      ∙ rw (exposed-full e vs follow.0 c d (le-leb 40 (codes_of e) (omega arith)), test_stops too_many_codes (play_place e) {test = true} [] from refl)
  items-taken (exposed c d ∷ vs) e (suc left) bytes at from fits follow l k =
      let k₂ = stands-rest k in
      let k₃ = stands-rest k₂ in
      let there = exposed-there e c d bytes (at + 6) (read_is 6 bytes (at + 6) (stands_here k₂) (stands-fits k₂))
      (read_is 1 bytes (at + 6 + 6) (stands_here k₃) (stands-fits k₃)) in
      code_turn trump opening deal (cards_among vs) left exposure_code e bytes at follow.0 refl (read_is 6 bytes at (stands_here k) (stands-fits k))
      ∙ rw (there, exposed_item e vs follow.0 c d (lt-leb 40 (codes_of e) (omega arith)))
      (onward_assoc (refuse_by (exposure_refusal trump opening deal e c) e bytes (at + 6 + 6 + 1)) _ _
      ∙ checked (exposure_refusal trump opening deal e c) e bytes (at + 6 + 6 + 1) from _ _ _
      (items-taken vs (exposed c d ∷ e) left bytes (at + 6 + 6 + 1) from fits.1 follow.1 (omega arith) (stands-rest k₃)))
  items-taken (choice kind suit ∷ vs) e zero bytes at from fits follow l k =
      code_over (cards_among vs) choice_code e bytes at follow.0 refl (read_is 6 bytes at (stands_here k) (stands-fits k))
      ∙ rw (choice-full e vs follow.0 kind suit (le-leb 40 (codes_of e) (omega arith)), test_stops too_many_codes (play_place e) {test = true} [] from refl)
  items-taken (choice kind suit ∷ vs) e (suc left) bytes at from fits follow l k =
      let k₂ = stands-rest k in
      let k₃ = stands-rest k₂ in
      let there = choice-there e kind suit bytes (at + 6) (read_is 2 bytes (at + 6) (stands_here k₂) (stands-fits k₂))
      (read_is 2 bytes (at + 6 + 2) (stands_here k₃) (stands-fits k₃)) in
      code_turn trump opening deal (cards_among vs) left choice_code e bytes at follow.0 refl (read_is 6 bytes at (stands_here k) (stands-fits k))
      ∙ rw (there, choice_item e vs follow.0 kind suit (lt-leb 40 (codes_of e) (omega arith)))
      (onward_assoc (refuse_by (choice_refusal trump opening deal e kind suit) e bytes (at + 6 + 2 + 2)) _ _
      ∙ checked (choice_refusal trump opening deal e kind suit) e bytes (at + 6 + 2 + 2) from _ _ _
      (items-taken vs (choice kind suit ∷ e) left bytes (at + 6 + 2 + 2) from fits.1 follow.1 (omega arith) (stands-rest k₃)))

-- a claim that four bits can tell
abbrev pub Told : Claim → Type 0
Told none = Unit {0}
Told (agreed tricks) = tricks ≤ 15

module _ (bytes : List ℕ) (at : ℕ) {end : ℕ} (from : ℕ) where
  -- the calls
  pub calls-taken : (d : ℕ) (calls : List ℕ) → length calls ≤ 511 → Stands bytes at (field 9 (length calls) ∷ row 6 calls) end
      → read_calls d bytes at ≡ onward (take_calls d calls [] from) (λ h m. found h end)
  unfolding read_calls take_calls
  calls-taken d calls few k =
      simp (
        read_is 9 bytes at (stands_here k) (stands-fits k),
        le-ltb 511 (length calls) few,
        test_is,
        each-taken (call_place d) (call_refusal d) calls [] bytes (at + 9) from (stands-rest k),
      )
      (in_turn (take_each (call_place d) (call_refusal d) calls [] [] from) end _ _ _ (λ h m q.
      same_check auction_unfinished (length calls) (not (is_over h)) bytes end m _ _ refl ∙ sym (onward_assoc (check_over (length calls) h [] m) _ _)))

  -- the cards and the codes before them
  pub cards-taken : (d : ℕ) (deal h : List ℕ) (plays : List Event) → cards_among plays ≤ 63 → EachFits plays → CardsFollow plays
      → Stands bytes at (field 6 (cards_among plays) ∷ play_fields plays) end
      → read_cards d deal h bytes at ≡ onward (take_cards d deal h (flat_of plays) [] from) (λ e m. found e end)
  unfolding read_cards take_cards codes_of
  cards-taken d deal h plays few fits follow k =
      let n = cards_among plays in
      let told : min n 63 ≡ n = omega arith in
      let tell = fits_tell plays fits in
      simp (read_is 6 bytes at (stands_here k) (stands-fits k), cards-counted plays tell, reads_back plays tell, told)
      (same_check too_many_cards n (ltb 52 n || (passed_out h && ltb 0 n)) bytes (at + 6) from _ _
      (items-taken (trump_after h) (opening_after d h) deal plays [] most_codes bytes (at + 6) from fits follow refl (stands-rest k))
      ∙ sym (onward_assoc (check_count n n h [] from) _ _))

  -- the claim
  pub claim-taken : (h g : List ℕ) (claim : Claim) → Told claim → Stands bytes at (claim_fields claim) end
      → read_claim h g bytes at ≡ onward (take_claim h g claim [] from) (λ u m. found claim end)
  unfolding read_claim read_no_claim read_marked_claim take_claim claim_fields
  claim-taken h g none few k =
      simp (read_is 1 bytes at (stands_here k) (stands-fits k))
      (same_check play_unfinished (cards_played g) (not (passed_out h) && not (all_played g)) bytes (at + 1) from _ _
      (ap (λ (m : ℕ). found none m) (stands_end (stands-rest k))))
  claim-taken h g (agreed tricks) few k =
      let r = stands-rest k in
      let told : min tricks 15 ≡ tricks = omega arith in
      simp (read_is 1 bytes at (stands_here k) (stands-fits k), told)
      (same_check no_claim_point (cards_played g) (passed_out h || not (at_claim_point g)) bytes (at + 1) from _ _
      (simp (read_is 4 bytes (at + 1) (stands_here r) (stands-fits r))
      (same_check claim_too_many tricks (not (claimable g tricks)) bytes (at + 1 + 4) from _ _
      (ap (λ (m : ℕ). found (agreed tricks) m) (stands_end (stands-rest r)))))
      ∙ sym (onward_assoc (check_claim_point h g [] from) _ _))
