-- Where a flat list of plays is refused: at the first item that its rule refuses, behind plays that may stand, and which items those are that no field can
-- hold. Assumes nothing.
use Prim.Native.Nat.{ℕ, ◌+◌, ◌≤◌, ◌<◌, min}
use native.Mathlib.Omega.{arith}
use mathlib.Core.Path.{◌≡◌, refl, ◌∙◌}
use mathlib.Core.Logic.{◌⊎◌, ⊎_elim}
use mathlib.Core.Bool.{Bool, true, false, ◌||◌}
use mathlib.Core.List.{List, [], ◌∷◌, ◌++◌, reverse, reverse_aux}
use borrow.Author.Tests.{ne_eqb, le-leb, lt-leb, leb-true, lt-ltb}
use lib.Dec.{eqb, ltb}
use lib.ListN.{length}
use Rattle.laws.specs.Choice.{some, how_many}
use Rattle.laws.specs.Refusals.{accepted, too_many_cards, not_exposable, choice_not_open, too_many_codes}
use Rattle.laws.specs.Law44.{cards_played}
use Rattle.laws.specs.Auction.{passed_out, trump_after, opening_after}
use Rattle.laws.specs.Events.{Event, forbid, played, exposed, choice, exposure_code, begins_code, cards_of, cards_among, codes_of}
use Rattle.laws.specs.Law50.{is_exposable}
use Rattle.laws.specs.Law51.{is_open}
use Rattle.laws.specs.CodeRefusal.{most_codes, codes_full, exposure_refusal, choice_refusal, event_refusal}
use Rattle.laws.specs.FlatPlay.{Item, event, broken, code_item, last_item, items_of, is_card, cards_in, is_misplaced, item_refusal, flat_of}
use Rattle.laws.specs.Plays.{EachStands, CardsFollow}
use Rattle.laws.specs.Reading.{Reading.refused}
use Rattle.laws.specs.Contents.{take_items, take_cards}
use Rattle.laws.proofs.Tests.{by_test}
use Rattle.laws.proofs.Readings.{test_stops}
use Rattle.laws.proofs.Plays.{cards-reverse}
use Rattle.laws.proofs.FlatPlay.{code_first}
use Rattle.laws.proofs.KeptCards.{defenders-card, exposed_defender}
use Rattle.laws.proofs.KeptChoices.{opened, open_suit}
use Rattle.laws.proofs.ContentsStop.{plays-pass}

-- ---- the history of plays has as many codes
codes_onto : (plays e : List Event) → codes_of (reverse_aux plays e) ≡ codes_of plays + codes_of e
unfolding codes_of
codes_onto [] e = omega arith
codes_onto (played c ∷ plays) e = codes_onto plays (played c ∷ e)
codes_onto (exposed c deliberate ∷ plays) e = codes_onto plays (exposed c deliberate ∷ e) ∙ omega arith
codes_onto (choice kind suit ∷ plays) e = codes_onto plays (choice kind suit ∷ e) ∙ omega arith

codes-reverse : (plays : List Event) → codes_of (reverse plays) ≡ codes_of plays
unfolding codes_of
codes-reverse plays = codes_onto plays [] ∙ omega arith

pub no_room : (plays : List Event) → codes_of plays ≡ most_codes → codes_full (reverse plays) ≡ true
unfolding codes_full
no_room plays e = le-leb 40 (codes_of (reverse plays)) (omega (arith, codes-reverse plays))

pub room-left : (plays : List Event) → codes_of plays < most_codes → codes_full (reverse plays) ≡ false
unfolding codes_full
room-left plays l = lt-leb 40 (codes_of (reverse plays)) (omega (arith, codes-reverse plays))

-- ---- the first item of a list that begins with a code
pub record Coded (l : List ℕ) : Type 0 where
  pub first : Item
  pub rest : List Item
  pub items : items_of l ≡ first ∷ rest
  pub no_card_lem : is_card first ≡ false

pub code_no_card : (x y z : ℕ) → is_card (code_item x y z) ≡ false
unfolding code_item is_card
code_no_card x y z =
    by_test (eqb x exposure_code)
    (λ (t : eqb x exposure_code ≡ true).
    by_test (ltb 1 z)
    (λ (u : ltb 1 z ≡ true). rw (t, u))
    (λ (u : ltb 1 z ≡ false). rw (t, u)))
    (λ (t : eqb x exposure_code ≡ false). rw t)

-- a code that has fewer than two numbers behind it is cut short
pub cut-first : (x : ℕ) (l : List ℕ) → begins_code x ≡ true → length l < 2 → items_of (x ∷ l) ≡ broken ∷ []
unfolding items_of last_item
cut-first x [] c few = rw c
cut-first x (y ∷ []) c few = rw c
cut-first x (y ∷ z ∷ l) c few = absurd (omega arith)

pub coded : (x : ℕ) (l : List ℕ) → begins_code x ≡ true → Coded (x ∷ l)
unfolding is_card
coded x [] c = record { first = broken; rest = []; items = cut-first x [] c (omega arith); no_card_lem = refl }
coded x (y ∷ []) c = record { first = broken; rest = []; items = cut-first x (y ∷ []) c (omega arith); no_card_lem = refl }
coded x (y ∷ z ∷ l) c = record { first = code_item x y z; rest = items_of l; items = code_first x y z l c; no_card_lem = code_no_card x y z }

-- a bit over 1 breaks the code of an exposure
pub bit-broken : (k bit : ℕ) → 1 < bit → code_item exposure_code k bit ≡ broken
unfolding code_item
bit-broken k bit o = rw (lt-ltb 1 bit o)

-- ---- why an item is refused
module _ (trump opening : ℕ) (deal : List ℕ) (e : List Event) where
  -- a code without room for it, whatever it is
  pub full-refused : (i : Item) (rest : List Item) → is_card i ≡ false → codes_full e ≡ true → item_refusal trump opening deal e i rest ≡ too_many_codes
  unfolding item_refusal is_card event_refusal
  full-refused (event (played c)) rest n f = absurd (let z : ◌≡◌ {A = Bool} true false = n in let y : ◌≡◌ {A = ℕ} 1 0 = cc in omega arith)
  full-refused (event (exposed c deliberate)) rest n f =
      by_test (is_misplaced (event (exposed c deliberate)) rest) (λ (t : _ ≡ true). rw (t, f)) (λ (t : _ ≡ false). rw (t, f))
  full-refused (event (choice kind suit)) rest n f =
      by_test (is_misplaced (event (choice kind suit)) rest) (λ (t : _ ≡ true). rw (t, f)) (λ (t : _ ≡ false). rw (t, f))
  full-refused broken rest n f = rw f

  pub broken-refused : (rest : List Item) → codes_full e ≡ false → item_refusal trump opening deal e broken rest ≡ choice_not_open
  unfolding item_refusal
  broken-refused rest f = rw f

  -- a code that no card comes after
  pub last-refused : (i : Item) (rest : List Item) → is_card i ≡ false → some is_card rest ≡ false → codes_full e ≡ false
      → item_refusal trump opening deal e i rest ≡ choice_not_open
  unfolding item_refusal is_card is_misplaced
  last-refused (event (played c)) rest n s f = absurd (let z : ◌≡◌ {A = Bool} true false = n in let y : ◌≡◌ {A = ℕ} 1 0 = cc in omega arith)
  last-refused (event (exposed c deliberate)) rest n s f = rw (s, f)
  last-refused (event (choice kind suit)) rest n s f = rw (s, f)
  last-refused broken rest n s f = rw f

  module _ (all : length deal ≡ 52) where
    -- what is no card cannot be exposed
    pub exposed-refused : (k : ℕ) (deliberate : Bool) → codes_full e ≡ false → 51 < k
        → event_refusal trump opening deal e (exposed k deliberate) ≡ not_exposable
    unfolding event_refusal exposure_refusal
    exposed-refused k deliberate f o =
        by_test (is_exposable trump opening deal e k)
        (λ (t : is_exposable trump opening deal e k ≡ true). absurd (omega (arith, defenders-card opening deal k (exposed_defender trump opening deal e k t))))
        (λ (t : is_exposable trump opening deal e k ≡ false). rw (f, t))

    -- a choice of no kind or of no suit is not open
    pub choice-refused : (kind suit : ℕ) → codes_full e ≡ false → (1 < kind) ⊎ (3 < suit)
        → event_refusal trump opening deal e (choice kind suit) ≡ choice_not_open
    unfolding event_refusal choice_refusal
    choice-refused kind suit f over =
        by_test (is_open trump opening deal e kind suit)
        (λ (t : is_open trump opening deal e kind suit ≡ true).
        let o = opened trump opening deal e kind suit t in
        absurd
        (⊎_elim
        (λ (h : 1 < kind). omega (arith, leb-true kind forbid o.kinds))
        (λ (h : 3 < suit). omega (arith, open_suit trump opening deal e kind suit o))
        over))
        (λ (t : is_open trump opening deal e kind suit ≡ false). rw (f, t))

-- no item after is a card
pub none_after : (items : List Item) → how_many is_card items ≡ 0 → some is_card items ≡ false
unfolding some how_many
none_after [] h = refl
none_after (i ∷ items) h =
    by_test (is_card i)
    (λ (t : is_card i ≡ true). absurd (let z = rw t at h in omega arith))
    (λ (t : is_card i ≡ false). rw t (let z = rw t at h in none_after items (omega arith)))

-- ---- the cards and the codes before them, after the calls h
module _ (d : ℕ) (deal h : List ℕ) (all : length deal ≡ 52) (from : ℕ) where
  abbrev trump : ℕ
  trump = trump_after h

  abbrev opening : ℕ
  opening = opening_after d h

  -- passed out, with a card
  pub out_stops : (plays : List ℕ) → passed_out h ≡ true → 1 ≤ cards_in plays → take_cards d deal h plays [] from ≡ refused too_many_cards (min (cards_in plays) 63)
  unfolding take_cards
  out_stops plays q o = simp (q, lt-ltb 0 (cards_in plays) (omega arith), or_true (ltb 52 (cards_in plays)), test_stops)
    where
      or_true : (b : Bool) → (b || true) ≡ true
      or_true true = refl
      or_true false = refl

  -- behind plays that may stand, the first item that is refused
  pub play_stops : (before : List Event) (l : List ℕ) → EachStands trump opening deal [] before → CardsFollow before ⊎ (1 ≤ cards_in l)
      → codes_of before ≤ most_codes → cards_in (flat_of before ++ l) ≤ 52 → (passed_out h ≡ true → cards_in (flat_of before ++ l) ≡ 0)
      → (i : Item) (rest : List Item) → items_of l ≡ i ∷ rest → (n : ℕ) → item_refusal trump opening deal (reverse before) i rest ≡ n → (n ≡ accepted → ⊥)
      → take_cards d deal h (flat_of before ++ l) [] from ≡ refused n (cards_among before)
  unfolding take_items cards_played cards_among
  play_stops before l each follow codes few none i rest items n r nonzero =
      let place : length (cards_of (reverse before)) ≡ length (cards_of before) = cards-reverse before in
      plays-pass d deal h all from before l each follow codes few none
      ∙ rw items (simp (r, ne_eqb n accepted nonzero, test_stops, place))
