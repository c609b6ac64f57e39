-- A flat list of events whose codes are whole reads back to those events, and a flat list without a broken code is that of its events. Assumes nothing.
use Rattle.std.specs.Prelude.{if◌then◌else◌}
use Prim.Native.Nat.{ℕ, ◌≤◌}
use native.Mathlib.Omega.{arith}
use mathlib.Core.Path.{◌≡◌, refl, sym, ap, ◌∙◌}
use mathlib.Core.Bool.{Bool, true, false}
use mathlib.Core.List.{List, [], ◌∷◌, ◌++◌, map, append-nil}
use borrow.Author.Tests.{eqb-true, eqb-false, ltb-false}
use lib.Dec.{eqb, ltb}
use lib.ListN.{length}
use Rattle.laws.specs.Choice.{some, how_many}
use Rattle.laws.specs.Events.{Event, played, exposed, choice, exposure_code, choice_code, begins_code, cards_of, cards_among}
use Rattle.laws.specs.CodeRefusal.{event_refusal}
use Rattle.laws.specs.FlatPlay.{Item, event, broken, code_item, last_item, items_of, is_card, cards_in, is_broken}
use Rattle.laws.specs.FlatPlay.{events_among, is_misplaced, item_refusal, flat_of}
use Rattle.laws.proofs.Tests.{by_test, not_both, or_left, or_right}

-- the numbers of an event tell it: a card's number begins no code
unfoldable pub Tells : Event → Type 0
Tells (played c) = begins_code c ≡ false
Tells (exposed c deliberate) = Unit {0}
Tells (choice kind suit) = Unit {0}

unfoldable pub AllTell : List Event → Type 0
AllTell [] = Unit {0}
AllTell (v ∷ vs) = Tells v × AllTell vs

-- a card before any list
pub card-first : (c : ℕ) (l : List ℕ) → begins_code c ≡ false → items_of (c ∷ l) ≡ event (played c) ∷ items_of l
unfolding items_of last_item
card-first c [] n = rw n
card-first c (y ∷ []) n = rw n
card-first c (y ∷ z ∷ l) n = rw n

-- a code before any list
pub code_first : (x y z : ℕ) (l : List ℕ) → begins_code x ≡ true → items_of (x ∷ y ∷ z ∷ l) ≡ code_item x y z ∷ items_of l
unfolding items_of
code_first x y z l c = rw c

choice_item : (kind suit : ℕ) → code_item choice_code kind suit ≡ event (choice kind suit)
unfolding code_item
choice_item kind suit = refl

exposure_item : (c : ℕ) (deliberate : Bool) → code_item exposure_code c (if deliberate then 1 else 0) ≡ event (exposed c deliberate)
unfolding code_item
exposure_item c true = refl
exposure_item c false = refl

-- the flat list of events before other numbers: their items, and then those of the numbers
pub reads_on : (vs : List Event) (l : List ℕ) → AllTell vs → items_of (flat_of vs ++ l) ≡ map event vs ++ items_of l
unfolding flat_of AllTell Tells
reads_on [] l t = refl
reads_on (played c ∷ vs) l t = card-first c (flat_of vs ++ l) t.0 ∙ rw (reads_on vs l t.1)
reads_on (exposed c deliberate ∷ vs) l t =
    code_first exposure_code c (if deliberate then 1 else 0) (flat_of vs ++ l) refl ∙ rw (exposure_item c deliberate, reads_on vs l t.1)
reads_on (choice kind suit ∷ vs) l t = code_first choice_code kind suit (flat_of vs ++ l) refl ∙ rw (choice_item kind suit, reads_on vs l t.1)

-- the theorem: the items of a flat list of events are those events
pub reads_back : (vs : List Event) → AllTell vs → items_of (flat_of vs) ≡ map event vs
unfolding items_of
reads_back vs t = rw (append-nil (flat_of vs), append-nil (map event vs)) at (reads_on vs [] t)

-- the events among their own items
pub all_events : (vs : List Event) → events_among (map event vs) ≡ vs
unfolding events_among
all_events [] = refl
all_events (v ∷ vs) = ap (λ (l : List Event). v ∷ l) (all_events vs)

-- ---- from the numbers
abbrev back : List Item → List ℕ
back items = flat_of (events_among items)

-- a code that is not broken has its three numbers
code_back : (x y z : ℕ) (items : List Item) → begins_code x ≡ true → is_broken (code_item x y z) ≡ false → back (code_item x y z ∷ items) ≡ x ∷ y ∷ z ∷ back items
unfolding code_item is_broken events_among flat_of
code_back x y z items c n =
    by_test (eqb x exposure_code)
    (λ (q : eqb x exposure_code ≡ true).
    by_test (ltb 1 z)
    (λ (r : ltb 1 z ≡ true). not_both true refl (rw (q, r) at n))
    (λ (r : ltb 1 z ≡ false). rw (q, r, eqb-true x exposure_code q) (ap (λ (b : ℕ). exposure_code ∷ y ∷ b ∷ back items) (bit_is z (ltb-false 1 z r)))))
    (λ (q : eqb x exposure_code ≡ false).
    let this = eqb-true x choice_code (rw q at c) in
    rw (q, this))
  where
    bit_is : (z : ℕ) → z ≤ 1 → (if eqb z 1 then 1 else 0) ≡ z
    bit_is z h =
        by_test (eqb z 1)
        (λ (q : eqb z 1 ≡ true). rw q (sym (eqb-true z 1 q)))
        (λ (q : eqb z 1 ≡ false). rw q (omega (arith, eqb-false z 1 q)))

-- the theorem: a flat list without a broken code is that of its events
pub flat_back : (l : List ℕ) → some is_broken (items_of l) ≡ false → flat_of (events_among (items_of l)) ≡ l
unfolding items_of last_item some is_broken events_among flat_of
flat_back [] n = refl
flat_back (x ∷ []) n =
    by_test (begins_code x)
    (λ (q : begins_code x ≡ true). not_both true refl (rw q at n))
    (λ (q : begins_code x ≡ false). rw q)
flat_back (x ∷ y ∷ []) n =
    by_test (begins_code x)
    (λ (q : begins_code x ≡ true). not_both true refl (rw q at n))
    (λ (q : begins_code x ≡ false). rw q (ap (λ (m : List ℕ). x ∷ m) (flat_back (y ∷ []) (rw q at n))))
flat_back (x ∷ y ∷ z ∷ l) n =
    by_test (begins_code x)
    (λ (q : begins_code x ≡ true).
    let t = rw q at n in
    rw q (code_back x y z (items_of l) q (or_left (is_broken (code_item x y z)) (some is_broken (items_of l)) t)
    ∙ ap (λ (m : List ℕ). x ∷ y ∷ z ∷ m) (flat_back l (or_right (is_broken (code_item x y z)) (some is_broken (items_of l)) t))))
    (λ (q : begins_code x ≡ false). rw q (ap (λ (m : List ℕ). x ∷ m) (flat_back (y ∷ z ∷ l) (rw q at n))))

-- ---- the cards
-- there is a card among the items of events exactly where one is played
pub some-card : (vs : List Event) → 1 ≤ cards_among vs → some is_card (map event vs) ≡ true
unfolding some is_card cards_among cards_of
some-card [] h = absurd (omega arith)
some-card (played c ∷ vs) h = refl
some-card (exposed c deliberate ∷ vs) h = some-card vs h
some-card (choice kind suit ∷ vs) h = some-card vs h

pub card_among : (items : List Item) → some is_card items ≡ true → 1 ≤ cards_among (events_among items)
unfolding some is_card cards_among cards_of events_among
card_among [] h = not_both false h refl
card_among (event (played c) ∷ items) h = omega arith
card_among (event (exposed c deliberate) ∷ items) h = card_among items h
card_among (event (choice kind suit) ∷ items) h = card_among items h
card_among (broken ∷ items) h = card_among items h

count-cards : (vs : List Event) → how_many is_card (map event vs) ≡ length (cards_of vs)
unfolding how_many is_card cards_of
count-cards [] = refl
count-cards (played c ∷ vs) = omega (arith, count-cards vs)
count-cards (exposed c deliberate ∷ vs) = omega (arith, count-cards vs)
count-cards (choice kind suit ∷ vs) = omega (arith, count-cards vs)

-- cards are counted without codes
pub cards-counted : (vs : List Event) → AllTell vs → cards_in (flat_of vs) ≡ cards_among vs
unfolding cards_in cards_among
cards-counted vs t = rw (reads_back vs t) (count-cards vs)

-- ---- refusals
-- a card, and a code that has a card after it, is refused as in a record
pub as_in_record : (trump opening : ℕ) (deal : List ℕ) (e : List Event) (v : Event) (rest : List Item) → is_misplaced (event v) rest ≡ false
    → item_refusal trump opening deal e (event v) rest ≡ event_refusal trump opening deal e v
unfolding item_refusal
as_in_record trump opening deal e v rest n = rw n

-- ---- without a code each number is a card
pub items-alone : (l : List ℕ) → some begins_code l ≡ false → items_of l ≡ map (λ (c : ℕ). event (played c)) l
unfolding items_of some
items-alone [] e = refl
items-alone (c ∷ l) e =
    card-first c l (or_left (begins_code c) (some begins_code l) e)
    ∙ ap (λ (m : List Item). event (played c) ∷ m) (items-alone l (or_right (begins_code c) (some begins_code l) e))

cards-all : (l : List ℕ) → how_many is_card (map (λ (c : ℕ). event (played c)) l) ≡ length l
unfolding how_many is_card
cards-all [] = refl
cards-all (c ∷ l) = omega (arith, cards-all l)

pub cards-alone : (l : List ℕ) → some begins_code l ≡ false → length l ≡ cards_in l
unfolding cards_in
cards-alone l e = rw (items-alone l e) (sym (cards-all l))
