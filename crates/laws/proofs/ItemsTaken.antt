-- What is taken of the items of a flat list: none is broken, each code has a card after it, and the numbers fit their fields. Items that may stand pass.
-- Assumes nothing.
use Rattle.std.specs.Prelude.{if◌then◌else◌}
use Prim.Native.Nat.{ℕ, ◌+◌, ◌≤◌, min}
use native.Mathlib.Omega.{arith}
use mathlib.Core.Path.{◌≡◌, refl, sym, ap, ◌∙◌}
use mathlib.Core.Logic.{◌⊎◌, ⊎_elim}
use mathlib.Core.Bool.{Bool, true, false, not, ◌&&◌, ◌||◌}
use mathlib.Core.List.{List, [], ◌∷◌, ◌++◌, map, reverse, reverse_aux}
use borrow.Author.Tests.{eqb-true, eq-eqb, lt-leb, ltb-false, not-false}
use lib.Dec.{eqb, ltb}
use lib.ListN.{length}
use Rattle.laws.specs.Choice.{some, how_many}
use Rattle.laws.specs.Refusals.{accepted, too_many_cards, too_many_codes, choice_not_open}
use Rattle.laws.specs.Auction.{passed_out, trump_after, opening_after}
use Rattle.laws.specs.Law44.{cards_played}
use Rattle.laws.specs.Events.{Event, played, exposed, choice, cards_of, cards_among, codes_of}
use Rattle.laws.specs.CodeRefusal.{most_codes, codes_full, exposure_refusal, choice_refusal, event_refusal}
use Rattle.laws.specs.FlatPlay.{Item, event, broken, items_of, is_card, cards_in, is_broken, events_among, is_misplaced, item_refusal, after_item}
use Rattle.laws.specs.Reading.{Reading.found}
use Rattle.laws.specs.Plays.{play_place, MayStand, EachStands, CardsFollow}
use Rattle.laws.specs.Contents.{EachFits, take_items, take_cards}
use Rattle.laws.proofs.Tests.{by_test, or_left}
use Rattle.laws.proofs.CardRefusals.{accepted-playable, accepted-is}
use Rattle.laws.proofs.CodeRefusals.{exposable, chosen}
use Rattle.laws.proofs.Readings.{first_test, test_is}
use Rattle.laws.proofs.Plays.{cards-reverse}
use Rattle.laws.proofs.FlatPlay.{card_among}
use Rattle.laws.proofs.PlaysFit.{stand_fits}

-- a code that is refused for its place has a number
pub placed-number : (full : Bool) → (if full then too_many_codes else choice_not_open) ≡ accepted → ⊥
placed-number true e = omega arith
placed-number false e = omega arith

-- the cards of items are those of their events
pub cards-of-items : (items : List Item) → how_many is_card items ≡ cards_among (events_among items)
unfolding how_many is_card cards_among cards_of events_among
cards-of-items [] = refl
cards-of-items (event (played c) ∷ items) = omega (arith, cards-of-items items)
cards-of-items (event (exposed c deliberate) ∷ items) = omega (arith, cards-of-items items)
cards-of-items (event (choice kind suit) ∷ items) = omega (arith, cards-of-items items)
cards-of-items (broken ∷ items) = omega (arith, cards-of-items items)

-- what was taken of items after the events e: the history g
pub record Kept (items : List Item) (e g : List Event) (from end : ℕ) : Type 0 where
  pub whole : some is_broken items ≡ false
  pub history : g ≡ reverse_aux (events_among items) e
  pub follow : CardsFollow (events_among items)
  pub fits : EachFits (events_among items)
  pub stays : end ≡ from

-- a code that is not misplaced has a card after it
follows : (v : Event) (rest : List Item) → is_misplaced (event v) rest ≡ false → CardsFollow (events_among rest) → CardsFollow (v ∷ events_among rest)
unfolding is_misplaced CardsFollow
follows (played c) rest m f = f
follows (exposed c deliberate) rest m f = (card_among rest (not-false _ m), f)
follows (choice kind suit) rest m f = (card_among rest (not-false _ m), f)

-- an event that is not refused is at its place, and its rule lets it stand
pub placed : (trump opening : ℕ) (deal : List ℕ) (e : List Event) (v : Event) (rest : List Item) → item_refusal trump opening deal e (event v) rest ≡ accepted
    → (is_misplaced (event v) rest ≡ false) × (event_refusal trump opening deal e v ≡ accepted)
unfolding item_refusal
placed trump opening deal e v rest q =
    by_test (is_misplaced (event v) rest)
    (λ (t : is_misplaced (event v) rest ≡ true). absurd (placed-number (codes_full e) (rw t at q)))
    (λ (t : is_misplaced (event v) rest ≡ false). (t, rw t at q))

module _ (trump opening : ℕ) (deal : List ℕ) (all : length deal ≡ 52) where
  -- an event that is not refused may stand
  may_stand : (e : List Event) (v : Event) → event_refusal trump opening deal e v ≡ accepted → MayStand trump opening deal e v
  unfolding event_refusal MayStand
  may_stand e (played c) q = accepted-playable trump opening deal (cards_of e) c q
  may_stand e (exposed c deliberate) q = (exposable trump opening deal e c deliberate q).1
  may_stand e (choice kind suit) q = (chosen trump opening deal e kind suit q).1

  pub items_kept : (items : List Item) (e : List Event) (from : ℕ) {g : List Event} {end : ℕ} → take_items trump opening deal items e [] from ≡ found g end
      → Kept items e g from end
  unfolding take_items after_item item_refusal some is_broken events_among CardsFollow EachFits
  items_kept [] e from {g} {end} q =
      let same : e ≡ g = cc in
      let stop : from ≡ end = cc in
      record { whole = refl; history = sym same; follow = tt; fits = tt; stays = sym stop }
  items_kept (event v ∷ rest) e from q =
      let n : ℕ = item_refusal trump opening deal e (event v) rest in
      let t = first_test n (play_place e) (not (eqb n accepted)) [] from _ q in
      let ok = placed trump opening deal e v rest (eqb-true n accepted (not-false _ t.0)) in
      let more = items_kept rest (v ∷ e) from t.1 in
      record {
        whole = more.whole;
        history = more.history;
        follow = follows v rest ok.0 more.follow;
        fits = (stand_fits trump opening deal all e v (may_stand e v ok.1), more.fits);
        stays = more.stays;
      }
  items_kept (broken ∷ rest) e from q =
      let n : ℕ = if codes_full e then too_many_codes else choice_not_open in
      let t = first_test n (play_place e) (not (eqb n accepted)) [] from _ q in
      absurd (placed-number (codes_full e) (eqb-true n accepted (not-false _ t.0)))

-- what was taken of the plays of given contents: their events, in order
pub record CardsKept (plays : List ℕ) (e : List Event) (from end : ℕ) : Type 0 where
  pub items : Kept (items_of plays) [] e from end
  pub few : cards_in plays ≤ 52

pub cards-kept : (d : ℕ) (deal h plays : List ℕ) (from : ℕ) {e : List Event} {end : ℕ} → length deal ≡ 52 → take_cards d deal h plays [] from ≡ found e end
    → CardsKept plays e from end
unfolding take_cards
cards-kept d deal h plays from all q =
    let n = cards_in plays in
    let a = first_test too_many_cards (min n 63) (ltb 52 n || (passed_out h && ltb 0 n)) [] from _ q in
    record {
      items = items_kept (trump_after h) (opening_after d h) deal all (items_of plays) [] from a.1;
      few = ltb-false 52 n (or_left (ltb 52 n) _ a.0);
    }

-- as many cards are taken as there are
pub taken-cards : (d : ℕ) (deal h plays : List ℕ) (from : ℕ) {e : List Event} {end : ℕ} → length deal ≡ 52 → take_cards d deal h plays [] from ≡ found e end
    → cards_played (cards_of e) ≡ cards_in plays
unfolding cards_played cards_in cards_among
taken-cards d deal h plays from {e} all q =
    let k = cards-kept d deal h plays from all q in
    let events : List Event = events_among (items_of plays) in
    ap cards_among k.items.history ∙ cards-reverse events ∙ sym (cards-of-items (items_of plays))

-- ---- items that may stand pass
-- each code of the plays has a card after it, among them or among the items of `rest`
unfoldable Followed : List Event → List Item → Type 0
Followed [] rest = Unit {0}
Followed (played c ∷ vs) rest = Followed vs rest
Followed (exposed c deliberate ∷ vs) rest = (some is_card (map event vs ++ rest) ≡ true) × Followed vs rest
Followed (choice kind suit ∷ vs) rest = (some is_card (map event vs ++ rest) ≡ true) × Followed vs rest

-- a card among plays, or behind them
some-before : (vs : List Event) (rest : List Item) → 1 ≤ cards_among vs → some is_card (map event vs ++ rest) ≡ true
unfolding some is_card cards_among cards_of
some-before [] rest h = absurd (omega arith)
some-before (played c ∷ vs) rest h = refl
some-before (exposed c deliberate ∷ vs) rest h = some-before vs rest h
some-before (choice kind suit ∷ vs) rest h = some-before vs rest h

some-behind : (vs : List Event) (rest : List Item) → some is_card rest ≡ true → some is_card (map event vs ++ rest) ≡ true
unfolding some is_card
some-behind [] rest h = h
some-behind (played c ∷ vs) rest h = refl
some-behind (exposed c deliberate ∷ vs) rest h = some-behind vs rest h
some-behind (choice kind suit ∷ vs) rest h = some-behind vs rest h

follow_among : (vs : List Event) (rest : List Item) → CardsFollow vs → Followed vs rest
unfolding CardsFollow Followed
follow_among [] rest f = tt
follow_among (played c ∷ vs) rest f = follow_among vs rest f
follow_among (exposed c deliberate ∷ vs) rest f = (some-before vs rest f.0, follow_among vs rest f.1)
follow_among (choice kind suit ∷ vs) rest f = (some-before vs rest f.0, follow_among vs rest f.1)

follow-behind : (vs : List Event) (rest : List Item) → some is_card rest ≡ true → Followed vs rest
unfolding Followed
follow-behind [] rest h = tt
follow-behind (played c ∷ vs) rest h = follow-behind vs rest h
follow-behind (exposed c deliberate ∷ vs) rest h = (some-behind vs rest h, follow-behind vs rest h)
follow-behind (choice kind suit ∷ vs) rest h = (some-behind vs rest h, follow-behind vs rest h)

pub some-many : (items : List Item) → 1 ≤ how_many is_card items → some is_card items ≡ true
unfolding some how_many
some-many [] h = absurd (omega arith)
some-many (i ∷ items) h =
    by_test (is_card i)
    (λ (q : is_card i ≡ true). rw q)
    (λ (q : is_card i ≡ false). rw q (let l = rw q at h in some-many items (omega arith)))

followed : (vs : List Event) (rest : List Item) → CardsFollow vs ⊎ (1 ≤ how_many is_card rest) → Followed vs rest
followed vs rest =
    ⊎_elim
    (λ (f : CardsFollow vs). follow_among vs rest f)
    (λ (h : 1 ≤ how_many is_card rest). follow-behind vs rest (some-many rest h))

module _ (trump opening : ℕ) (deal : List ℕ) (all : length deal ≡ 52) where
  stands_passes : (e : List Event) (v : Event) (rest : List Item) → is_misplaced (event v) rest ≡ false → codes_of (v ∷ e) ≤ 40
      → MayStand trump opening deal e v → item_refusal trump opening deal e (event v) rest ≡ accepted
  unfolding item_refusal event_refusal exposure_refusal choice_refusal MayStand codes_of codes_full
  stands_passes e (played c) rest m l a = rw m ((accepted-is trump opening deal (cards_of e) c all).1 a)
  stands_passes e (exposed c deliberate) rest m l a = rw (m, lt-leb 40 (codes_of e) (omega arith), a)
  stands_passes e (choice kind suit) rest m l a = rw (m, lt-leb 40 (codes_of e) (omega arith), a)

  passes : (e : List Event) (v : Event) (rest : List Item) (from : ℕ) → item_refusal trump opening deal e (event v) rest ≡ accepted
      → take_items trump opening deal (event v ∷ rest) e [] from ≡ take_items trump opening deal rest (v ∷ e) [] from
  unfolding take_items after_item
  passes e v rest from q = simp (eq-eqb (item_refusal trump opening deal e (event v) rest) accepted q, test_is)

  items-pass : (vs e : List Event) (rest : List Item) (from : ℕ) → EachStands trump opening deal e vs → Followed vs rest → codes_of vs + codes_of e ≤ 40
      → take_items trump opening deal (map event vs ++ rest) e [] from ≡ take_items trump opening deal rest (reverse_aux vs e) [] from
  unfolding EachStands Followed codes_of is_misplaced
  items-pass [] e rest from a f l = refl
  items-pass (played c ∷ vs) e rest from a f l =
      passes e (played c) (map event vs ++ rest) from (stands_passes e (played c) (map event vs ++ rest) refl (omega arith) a.0)
      ∙ items-pass vs (played c ∷ e) rest from a.1 f l
  items-pass (exposed c deliberate ∷ vs) e rest from a f l =
      passes e (exposed c deliberate) (map event vs ++ rest) from
      (stands_passes e (exposed c deliberate) (map event vs ++ rest) (ap not f.0) (omega arith) a.0)
      ∙ items-pass vs (exposed c deliberate ∷ e) rest from a.1 f.1 (omega arith)
  items-pass (choice kind suit ∷ vs) e rest from a f l =
      passes e (choice kind suit) (map event vs ++ rest) from
      (stands_passes e (choice kind suit) (map event vs ++ rest) (ap not f.0) (omega arith) a.0)
      ∙ items-pass vs (choice kind suit ∷ e) rest from a.1 f.1 (omega arith)

  -- from the start, with codes that have a card after them
  pub front_passes : (vs : List Event) (rest : List Item) (from : ℕ) → EachStands trump opening deal [] vs → CardsFollow vs ⊎ (1 ≤ how_many is_card rest)
      → codes_of vs ≤ most_codes → take_items trump opening deal (map event vs ++ rest) [] [] from ≡ take_items trump opening deal rest (reverse vs) [] from
  unfolding codes_of
  front_passes vs rest from a f l = items-pass vs [] rest from a (followed vs rest f) (omega arith)
