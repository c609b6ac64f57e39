-- The loop over plays with codes among them: what the checks come to from a turn on is what they come to in all. Assumes nothing.
use Prim.Native.Nat.{ℕ, ◌≤◌, ◌<◌, ◌+◌}
use native.Mathlib.Omega.{arith}
use mathlib.Core.Path.{◌≡◌, refl, sym, ap, ap₂, ◌∙◌}
use mathlib.Core.Bool.{true, false}
use mathlib.Core.List.{List, [], ◌∷◌}
use borrow.Author.Tests.{ne_eqb, lt-ltb, le-ltb, ltb-true, ltb-false}
use lib.Dec.{eqb, ltb}
use lib.ListN.{length, get_or}
use Rattle.laws.specs.Choice.{some, how_many}
use Rattle.laws.specs.Refusals.{Answer, refused, answered, Placed, refused_at, given, accepted, too_many_codes, choice_not_open}
use Rattle.laws.specs.Refused.{answer_by, checked_in}
use Rattle.laws.proofs.Answered.{answer-taken, answer-refused}
use Rattle.contents.specs.Checked.{coded_by}
use Rattle.laws.specs.Law44.{cards_played}
use Rattle.laws.specs.Events.{Event, played, exposed, choice, begins_code, exposure_code, cards_of}
use Rattle.laws.specs.CodeRefusal.{codes_full, event_refusal}
use Rattle.laws.specs.Kept.{NoneRefused}
use Rattle.laws.specs.Reading.{refuse}
use Rattle.laws.specs.Plays.{play_place}
use Rattle.laws.specs.FlatPlay.{Item, event, broken, code_item, is_card, is_misplaced, item_refusal, after_item}
use Rattle.laws.specs.Contents.{take_items}
use Rattle.laws.proofs.Tests.{by_test, not_both}
use Rattle.laws.proofs.ItemsTaken.{placed-number, placed, some-many}
use Rattle.play.specs.Position.{refusal_of}
use Rattle.position.specs.declared.table.Table.{Table}
use Rattle.position.specs.Table.{full_in, exposure_in, choice_in, after_exposed, after_choice, after_play}
use Rattle.position.specs.History.{OfEvents, position_of}
use Rattle.position.proofs.Refusing.{card_law, full_law, exposure_law, choice_law}
use Rattle.contents.proofs.Items.{items_at, none_at, card_at_lem, code_at, cut_at, code_no_card}

-- a code for which there is no room, whatever it is
full-number : (trump opening : ℕ) (deal : List ℕ) (e : List Event) (i : Item) (rest : List Item) → is_card i ≡ false → codes_full e ≡ true
    → item_refusal trump opening deal e i rest ≡ too_many_codes
unfolding item_refusal event_refusal is_card
full-number trump opening deal e (event (played c)) rest n f = not_both true refl n
full-number trump opening deal e (event (exposed c d)) rest n f =
    by_test (is_misplaced (event (exposed c d)) rest)
    (λ (m : is_misplaced (event (exposed c d)) rest ≡ true). rw (m, f))
    (λ (m : is_misplaced (event (exposed c d)) rest ≡ false). rw (m, f))
full-number trump opening deal e (event (choice kind suit)) rest n f =
    by_test (is_misplaced (event (choice kind suit)) rest)
    (λ (m : is_misplaced (event (choice kind suit)) rest ≡ true). rw (m, f))
    (λ (m : is_misplaced (event (choice kind suit)) rest ≡ false). rw (m, f))
full-number trump opening deal e broken rest n f = rw f

-- a code with no card after it
last-number : (trump opening : ℕ) (deal : List ℕ) (e : List Event) (i : Item) (rest : List Item) → is_card i ≡ false → codes_full e ≡ false
    → some is_card rest ≡ false → item_refusal trump opening deal e i rest ≡ choice_not_open
unfolding item_refusal is_misplaced is_card
last-number trump opening deal e (event (played c)) rest n f s = not_both true refl n
last-number trump opening deal e (event (exposed c d)) rest n f s = rw (s, f)
last-number trump opening deal e (event (choice kind suit)) rest n f s = rw (s, f)
last-number trump opening deal e broken rest n f s = rw f

-- a code that is not refused is an event more, and no card
after_code : (trump opening : ℕ) (deal : List ℕ) (e : List Event) (i : Item) (rest : List Item) → is_card i ≡ false
    → item_refusal trump opening deal e i rest ≡ accepted → NoneRefused trump opening deal e
    → NoneRefused trump opening deal (after_item i e) × (play_place (after_item i e) ≡ play_place e)
unfolding is_card after_item NoneRefused cards_of item_refusal
after_code trump opening deal e (event (played c)) rest n q w = not_both true refl n
after_code trump opening deal e (event (exposed c d)) rest n q w = (((placed trump opening deal e (exposed c d) rest q).1, w), refl)
after_code trump opening deal e (event (choice kind suit)) rest n q w = (((placed trump opening deal e (choice kind suit) rest q).1, w), refl)
after_code trump opening deal e broken rest n q w = absurd (placed-number (codes_full e) q)

-- ---- one code that has a card after it, where there is room for it
module _ (deal : List ℕ) (trump opening : ℕ) (e : List Event) (t : Table) (place : ℕ) (o : OfEvents deal trump opening e t place) (rest : List Item)
    (room : codes_full e ≡ false) (card : some is_card rest ≡ true) where
  pub bit-over : (k bit : ℕ) → 1 < bit → refused choice_not_open ≡ coded_by trump opening deal e (code_item exposure_code k bit) rest
  unfolding code_item item_refusal
  bit-over k bit h = rw (lt-ltb 1 bit h, room)

  module _ (k bit : ℕ) (low : bit ≤ 1) where
    exposure_item : code_item exposure_code k bit ≡ event (exposed k (eqb bit 1))
    unfolding code_item
    exposure_item = rw (le-ltb 1 bit low)

    exposed-number : exposure_in t k ≡ item_refusal trump opening deal e (code_item exposure_code k bit) rest
    unfolding item_refusal is_misplaced event_refusal
    exposed-number =
        ap (λ (x : Table). exposure_in x k) o.position
        ∙ exposure_law deal trump opening o.deal_of_lem.places o.deal_of_lem.thirteen o.seat e o.none_refused k
        ∙ rw (exposure_item, card, room)

    exposed-after : after_exposed t k (eqb bit 1) ≡ position_of deal trump opening (after_item (code_item exposure_code k bit) e)
    unfolding position_of after_item
    exposed-after = rw (exposure_item, o.position)

    pub exposed_is : answer_by (exposure_in t k) (after_exposed t k (eqb bit 1)) ≡ coded_by trump opening deal e (code_item exposure_code k bit) rest
    exposed_is = ap₂ answer_by exposed-number exposed-after

  module _ (code kind suit : ℕ) (other : code ≡ 52 → ⊥) where
    choice_item : code_item code kind suit ≡ event (choice kind suit)
    unfolding code_item
    choice_item = rw (ne_eqb code 52 other)

    chosen_number : choice_in t kind suit ≡ item_refusal trump opening deal e (code_item code kind suit) rest
    unfolding item_refusal is_misplaced event_refusal
    chosen_number =
        ap (λ (x : Table). choice_in x kind suit) o.position
        ∙ choice_law deal trump opening o.deal_of_lem.places o.deal_of_lem.thirteen o.seat e o.none_refused kind suit
        ∙ rw (choice_item, card, room)

    chosen_after : after_choice t kind suit ≡ position_of deal trump opening (after_item (code_item code kind suit) e)
    unfolding position_of after_item
    chosen_after = rw (choice_item, o.position)

    pub chosen_is : answer_by (choice_in t kind suit) (after_choice t kind suit) ≡ coded_by trump opening deal e (code_item code kind suit) rest
    chosen_is = ap₂ answer_by chosen_number chosen_after

-- ---- the loop: the position is that of events after which the checks come to the same
pub record Turned (deal : List ℕ) (trump opening : ℕ) (plays : List ℕ) (first : List Event) (at : ℕ) (t : Table) (i n : ℕ) : Type 0 where
  pub events : List Event
  pub of_events : OfEvents deal trump opening events t n
  pub same : take_items trump opening deal (items_at plays i) events [] 0 ≡ take_items trump opening deal (items_at plays at) first [] 0

module _ (deal : List ℕ) (trump opening : ℕ) (plays : List ℕ) (first : List Event) (at : ℕ) where
  abbrev whole : Placed (Unit {0})
  whole = checked_in (take_items trump opening deal (items_at plays at) first [] 0)

  pub turns_begin : (t : Table) (n : ℕ) → OfEvents deal trump opening first t n → Turned deal trump opening plays first at t at n
  turns_begin t n o = record { events = first; of_events = o; same = refl }

  module _ {t : Table} {i n : ℕ} (r : Turned deal trump opening plays first at t i n) where
    pub turns_end : length plays ≤ i → given tt ≡ whole
    unfolding take_items
    turns_end h = ap checked_in (rw (none_at plays i h) at r.same)

    -- an item that is refused, and one that is not
    stops : (item : Item) (rest : List Item) → items_at plays i ≡ item ∷ rest → (f : ℕ) → item_refusal trump opening deal r.events item rest ≡ f
        → (f ≡ 0 → ⊥) → refused_at f n ≡ whole
    unfolding take_items refuse
    stops item rest q f e z =
        rw r.of_events.many (ap checked_in (rw (q, e, ne_eqb f 0 z) at r.same))

    goes : (item : Item) (rest : List Item) → items_at plays i ≡ item ∷ rest → item_refusal trump opening deal r.events item rest ≡ 0
        → take_items trump opening deal rest (after_item item r.events) [] 0 ≡ take_items trump opening deal (items_at plays at) first [] 0
    unfolding take_items refuse
    goes item rest q e = rw (q, e) at r.same

    full_is : full_in t ≡ codes_full r.events
    full_is =
        let o = r.of_events in
        ap full_in o.position ∙ full_law deal trump opening o.deal_of_lem.places o.deal_of_lem.thirteen o.seat r.events o.none_refused

    module _ (h : i < length plays) (c : ℕ) (ec : c ≡ get_or plays i 0) where
      -- ---- a code
      module _ (b : begins_code c ≡ true) where
        abbrev item : Item
        item = code_item c (get_or plays (i + 1) 0) (get_or plays (i + 2) 0)

        pub code_over : full_in t ≡ true → refused_at too_many_codes n ≡ whole
        unfolding is_card
        code_over f =
            let full = sym full_is ∙ f in
            by_test (ltb (i + 2) (length plays))
            (λ (q : ltb (i + 2) (length plays) ≡ true).
            stops item _ (code_at plays i h c ec b (ltb-true (i + 2) (length plays) q)) too_many_codes
            (full-number trump opening deal r.events item _ (code_no_card c _ _) full) (λ z. omega arith))
            (λ (q : ltb (i + 2) (length plays) ≡ false).
            stops broken [] (cut_at plays i h c ec b (ltb-false (i + 2) (length plays) q)) too_many_codes
            (full-number trump opening deal r.events broken [] refl full) (λ z. omega arith))

        module _ (f : full_in t ≡ false) where
          pub room-is : codes_full r.events ≡ false
          room-is = sym full_is ∙ f

          pub code_cut : length plays ≤ i + 2 → refused_at choice_not_open n ≡ whole
          unfolding item_refusal
          code_cut l = stops broken [] (cut_at plays i h c ec b l) choice_not_open (rw room-is) (λ z. omega arith)

          module _ (l : i + 2 < length plays) (cards : ℕ) (count : n + how_many is_card (items_at plays i) ≡ cards) where
            behind : n + how_many is_card (items_at plays (i + 3)) ≡ cards
            unfolding how_many
            behind =
                let e = rw (code_at plays i h c ec b l, code_no_card c (get_or plays (i + 1) 0) (get_or plays (i + 2) 0)) at count in
                omega (arith, e)

            none-some : (items : List Item) → how_many is_card items ≡ 0 → some is_card items ≡ false
            unfolding how_many some
            none-some [] z = refl
            none-some (x ∷ items) z =
                by_test (is_card x)
                (λ (q : is_card x ≡ true). absurd (let y = rw q at z in omega (arith, y)))
                (λ (q : is_card x ≡ false). rw q (none-some items (let y = rw q at z in omega (arith, y))))

            pub code_last : n ≡ cards → refused_at choice_not_open n ≡ whole
            code_last z =
                stops item _ (code_at plays i h c ec b l) choice_not_open
                (last-number trump opening deal r.events item _ (code_no_card c _ _) room-is (none-some (items_at plays (i + 3)) (omega (arith, behind))))
                (λ y. omega arith)

            pub card-behind : (n ≡ cards → ⊥) → some is_card (items_at plays (i + 3)) ≡ true
            card-behind z =
                let later = how_many is_card (items_at plays (i + 3)) in
                some-many (items_at plays (i + 3)) (by_test (ltb 0 later)
                (λ (q : ltb 0 later ≡ true). ltb-true 0 later q)
                (λ (q : ltb 0 later ≡ false). absurd (z (omega (arith, behind, ltb-false 0 later q)))))

            abbrev answered_by : Answer Table
            answered_by = coded_by trump opening deal r.events item (items_at plays (i + 3))

            abbrev after : Table
            after = position_of deal trump opening (after_item item r.events)

            pub code_stops : {g : ℕ} → refused g ≡ answered_by → refused_at g n ≡ whole
            code_stops e =
                let f = answer-refused (item_refusal trump opening deal r.events item (items_at plays (i + 3))) after e in
                stops item _ (code_at plays i h c ec b l) _ (sym f.1) (λ z. f.0 (sym f.1 ∙ z))

            pub code_goes : {next : Table} → answered next ≡ answered_by → Turned deal trump opening plays first at next (i + 3) n
            code_goes {next} e =
                let f = answer-taken (item_refusal trump opening deal r.events item (items_at plays (i + 3))) e in
                let o = r.of_events in
                let ok = after_code trump opening deal r.events item (items_at plays (i + 3)) (code_no_card c _ _) f.0 o.none_refused in
                record {
                  events = after_item item r.events;
                  of_events = record {
                    deal_of_lem = o.deal_of_lem;
                    seat = o.seat;
                    position = f.1;
                    none_refused = ok.0;
                    many = o.many ∙ sym ok.1;
                  };
                  same = goes item _ (code_at plays i h c ec b l) f.0;
                }

      -- ---- a card
      module _ (b : begins_code c ≡ false) (f : ℕ) (ef : f ≡ refusal_of t.play c) where
        card_is : item_refusal trump opening deal r.events (event (played c)) (items_at plays (i + 1)) ≡ f
        unfolding item_refusal is_misplaced event_refusal
        card_is =
            let o = r.of_events in
            sym (ef ∙ ap (λ (x : Table). refusal_of x.play c) o.position
            ∙ card_law deal trump opening o.deal_of_lem.places o.deal_of_lem.thirteen o.seat r.events o.none_refused c)

        pub card_stops : (f ≡ 0 → ⊥) → refused_at f n ≡ whole
        card_stops z = stops (event (played c)) _ (card_at_lem plays i h c ec b) f card_is z

        pub card-goes : f ≡ 0 → (after : Table) → after ≡ after_play t c → Turned deal trump opening plays first at after (i + 1) (n + 1)
        unfolding position_of NoneRefused event_refusal item_refusal is_misplaced cards_of cards_played after_item
        card-goes z after s =
            let o = r.of_events in
            record {
              events = played c ∷ r.events;
              of_events = record {
                deal_of_lem = o.deal_of_lem;
                seat = o.seat;
                position = s ∙ ap (λ (x : Table). after_play x c) o.position;
                none_refused = (card_is ∙ z, o.none_refused);
                many = omega (arith, o.many);
              };
              same = goes (event (played c)) _ (card_at_lem plays i h c ec b) (card_is ∙ z);
            }
