-- The Deal line of Portable Bridge Notation says the seat and the holders that it is the line of. Assumes nothing.
use Rattle.std.specs.Prelude.{if◌then◌else◌}
use Prim.Native.Nat.{ℕ, zero, suc, ◌+◌, ◌-◌, ◌*◌, ◌/◌, ◌%◌, ◌≤◌, ◌<◌}
use native.Mathlib.Omega.{arith}
use mathlib.Core.Path.{◌≡◌, refl, sym, ap, ap₂, ◌∙◌}
use mathlib.Core.Bool.{Bool, true, false, not, ◌&&◌}
use mathlib.Core.List.{List, [], ◌∷◌, ◌++◌, append_assoc}
use borrow.Author.Tests.{eqb-true, eq-eqb, eqb-false, ltb-true, ltb-false, lt-ltb, le-ltb, not-true}
use lib.Dec.{eqb, ltb, lit≤}
use lib.ListN.{length, get_or, set, replicate, length-set, length-append}
use lib.Seq.{get_or-set_same, get_or-set_other, ext_get_or, take_at}
use Rattle.laws.specs.Choice.{some}
use Rattle.laws.specs.Cards.{no_seat, clockwise, dealt_to, clubs, diamonds, hearts, spades}
use Rattle.laws.specs.Contents.{are_seats}
use Rattle.laws.specs.PbnText.{EachBelow, letter_of, seat_letters, rank_letters, space, dot, deal_tag, tag_end, ranks_held, hand_and, hands_and, deal_line}
use Rattle.laws.specs.PbnReading.{same_bytes, place_among, held_by, first_in, hands_in, holders_in, is_deal_line}
use Rattle.laws.proofs.Tests.{by_test, and_left, and_right, and_both, or_left, or_right}
use Rattle.laws.proofs.Counts.{every_below, every_below_lem}
use Rattle.laws.proofs.PbnOrder.{of-seat}
use Rattle.laws.proofs.PbnWords.{same_true, same_self}

-- ---- the letters of ranks
-- each is at its place, and neither a space nor a dot
unfoldable rank_stands : ℕ → Bool
rank_stands r =
    eqb (place_among rank_letters (letter_of rank_letters r)) r
    && (not (eqb (letter_of rank_letters r) space) && not (eqb (letter_of rank_letters r) dot))

ranks_computed : every_below 13 rank_stands ≡ true
unfolding rank_stands place_among
ranks_computed = refl

rank_stands_lem : (r : ℕ) → r < 13
    → (place_among rank_letters (letter_of rank_letters r) ≡ r) × (eqb (letter_of rank_letters r) space ≡ false) × (eqb (letter_of rank_letters r) dot ≡ false)
unfolding rank_stands
rank_stands_lem r h =
    let l = letter_of rank_letters r in
    let both = every_below_lem 13 rank_stands ranks_computed r h in
    let rest = and_right (eqb (place_among rank_letters l) r) _ both in
    (eqb-true _ _ (and_left _ _ both), not-true _ (and_left _ _ rest), not-true _ (and_right (not (eqb l space)) _ rest))

pub each_below : (n : ℕ) (l : List ℕ) → EachBelow n l → (k d : ℕ) → k < length l → get_or l k d < n
unfolding EachBelow
each_below n [] h k d inside = absurd (omega arith)
each_below n (x ∷ l) h zero d inside = h.0
each_below n (x ∷ l) h (suc k) d inside = each_below n l h.1 k d (omega arith)

-- ---- the holders, suit by suit
module _ (deal : List ℕ) where
  -- the cards of a suit with a rank below n that a seat is dealt, given to it
  unfoldable fill : ℕ → ℕ → ℕ → List ℕ → List ℕ
  fill seat suit zero h = h
  fill seat suit (suc r) h = fill seat suit r (if eqb (dealt_to deal (13 * suit + r)) seat then set h (13 * suit + r) seat else h)

  fill_said : (seat suit n : ℕ) (h rest : List ℕ) → n ≤ 13
      → held_by h seat suit (ranks_held deal seat suit n ++ rest) ≡ held_by (fill seat suit n h) seat suit rest
  unfolding held_by ranks_held fill
  fill_said seat suit zero h rest k = refl
  fill_said seat suit (suc r) h rest k =
      let s = rank_stands_lem r k in
      let held = eqb (dealt_to deal (13 * suit + r)) seat in
      by_test held
      (λ (q : held ≡ true). rw (q, s.1, s.2, s.0) (fill_said seat suit r (set h (13 * suit + r) seat) rest (omega arith)))
      (λ (q : held ≡ false). rw q (fill_said seat suit r h rest (omega arith)))

  as_before : (h : List ℕ) (c seat : ℕ) (held : Bool) → length (if held then set h c seat else h) ≡ length h
  as_before h c seat true = length-set h c seat
  as_before h c seat false = refl

  fill_length : (seat suit n : ℕ) (h : List ℕ) → length (fill seat suit n h) ≡ length h
  unfolding fill
  fill_length seat suit zero h = refl
  fill_length seat suit (suc r) h = fill_length seat suit r _ ∙ as_before h (13 * suit + r) seat (eqb (dealt_to deal (13 * suit + r)) seat)

  -- a card has the holder that it is dealt to
  abbrev Right : List ℕ → ℕ → Type 0
  Right h card = dealt_to h card ≡ dealt_to deal card

  -- the holder of a card is set to the seat that it is dealt to
  set_keeps : (h : List ℕ) (card c seat : ℕ) → card < length h → dealt_to deal c ≡ seat → Right h card → Right (set h c seat) card
  set_keeps h card c seat inside dealt e =
      by_test (eqb card c)
      (λ (q : eqb card c ≡ true).
      let z : card ≡ c = eqb-true card c q in
      rw z (get_or-set_same h c seat no_seat (rw z at inside) ∙ sym dealt))
      (λ (q : eqb card c ≡ false). get_or-set_other h c card seat no_seat (eqb-false card c q) ∙ e)

  fill_keeps : (seat suit n : ℕ) (h : List ℕ) (card : ℕ) → card < length h → Right h card → Right (fill seat suit n h) card
  unfolding fill
  fill_keeps seat suit zero h card inside e = e
  fill_keeps seat suit (suc r) h card inside e =
      let c = 13 * suit + r in
      let held = eqb (dealt_to deal c) seat in
      by_test held
      (λ (q : held ≡ true).
      rw q (fill_keeps seat suit r (set h c seat) card (rw (length-set h c seat) inside) (set_keeps h card c seat inside (eqb-true _ _ q) e)))
      (λ (q : held ≡ false). rw q (fill_keeps seat suit r h card inside e))

  fill_sets : (seat suit n : ℕ) (h : List ℕ) (r : ℕ) → r < n → 13 * suit + r < length h → dealt_to deal (13 * suit + r) ≡ seat
      → Right (fill seat suit n h) (13 * suit + r)
  unfolding fill
  fill_sets seat suit zero h r k inside e = absurd (omega arith)
  fill_sets seat suit (suc n) h r k inside e =
      let c = 13 * suit + n in
      let next = if eqb (dealt_to deal c) seat then set h c seat else h in
      let as_long : length next ≡ length h = as_before h c seat (eqb (dealt_to deal c) seat) in
      let within : 13 * suit + r < length next = rw as_long inside in
      by_test (eqb r n)
      (λ (q : eqb r n ≡ true).
      let z : r ≡ n = eqb-true r n q in
      let top : dealt_to deal c ≡ seat = rw (← z) e in
      let here : Right next c = rw (eq-eqb _ _ top) (get_or-set_same h c seat no_seat (rw z at inside) ∙ sym top) in
      rw z (fill_keeps seat suit n next c (rw z at within) here))
      (λ (q : eqb r n ≡ false).
      let other : r ≡ n → ⊥ = eqb-false r n q in
      fill_sets seat suit n next r (omega arith) within e)

  -- ---- a hand
  unfoldable fill_hand : ℕ → List ℕ → List ℕ
  fill_hand seat h = fill seat clubs 13 (fill seat diamonds 13 (fill seat hearts 13 (fill seat spades 13 h)))

  hand_said : (seat : ℕ) (h rest : List ℕ) → held_by h seat spades (hand_and deal seat rest) ≡ held_by (fill_hand seat h) seat clubs rest
  unfolding hand_and fill_hand held_by
  hand_said seat h rest =
      let s = fill seat spades 13 h in
      let t = fill seat hearts 13 s in
      fill_said seat spades 13 h _ (lit≤ tt)
      ∙ fill_said seat hearts 13 s _ (lit≤ tt)
      ∙ fill_said seat diamonds 13 t _ (lit≤ tt)
      ∙ fill_said seat clubs 13 (fill seat diamonds 13 t) rest (lit≤ tt)

  -- holders as many as before, of which none that was right is wrong
  record Better (h g : List ℕ) : Type 0 where
    as_many : length g ≡ length h
    kept : (card : ℕ) → card < length h → Right h card → Right g card

  better_on : {f g h : List ℕ} → Better f g → Better g h → Better f h
  better_on a b =
      record {
        as_many = b.as_many ∙ a.as_many;
        kept = λ card inside e. b.kept card (rw a.as_many inside) (a.kept card inside e);
      }

  fill_better : (seat suit : ℕ) (h : List ℕ) → Better h (fill seat suit 13 h)
  fill_better seat suit h = record { as_many = fill_length seat suit 13 h; kept = fill_keeps seat suit 13 h }

  -- after a suit, and after a hand, the cards that the seat is dealt are right
  suit_right : (seat suit : ℕ) (h : List ℕ) (card : ℕ) → card / 13 ≡ suit → card < length h → dealt_to deal card ≡ seat → Right (fill seat suit 13 h) card
  suit_right seat suit h card e inside dealt =
      let z : 13 * suit + card % 13 ≡ card = omega arith in
      rw z at (fill_sets seat suit 13 h (card % 13) (omega arith) (rw z inside) (rw z dealt))

  hand_better : (seat : ℕ) (h : List ℕ) → Better h (fill_hand seat h)
  unfolding fill_hand
  hand_better seat h =
      better_on (fill_better seat spades h) (better_on (fill_better seat hearts _) (better_on (fill_better seat diamonds _) (fill_better seat clubs _)))

  hand_right : (seat : ℕ) (h : List ℕ) (card : ℕ) → card < 52 → length h ≡ 52 → dealt_to deal card ≡ seat → Right (fill_hand seat h) card
  unfolding fill_hand
  hand_right seat h card small all dealt =
      let g = fill seat spades 13 h in
      let f = fill seat hearts 13 g in
      let e = fill seat diamonds 13 f in
      let lg : length g ≡ 52 = fill_length seat spades 13 h ∙ all in
      let lf : length f ≡ 52 = fill_length seat hearts 13 g ∙ lg in
      let le : length e ≡ 52 = fill_length seat diamonds 13 f ∙ lf in
      of-seat (λ suit. card / 13 ≡ suit → Right (fill seat clubs 13 e) card)
      (λ q. suit_right seat clubs e card q (omega arith) dealt)
      (λ q. (fill_better seat clubs e).kept card (omega arith) (suit_right seat diamonds f card q (omega arith) dealt))
      (λ q. (fill_better seat clubs e).kept card (omega arith)
      ((fill_better seat diamonds f).kept card (omega arith) (suit_right seat hearts g card q (omega arith) dealt)))
      (λ q. (fill_better seat clubs e).kept card (omega arith)
      ((fill_better seat diamonds f).kept card (omega arith)
      ((fill_better seat hearts g).kept card (omega arith) (suit_right seat spades h card q (omega arith) dealt))))
      (card / 13)
      (omega arith)
      refl

  -- ---- the four hands
  next-said : (seat next : ℕ) (h rest : List ℕ) → clockwise seat 1 ≡ next
      → held_by h seat clubs (space ∷ hand_and deal next rest) ≡ held_by (fill_hand next h) next clubs rest
  unfolding held_by
  next-said seat next h rest e = rw e (hand_said next h rest)

  unfoldable fill_all : ℕ → ℕ → ℕ → ℕ → List ℕ → List ℕ
  fill_all a b c d h = fill_hand d (fill_hand c (fill_hand b (fill_hand a h)))

  four-said : (a b c d : ℕ) (h : List ℕ) → clockwise a 1 ≡ b → clockwise b 1 ≡ c → clockwise c 1 ≡ d
      → held_by h a spades (hand_and deal a (space ∷ hand_and deal b (space ∷ hand_and deal c (space ∷ hand_and deal d [])))) ≡ fill_all a b c d h
  unfolding fill_all held_by
  four-said a b c d h p q r = hand_said a h _ ∙ next-said a b _ _ p ∙ next-said b c _ _ q ∙ next-said c d _ [] r

  -- a card is right after the hand of its seat, and stays so
  record FourRight (a b c d : ℕ) (g : List ℕ) (card : ℕ) : Type 0 where
    at_a : dealt_to deal card ≡ a → Right g card
    at_b : dealt_to deal card ≡ b → Right g card
    at_c : dealt_to deal card ≡ c → Right g card
    at_d : dealt_to deal card ≡ d → Right g card

  four_right : (a b c d : ℕ) (h : List ℕ) → length h ≡ 52 → (card : ℕ) → card < 52 → FourRight a b c d (fill_all a b c d h) card
  unfolding fill_all
  four_right a b c d h all card small =
      let e = fill_hand a h in
      let f = fill_hand b e in
      let g = fill_hand c f in
      let le : length e ≡ 52 = (hand_better a h).as_many ∙ all in
      let lf : length f ≡ 52 = (hand_better b e).as_many ∙ le in
      let lg : length g ≡ 52 = (hand_better c f).as_many ∙ lf in
      let from_b = better_on (hand_better c f) (hand_better d g) in
      record {
        at_a = λ q. (better_on (hand_better b e) from_b).kept card (omega arith) (hand_right a h card small all q);
        at_b = λ q. from_b.kept card (omega arith) (hand_right b e card small le q);
        at_c = λ q. (hand_better d g).kept card (omega arith) (hand_right c f card small lf q);
        at_d = λ q. hand_right d g card small lg q;
      }

  all-length : (a b c d : ℕ) (h : List ℕ) → length (fill_all a b c d h) ≡ length h
  unfolding fill_all
  all-length a b c d h = (hand_better d _).as_many ∙ (hand_better c _).as_many ∙ (hand_better b _).as_many ∙ (hand_better a h).as_many

  module _ (all : length deal ≡ 52) (seats : EachBelow 4 deal) where
    -- hands say the deal again, where each seat has one of them
    said_again : (a b c d : ℕ)
        → ((card : ℕ) (g : List ℕ) → FourRight a b c d g card → (s : ℕ) → s < 4 → dealt_to deal card ≡ s → Right g card)
        → fill_all a b c d (replicate 52 no_seat) ≡ deal
    said_again a b c d pick =
        let g = fill_all a b c d (replicate 52 no_seat) in
        let as_many : length g ≡ 52 = all-length a b c d (replicate 52 no_seat) in
        ext_get_or no_seat g deal (as_many ∙ sym all)
        (λ card inside.
        let right = four_right a b c d (replicate 52 no_seat) refl card (omega arith) in
        pick card g right (dealt_to deal card) (each_below 4 deal seats card no_seat (omega arith)) refl)

    pub held_again : (first : ℕ) → first < 4 → held_by (replicate 52 no_seat) first spades (hands_and first deal []) ≡ deal
    unfolding hands_and clockwise
    held_again =
        of-seat (λ first. held_by (replicate 52 no_seat) first spades (hands_and first deal []) ≡ deal)
        (four-said 0 1 2 3 _ refl refl refl
        ∙ said_again 0 1 2 3 (λ card g r. of-seat (λ s. dealt_to deal card ≡ s → Right g card) r.at_a r.at_b r.at_c r.at_d))
        (four-said 1 2 3 0 _ refl refl refl
        ∙ said_again 1 2 3 0 (λ card g r. of-seat (λ s. dealt_to deal card ≡ s → Right g card) r.at_d r.at_a r.at_b r.at_c))
        (four-said 2 3 0 1 _ refl refl refl
        ∙ said_again 2 3 0 1 (λ card g r. of-seat (λ s. dealt_to deal card ≡ s → Right g card) r.at_c r.at_d r.at_a r.at_b))
        (four-said 3 0 1 2 _ refl refl refl
        ∙ said_again 3 0 1 2 (λ card g r. of-seat (λ s. dealt_to deal card ≡ s → Right g card) r.at_b r.at_c r.at_d r.at_a))

  -- ---- the line
  hand_append : (seat : ℕ) (s t : List ℕ) → hand_and deal seat (s ++ t) ≡ hand_and deal seat s ++ t
  unfolding hand_and
  hand_append seat s t = simp append_assoc

  hands_append : (first : ℕ) (s t : List ℕ) → hands_and first deal (s ++ t) ≡ hands_and first deal s ++ t
  unfolding hands_and
  hands_append first s t =
      let w = space ∷ hand_and deal (clockwise first 3) s in
      let e = space ∷ hand_and deal (clockwise first 2) w in
      rw (hand_append (clockwise first 3) s t, hand_append (clockwise first 2) w t, hand_append (clockwise first 1) e t)
      (hand_append (clockwise first 0) (space ∷ hand_and deal (clockwise first 1) e) t)

  -- the line says its hands
  hands_in_lem : (first : ℕ) → hands_in (deal_line first deal) ≡ hands_and first deal []
  unfolding deal_line
  hands_in_lem first =
      let hands = hands_and first deal [] in
      let line = deal_tag ++ (letter_of seat_letters first ∷ 58 ∷ hands ++ tag_end) in
      let as_many : length hands ≡ length line - 11 = omega (arith, length-append hands tag_end) in
      rw (hands_append first [] tag_end) (take_at hands tag_end _ as_many)

-- the line says the seat that it starts from
first_in_lem : (deal : List ℕ) (first : ℕ) → first < 4 → first_in (deal_line first deal) ≡ first
unfolding deal_line place_among
first_in_lem deal = of-seat (λ first. first_in (deal_line first deal) ≡ first) refl refl refl refl

-- 52 holders, each a seat
none_over : (deal : List ℕ) → EachBelow 4 deal → some (λ holder. ltb 3 holder) deal ≡ false
unfolding some EachBelow
none_over [] h = refl
none_over (holder ∷ deal) h = rw (le-ltb 3 holder (omega (arith, h.0)), none_over deal h.1)

over_none : (deal : List ℕ) → some (λ holder. ltb 3 holder) deal ≡ false → EachBelow 4 deal
unfolding some EachBelow
over_none [] e = tt
over_none (holder ∷ deal) e = (omega (arith, ltb-false 3 holder (or_left _ _ e)), over_none deal (or_right (ltb 3 holder) _ e))

pub are_seats_lem : (deal : List ℕ) → length deal ≡ 52 → EachBelow 4 deal → are_seats deal ≡ true
unfolding are_seats
are_seats_lem deal all seats = rw (eq-eqb (length deal) 52 all, none_over deal seats)

pub seats_are : (deal : List ℕ) → are_seats deal ≡ true → (length deal ≡ 52) × EachBelow 4 deal
unfolding are_seats
seats_are deal e = (eqb-true _ _ (and_left _ _ e), over_none deal (not-true _ (and_right (eqb (length deal) 52) _ e)))

-- ---- a Deal line is read as the seat and the holders that it is the line of, and only so
pub deal-whole : (first : ℕ) (deal : List ℕ) → first < 4 → length deal ≡ 52 → EachBelow 4 deal
    → (first_in (deal_line first deal) ≡ first) × (holders_in (deal_line first deal) ≡ deal) × (is_deal_line (deal_line first deal) ≡ true)
unfolding is_deal_line
deal-whole first deal low all seats =
    let line = deal_line first deal in
    let f : first_in line ≡ first = first_in_lem deal first low in
    let h : holders_in line ≡ deal = rw (f, hands_in_lem deal first) (held_again deal all seats first low) in
    let says : same_bytes (deal_line (first_in line) (holders_in line)) line ≡ true
    = ap₂ (λ n d. same_bytes (deal_line n d) line) f h ∙ same_self line in
    (f, h, and_both _ _ (ap (λ n. ltb n 4) f ∙ lt-ltb first 4 low) (and_both _ _ (ap are_seats h ∙ are_seats_lem deal all seats) says))

pub deal_sound : (line : List ℕ) → is_deal_line line ≡ true
    → (first_in line < 4) × (length (holders_in line) ≡ 52) × EachBelow 4 (holders_in line) × (line ≡ deal_line (first_in line) (holders_in line))
unfolding is_deal_line
deal_sound line e =
    let rest = and_right (ltb (first_in line) 4) _ e in
    let seats = seats_are (holders_in line) (and_left _ _ rest) in
    (ltb-true _ _ (and_left _ _ e), seats.0, seats.1, sym (same_true _ _ (and_right (are_seats (holders_in line)) _ rest)))
