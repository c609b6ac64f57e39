-- A suit's count is not 0 exactly when the seat holds a card of the suit. Assumes nothing.
use mathlib.Core.Path.{◌≡◌, sym, ap, ◌∙◌}
use mathlib.Core.Bool.{true, false, not, ◌&&◌}
use mathlib.Core.List.{List}
use Prim.Native.Nat.{ℕ, ◌+◌, ◌-◌, ◌*◌, ◌/◌, ◌≤◌, ◌<◌}
use native.Mathlib.Omega.{arith}
use borrow.Author.Tests.{eqb-true, eqb-false, eq-eqb, ne_eqb, not-true}
use lib.Dec.{eqb}
use lib.ListN.{length, get_or, drop, length-drop, length-take, drop_of_length-le}
use lib.Seq.{get_or-take, get_or-drop}
use Rattle.laws.specs.Choice.{how_many}
use Rattle.laws.specs.Cards.{no_seat, dealt_to, cards_dealt}
use Rattle.laws.specs.Law44.{is_of}
use Rattle.laws.proofs.Tests.{same_test, and_left, and_right, and_both}
use Rattle.laws.proofs.Counts.{below-some, some_below_lem}
use Rattle.laws.proofs.Counts.{many-place, place-many}
use Rattle.deal.specs.Hands.{suit_places, suit_count, holds_one}

-- of a suit of 4 or more there is no card
pub no_suit_lem : (s suit : ℕ) (l : List ℕ) → length l ≡ 52 → 3 < suit → suit_count s suit l ≡ 0
unfolding suit_count cards_dealt how_many
no_suit_lem s suit l long h = rw (drop_of_length-le l {i = 13 * suit} (omega arith))

module _ (l : List ℕ) (long : length l ≡ 52) (s suit : ℕ) where
  -- place r of the suit is card 13 × suit + r
  place : (r : ℕ) → r < 13 → get_or (suit_places suit l) r no_seat ≡ dealt_to l (13 * suit + r)
  place r h = get_or-take 13 (drop (13 * suit) l) r no_seat h ∙ get_or-drop (13 * suit) l r no_seat

  places : length (suit_places suit l) ≤ 13
  places = simp (length-take, length-drop) (omega arith)

  count-holds : not (eqb (suit_count s suit l) 0) ≡ true → holds_one l s suit ≡ true
  unfolding suit_count cards_dealt holds_one
  count-holds e =
      let some-card : 0 < how_many (λ holder. eqb holder s) (suit_places suit l) = positive (suit_count s suit l) (not-true (eqb (suit_count s suit l) 0) e) in
      let r = many-place (λ holder. eqb holder s) no_seat (suit_places suit l) some-card in
      let low : r.0 < 13 = omega (arith, places) in
      let within : 13 * suit + r.0 < 52 = omega (arith, simp (length-take, length-drop) at r.1) in
      some_below_lem (λ card. is_of suit card && eqb (dealt_to l card) s) 52 (13 * suit + r.0) within
      (and_both (is_of suit (13 * suit + r.0)) (eqb (dealt_to l (13 * suit + r.0)) s)
      (eq-eqb ((13 * suit + r.0) / 13) suit (omega arith))
      (ap (λ (x : ℕ). eqb x s) (sym (place r.0 low)) ∙ r.2))
    where
      positive : (n : ℕ) → eqb n 0 ≡ false → 0 < n
      positive n q = omega (arith, eqb-false n 0 q)

  holds-count : holds_one l s suit ≡ true → not (eqb (suit_count s suit l) 0) ≡ true
  unfolding suit_count cards_dealt holds_one
  holds-count e =
      let card = below-some (λ card. is_of suit card && eqb (dealt_to l card) s) 52 e in
      let k : ℕ = card.0 in
      let within : k < 52 = card.1 in
      let suited : k / 13 ≡ suit = eqb-true (k / 13) suit (and_left (is_of suit k) (eqb (dealt_to l k) s) card.2) in
      let r : ℕ = k - 13 * suit in
      let low : r < 13 = omega arith in
      let whole : 13 * suit + r ≡ k = omega arith in
      let held : eqb (get_or (suit_places suit l) r no_seat) s ≡ true = rw (place r low, whole) (and_right (is_of suit k) (eqb (dealt_to l k) s) card.2) in
      let inside : r < length (suit_places suit l) = simp (length-take, length-drop) (omega arith) in
      let some-card : 0 < how_many (λ holder. eqb holder s) (suit_places suit l) = place-many (λ holder. eqb holder s) no_seat (suit_places suit l) r inside held in
      ap not (ne_eqb (how_many (λ holder. eqb holder s) (suit_places suit l)) 0 (λ z. omega arith))

  -- the count is not 0 exactly when some card of the suit is held
  pub suit-held-is : not (eqb (suit_count s suit l) 0) ≡ holds_one l s suit
  suit-held-is = same_test (not (eqb (suit_count s suit l) 0)) (holds_one l s suit) count-holds holds-count
