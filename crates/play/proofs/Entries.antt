-- The entries of the tricks after a history, and what they say of an earlier card: its trick's suit led, and who led to it. Assumes nothing.
use Rattle.std.specs.Prelude.{if◌then◌else◌}
use Prim.Native.Nat.{ℕ, zero, suc, ◌≤◌, ◌<◌, ◌+◌, ◌-◌, ◌*◌, ◌/◌, ◌%◌, ◌^◌}
use mathlib.Core.Path.{◌≡◌, refl, sym, ap, ◌∙◌}
use mathlib.Core.Bool.{true, false}
use mathlib.Core.List.{List, [], ◌∷◌}
use native.Mathlib.Nat.{pow-suc, pow-succ', pow-le-pow_right, div-one, div-div-eq-div-mul, mod-eq_of_lt}
use native.Mathlib.Omega.{arith}
use borrow.Author.Tests.{eqb-true, eqb-false, ne_eqb, leb-true, leb-false}
use lib.Dec.{eqb, leb}
use lib.ListN.{length, drop}
use lib.Pow.{pow-add}
use Rattle.laws.specs.Cards.{suit_of, clockwise}
use Rattle.laws.specs.Law44.{cards_played, tricks_complete, cards_in_trick, trick_under_way, suit_led, leader, to_play}
use Rattle.laws.specs.Law61.{revoke_at}
use Rattle.laws.proofs.Tests.{by_test}
use Rattle.play.specs.declared.Play.{Play}
use Rattle.play.specs.Words.{with_entry}
use Rattle.play.specs.Told.{entries_in, revoke_byte, card_before, byte_after}
use Rattle.play.specs.History.{entries_of, byte_of}
use Rattle.play.proofs.Cards.{in_trick_more, in_trick_last, trick-more, trick-size}
use Rattle.play.proofs.UnderWay.{led_on, none_under_way}
use Rattle.play.proofs.Bounds.{entries-low}
use Rattle.play.proofs.Stands.{Stands, lead_test}

-- the entries of the complete tricks, and one for the trick under way where there is one
unfoldable pub all_entries : ℕ → ℕ → List ℕ → ℕ
all_entries trump opening g =
    if eqb (cards_in_trick g) 0 then entries_of trump opening g else entries_of trump opening g * 16 + suit_led (trick_under_way g) % 4

-- the tricks begun
abbrev begun : List ℕ → ℕ
begun g = (cards_played g + 3) / 4

-- two words agree in the lowest suit, and in all entries but the lowest
record Alike (a b : ℕ) : Type 0 where
  suit : a % 4 ≡ b % 4
  before : a / 16 ≡ b / 16

-- one entry less, and then m
back_one : (a m : ℕ) → a / 16 ^ suc m ≡ a / 16 / 16 ^ m
back_one a m = rw pow-succ' (sym (div-div-eq-div-mul a 16 (16 ^ m)))

alike_back : {a b : ℕ} (m : ℕ) → Alike a b → Alike (a / 16 ^ m) (b / 16 ^ m)
alike_back {a} {b} zero r = record { suit = rw (div-one a, div-one b) r.suit; before = rw (div-one a, div-one b) r.before }
alike_back {a} {b} (suc m) r = let e = back_one a m ∙ ap (λ (x : ℕ). x / 16 ^ m) r.before ∙ sym (back_one b m) in record { suit = rw e; before = rw e }

-- ---- one card more
module _ (trump opening c : ℕ) (g : List ℕ) where
  -- a card that leads begins an entry
  leads_on : cards_in_trick g ≡ 0 → all_entries trump opening (c ∷ g) / 16 ≡ all_entries trump opening g
  unfolding all_entries entries_of
  leads_on e = rw (in_trick_more c g (omega arith), e) (omega arith)

  -- another card leaves all but the winner
  follows_on : (cards_in_trick g ≡ 0 → ⊥) → Alike (all_entries trump opening (c ∷ g)) (all_entries trump opening g)
  unfolding all_entries entries_of
  follows_on ne =
      let led = led_on c (trick_under_way g) (λ z. ne (sym (trick-size g) ∙ z)) in
      by_test (leb 3 (cards_in_trick g))
      (λ (q : leb 3 (cards_in_trick g) ≡ true).
      let k = leb-true 3 (cards_in_trick g) q in
      rw (in_trick_last c g k, ne_eqb (cards_in_trick g) 0 ne, led) (record { suit = omega arith; before = omega arith }))
      (λ (q : leb 3 (cards_in_trick g) ≡ false).
      let k = leb-false 3 (cards_in_trick g) q in
      rw (in_trick_more c g k, ne_eqb (suc (cards_in_trick g)) 0 (λ z. omega arith), ne_eqb (cards_in_trick g) 0 ne, trick-more c g k, led)
      (record { suit = refl; before = refl }))

-- the leader stands in the entry before
last-winner : (trump opening : ℕ) (g : List ℕ) → entries_of trump opening g / 4 % 4 ≡ leader trump opening g % 4
unfolding entries_of leader
last-winner trump opening [] = omega arith
last-winner trump opening (c ∷ g) =
    by_test (eqb (cards_in_trick (c ∷ g)) 0)
    (λ (q : eqb (cards_in_trick (c ∷ g)) 0 ≡ true). rw q (omega arith))
    (λ (q : eqb (cards_in_trick (c ∷ g)) 0 ≡ false). rw q (last-winner trump opening g))

-- ---- a history with k cards more
begun_leads : (c : ℕ) (g : List ℕ) → cards_in_trick g ≡ 0 → begun (c ∷ g) ≡ suc (begun g)
unfolding cards_in_trick cards_played
begun_leads c g e = omega arith

begun_follows : (c : ℕ) (g : List ℕ) → (cards_in_trick g ≡ 0 → ⊥) → begun (c ∷ g) ≡ begun g
unfolding cards_in_trick cards_played
begun_follows c g n = omega arith

record Seen (trump opening : ℕ) (full : List ℕ) (k c : ℕ) (g : List ℕ) : Type 0 where
  alike : Alike (all_entries trump opening full / 16 ^ (begun full - begun (c ∷ g))) (all_entries trump opening (c ∷ g))
  order : begun (c ∷ g) ≤ begun full
  count : cards_played full ≡ k + cards_played (c ∷ g)

seen : (trump opening : ℕ) (full : List ℕ) (k c : ℕ) (g : List ℕ) → c ∷ g ≡ drop k full → Seen trump opening full k c g
unfolding cards_played
seen trump opening full zero c g e =
    let none : begun (c ∷ g) - begun (c ∷ g) ≡ 0 = omega arith in
    rw (← e) (record {
      alike = rw (none, div-one (all_entries trump opening (c ∷ g)))
          (record { suit = refl; before = refl });
      order = omega arith;
      count = omega arith;
    })
seen trump opening [] (suc k) c g e = absurd (let z : ◌≡◌ {A = ℕ} 0 1 = cc in omega arith)
seen trump opening (d ∷ full) (suc k) c g e =
    let s = seen trump opening full k c g e in
    by_test (eqb (cards_in_trick full) 0)
    (λ (q : eqb (cards_in_trick full) 0 ≡ true).
    let z = eqb-true (cards_in_trick full) 0 q in
    let more = begun_leads d full z in
    let m : begun (d ∷ full) - begun (c ∷ g) ≡ suc (begun full - begun (c ∷ g)) = omega (arith, s.order) in
    record {
      alike = rw (m, back_one (all_entries trump opening (d ∷ full)) (begun full - begun (c ∷ g)), leads_on trump opening d full z) s.alike;
      order = omega (arith, s.order);
      count = omega (arith, s.count);
    })
    (λ (q : eqb (cards_in_trick full) 0 ≡ false).
    let n = eqb-false (cards_in_trick full) 0 q in
    let same = begun_follows d full n in
    let a = alike_back (begun full - begun (c ∷ g)) (follows_on trump opening d full n) in
    record {
      alike = rw same (record { suit = a.suit ∙ s.alike.suit; before = a.before ∙ s.alike.before });
      order = omega (arith, s.order);
      count = omega (arith, s.count);
    })

-- ---- the byte of a revoke
sixteen : (m : ℕ) → 2 ^ (4 * m) ≡ 16 ^ m
sixteen zero = refl
sixteen (suc m) = let four : 4 * suc m ≡ 4 * m + 4 = omega arith in rw (four, pow-add 2 (4 * m) 4, sixteen m, pow-suc 16 m)

module _ (full : List ℕ) (k c : ℕ) (g : List ℕ) (count : cards_played full ≡ k + cards_played (c ∷ g)) (most : cards_played full ≤ 52) where
  card-place : card_before (cards_played full) k ≡ cards_played g
  unfolding cards_played
  card-place = omega arith

  place_back : begun (c ∷ g) ≤ begun full → ((cards_played full % 64 + 3) / 4 + 15 - cards_played g / 4) % 16 ≡ begun full - begun (c ∷ g)
  unfolding cards_played
  place_back h = omega arith

-- the entries before a card's own, and the lowest suit, make the byte
turn_sum : (a b : ℕ) → (a % 4 + b % 4) % 4 ≡ (a + b % 4) % 4 % 4
turn_sum a b = omega arith

by_entries : (trump opening : ℕ) (g : List ℕ) (here suit : ℕ) → here % 4 ≡ suit % 4 → here / 16 ≡ entries_of trump opening g
    → revoke_byte (cards_played g / 4 + 1) (here / 64 % 4 + cards_played g % 4) here ≡ revoke_byte (tricks_complete g + 1) (to_play trump opening g) suit
unfolding revoke_byte to_play clockwise cards_in_trick tricks_complete
by_entries trump opening g here suit es eb =
    let before : here / 64 % 4 ≡ leader trump opening g % 4 = rw (← div-div-eq-div-mul here 16 4, eb) (last-winner trump opening g) in
    let seat : (here / 64 % 4 + cards_played g % 4) % 4 ≡ to_play trump opening g % 4 = rw before (turn_sum (leader trump opening g) (cards_played g)) in
    rw (seat, es)

-- the entries of a trick under way
under_way : (trump opening : ℕ) (g : List ℕ) → (cards_in_trick g ≡ 0 → ⊥) → all_entries trump opening g
    ≡ entries_of trump opening g * 16 + suit_led (trick_under_way g) % 4
unfolding all_entries
under_way trump opening g ne = rw (ne_eqb (cards_in_trick g) 0 ne)

pub byte_is : (trump opening : ℕ) (full : List ℕ) → cards_played full ≤ 52 → (k c : ℕ) (g : List ℕ) → c ∷ g ≡ drop k full → (cards_in_trick g ≡ 0 → ⊥)
    → byte_after (all_entries trump opening full) (cards_played full) k ≡ byte_of (revoke_at trump opening g)
unfolding byte_after revoke_at
byte_is trump opening full most k c g e ne =
    let s = seen trump opening full k c g e in
    let at = card-place full k c g s.count most in
    let back = place_back full k c g s.count most s.order in
    let r = follows_on trump opening c g ne in
    let whole = under_way trump opening g ne in
    let here = all_entries trump opening full / 16 ^ (begun full - begun (c ∷ g)) in
    rw (at, back, sixteen (begun full - begun (c ∷ g)))
    (by_entries trump opening g here (suit_led (trick_under_way g)) (s.alike.suit ∙ r.suit ∙ rw whole (omega arith))
    (s.alike.before ∙ r.before ∙ rw whole (omega arith)))

-- between tricks, and after a lead
between : (trump opening : ℕ) (g : List ℕ) → cards_in_trick g ≡ 0 → all_entries trump opening g ≡ entries_of trump opening g
unfolding all_entries
between trump opening g z = rw z

lead_suit : (trump opening c : ℕ) (g : List ℕ) → cards_in_trick g ≡ 0 → all_entries trump opening (c ∷ g) % 4 ≡ suit_of c % 4
unfolding all_entries suit_led
lead_suit trump opening c g z =
    rw (in_trick_more c g (omega arith), ne_eqb (suc (cards_in_trick g)) 0 (λ q. omega arith), trick-more c g (omega arith), none_under_way g z) (omega arith)

-- the byte of a lead: its trick, its seat and its own suit
pub lead_byte_is : (trump opening : ℕ) (full : List ℕ) → cards_played full ≤ 52 → (k c : ℕ) (g : List ℕ) → c ∷ g ≡ drop k full → cards_in_trick g ≡ 0
    → byte_after (all_entries trump opening full) (cards_played full) k ≡ revoke_byte (tricks_complete g + 1) (to_play trump opening g) (suit_of c)
unfolding byte_after
lead_byte_is trump opening full most k c g e z =
    let s = seen trump opening full k c g e in
    let at = card-place full k c g s.count most in
    let back = place_back full k c g s.count most s.order in
    let here = all_entries trump opening full / 16 ^ (begun full - begun (c ∷ g)) in
    rw (at, back, sixteen (begun full - begun (c ∷ g)))
    (by_entries trump opening g here (suit_of c) (s.alike.suit ∙ lead_suit trump opening c g z)
    (s.alike.before ∙ leads_on trump opening c g z ∙ between trump opening g z))

few-entries : (trump opening : ℕ) (g : List ℕ) → cards_played g ≤ 52 → entries_of trump opening g < 2 ^ 60
unfolding tricks_complete
few-entries trump opening g most =
    let few : suc (tricks_complete g) ≤ 14 = omega arith in
    omega (arith, entries-low trump opening g, pow-le-pow_right {n = 16} (omega arith) few)

pub all-entries : (deal : List ℕ) (trump opening : ℕ) (all : length deal ≡ 52) {p : Play} {g : List ℕ} → Stands deal trump opening all p g → cards_played g ≤ 52
    → entries_in p ≡ all_entries trump opening g
unfolding entries_in all_entries with_entry
all-entries deal trump opening all {p} {g} s most =
    rw (lead_test deal trump opening all s, s.tricks) (by_test (eqb (cards_in_trick g) 0)
    (λ (q : eqb (cards_in_trick g) 0 ≡ true). rw q)
    (λ (q : eqb (cards_in_trick g) 0 ≡ false). rw (q, s.led (eqb-false (cards_in_trick g) 0 q), mod-eq_of_lt (few-entries trump opening g most))
    (omega arith)))

-- what is left of a history without its k latest cards
pub drop-next : (k : ℕ) (full g : List ℕ) (c : ℕ) → c ∷ g ≡ drop k full → g ≡ drop (suc k) full
drop-next zero [] g c e = absurd (let z : ◌≡◌ {A = ℕ} 0 1 = cc in omega arith)
drop-next zero (d ∷ full) g c e = cc
drop-next (suc k) [] g c e = absurd (let z : ◌≡◌ {A = ℕ} 0 1 = cc in omega arith)
drop-next (suc k) (d ∷ full) g c e = drop-next k full g c e
