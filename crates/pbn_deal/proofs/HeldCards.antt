-- Who holds each card by the Deal line, byte by byte; and the place of a byte among letters. Assumes nothing.
use Rattle.std.specs.Prelude.{Option, Some, None, cond}
use Rattle.std.specs.Option.{unwrap_or}
use Rattle.std.specs.List.{position_or_len}
use borrow.Author.Tests.{ltb-false}
use lib.Dec.{ltb}
use Prim.Native.Nat.{ℕ, suc, ◌+◌, ◌-◌, ◌*◌, ◌≤◌, ◌<◌}
use native.Mathlib.Numerals.{add-one}
use native.Mathlib.Omega.{arith}
use mathlib.Core.Path.{◌≡◌, refl, sym, ap, ◌∙◌}
use mathlib.Core.Bool.{true, false}
use mathlib.Core.List.{List, [], ◌∷◌}
use borrow.Author.Tests.{eq-eqb, ne_eqb}
use lib.Dec.{eqb}
use lib.ListN.{length, get_or, drop, set, drop_of_length-le}
use lib.Seq.{set_out, drop-cons}
use Rattle.laws.specs.Cards.{clockwise}
use Rattle.laws.specs.PbnText.{rank_letters, space, dot}
use Rattle.laws.specs.PbnReading.{place_among, held_by}
use Rattle.laws.proofs.Tests.{by_test}
use Rattle.pbn_deal.specs.declared.held.Held.{Held}
use Rattle.pbn_deal.specs.Walks.{with_rank, with_byte}

-- ---- the place of a byte among letters
first_place : (letters : List ℕ) (byte : ℕ) → position_or_len (λ (b : ℕ). eqb b byte) letters ≡ place_among letters byte
unfolding place_among
first_place [] byte = refl
first_place (b ∷ letters) byte =
    by_test (eqb b byte)
    (λ (q : eqb b byte ≡ true). rw q)
    (λ (q : eqb b byte ≡ false). rw q (omega (arith, first_place letters byte)))

place-within : (letters : List ℕ) (byte : ℕ) → place_among letters byte ≤ length letters
unfolding place_among
place-within [] byte = omega arith
place-within (b ∷ letters) byte =
    by_test (eqb b byte)
    (λ (q : eqb b byte ≡ true). rw q (omega arith))
    (λ (q : eqb b byte ≡ false). rw q (omega (arith, place-within letters byte)))

pub placed : (letters : List ℕ) (byte : ℕ) {r : Option ℕ} {n : ℕ}
    → r ≡ cond (ltb (position_or_len (λ (b : ℕ). eqb b byte) letters) (length letters)) (Some (position_or_len (λ (b : ℕ). eqb b byte) letters)) None
    → n ≡ unwrap_or r (length letters) → (n ≡ place_among letters byte) × (n ≤ length letters)
placed letters byte {r} {n} e u =
    let within = place-within letters byte in
    let same : n ≡ place_among letters byte
    = by_test (ltb (position_or_len (λ (b : ℕ). eqb b byte) letters) (length letters))
    (λ (q : ltb (position_or_len (λ (b : ℕ). eqb b byte) letters) (length letters) ≡ true). u ∙ rw (e, q) (first_place letters byte))
    (λ (q : ltb (position_or_len (λ (b : ℕ). eqb b byte) letters) (length letters) ≡ false).
    let some = ltb-false _ _ q in
    u ∙ rw (e, q) (omega (arith, first_place letters byte))) in
    (same, omega arith)

-- ---- one byte more
abbrev pub held_on : Held → List ℕ → List ℕ
held_on h bytes = held_by h.holders h.seat h.suit bytes

byte_more : (h : Held) (b : ℕ) (bytes : List ℕ) → held_on h (b ∷ bytes) ≡ held_on (with_byte h b) bytes
unfolding held_by with_byte with_rank
byte_more h b bytes =
    by_test (eqb b space)
    (λ (q : eqb b space ≡ true). rw q)
    (λ (q : eqb b space ≡ false). by_test (eqb b dot) (λ (r : eqb b dot ≡ true). rw (q, r)) (λ (r : eqb b dot ≡ false). rw (q, r)))

module _ (hands : List ℕ) (h : Held) (i : ℕ) where
  pub held_on_lem : i < length hands → held_on h (drop i hands) ≡ held_on (with_byte h (get_or hands i 0)) (drop (i + 1) hands)
  held_on_lem inside = rw (add-one i, drop-cons hands i 0 inside) (byte_more h (get_or hands i 0) (drop (suc i) hands))

  pub held_all : length hands ≤ i → h.holders ≡ held_on h (drop i hands)
  unfolding held_by
  held_all past = rw (drop_of_length-le hands past)

-- ---- what a byte makes of it
module _ (h : Held) (b : ℕ) where
  pub at_space : (seat : ℕ) → b ≡ space → seat ≡ clockwise h.seat 1
      → ◌≡◌ {A = Held} (record { seat = seat; suit = 3; holders = h.holders }) (with_byte h b)
  unfolding with_byte
  at_space seat e s = rw (e, s)

  pub at_dot : (suit : ℕ) → (b ≡ space → ⊥) → b ≡ dot → suit ≡ h.suit - 1
      → ◌≡◌ {A = Held} (record { seat = h.seat; suit = suit; holders = h.holders }) (with_byte h b)
  unfolding with_byte
  at_dot suit f e s = rw (ne_eqb b space f, eq-eqb b dot e, s)

  pub at_rank : (r : Held) → (b ≡ space → ⊥) → (b ≡ dot → ⊥) → r ≡ with_rank h b → r ≡ with_byte h b
  unfolding with_byte
  at_rank r f g e = rw (ne_eqb b space f, ne_eqb b dot g) e

  pub ranked : (rank : ℕ) → rank ≡ place_among rank_letters b
      → ◌≡◌ {A = Held} (record { seat = h.seat; suit = h.suit; holders = set h.holders (13 * h.suit + rank) h.seat }) (with_rank h b)
  unfolding with_rank
  ranked rank e = rw e

  pub ranked_past : (rank : ℕ) → rank ≡ place_among rank_letters b → length h.holders ≤ 13 * h.suit + rank → h ≡ with_rank h b
  unfolding with_rank
  ranked_past rank e past =
      let same = sym (set_out h.holders (13 * h.suit + rank) h.seat past) ∙ ap (λ r. set h.holders (13 * h.suit + r) h.seat) e in
      ap (λ l. record { seat = h.seat; suit = h.suit; holders = l }) same

  pub rank_bounds : (r : Held) → r ≡ with_rank h b → (r.seat ≡ h.seat) × (r.suit ≡ h.suit)
  unfolding with_rank
  rank_bounds r e = (ap (λ (k : Held). k.seat) e, ap (λ (k : Held). k.suit) e)
