-- What a step of the code builds is what its definition says: a law for each way through the code, over variables. Assumes nothing.
use Prim.Native.Nat.{ℕ, zero, suc, ◌<◌, ◌+◌, ◌*◌, ◌%◌, ◌^◌, max}
use mathlib.Core.Path.{◌≡◌, refl, sym, ◌∙◌}
use mathlib.Core.Bool.{Bool, true, false, not, ◌&&◌}
use mathlib.Core.List.{List}
use native.Mathlib.Omega.{arith}
use borrow.Author.Tests.{lt-leb, eq-eqb, ne_eqb}
use lib.Bits.{bit_xor}
use mir.Val.{bool_byte}
use lib.Dec.{eqb}
use lib.ListN.{length, get_or}
use Rattle.laws.specs.Cards.{no_seat, clockwise, suit_of}
use Rattle.laws.proofs.Counts.{any_default}
use Rattle.play.specs.declared.Play.{Play}
use Rattle.play.specs.Words.{bit_of, with_bit}
use Rattle.play.specs.Position.{put_played, turn_of, was_dealt, verdict_of, could_follow, worth_of, revokes_with, with_card}
use Rattle.std.specs.Prelude.{Ok, Err}
use Rattle.laws.specs.declared.Refusal.TheVariants.{CardNotHeld, CardAlreadyPlayed}

-- the seat at turn is one of four
pub seat-low : {seat : ℕ} (p : Play) → seat ≡ turn_of p → seat < 4
unfolding turn_of clockwise
seat-low p e = rw e (omega arith)

-- ---- bits
pub both_bits : (a b : Bool) → bit_of a * bit_of b ≡ bit_of (a && b)
both_bits true true = refl
both_bits true false = refl
both_bits false true = refl
both_bits false false = refl

-- a test that is cast to a word
pub bit_is : (b : Bool) → bool_byte b ≡ bit_of b
bit_is true = refl
bit_is false = refl

pub cast_low : (b : Bool) {bit : ℕ} → bit ≡ bool_byte b → bit < 2
cast_low true e = omega (arith, e)
cast_low false e = omega (arith, e)

pub product_bits : (a b : ℕ) → a < 2 → b < 2 → a * b < 2
product_bits zero b h k = omega arith
product_bits (suc zero) b h k = omega arith
product_bits (suc (suc a)) b h k = absurd (omega arith)

pub off_and_could : (p : Play) (card : ℕ) {off could : ℕ} → off ≡ bit_of (not (eqb (suit_of card) p.led)) → could ≡ bit_of (could_follow p) → off * could
    ≡ bit_of (revokes_with p card)
unfolding revokes_with
off_and_could p card eo ec = rw (eo, ec) (both_bits (not (eqb (suit_of card) p.led)) (could_follow p))

-- ---- the card on the table
pub on_table : (p : Play) (card : ℕ) {worth revoke left bits best : ℕ} {holders : List ℕ} → worth ≡ worth_of p card → revoke ≡ bit_of (revokes_with p card)
    → holders ≡ put_played p.holders card → left ≡ 2 ^ card → bits ≡ with_bit p.revoked revoke → best ≡ max p.best worth
    → ◌≡◌ {A = Play}
    (record {
      holders = holders;
      dealt = p.dealt;
      left = bit_xor p.left left;
      trump = p.trump;
      played = p.played % 64 + 1;
      leader = p.leader;
      led = p.led;
      best = best;
      tricks = p.tricks;
      low = p.low;
      high = p.high;
      revoked = bits;
    })
    (with_card p card)
unfolding with_card
on_table p card ew er eh el eb em = simp (em, ew, eb, er, eh, el)

-- ---- the verdict on a card, by who holds it
module _ (p : Play) (card seat : ℕ) (n : length p.holders ≡ 52) (h : card < 52) (es : seat ≡ turn_of p) where
  pub held : get_or p.holders card 0 ≡ seat → Ok tt ≡ verdict_of p card
  unfolding verdict_of
  held e =
      simp
      (lt-leb 52 card h, eq-eqb (get_or p.holders card no_seat) (turn_of p) (any_default p.holders card no_seat 0 (omega arith) ∙ e ∙ es))

  module _ (ne : get_or p.holders card 0 ≡ seat → ⊥) where
    elsewhere : eqb (get_or p.holders card no_seat) (turn_of p) ≡ false
    elsewhere = ne_eqb (get_or p.holders card no_seat) (turn_of p) (λ e. ne (any_default p.holders card 0 no_seat (omega arith) ∙ e ∙ sym es))

    pub played_already : was_dealt p card ≡ true → Err CardAlreadyPlayed ≡ verdict_of p card
    unfolding verdict_of
    played_already d = simp (lt-leb 52 card h, elsewhere, d)

    pub not-held : was_dealt p card ≡ false → Err CardNotHeld ≡ verdict_of p card
    unfolding verdict_of
    not-held d = simp (lt-leb 52 card h, elsewhere, d)
