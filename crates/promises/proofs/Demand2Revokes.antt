-- Demand 2, the revoke list and the fourth slice, proved. Assumes nothing.
use Prim.Native.Nat.{ℕ, zero, ◌+◌, ◌-◌, ◌*◌, ◌/◌, ◌%◌, ◌^◌, ◌≤◌, ◌<◌}
use native.Mathlib.Nat.{zero-add, zero-mul}
use native.Mathlib.Omega.{arith}
use mathlib.Core.Path.{◌≡◌, refl, ap, ◌∙◌}
use mathlib.Core.Logic.{◌⊎◌, ⊎_elim}
use mathlib.Core.Bool.{Bool}
use mathlib.Core.List.Memᴰ
use mathlib.Core.List.{List, [], ◌∷◌, ◌++◌, map, map-append, reverse, Memᴰ}
use lib.ListN.{length, get_or, length-map, length-append}
use lib.Dec.{eqb}
use lib.Seq.{get_or-append_seam}
use borrow.Author.Tests.{eq-eqb, ne_eqb}
use Rattle.laws.specs.Cards.{suit_of}
use Rattle.laws.specs.Law44.{cards_played, tricks_complete, cards_in_trick}
use Rattle.laws.specs.Law61.{Revoke, RevokedAt}
use Rattle.laws.specs.Events.{Event, played, cards_of, cards_among}
use Rattle.laws.specs.LeadRevoke.{disobeys, revoke_by, listed_suit, RequiredNotLed, ForbiddenLed, RevokedBy, all_revokes}
use Rattle.laws.specs.Law51.{no_suit, required}
use Rattle.laws.specs.Kept.{NoneRefused}
use Rattle.laws.specs.Record.{Parts}
use Rattle.laws.specs.Reading.{number_at, bit_at}
use Rattle.laws.specs.Judgement.{trump_of, opening_of, play_of, revokes_of, revoke_byte, revoke_bytes}
use Rattle.laws.specs.Lawful.{Lawful}
use Rattle.laws.proofs.Plays.{cards-reverse, none_refused}
use Rattle.laws.proofs.KeptChoices.{kept_choices}
use Rattle.laws.proofs.LeadRevokes.{disobeys-exactly}
use Rattle.laws.proofs.CardRefusals.{to_play_lt}
use Rattle.promises.proofs.UnfinishedTrick.{cards_append}
use Rattle.promises.proofs.PlaysInOrder.{in_order_by, once}
use Rattle.promises.proofs.Demand2Judgement.{demand_2_judgement}
use Rattle.promises.specs.Demand2Judgement.{Revokes, revoke_entry, RevokeOf}
use Rattle.promises.specs.Demand2Revokes.{ByteBits, InOrder, Demand2Revokes}

-- ---- the list in order of play
module _ (p : Parts) where
  abbrev revokes_at : List Event → ℕ → Bool
  revokes_at e c = disobeys (trump_of p) (opening_of p) p.deal e c

  in_order : InOrder p (Revokes p) (revoke_entry p) (revokes_of p)
  unfolding revokes_of all_revokes
  in_order = in_order_by p revokes_at (revoke_entry p) (Revokes p) (disobeys-exactly (trump_of p) (opening_of p) p.deal)

  revokes-once : (before : List Revoke) (r : Revoke) (behind : List Revoke) → revokes_of p ≡ before ++ (r ∷ behind) → Memᴰ r behind → ⊥
  unfolding revokes_of all_revokes revoke_by
  revokes-once =
      once (trump_of p) (opening_of p) revokes_at (revoke_entry p) (λ (r : Revoke). r.trick) (λ (r : Revoke). r.seat) (λ e c. refl) (λ e c. refl) p.plays

-- ---- each byte read back
-- a bit of the byte at a place
pub bit-of : (bytes : List ℕ) (i j at : ℕ) → at ≡ 8 * i + j → j < 8 → bit_at bytes at ≡ get_or bytes i 0 / 2 ^ (7 - j) % 2
unfolding bit_at
bit-of bytes i j at e h =
    let a : at / 8 ≡ i = omega arith in
    let b : at % 8 ≡ j = omega arith in
    rw (a, b)

-- the four bits of a trick
four-bits : (t : ℕ) → t < 16 → (((0 * 2 + t / 8 % 2) * 2 + t / 4 % 2) * 2 + t / 2 % 2) * 2 + t % 2 ≡ t
four-bits t h =
    let a : t / 8 % 2 ≡ t / 8 = omega arith in
    let b : t / 8 * 2 + t / 4 % 2 ≡ t / 4 = omega arith in
    let c : t / 4 * 2 + t / 2 % 2 ≡ t / 2 = omega arith in
    let d : t / 2 * 2 + t % 2 ≡ t = omega arith in
    rw (a, zero-mul 2, zero-add (t / 8), b, c, d)

pub high_bits : (x t : ℕ) → x / 16 ≡ t → t < 16 → (((0 * 2 + x / 128 % 2) * 2 + x / 64 % 2) * 2 + x / 32 % 2) * 2 + x / 16 % 2 ≡ t
high_bits x t e h =
    let a : x / 128 ≡ t / 8 = omega (arith, e) in
    let b : x / 64 ≡ t / 4 = omega (arith, e) in
    let c : x / 32 ≡ t / 2 = omega (arith, e) in
    rw (a, b, c, e) (four-bits t h)

-- none of the events of lawful parts up to a card is refused
pub none-behind : (trump opening : ℕ) (deal : List ℕ) (later e : List Event) → NoneRefused trump opening deal (later ++ e) → NoneRefused trump opening deal e
unfolding NoneRefused
none-behind trump opening deal [] e w = w
none-behind trump opening deal (v ∷ later) e w = none-behind trump opening deal later e w.1

pub play-lawful : (p : Parts) → Lawful p → (later : List Event) (card : ℕ) (earlier : List Event) → play_of p ≡ later ++ (played card ∷ earlier)
    → NoneRefused (trump_of p) (opening_of p) p.deal (played card ∷ earlier)
play-lawful p ok later card earlier e =
    none-behind (trump_of p) (opening_of p) p.deal later (played card ∷ earlier)
    (rw e at (none_refused (trump_of p) (opening_of p) p.deal ok.layout.holders p.plays ok.cards.each ok.cards.codes))

-- a revoke is listed with one of the four suits
suit-low : (trump opening : ℕ) (deal : List ℕ) (e : List Event) (c : ℕ) → NoneRefused trump opening deal e → RevokedBy trump opening deal e c
    → listed_suit e c < 4
unfolding listed_suit
suit-low trump opening deal e c w =
    ⊎_elim
    (λ (v : RevokedAt trump opening deal (cards_of e) c).
    rw (ne_eqb (cards_in_trick (cards_of e)) 0 v.follows) (omega (arith, v.could_card, v.could_suit)))
    (⊎_elim
    (λ (v : RequiredNotLed trump opening deal e c).
    rw (eq-eqb (cards_in_trick (cards_of e)) 0 v.leads, ne_eqb (required e) no_suit v.asked) (omega (arith, v.could_card, v.could_suit)))
    (λ (v : ForbiddenLed trump opening deal e c).
    rw (eq-eqb (cards_in_trick (cards_of e)) 0 v.leads, eq-eqb (required e) no_suit v.none_required)
    ((kept_choices trump opening deal e w).forbidden_suit (suit_of c) v.forbidden)))

-- a card of lawful parts has fewer than 52 before it
pub few-before : (p : Parts) → Lawful p → (later : List Event) (card : ℕ) (earlier : List Event) → play_of p ≡ later ++ (played card ∷ earlier)
    → length (cards_of earlier) < 52
unfolding cards_among cards_of
few-before p ok later card earlier e =
    let n = cards-reverse p.plays in
    let m = ap (λ (l : List Event). length (cards_of l)) e ∙ ap length (cards_append later (played card ∷ earlier))
    ∙ length-append (cards_of later) (card ∷ cards_of earlier) in
    omega (arith, n, m, ok.layout.cards)

module _ (p : Parts) (ok : Lawful p) (before : List Revoke) (r : Revoke) (behind : List Revoke) (e : revokes_of p ≡ before ++ (r ∷ behind)) where
  abbrev byte : ℕ
  byte = get_or (revoke_bytes p) (length before) 0

  is_byte : byte ≡ r.trick * 16 + r.seat * 4 + r.suit
  unfolding revoke_bytes revoke_byte
  is_byte =
      rw (e, map-append revoke_byte before (r ∷ behind), ← length-map before revoke_byte)
      (get_or-append_seam (map revoke_byte before) (revoke_byte r) (map revoke_byte behind) 0)

  listed : RevokeOf p r
  listed = (demand_2_judgement.revokes p r).0 (rw e (Memᴰ.append_right before (Memᴰ.head refl)))

  trick_bounds : (1 ≤ r.trick) × (r.trick ≤ 13)
  unfolding revoke_by tricks_complete cards_played
  trick_bounds =
      let i = listed in
      let n = few-before p ok i.later i.card i.earlier i.play in
      rw i.as_listed (omega arith, omega (arith, n))

  seat_lt : r.seat < 4
  unfolding revoke_by
  seat_lt = rw listed.as_listed (to_play_lt (trump_of p) (opening_of p) (cards_of listed.earlier))

  suit_lt : r.suit < 4
  unfolding revoke_by NoneRefused
  suit_lt =
      let i = listed in
      let none = play-lawful p ok i.later i.card i.earlier i.play in
      rw i.as_listed (suit-low (trump_of p) (opening_of p) p.deal i.earlier i.card none.1 i.is)

  bit : (j : ℕ) (at : ℕ) → at ≡ 8 * length before + j → j < 8 → bit_at (revoke_bytes p) at ≡ (r.trick * 16 + r.seat * 4 + r.suit) / 2 ^ (7 - j) % 2
  bit j at q h = rw (← is_byte) (bit-of (revoke_bytes p) (length before) j at q h)

  bits_of_byte : ByteBits p before r
  unfolding number_at
  bits_of_byte =
      let i : ℕ = length before in
      record {
        trick =
            rw (
              bit 0 (8 * i + 0) refl (omega arith),
              bit 1 (8 * i + 1) refl (omega arith),
              bit 2 (8 * i + 2) refl (omega arith),
              bit 3 (8 * i + 3) refl (omega arith),
            )
            (high_bits (r.trick * 16 + r.seat * 4 + r.suit) r.trick (omega (arith, seat_lt, suit_lt)) (omega (arith, trick_bounds)));
        trick_from = trick_bounds.0;
        trick_to = trick_bounds.1;
        seat = rw (bit 4 (8 * i + 4 + 0) (omega arith) (omega arith), bit 5 (8 * i + 4 + 1) (omega arith) (omega arith)) (omega (arith, seat_lt, suit_lt));
        suit = rw (bit 6 (8 * i + 6 + 0) (omega arith) (omega arith), bit 7 (8 * i + 6 + 1) (omega arith) (omega arith)) (omega (arith, suit_lt));
      }

pub demand_2_revokes : Demand2Revokes
demand_2_revokes = record { bytes = bits_of_byte; in_order = in_order; once = revokes-once }
