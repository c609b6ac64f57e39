-- Demand 2, the fourth slice, proved. Assumes nothing.
use Prim.Native.Nat.{ℕ, ◌+◌, ◌-◌, ◌*◌, ◌/◌, ◌%◌, ◌^◌, ◌≤◌, ◌<◌}
use native.Mathlib.Nat.{zero-add, zero-mul}
use native.Mathlib.Omega.{arith}
use mathlib.Core.Path.{◌≡◌, refl, sym, ap, ◌∙◌}
use mathlib.Core.Bool.{Bool}
use mathlib.Core.List.Memᴰ
use mathlib.Core.List.{List, [], ◌∷◌, ◌++◌, append_assoc, reverse, Memᴰ}
use lib.ListN.{length, get_or, length-append, get_or-eq_default}
use lib.Seq.{get_or-append_seam}
use Rattle.laws.specs.Events.{Event, played, cards_of}
use Rattle.laws.specs.Kept.{NoneRefused}
use Rattle.laws.specs.Failures.{Failure, is_failure, failure_by, failures, failure_pair, failure_bytes}
use Rattle.laws.specs.Record.{Parts}
use Rattle.laws.specs.Reading.{number_at, bit_at}
use Rattle.laws.specs.Judgement.{trump_of, opening_of, failures_of, failures_bytes}
use Rattle.laws.specs.Lawful.{Lawful}
use Rattle.laws.proofs.Padded.{padded_at}
use Rattle.laws.proofs.Plays.{none_refused}
use Rattle.laws.proofs.CardRefusals.{to_play_lt}
use Rattle.laws.proofs.FailuresInFull.{failure_exactly}
use Rattle.position.proofs.AtMost.{card-held, failure_early, at_most_24}
use Rattle.promises.proofs.Demand1.{failures-long}
use Rattle.promises.proofs.PlaysInOrder.{in_order_by, once}
use Rattle.promises.proofs.Demand2Judgement.{demand_2_judgement}
use Rattle.promises.proofs.Demand2Revokes.{play-lawful, bit-of, high_bits}
use Rattle.promises.specs.Demand2Judgement.{Fails, failure_entry, FailureOf}
use Rattle.promises.specs.Demand2Revokes.{PairBits, InOrder, Demand2Failures}

-- ---- in order of play
module _ (p : Parts) where
  abbrev fails_at : List Event → ℕ → Bool
  fails_at e c = is_failure (trump_of p) (opening_of p) p.deal e c

  in_order : InOrder p (Fails p) (failure_entry p) (failures_of p)
  unfolding failures_of failures
  in_order = in_order_by p fails_at (failure_entry p) (Fails p) (failure_exactly (trump_of p) (opening_of p) p.deal)

  failures-once : (before : List Failure) (f : Failure) (behind : List Failure) → failures_of p ≡ before ++ (f ∷ behind) → Memᴰ f behind → ⊥
  unfolding failures_of failures failure_by
  failures-once =
      once (trump_of p) (opening_of p) fails_at (failure_entry p) (λ (f : Failure). f.trick) (λ (f : Failure). f.seat) (λ e c. refl) (λ e c. refl) p.plays

-- ---- bits of a card, two in the first byte and four in the second
six_bits : (c : ℕ) → c < 64 → (((((0 * 2 + c / 32) * 2 + c / 16 % 2) * 2 + c / 8 % 2) * 2 + c / 4 % 2) * 2 + c / 2 % 2) * 2 + c % 2 ≡ c
six_bits c h =
    let b : c / 32 * 2 + c / 16 % 2 ≡ c / 16 = omega arith in
    let d : c / 16 * 2 + c / 8 % 2 ≡ c / 8 = omega arith in
    let e : c / 8 * 2 + c / 4 % 2 ≡ c / 4 = omega arith in
    let f : c / 4 * 2 + c / 2 % 2 ≡ c / 2 = omega arith in
    let g : c / 2 * 2 + c % 2 ≡ c = omega arith in
    rw (zero-mul 2, zero-add (c / 32), b, d, e, f, g)

upper_bit : (t s c : ℕ) → c < 64 → (t * 16 + s * 4 + c / 16) / 2 % 2 ≡ c / 32
upper_bit t s c h = omega arith

upper_last : (t s c : ℕ) → (t * 16 + s * 4 + c / 16) / 1 % 2 ≡ c / 16 % 2
upper_last t s c = omega arith

lower_8 : (c : ℕ) → c % 16 * 16 / 128 % 2 ≡ c / 8 % 2
lower_8 c = omega arith

lower_4 : (c : ℕ) → c % 16 * 16 / 64 % 2 ≡ c / 4 % 2
lower_4 c = omega arith

lower_2 : (c : ℕ) → c % 16 * 16 / 32 % 2 ≡ c / 2 % 2
lower_2 c = omega arith

lower_1 : (c : ℕ) → c % 16 * 16 / 16 % 2 ≡ c % 2
lower_1 c = omega arith

card-bits : (t s c : ℕ) → c < 64
    → (((((0 * 2 + (t * 16 + s * 4 + c / 16) / 2 % 2) * 2 + (t * 16 + s * 4 + c / 16) / 1 % 2) * 2 + c % 16 * 16 / 128 % 2) * 2
    + c % 16 * 16 / 64 % 2) * 2 + c % 16 * 16 / 32 % 2) * 2 + c % 16 * 16 / 16 % 2 ≡ c
card-bits t s c h = rw (upper_bit t s c h, upper_last t s c, lower_8 c, lower_4 c, lower_2 c, lower_1 c) (six_bits c h)

-- the bits behind them
no_bit_8 : (c : ℕ) → c % 16 * 16 / 8 % 2 ≡ 0
no_bit_8 c = omega arith

no_bit_4 : (c : ℕ) → c % 16 * 16 / 4 % 2 ≡ 0
no_bit_4 c = omega arith

no_bit_2 : (c : ℕ) → c % 16 * 16 / 2 % 2 ≡ 0
no_bit_2 c = omega arith

no_bit_1 : (c : ℕ) → c % 16 * 16 / 1 % 2 ≡ 0
no_bit_1 c = omega arith

zero_bits : (c : ℕ) → (((0 * 2 + c % 16 * 16 / 8 % 2) * 2 + c % 16 * 16 / 4 % 2) * 2 + c % 16 * 16 / 2 % 2) * 2 + c % 16 * 16 / 1 % 2 ≡ 0
zero_bits c = rw (no_bit_8 c, no_bit_4 c, no_bit_2 c, no_bit_1 c)

seat-bits : (t s c : ℕ) → s < 4 → c < 64 → (0 * 2 + (t * 16 + s * 4 + c / 16) / 8 % 2) * 2 + (t * 16 + s * 4 + c / 16) / 4 % 2 ≡ s
seat-bits t s c h l =
    let a : (t * 16 + s * 4 + c / 16) / 8 % 2 ≡ s / 2 = omega arith in
    let b : (t * 16 + s * 4 + c / 16) / 4 % 2 ≡ s % 2 = omega arith in
    rw (a, b) (omega arith)

high_part : (t s c : ℕ) → c < 64 → (t * 4096 + s * 1024 + c * 16) / 256 ≡ t * 16 + s * 4 + c / 16
high_part t s c h = omega arith

low_part : (t s c : ℕ) → (t * 4096 + s * 1024 + c * 16) % 256 ≡ c % 16 * 16
low_part t s c = omega arith

first_part : (t s c : ℕ) → s < 4 → c < 64 → (t * 16 + s * 4 + c / 16) / 16 ≡ t
first_part t s c h l = omega arith

-- ---- two bytes each
pairs-long : (fs : List Failure) → length (failure_bytes fs) ≡ 2 * length fs
unfolding failure_bytes failure_pair
pairs-long [] = refl
pairs-long (f ∷ fs) = omega (arith, pairs-long fs)

pairs_append : (a b : List Failure) → failure_bytes (a ++ b) ≡ failure_bytes a ++ failure_bytes b
unfolding failure_bytes
pairs_append [] b = refl
pairs_append (f ∷ a) b = rw (pairs_append a b) (sym (append_assoc (failure_pair f) (failure_bytes a) (failure_bytes b)))

module _ (p : Parts) (ok : Lawful p) where
  at_most : length (failures_of p) ≤ 24
  unfolding failures_of
  at_most =
      at_most_24 p.deal (trump_of p) (opening_of p) ok.layout.holders ok.deal (reverse p.plays)
      (none_refused (trump_of p) (opening_of p) p.deal ok.layout.holders p.plays ok.cards.each ok.cards.codes)

  -- a byte of the slice is one of the pairs', or zero behind them
  byte_at : (k : ℕ) → get_or (failures_bytes p) k 0 ≡ get_or (failure_bytes (failures_of p)) k 0
  unfolding failures_bytes
  byte_at k = padded_at 0 52 (failure_bytes (failures_of p)) k (omega (arith, pairs-long (failures_of p), at_most))

  rest_zero : (i : ℕ) → 2 * length (failures_of p) ≤ i → get_or (failures_bytes p) i 0 ≡ 0
  rest_zero i h = byte_at i ∙ get_or-eq_default (failure_bytes (failures_of p)) 0 (omega (arith, pairs-long (failures_of p)))

  module _ (before : List Failure) (f : Failure) (behind : List Failure) (e : failures_of p ≡ before ++ (f ∷ behind)) where
    abbrev word : ℕ
    word = f.trick * 4096 + f.seat * 1024 + f.card * 16

    abbrev front : List ℕ
    front = failure_bytes before

    all : failure_bytes (failures_of p) ≡ front ++ (word / 256 ∷ word % 256 ∷ failure_bytes behind)
    unfolding failure_bytes failure_pair
    all = ap failure_bytes e ∙ pairs_append before (f ∷ behind)

    high : get_or (failures_bytes p) (2 * length before) 0 ≡ word / 256
    high = byte_at (2 * length before) ∙ rw (all, ← pairs-long before) (get_or-append_seam front (word / 256) (word % 256 ∷ failure_bytes behind) 0)

    low : get_or (failures_bytes p) (2 * length before + 1) 0 ≡ word % 256
    low =
        let n : length (front ++ (word / 256 ∷ [])) ≡ 2 * length before + 1 = length-append front (word / 256 ∷ []) ∙ omega (arith, pairs-long before) in
        let on : (front ++ (word / 256 ∷ [])) ++ (word % 256 ∷ failure_bytes behind) ≡ front ++ (word / 256 ∷ word % 256 ∷ failure_bytes behind)
        = append_assoc front (word / 256 ∷ []) (word % 256 ∷ failure_bytes behind) in
        byte_at (2 * length before + 1)
        ∙ rw (all, ← on, ← n) (get_or-append_seam (front ++ (word / 256 ∷ [])) (word % 256) (failure_bytes behind) 0)

    listed : FailureOf p f
    listed = (demand_2_judgement.failures p f).0 (rw e (Memᴰ.append_right before (Memᴰ.head refl)))

    allowed : NoneRefused (trump_of p) (opening_of p) p.deal (played listed.card ∷ listed.earlier)
    allowed = play-lawful p ok listed.later listed.card listed.earlier listed.play

    trick_bounds : (1 ≤ f.trick) × (f.trick ≤ 12)
    unfolding failure_by
    trick_bounds =
        let i = listed in
        let failed = (failure_exactly (trump_of p) (opening_of p) p.deal i.earlier i.card).1 i.is in
        let early = failure_early p.deal (trump_of p) (opening_of p) ok.layout.holders ok.deal i.card i.earlier allowed failed in
        rw i.as_listed (omega arith, omega (arith, early))

    seat_lt : f.seat < 4
    unfolding failure_by
    seat_lt = rw listed.as_listed (to_play_lt (trump_of p) (opening_of p) (cards_of listed.earlier))

    card_lt : f.card < 52
    unfolding failure_by
    card_lt = rw listed.as_listed (card-held p.deal (trump_of p) (opening_of p) listed.card listed.earlier allowed).0

    -- the two bytes by what they hold
    high_is : word / 256 ≡ f.trick * 16 + f.seat * 4 + f.card / 16
    high_is = high_part f.trick f.seat f.card (omega (arith, card_lt))

    low-is : word % 256 ≡ f.card % 16 * 16
    low-is = low_part f.trick f.seat f.card

    high_bit : (j at : ℕ) → at ≡ 16 * length before + j → j < 8 → bit_at (failures_bytes p) at ≡ (f.trick * 16 + f.seat * 4 + f.card / 16) / 2 ^ (7 - j) % 2
    high_bit j at q h = rw (← high_is, ← high) (bit-of (failures_bytes p) (2 * length before) j at (omega (arith, q)) h)

    low_bit : (j at : ℕ) → at ≡ 16 * length before + 8 + j → j < 8 → bit_at (failures_bytes p) at ≡ f.card % 16 * 16 / 2 ^ (7 - j) % 2
    low_bit j at q h = rw (← low-is, ← low) (bit-of (failures_bytes p) (2 * length before + 1) j at (omega (arith, q)) h)

    pair_bits : PairBits p before f
    unfolding number_at
    pair_bits =
        let i : ℕ = 16 * length before in
        let small : f.card < 64 = omega (arith, card_lt) in
        let first = first_part f.trick f.seat f.card seat_lt small in
        record {
          trick =
              rw (
                high_bit 0 (i + 0) refl (omega arith),
                high_bit 1 (i + 1) refl (omega arith),
                high_bit 2 (i + 2) refl (omega arith),
                high_bit 3 (i + 3) refl (omega arith),
              )
              (high_bits (f.trick * 16 + f.seat * 4 + f.card / 16) f.trick first (omega (arith, trick_bounds)));
          trick_from = trick_bounds.0;
          trick_to = trick_bounds.1;
          seat =
              rw (high_bit 4 (i + 4 + 0) (omega arith) (omega arith), high_bit 5 (i + 4 + 1) (omega arith) (omega arith))
              (seat-bits f.trick f.seat f.card seat_lt small);
          card =
              rw (
                high_bit 6 (i + 6 + 0) (omega arith) (omega arith),
                high_bit 7 (i + 6 + 1) (omega arith) (omega arith),
                low_bit 0 (i + 6 + 2) (omega arith) (omega arith),
                low_bit 1 (i + 6 + 3) (omega arith) (omega arith),
                low_bit 2 (i + 6 + 4) (omega arith) (omega arith),
                low_bit 3 (i + 6 + 5) (omega arith) (omega arith),
              )
              (card-bits f.trick f.seat f.card small);
          zeros =
              rw (
                low_bit 4 (i + 12 + 0) (omega arith) (omega arith),
                low_bit 5 (i + 12 + 1) (omega arith) (omega arith),
                low_bit 6 (i + 12 + 2) (omega arith) (omega arith),
                low_bit 7 (i + 12 + 3) (omega arith) (omega arith),
              )
              (zero_bits f.card);
        }

pub demand_2_failures : Demand2Failures
demand_2_failures =
    record {
      at_most_24 = at_most;
      bytes_52 = failures-long;
      rest_zero = rest_zero;
      pairs = pair_bits;
      in_order = in_order;
      once = failures-once;
    }
