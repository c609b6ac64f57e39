-- The Board line: its digits say the board whose line it is. Assumes nothing.
use Prim.Native.Nat.{ℕ, zero, suc, ◌+◌, ◌*◌, ◌/◌, ◌%◌, ◌≤◌, ◌<◌}
use native.Mathlib.Omega.{arith}
use mathlib.Core.Path.{◌≡◌, refl, sym, ap, ap₂, ◌∙◌}
use mathlib.Core.Bool.{true, false, ◌&&◌}
use mathlib.Core.List.{List, [], ◌∷◌, ◌++◌}
use borrow.Author.Tests.{eqb-true, lt-ltb, le-ltb, ne_eqb}
use lib.Dec.{eqb}
use lib.ListN.{length, take, drop}
use Rattle.laws.specs.Decimal.{digit, last_digits, decimal}
use Rattle.laws.specs.PbnText.{board_tag, tag_end, board_line}
use Rattle.laws.specs.PbnReading.{Read, misses, reads, same_bytes, number_of, board_in}
use Rattle.laws.proofs.Counts.{every_below, every_below_lem}
use Rattle.laws.proofs.PbnWords.{reads_same, first_read, number_sound, number-whole, same_true, same_self}
use Rattle.laws.proofs.PbnLines.{boards-apart}
use Rattle.std.specs.Prelude.{Some, None}
use Rattle.pbn_words.specs.WordNumbers.{if_read, value_at, board_said}
use Rattle.pbn_words.proofs.TagLines.{same_append}

-- ---- what the digits say
module _ (line : List ℕ) where
  pub one-digit : (a : ℕ) → length line ≡ 11 → a ≡ value_at line 8 → a ≡ board_said line
  unfolding board_said
  one-digit a n e = rw n e

  pub two_digits : (a b : ℕ) → length line ≡ 12 → a ≡ value_at line 8 → b ≡ value_at line 9 → 10 * a + b ≡ board_said line
  unfolding board_said
  two_digits a b n e f = rw n (ap₂ (λ a b. 10 * a + b) e f)

  pub three_digits : (a b c : ℕ) → length line ≡ 13 → a ≡ value_at line 8 → b ≡ value_at line 9 → c ≡ value_at line 10 → 100 * a + 10 * b + c ≡ board_said line
  unfolding board_said
  three_digits a b c n e f g = rw (n, ← e, ← f, ← g)

  pub no_digits : (length line ≡ 11 → ⊥) → (length line ≡ 12 → ⊥) → (length line ≡ 13 → ⊥) → 0 ≡ board_said line
  unfolding board_said
  no_digits a b c = rw (ne_eqb (length line) 11 a, ne_eqb (length line) 12 b, ne_eqb (length line) 13 c)

-- ---- the digits of a board
decimal-one : (n : ℕ) → n < 10 → decimal n ≡ digit (n % 10) ∷ []
unfolding decimal last_digits
decimal-one n h =
    let same : n % 10 ≡ n = omega arith in
    rw (lt-ltb n 10 h, same)

decimal-two : (n : ℕ) → 10 ≤ n → n < 100 → decimal n ≡ digit (n / 10 % 10) ∷ digit (n % 10) ∷ []
unfolding decimal last_digits
decimal-two zero h k = absurd (omega arith)
decimal-two (suc m) h k =
    let tens : suc m / 10 < 10 = omega arith in
    let same : suc m / 10 % 10 ≡ suc m / 10 = omega arith in
    rw (le-ltb (suc m) 10 h, lt-ltb (suc m / 10) 10 tens, same)

decimal_three : (n : ℕ) → 100 ≤ n → n ≤ 999 → decimal n ≡ digit (n / 100) ∷ digit (n / 10 % 10) ∷ digit (n % 10) ∷ []
unfolding decimal last_digits
decimal_three zero h k = absurd (omega arith)
decimal_three (suc zero) h k = absurd (omega arith)
decimal_three (suc (suc m)) h k =
    let n : ℕ = suc (suc m) in
    let ten : 10 ≤ n = omega arith in
    let tens : 10 ≤ n / 10 = omega arith in
    let hundreds : n / 10 / 10 < 10 = omega arith in
    let same : n / 100 ≡ n / 10 / 10 = omega arith in
    rw (le-ltb n 10 ten, le-ltb (n / 10) 10 tens, lt-ltb (n / 10 / 10) 10 hundreds, same)

-- ---- the line of a board
module _ (line : List ℕ) (n : ℕ) where
  split : same_bytes (board_line n) line ≡ (same_bytes board_tag (take 8 line) && same_bytes (decimal n ++ tag_end) (drop 8 line))
  unfolding board_line
  split = same_append board_tag (decimal n ++ tag_end) line

  pub no_tag : same_bytes board_tag (take 8 line) ≡ false → false ≡ same_bytes (board_line n) line
  no_tag e = sym (split ∙ ap (λ b. b && same_bytes (decimal n ++ tag_end) (drop 8 line)) e)

  module _ (tag : same_bytes board_tag (take 8 line) ≡ true) (digits : List ℕ) (e : decimal n ≡ digits) where
    pub with_tag : same_bytes (digits ++ tag_end) (drop 8 line) ≡ same_bytes (board_line n) line
    with_tag = sym (split ∙ ap₂ (λ b l. b && same_bytes (l ++ tag_end) (drop 8 line)) tag e)

  module _ (tag : same_bytes board_tag (take 8 line) ≡ true) (units tens hundreds : ℕ) (u : units ≡ n % 10) where
    pub line-one : n < 10 → same_bytes (digit units ∷ 34 ∷ 93 ∷ []) (drop 8 line) ≡ same_bytes (board_line n) line
    line-one h = rw u (with_tag tag _ (decimal-one n h))

    pub line-two : 10 ≤ n → n < 100 → tens ≡ n / 10 % 10 → same_bytes (digit tens ∷ digit units ∷ 34 ∷ 93 ∷ []) (drop 8 line) ≡ same_bytes (board_line n) line
    line-two h k t = rw (u, t) (with_tag tag _ (decimal-two n h k))

    pub line_three : 100 ≤ n → n ≤ 999 → tens ≡ n / 10 % 10 → hundreds ≡ n / 100
        → same_bytes (digit hundreds ∷ digit tens ∷ digit units ∷ 34 ∷ 93 ∷ []) (drop 8 line) ≡ same_bytes (board_line n) line
    line_three h k t r = rw (u, t, r) (with_tag tag _ (decimal_three n h k))

-- ---- the board that a line says
said_computed : every_below 999 (λ k. eqb (board_said (board_line (suc k))) (suc k)) ≡ true
unfolding board_said board_line decimal last_digits
said_computed = refl

pub is-line : (line : List ℕ) (n : ℕ) → board_in line ≡ reads n → (n ≡ board_said line) × (1 ≤ n) × (n ≤ 999) × (line ≡ board_line n)
unfolding board_in
is-line line n e =
    let r = first_read (number_of (λ n. board_line (suc n)) 999 line) _ e in
    let k = number_sound (λ n. board_line (suc n)) 999 line r.0 r.1 in
    let z : suc r.0 ≡ n = reads_same r.2 in
    let same = eqb-true _ _ (every_below_lem 999 (λ k. eqb (board_said (board_line (suc k))) (suc k)) said_computed r.0 k.0) in
    rw (← z) (sym (ap board_said k.1 ∙ same), omega arith, k.0, k.1)

module _ (line : List ℕ) (n : ℕ) (e : n ≡ board_said line) where
  pub none : (1 ≤ n → n ≤ 999 → same_bytes (board_line n) line ≡ true → ⊥) → None ≡ if_read (board_in line)
  none h = go (board_in line) refl
    where
      go : (r : Read ℕ) → board_in line ≡ r → None ≡ if_read r
      go misses q = refl
      go (reads k) q =
          let w = is-line line k q in
          let same : n ≡ k = e ∙ sym w.0 in
          absurd (h (omega (arith, w.1)) (omega (arith, w.2)) (rw (w.3, same) (same_self (board_line k))))

pub found : (line : List ℕ) (n : ℕ) → (n ≡ 0 → ⊥) → n ≤ 999 → same_bytes (board_line n) line ≡ true → Some n ≡ if_read (board_in line)
unfolding board_in
found line zero some to q = absurd (some refl)
found line (suc m) some to q =
    let is : board_line (suc m) ≡ line = same_true (board_line (suc m)) line q in
    let read : number_of (λ n. board_line (suc n)) 999 line ≡ reads m
    = ap (number_of (λ n. board_line (suc n)) 999) (sym is) ∙ number-whole (λ n. board_line (suc n)) 999 m to boards-apart in
    rw read
