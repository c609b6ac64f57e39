-- The Deal line: it is read as the seat and the holders that it says, where it is their line. Assumes nothing.
use Rattle.std.specs.Prelude.{Option, Some, None, leb}
use Rattle.std.specs.Prelude.{if◌then◌else◌}
use Prim.Native.Nat.{ℕ, ◌-◌, ◌≤◌, ◌<◌}
use native.Mathlib.Omega.{arith}
use mathlib.Core.Path.{◌≡◌, sym, ap, ap₂, ◌∙◌}
use mathlib.Core.Bool.{true, false, ◌&&◌}
use mathlib.Core.List.{List, [], ◌∷◌, ◌++◌}
use borrow.Author.Tests.{leb-true, leb-false, lt-ltb, le-ltb}
use lib.Dec.{ltb}
use lib.ListN.{length, take, drop, drop_of_length-le, length-append}
use lib.Seq.{drop-cons}
use Rattle.laws.specs.Cards.{clockwise, clubs, diamonds, hearts, spades}
use Rattle.laws.specs.Contents.{are_seats}
use Rattle.laws.specs.PbnText.{letter_of, seat_letters, space, dot, deal_tag, tag_end, ranks_held, hand_and, hands_and, deal_line}
use Rattle.laws.specs.PbnReading.{same_bytes, first_in, hands_in, holders_in, is_deal_line}
use Rattle.laws.proofs.Tests.{by_test}
use Rattle.laws.proofs.PbnDeal.{deal_sound}
use Rattle.pbn_deal.specs.Walks.{follows}
use Rattle.pbn_deal.specs.declared.deal_line.Deal.{Deal}
use Rattle.pbn_deal.specs.DealOn.{deal_on}
use Rattle.pbn_words.proofs.TagLines.{same_append}

-- ---- the line of a seat and holders
module _ (line : List ℕ) (first : ℕ) (holders : List ℕ) where
  split : same_bytes (deal_line first holders) line
      ≡ (same_bytes deal_tag (take 7 line) && same_bytes (letter_of seat_letters first ∷ 58 ∷ hands_and first holders tag_end) (drop 7 line))
  unfolding deal_line
  split = same_append deal_tag (letter_of seat_letters first ∷ 58 ∷ hands_and first holders tag_end) line

  pub no_tag : same_bytes deal_tag (take 7 line) ≡ false → false ≡ same_bytes (deal_line first holders) line
  no_tag e = sym (split ∙ rw e)

  pub with_tag : same_bytes deal_tag (take 7 line) ≡ true
      → same_bytes (deal_line first holders) line ≡ follows line (Some 7) (letter_of seat_letters first ∷ 58 ∷ hands_and first holders tag_end)
  unfolding follows
  with_tag e = split ∙ rw e

-- the whole line was followed
pub all_followed : (line : List ℕ) (at : ℕ) → leb (length line) at ≡ follows line (Some at) []
unfolding follows same_bytes
all_followed line at =
    by_test (leb (length line) at)
    (λ (q : leb (length line) at ≡ true). rw (q, drop_of_length-le line (leb-true _ _ q)))
    (λ (q : leb (length line) at ≡ false). rw (q, drop-cons line at 0 (leb-false _ _ q)))

-- ---- a Deal line has eleven bytes at least
hand_longer : (holders : List ℕ) (seat : ℕ) (rest : List ℕ) → length rest ≤ length (hand_and holders seat rest)
unfolding hand_and
hand_longer holders seat rest =
    let c = ranks_held holders seat clubs 13 ++ rest in
    let d = ranks_held holders seat diamonds 13 ++ (dot ∷ c) in
    let h = ranks_held holders seat hearts 13 ++ (dot ∷ d) in
    omega (
      arith,
      length-append (ranks_held holders seat clubs 13) rest,
      length-append (ranks_held holders seat diamonds 13) (dot ∷ c),
      length-append (ranks_held holders seat hearts 13) (dot ∷ d),
      length-append (ranks_held holders seat spades 13) (dot ∷ h),
    )

long-line : (first : ℕ) (holders : List ℕ) → 11 ≤ length (deal_line first holders)
unfolding deal_line hands_and
long-line first holders =
    let w = hand_and holders (clockwise first 3) tag_end in
    let s = hand_and holders (clockwise first 2) (space ∷ w) in
    let e = hand_and holders (clockwise first 1) (space ∷ s) in
    omega (
      arith,
      hand_longer holders (clockwise first 3) tag_end,
      hand_longer holders (clockwise first 2) (space ∷ w),
      hand_longer holders (clockwise first 1) (space ∷ s),
      hand_longer holders (clockwise first 0) (space ∷ e),
    )

-- ---- what the line says
module _ (line : List ℕ) where
  no_line : is_deal_line line ≡ false → None ≡ deal_on line
  unfolding deal_on
  no_line e = rw e

  pub too_short : length line < 11 → None ≡ deal_on line
  too_short h =
      no_line
      (by_test (is_deal_line line)
      (λ (q : is_deal_line line ≡ true).
      let is = (deal_sound line q).3 in
      absurd (omega (arith, long-line (first_in line) (holders_in line), ap length is)))
      (λ (q : is_deal_line line ≡ false). q))

  pub no_seat_lem : first_in line ≡ 4 → None ≡ deal_on line
  unfolding is_deal_line
  no_seat_lem e =
      let others = are_seats (holders_in line) && same_bytes (deal_line (first_in line) (holders_in line)) line in
      no_line (ap (λ b. b && others) (le-ltb (first_in line) 4 (omega arith)))

  module _ (first : ℕ) (holders : List ℕ) (ef : first ≡ first_in line) (eh : holders ≡ holders_in line) where
    tests : is_deal_line line ≡ (ltb first 4 && (are_seats holders && same_bytes (deal_line first holders) line))
    unfolding is_deal_line
    tests = sym (ap₂ (λ f h. ltb f 4 && (are_seats h && same_bytes (deal_line f h) line)) ef eh)

    pub not-held : first < 4 → are_seats holders ≡ false → None ≡ deal_on line
    not-held low e = no_line (tests ∙ rw (lt-ltb first 4 low, e))

    pub not_line : first < 4 → are_seats holders ≡ true → same_bytes (deal_line first holders) line ≡ false → None ≡ deal_on line
    not_line low e f = no_line (tests ∙ rw (lt-ltb first 4 low, e, f))

    pub is-line : first < 4 → are_seats holders ≡ true → same_bytes (deal_line first holders) line ≡ true
        → ◌≡◌ {A = Option Deal} (Some (record { first = first; holders = holders })) (deal_on line)
    unfolding deal_on
    is-line low e f =
        let q : is_deal_line line ≡ true = tests ∙ rw (lt-ltb first 4 low, e, f) in
        ap₂ (λ f h. Some (record { first = f; holders = h })) ef eh
        ∙ sym (ap (λ b. if b then Some (record { first = first_in line; holders = holders_in line }) else None) q)

-- the hands of a line, as they are cut out of it
pub hands_cut : (line : List ℕ) (end : ℕ) → end ≡ length line - 2 → 11 ≤ length line → take (end - 9) (drop 9 line) ≡ hands_in line
hands_cut line end e h =
    let z : end - 9 ≡ length line - 11 = omega arith in
    ap (λ n. take n (drop 9 line)) z
