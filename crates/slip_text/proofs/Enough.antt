-- No slip has more than 72 bytes: by a test of each contract with each number of tricks, computed. Assumes nothing.
use Rattle.std.specs.Prelude.{if◌then◌else◌}
use Prim.Native.Nat.{ℕ, suc, ◌+◌, ◌≤◌}
use native.Mathlib.Omega.{arith}
use mathlib.Core.Path.{◌≡◌, refl, sym, ◌∙◌}
use mathlib.Core.Bool.{Bool, true, false}
use mathlib.Core.List.{List}
use borrow.Author.Tests.{leb-true, ltb-true}
use lib.Dec.{leb, ltb, eqb}
use lib.IntN.{ℤ, pos, negsuc, nat_abs}
use lib.ListN.{length, length-append}
use Rattle.laws.specs.Law77
use Rattle.laws.specs.Law77.{Stake, Items, items, declarer_score, ns_score}
use Rattle.laws.specs.Decimal.{decimal, signed_decimal}
use Rattle.laws.specs.Slip.{Name, TRICKS, OVERTRICKS, UNDERTRICKS, PARTSCORE, GAME, SLAM, DOUBLING, gain, word_of, sum_word, line, most_slip_bytes}
use Rattle.laws.proofs.Integers.{size_neg}
use Rattle.laws.proofs.Score.{every_contract, every_contract_lem}
use Rattle.laws.proofs.Slip.{size-ns}
use Rattle.laws.proofs.Tests.{by_test}
use Rattle.explanation.specs.Explained.{Possible, items_for}
use Rattle.explanation.proofs.Granting.{score-small, gain-small, ns-small}
use Rattle.text.proofs.Printed.{length_by}
use Rattle.text.proofs.SingleLines.{line-length}
use Rattle.slip_text.specs.Text.{item_line, items_text}

-- ---- a line's length by the size of its points
-- a number below 10000 has so many digits
abbrev digits : ℕ → ℕ
digits n = if ltb n 10 then 1 else if ltb n 100 then 2 else if ltb n 1000 then 3 else 4

decimal-le : (n : ℕ) → n ≤ 7600 → length (decimal n) ≤ digits n
decimal-le n h =
    by_test (ltb n 10)
    (λ (q : ltb n 10 ≡ true). rw q (length_by 0 n (ltb-true n 10 q)))
    (λ (q : ltb n 10 ≡ false). by_test (ltb n 100)
    (λ (r : ltb n 100 ≡ true). rw (q, r) (length_by 1 n (ltb-true n 100 r)))
    (λ (r : ltb n 100 ≡ false). by_test (ltb n 1000)
    (λ (s : ltb n 1000 ≡ true). rw (q, r, s) (length_by 2 n (ltb-true n 1000 s)))
    (λ (s : ltb n 1000 ≡ false). rw (q, r, s) (length_by 3 n (omega arith)))))

signed_le : (z : ℤ) → nat_abs z ≤ 7600 → length (signed_decimal z) ≤ 1 + digits (nat_abs z)
unfolding signed_decimal
signed_le (pos n) h = omega (arith, decimal-le n h)
signed_le (negsuc n) h = omega (arith, decimal-le (suc n) h)

-- a line with a word of so many letters and points of such a size: a space, a minus and a newline beside them
abbrev line_size : ℕ → ℕ → ℕ
line_size letters n = letters + 3 + digits n

abbrev item_size : ℕ → ℕ → ℕ
item_size letters n = if eqb n 0 then 0 else line_size letters n

line-le : (word : List ℕ) (z : ℤ) → nat_abs z ≤ 7600 → length (line word z) ≤ line_size (length word) (nat_abs z)
line-le word z h = omega (arith, line-length word z, signed_le z h)

item_le : (word : List ℕ) (z : ℤ) {n : ℕ} → nat_abs z ≡ n → nat_abs z ≤ 7600 → length (item_line word z) ≤ item_size (length word) n
unfolding item_line
item_le word z {n} e h =
    by_test (eqb (nat_abs z) 0)
    (λ (q : eqb (nat_abs z) 0 ≡ true). rw q (omega arith))
    (λ (q : eqb (nat_abs z) 0 ≡ false). rw (q, sym e, q) (line-le word z h))

-- ---- the slip of a contract by the sizes of its items
abbrev size_of : Items → ℕ → ℕ
size_of i score =
    item_size 6 i.tricks + item_size 10 i.overtricks + item_size 11 i.undertricks + item_size 9 i.part_score + item_size 4 i.game
    + item_size 4 i.slam + item_size 8 i.doubling + line_size 3 score

abbrev short_for : Stake → ℕ → Bool
short_for s tricks = leb (size_of (items s tricks) (nat_abs (declarer_score s tricks))) most_slip_bytes

all_short : (vulnerable : Bool) → every_contract short_for vulnerable ≡ true
unfolding items declarer_score Law77.is_made Law77.trick_points Law77.first_trick_value Law77.trick_value Law77.overtrick_points Law77.overtrick_value
    Law77.undertrick_points Law77.undertricks Law77.undertrick_value Law77.doubled_undertrick
    Law77.part_score_points Law77.game_points Law77.is_game Law77.slam_points Law77.doubling_points
all_short true = refl
all_short false = refl

-- the items of a contract, from North-South
module _ (d : ℕ) (s : Stake) (tricks : ℕ) (ok : Possible s tricks) where
  size-le : size_of (items s tricks) (nat_abs (declarer_score s tricks)) ≤ most_slip_bytes
  size-le = leb-true _ most_slip_bytes (every_contract_lem short_for all_short s tricks ok.level_from ok.level_to ok.strain ok.doubling ok.most)

  named_le : (name : Name) {n : ℕ} → nat_abs (gain (items s tricks) name) ≡ n
      → length (item_line (word_of name) (ns_score d (gain (items s tricks) name))) ≤ item_size (length (word_of name)) n
  named_le name e =
      let z = gain (items s tricks) name in
      item_le (word_of name) (ns_score d z) (size-ns d z ∙ e) (ns-small d z (gain-small d s tricks ok name))

  sum_le : length (line sum_word (ns_score d (declarer_score s tricks))) ≤ line_size 3 (nat_abs (declarer_score s tricks))
  sum_le =
      let z = declarer_score s tricks in
      rw (← size-ns d z) (line-le sum_word (ns_score d z) (ns-small d z (score-small d s tricks ok)))

  pub contract-le : length (items_text (items_for d s tricks)) ≤ most_slip_bytes
  unfolding items_for
  contract-le =
      let down = size_neg (pos (items s tricks).undertricks) in
      simp length-append
      (omega (
        arith,
        size-le,
        named_le TRICKS refl,
        named_le OVERTRICKS refl,
        named_le UNDERTRICKS down,
        named_le PARTSCORE refl,
        named_le GAME refl,
        named_le SLAM refl,
        named_le DOUBLING refl,
        sum_le,
      ))
