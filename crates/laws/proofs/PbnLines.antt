-- The lines of Portable Bridge Notation, each read as what it says: words and tags tell their numbers apart, and no line has a newline in it.
-- Assumes nothing.
use Rattle.std.specs.Prelude.{if◌then◌else◌}
use Prim.Native.Nat.{ℕ, zero, suc, ◌+◌, ◌-◌, ◌*◌, ◌/◌, ◌%◌, ◌≤◌, ◌<◌}
use native.Mathlib.Omega.{arith}
use mathlib.Core.Path.{◌≡◌, refl, sym, ap, ◌∙◌}
use mathlib.Core.Bool.{true, false, not}
use mathlib.Core.List.{List, [], ◌∷◌, ◌++◌}
use borrow.Author.Tests.{not-true, ne_eqb, ltb-false}
use lib.Dec.{ltb, eqb, lit≤}
use lib.ListN.{drop}
use Rattle.laws.specs.Choice.{some}
use Rattle.laws.specs.Cards.{clockwise, dealt_to, clubs, diamonds, hearts, spades}
use Rattle.laws.specs.Auction.{level_of, strain_of}
use Rattle.laws.specs.Decimal.{zero_digit, digit, last_digits, decimal, value_after}
use Rattle.laws.specs.Sheet.{newline}
use Rattle.laws.specs.PbnText.{EachBelow, letter_of, seat_letters, rank_letters, space, strain_word, call_word, card_word, auction_tag, play_tag, tag_end}
use Rattle.laws.specs.PbnText.{board_line, seat_line, ranks_held, hand_and, hands_and, deal_line, joined_by, row_line}
use Rattle.laws.specs.PbnReading.{Read, misses, reads, same_bytes, number_of}
use Rattle.laws.proofs.Tests.{by_test, or_left, or_right}
use Rattle.laws.proofs.Counts.{every_below, every_below_lem}
use Rattle.laws.proofs.PbnOrder.{of-seat}
use Rattle.laws.proofs.PbnWords.{Apart, apart_by, Free, NoSpace}

-- the number that is read; 0 where there is none
abbrev read_or0 : Read ℕ → ℕ
read_or0 misses = 0
read_or0 (reads n) = n

-- ---- each word has a number of its own: computed
calls_computed : every_below 38 (λ k. eqb (read_or0 (number_of call_word 38 (call_word k))) k) ≡ true
unfolding number_of same_bytes call_word strain_word level_of strain_of
calls_computed = refl

pub calls-apart : Apart call_word 38
calls-apart = apart_by call_word 38 (λ word. read_or0 (number_of call_word 38 word)) calls_computed

cards_computed : every_below 52 (λ k. eqb (read_or0 (number_of card_word 52 (card_word k))) k) ≡ true
unfolding number_of same_bytes card_word
cards_computed = refl

pub cards-apart : Apart card_word 52
cards-apart = apart_by card_word 52 (λ word. read_or0 (number_of card_word 52 word)) cards_computed

pub auction-apart : Apart (seat_line auction_tag) 4
unfolding number_of same_bytes seat_line
auction-apart = apart_by (seat_line auction_tag) 4 (λ line. read_or0 (number_of (seat_line auction_tag) 4 line)) refl

pub play-apart : Apart (seat_line play_tag) 4
unfolding number_of same_bytes seat_line
play-apart = apart_by (seat_line play_tag) 4 (λ line. read_or0 (number_of (seat_line play_tag) 4 line)) refl

-- ---- a byte that does not stand in words: computed
free_by : (byte n : ℕ) (word_of : ℕ → List ℕ) → every_below n (λ k. not (some (λ b. eqb b byte) (word_of k))) ≡ true → (k : ℕ) → k < n → Free byte (word_of k)
free_by byte n word_of computed k h = not-true _ (every_below_lem n (λ k. not (some (λ b. eqb b byte) (word_of k))) computed k h)

pub calls_spaceless : NoSpace call_word 38
unfolding some call_word strain_word level_of strain_of
calls_spaceless = free_by space 38 call_word refl

pub cards_spaceless : NoSpace card_word 52
unfolding some card_word
cards_spaceless = free_by space 52 card_word refl

-- ---- no line has a newline
pub calls-newline : (k : ℕ) → k < 38 → Free newline (call_word k)
unfolding some call_word strain_word level_of strain_of
calls-newline = free_by newline 38 call_word refl

pub cards-newline : (k : ℕ) → k < 52 → Free newline (card_word k)
unfolding some card_word
cards-newline = free_by newline 52 card_word refl

pub auction-newline : (seat : ℕ) → seat < 4 → Free newline (seat_line auction_tag seat)
unfolding some seat_line
auction-newline = free_by newline 4 (seat_line auction_tag) refl

pub play-newline : (seat : ℕ) → seat < 4 → Free newline (seat_line play_tag seat)
unfolding some seat_line
play-newline = free_by newline 4 (seat_line play_tag) refl

-- ---- the digits of a number: none is a byte before them, and they are read back
module _ (byte : ℕ) where
  free_append : (s t : List ℕ) → Free byte s → Free byte t → Free byte (s ++ t)
  unfolding some
  free_append [] t h k = k
  free_append (b ∷ s) t h k = rw (or_left (eqb b byte) _ h) (free_append s t (or_right (eqb b byte) _ h) k)

  one-digit : (n : ℕ) → byte < zero_digit → Free byte (digit n ∷ [])
  unfolding some
  one-digit n h = rw (ne_eqb (digit n) byte (λ e. absurd (omega arith)))

  digits_free : byte < zero_digit → (most n : ℕ) → Free byte (last_digits most n)
  unfolding last_digits some
  digits_free h zero n = refl
  digits_free h (suc most) n =
      by_test (ltb n 10)
      (λ (q : ltb n 10 ≡ true). rw q (one-digit n h))
      (λ (q : ltb n 10 ≡ false). rw q (free_append (last_digits most (n / 10)) _ (digits_free h most (n / 10)) (one-digit (n % 10) h)))

last-digit : (k : ℕ) (s : List ℕ) (b : ℕ) → value_after k (s ++ (b ∷ [])) ≡ 10 * value_after k s + (b - zero_digit)
unfolding value_after
last-digit k [] b = refl
last-digit k (c ∷ s) b = last-digit (10 * k + (c - zero_digit)) s b

digits_back : (most n : ℕ) → n < most → value_after 0 (last_digits most n) ≡ n
unfolding value_after last_digits
digits_back zero n h = absurd (omega arith)
digits_back (suc most) n h =
    by_test (ltb n 10)
    (λ (q : ltb n 10 ≡ true). rw q (omega arith))
    (λ (q : ltb n 10 ≡ false).
    rw q (last-digit 0 (last_digits most (n / 10)) (digit (n % 10)) ∙ rw (digits_back most (n / 10) (omega (arith, ltb-false n 10 q))) (omega arith)))

-- the number on a Board line: its digits up to the quote
value_to : ℕ → List ℕ → ℕ
value_to k [] = k
value_to k (b ∷ s) = if eqb b 34 then k else value_to (10 * k + (b - zero_digit)) s

up_to_quote : (k : ℕ) (s t : List ℕ) → Free 34 s → value_to k (s ++ (34 ∷ t)) ≡ value_after k s
unfolding value_to value_after some
up_to_quote k [] t h = refl
up_to_quote k (b ∷ s) t h = rw (or_left (eqb b 34) _ h) (up_to_quote (10 * k + (b - zero_digit)) s t (or_right (eqb b 34) _ h))

abbrev number_on : List ℕ → ℕ
number_on line = value_to 0 (drop 8 line)

board_back : (board : ℕ) → number_on (board_line board) ≡ board
unfolding board_line decimal
board_back board = up_to_quote 0 (last_digits (suc board) board) _ (digits_free 34 (lit≤ tt) (suc board) board) ∙ digits_back (suc board) board (omega arith)

pub boards-apart : Apart (λ n. board_line (suc n)) 999
boards-apart j k h i e = let same = sym (board_back (suc j)) ∙ ap number_on e ∙ board_back (suc k) in omega arith

pub board-newline : (board : ℕ) → Free newline (board_line board)
unfolding board_line decimal some
board-newline board = free_append newline (last_digits (suc board) board) tag_end (digits_free newline (lit≤ tt) (suc board) board) refl

-- a line of words that have no newline
pub row-newline : (n : ℕ) (word_of : ℕ → List ℕ) → ((k : ℕ) → k < n → Free newline (word_of k)) → (row : List ℕ) → EachBelow n row
    → Free newline (row_line word_of row)
unfolding EachBelow joined_by some
row-newline n word_of free [] h = refl
row-newline n word_of free (c ∷ []) h = free c h.0
row-newline n word_of free (c ∷ d ∷ row) h = free_append newline (word_of c) _ (free c h.0) (row-newline n word_of free (d ∷ row) h.1)

-- the Deal line
ranks_newline : (r : ℕ) → r < 13 → eqb (letter_of rank_letters r) newline ≡ false
ranks_newline r h = not-true _ (every_below_lem 13 (λ r. not (eqb (letter_of rank_letters r) newline)) refl r h)

seat-newline : (seat : ℕ) → seat < 4 → eqb (letter_of seat_letters seat) newline ≡ false
seat-newline = of-seat (λ seat. eqb (letter_of seat_letters seat) newline ≡ false) refl refl refl refl

module _ (deal : List ℕ) where
  held-newline : (seat suit n : ℕ) → n ≤ 13 → Free newline (ranks_held deal seat suit n)
  unfolding ranks_held some
  held-newline seat suit zero h = refl
  held-newline seat suit (suc r) h =
      by_test (eqb (dealt_to deal (13 * suit + r)) seat)
      (λ (q : eqb (dealt_to deal (13 * suit + r)) seat ≡ true). rw (q, ranks_newline r h) (held-newline seat suit r (omega arith)))
      (λ (q : eqb (dealt_to deal (13 * suit + r)) seat ≡ false). rw q (held-newline seat suit r (omega arith)))

  hand_newline : (seat : ℕ) (rest : List ℕ) → Free newline rest → Free newline (hand_and deal seat rest)
  unfolding hand_and some
  hand_newline seat rest h =
      free_append newline (ranks_held deal seat spades 13) _ (held-newline seat spades 13 (lit≤ tt))
      (free_append newline (ranks_held deal seat hearts 13) _ (held-newline seat hearts 13 (lit≤ tt))
      (free_append newline (ranks_held deal seat diamonds 13) _ (held-newline seat diamonds 13 (lit≤ tt))
      (free_append newline (ranks_held deal seat clubs 13) rest (held-newline seat clubs 13 (lit≤ tt)) h)))

  pub deal-newline : (first : ℕ) → first < 4 → Free newline (deal_line first deal)
  unfolding deal_line hands_and some
  deal-newline first h =
      rw (seat-newline first h)
      (hand_newline (clockwise first 0) _
      (hand_newline (clockwise first 1) _ (hand_newline (clockwise first 2) _ (hand_newline (clockwise first 3) tag_end refl))))
