-- The bytes of the plays against Law 50 are the Laws': the loop that fills them in from the last play on, and the words of a history. Assumes nothing.
use Prim.Native.Nat.{ℕ, suc, ◌≤◌, ◌<◌, ◌+◌, ◌*◌, ◌/◌, ◌%◌, ◌^◌}
use mathlib.Core.Path.{◌≡◌, refl, sym, ap, ◌∙◌}
use mathlib.Core.Bool.{true, false}
use mathlib.Core.List.{List, [], ◌∷◌, ◌++◌, append-nil, append_assoc}
use native.Mathlib.Nat.{lt_of_lt_of_le}
use native.Mathlib.Numerals.{add-one}
use native.Mathlib.Omega.{arith}
use lib.Pow.{pow-add, pow_mono, shr_lt}
use lib.ListN.{length, length-append}
use Rattle.laws.specs.Padded.{padded}
use Rattle.laws.specs.Cards.{cards_dealt}
use Rattle.laws.specs.Law44.{tricks_complete}
use Rattle.laws.specs.Events.{Event, played, exposed, choice, cards_of, list_plays}
use Rattle.laws.specs.LeadRevoke.{seat_after}
use Rattle.laws.specs.Failures.{Failure, is_failure, failure_by, failures, failure_pair, failure_bytes}
use Rattle.laws.specs.Kept.{NoneRefused}
use Rattle.laws.proofs.Tests.{by_test}
use Rattle.play.proofs.Holders.{turn_seat}
use Rattle.found.specs.declared.found.Found.{Found}
use Rattle.found.specs.Told.{pop_word, popped, lowest_of, pair_of, pairs_in, failure_bytes_in}
use Rattle.position.specs.History.{entry_of, failed_of, words_in}
use Rattle.position.proofs.AtMost.{card-held, failure_early, at_most_24}
use Rattle.position.proofs.FoundStands.{FoundStands}

-- ---- the words without their lowest entry
pop_low : (x : ℕ) → pop_word (x % 2 ^ 60) (x / 2 ^ 60 % 2 ^ 60) ≡ x / 4096 % 2 ^ 60
unfolding pop_word
pop_low x = omega arith

pop_high : (x : ℕ) → x / 4096 / 2 ^ 60 ≡ x / 2 ^ 60 / 4096
pop_high x = omega arith

pop_last : (x : ℕ) → x < 2 ^ 60 → x % 2 ^ 60 / 4096 ≡ x / 4096 % 2 ^ 60
pop_last x h = omega arith

pub popped-words : (x : ℕ) → x / 2 ^ 60 / 2 ^ 60 / 2 ^ 60 / 2 ^ 60 < 2 ^ 60 → popped (words_in 5 x) ≡ words_in 5 (x / 4096)
unfolding popped words_in
popped-words x h =
    let x₁ = x / 2 ^ 60 in
    let x₂ = x₁ / 2 ^ 60 in
    let x₃ = x₂ / 2 ^ 60 in
    let x₄ = x₃ / 2 ^ 60 in
    rw (pop_high x, pop_high x₁, pop_high x₂, pop_high x₃, pop_low x, pop_low x₁, pop_low x₂, pop_low x₃, pop_last x₄ h)

-- ---- the words of a history
-- the bytes with one play more
bytes-more : (fs : List Failure) (f : Failure) → failure_bytes (fs ++ (f ∷ [])) ≡ failure_bytes fs ++ failure_pair f
unfolding failure_bytes
bytes-more [] f = append-nil (failure_pair f)
bytes-more (g ∷ fs) f = rw (bytes-more fs f) (sym (append_assoc (failure_pair g) (failure_bytes fs) (failure_pair f)))

-- an entry's two bytes
pair_is : (trick seat card : ℕ) → pair_of (trick * 256 + seat * 64 + card) ≡ failure_pair (record { trick = trick; seat = seat; card = card })
unfolding failure_pair
pair_is trick seat card =
    let high : (trick * 256 + seat * 64 + card) / 16 ≡ (trick * 4096 + seat * 1024 + card * 16) / 256 = omega arith in
    let low : (trick * 256 + seat * 64 + card) % 16 * 16 ≡ (trick * 4096 + seat * 1024 + card * 16) % 256 = omega arith in
    rw (high, low)

-- the lowest entry, and the words without it
lowest_is : (x entry : ℕ) → entry < 4096 → lowest_of (words_in 5 (x * 4096 + entry)) ≡ entry
unfolding lowest_of words_in
lowest_is x entry h = omega arith

rest-is : (x entry : ℕ) → entry < 4096 → (x * 4096 + entry) / 4096 ≡ x
rest-is x entry h = omega arith

small_word : (x : ℕ) → x < 2 ^ 300 → x / 2 ^ 60 / 2 ^ 60 / 2 ^ 60 / 2 ^ 60 < 2 ^ 60
small_word x h = shr_lt 60 60 (shr_lt 120 60 (shr_lt 180 60 (shr_lt 240 60 h)))

one_more : (n x entry : ℕ) → entry < 4096 → x * 4096 + entry < 2 ^ 300
    → pairs_in (suc n) (words_in 5 (x * 4096 + entry)) ≡ pairs_in n (words_in 5 x) ++ pair_of entry
unfolding pairs_in
one_more n x entry h b = rw (popped-words (x * 4096 + entry) (small_word (x * 4096 + entry) b), rest-is x entry h, lowest_is x entry h)

module _ (deal : List ℕ) (trump opening : ℕ) (all : length deal ≡ 52) (dealt : (seat : ℕ) → seat < 4 → cards_dealt seat deal ≡ 13) where
  abbrev listed : List Event → List Failure
  listed e = failures trump opening deal e

  abbrev word : List Event → ℕ
  word e = failed_of deal trump opening e

  entry-low : (c : ℕ) (e : List Event) → NoneRefused trump opening deal (played c ∷ e) → is_failure trump opening deal e c ≡ true
      → entry_of deal trump opening (failure_by trump opening e c) < 4096
  unfolding failure_by
  entry-low c e w q =
      omega (arith, failure_early deal trump opening all dealt c e w q, turn_seat trump opening (cards_of e), (card-held deal trump opening c e w).0)

  -- a play that is a failure, and one that is not
  list-more : (c : ℕ) (e : List Event) → is_failure trump opening deal e c ≡ true → listed (played c ∷ e) ≡ listed e ++ (failure_by trump opening e c ∷ [])
  unfolding failures list_plays
  list-more c e q = rw q

  count-more : (c : ℕ) (e : List Event) → is_failure trump opening deal e c ≡ true → length (listed (played c ∷ e)) ≡ suc (length (listed e))
  count-more c e q = ap length (list-more c e q) ∙ length-append (listed e) (failure_by trump opening e c ∷ []) ∙ add-one (length (listed e))

  list_same : (c : ℕ) (e : List Event) → is_failure trump opening deal e c ≡ false → listed (played c ∷ e) ≡ listed e
  unfolding failures list_plays
  list_same c e q = rw q (append-nil (listed e))

  word_more : (c : ℕ) (e : List Event) → is_failure trump opening deal e c ≡ true
      → word (played c ∷ e) ≡ word e * 4096 + entry_of deal trump opening (failure_by trump opening e c)
  unfolding failed_of
  word_more c e q = rw q

  word_same : (c : ℕ) (e : List Event) → is_failure trump opening deal e c ≡ false → word (played c ∷ e) ≡ word e
  unfolding failed_of
  word_same c e q = rw q

  entry_pair : (c : ℕ) (e : List Event) → pair_of (entry_of deal trump opening (failure_by trump opening e c)) ≡ failure_pair (failure_by trump opening e c)
  unfolding failure_by
  entry_pair c e = pair_is (tricks_complete (cards_of e) + 1) (seat_after trump opening e) c

  -- the words of a history do not run over
  low-more : (n : ℕ) {x entry : ℕ} → x < 2 ^ (12 * n) → entry < 4096 → x * 4096 + entry < 2 ^ (12 * suc n)
  low-more n {x} {entry} h b =
      let twelve : 12 * suc n ≡ 12 * n + 12 = omega arith in
      rw (twelve, pow-add 2 (12 * n) 12) (omega arith)

  word_low : (e : List Event) → NoneRefused trump opening deal e → word e < 2 ^ (12 * length (listed e))
  unfolding failed_of failures list_plays NoneRefused
  word_low [] w = omega arith
  word_low (played c ∷ e) w =
      by_test (is_failure trump opening deal e c)
      (λ (q : is_failure trump opening deal e c ≡ true). rw (count-more c e q, word_more c e q)
      (low-more (length (listed e)) (word_low e w.1) (entry-low c e w q)))
      (λ (q : is_failure trump opening deal e c ≡ false). rw (list_same c e q, word_same c e q) (word_low e w.1))
  word_low (exposed c deliberate ∷ e) w = word_low e w.1
  word_low (choice kind suit ∷ e) w = word_low e w.1

  word_fits : (e : List Event) → NoneRefused trump opening deal e → word e < 2 ^ 300
  word_fits e w =
      let few : 12 * length (listed e) ≤ 300 = omega (arith, at_most_24 deal trump opening all dealt e w) in
      lt_of_lt_of_le (word_low e w) (pow_mono few)

  pairs-more : (c : ℕ) (e : List Event) → NoneRefused trump opening deal (played c ∷ e) → is_failure trump opening deal e c ≡ true
      → pairs_in (length (listed e)) (words_in 5 (word e)) ≡ failure_bytes (listed e)
      → pairs_in (length (listed (played c ∷ e))) (words_in 5 (word (played c ∷ e))) ≡ failure_bytes (listed (played c ∷ e))
  pairs-more c e w q before =
      let f = failure_by trump opening e c in
      let n = count-more c e q in
      let low = entry-low c e w q in
      let fits : word e * 4096 + entry_of deal trump opening f < 2 ^ 300 = rw (word_more c e q) at (word_fits (played c ∷ e) w) in
      rw (n, list-more c e q, word_more c e q)
      (one_more (length (listed e)) (word e) (entry_of deal trump opening f) low fits ∙ rw (before, entry_pair c e) (sym (bytes-more (listed e) f)))

  pairs_law : (e : List Event) → NoneRefused trump opening deal e → pairs_in (length (listed e)) (words_in 5 (word e)) ≡ failure_bytes (listed e)
  unfolding failed_of failures list_plays NoneRefused pairs_in failure_bytes
  pairs_law [] w = refl
  pairs_law (played c ∷ e) w =
      by_test (is_failure trump opening deal e c)
      (λ (q : is_failure trump opening deal e c ≡ true). pairs-more c e w q (pairs_law e w.1))
      (λ (q : is_failure trump opening deal e c ≡ false). rw (list_same c e q, word_same c e q) (pairs_law e w.1))
  pairs_law (exposed c deliberate ∷ e) w = pairs_law e w.1
  pairs_law (choice kind suit ∷ e) w = pairs_law e w.1

  -- the theorem: the bytes that are told are those of the plays against Law 50, in order of play, and zeros
  pub failure_bytes_lem : {f : Found} (e : List Event) → NoneRefused trump opening deal e → FoundStands deal trump opening f e
      → failure_bytes_in f ≡ padded 0 52 (failure_bytes (listed e))
  unfolding failure_bytes_in
  failure_bytes_lem e w s =
      let few = at_most_24 deal trump opening all dealt e w in
      let count : length (listed e) % 27 ≡ length (listed e) = omega arith in
      rw (s.count, s.failed, count, pairs_law e w)
