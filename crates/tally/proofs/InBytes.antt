-- A tally in bytes and back: the two directions are inverse on 398 bytes and on every tally that bytes can tell, among them all that are well formed.
-- Assumes nothing.
use Prim.Native.Nat.{ℕ, zero, suc, ◌≤◌, ◌<◌, ◌+◌, ◌-◌, ◌*◌, ◌/◌, ◌%◌}
use native.Mathlib.Omega.{arith}
use mathlib.Core.Path.{◌≡◌, refl, sym, ap, ap₂, ◌∙◌}
use mathlib.Core.Bool.{true, false}
use mathlib.Core.List.{List, [], ◌∷◌, ◌++◌, append_assoc}
use borrow.Author.Tests.{eq-eqb, lt-ltb, le-ltb, ltb-false}
use lib.Dec.{ltb, lit<}
use lib.IntN.{ℤ, pos, negsuc}
use lib.ListN.{length, get_or, take, drop, length-append, take-append-drop}
use lib.Seq.{slice, take_at, drop_at, take-append-add, take-take, length-slice, get_or-drop}
use lib.Signed.{mag}
use Rattle.laws.specs.Bytes.{Bytes}
use Rattle.laws.specs.Judgement.{twos_complement}
use Rattle.laws.specs.Record.{bytes_of}
use Rattle.laws.proofs.Bytes.{bytes-of}
use Rattle.laws.proofs.Tests.{by_test}
use Rattle.tally.specs.declared.Tally.{Tally}
use Rattle.tally.specs.InBytes.{deal_bytes, score_bytes, tally_bytes, deal_in, signed, scores_in_bytes, tally_from, tally_in, InRange}

-- ---- the deal: four holders and their byte
module _ (a b c d : ℕ) (ha : a ≤ 3) (hb : b ≤ 3) (hc : c ≤ 3) (hd : d ≤ 3) where
  abbrev byte : ℕ
  byte = a % 4 * 64 + b % 4 * 16 + c % 4 * 4 + d % 4

  four_back : (l : List ℕ) → byte / 64 % 4 ∷ byte / 16 % 4 ∷ byte / 4 % 4 ∷ byte % 4 ∷ l ≡ a ∷ b ∷ c ∷ d ∷ l
  four_back l =
      let ea : byte / 64 % 4 ≡ a = omega arith in
      let eb : byte / 16 % 4 ≡ b = omega arith in
      let ec : byte / 4 % 4 ≡ c = omega arith in
      let ed : byte % 4 ≡ d = omega arith in
      rw (ea, eb, ec, ed)

deal_back : (n : ℕ) (deal : List ℕ) → length deal ≡ 4 * n → ((k : ℕ) → get_or deal k 0 ≤ 3) → deal_in (deal_bytes deal) ≡ deal
unfolding deal_in deal_bytes
deal_back n [] e h = refl
deal_back n (a ∷ []) e h = absurd (omega arith)
deal_back n (a ∷ b ∷ []) e h = absurd (omega arith)
deal_back n (a ∷ b ∷ c ∷ []) e h = absurd (omega arith)
deal_back n (a ∷ b ∷ c ∷ d ∷ deal) e h =
    four_back a b c d (h 0) (h 1) (h 2) (h 3) (deal_in (deal_bytes deal))
    ∙ ap (λ (l : List ℕ). a ∷ b ∷ c ∷ d ∷ l) (deal_back (n - 1) deal (omega arith) (λ k. h (suc (suc (suc (suc k))))))

-- four digits to the base four
digits : (a b c d p q r x : ℕ) → a ≡ p → b + 4 * p ≡ q → c + 4 * q ≡ r → d + 4 * r ≡ x → a * 64 + b * 16 + c * 4 + d ≡ x
digits a b c d p q r x ea eb ec ed = omega arith

byte_back : (x : ℕ) → x < 256 → x / 64 % 4 % 4 * 64 + x / 16 % 4 % 4 * 16 + x / 4 % 4 % 4 * 4 + x % 4 % 4 ≡ x
byte_back x h =
    digits _ _ _ _ (x / 64) (x / 16) (x / 4) x (omega arith) (omega arith) (omega arith) (omega arith)

pub bytes_deal_back : (bytes : List ℕ) → Bytes bytes → deal_bytes (deal_in bytes) ≡ bytes
unfolding deal_in deal_bytes
bytes_deal_back [] h = refl
bytes_deal_back (x ∷ bytes) h = ap₂ (λ (y : ℕ) (l : List ℕ). y ∷ l) (byte_back x (h 0)) (bytes_deal_back bytes (λ k. h (suc k)))

pub length-deal-bytes : (n : ℕ) (deal : List ℕ) → length deal ≡ 4 * n → length (deal_bytes deal) ≡ n
unfolding deal_bytes
length-deal-bytes n [] e = omega arith
length-deal-bytes n (a ∷ []) e = absurd (omega arith)
length-deal-bytes n (a ∷ b ∷ []) e = absurd (omega arith)
length-deal-bytes n (a ∷ b ∷ c ∷ []) e = absurd (omega arith)
length-deal-bytes n (a ∷ b ∷ c ∷ d ∷ deal) e = omega (arith, length-deal-bytes (n - 1) deal (omega arith))

pub length_deal_in : (bytes : List ℕ) → length (deal_in bytes) ≡ 4 * length bytes
unfolding deal_in
length_deal_in [] = refl
length_deal_in (x ∷ bytes) = omega (arith, length_deal_in bytes)

-- ---- scores: two bytes each
signed_back : (s : ℤ) → mag s < 32768 → signed (twos_complement s) ≡ s
unfolding signed twos_complement
signed_back (pos n) h = rw (lt-ltb n 32768 h)
signed_back (negsuc n) h =
    let e : 65535 - (65536 - suc n) ≡ n = omega arith in
    rw (le-ltb (65536 - suc n) 32768 (omega arith), e)

word_small : (s : ℤ) → mag s < 32768 → twos_complement s < 65536
unfolding twos_complement
word_small (pos n) h = omega arith
word_small (negsuc n) h = omega arith

pub word_back : (x : ℕ) → x < 65536 → twos_complement (signed x) ≡ x
unfolding signed twos_complement
word_back x h =
    by_test (ltb x 32768)
    (λ (q : ltb x 32768 ≡ true). rw q)
    (λ (q : ltb x 32768 ≡ false). rw q (omega (arith, ltb-false x 32768 q)))

scores_back : (scores : List ℤ) → ((k : ℕ) → mag (get_or scores k (pos 0)) < 32768) → scores_in_bytes (score_bytes scores) ≡ scores
unfolding scores_in_bytes score_bytes bytes_of
scores_back [] h = refl
scores_back (s ∷ scores) h =
    let x = twos_complement s in
    let e : x / 256 % 256 * 256 + x / 1 % 256 ≡ x = omega (arith, word_small s (h 0)) in
    rw (e, signed_back s (h 0)) (ap (λ (l : List ℤ). s ∷ l) (scores_back scores (λ k. h (suc k))))

bytes_scores_back : (n : ℕ) (bytes : List ℕ) → length bytes ≡ 2 * n → Bytes bytes → score_bytes (scores_in_bytes bytes) ≡ bytes
unfolding scores_in_bytes score_bytes bytes_of
bytes_scores_back n [] e h = refl
bytes_scores_back n (x ∷ []) e h = absurd (omega arith)
bytes_scores_back n (x ∷ y ∷ bytes) e h =
    let w = word_back (x * 256 + y) (omega (arith, h 0, h 1)) in
    let ex : (x * 256 + y) / 256 % 256 ≡ x = omega (arith, h 0, h 1) in
    let ey : (x * 256 + y) / 1 % 256 ≡ y = omega (arith, h 0, h 1) in
    rw (w, ex, ey) (ap (λ (l : List ℕ). x ∷ y ∷ l) (bytes_scores_back (n - 1) bytes (omega arith) (λ k. h (suc (suc k)))))

pub length-score-bytes : (scores : List ℤ) → length (score_bytes scores) ≡ 2 * length scores
unfolding score_bytes bytes_of
length-score-bytes [] = refl
length-score-bytes (s ∷ scores) = omega (arith, length-score-bytes scores)

pub length_scores_in : (n : ℕ) (bytes : List ℕ) → length bytes ≡ 2 * n → length (scores_in_bytes bytes) ≡ n
unfolding scores_in_bytes
length_scores_in n [] e = omega arith
length_scores_in n (x ∷ []) e = absurd (omega arith)
length_scores_in n (x ∷ y ∷ bytes) e = omega (arith, length_scores_in (n - 1) bytes (omega arith))

-- ---- whole tallies
-- a list between two others
middle : (n m : ℕ) (front mid back : List ℕ) → length front ≡ n → length mid ≡ m → slice n (n + m) (front ++ (mid ++ back)) ≡ mid
middle n m front mid back e f =
    rw (← e) (ap (drop (length front)) (take-append-add front (mid ++ back) m) ∙ drop_at front _ (length front) refl ∙ take_at mid back m f)

-- a tally by its fields
same-fields : (b : ℕ) {d d' : List ℕ} {s s' : List ℤ} {c c' : List ℕ} → d ≡ d' → s ≡ s' → c ≡ c'
    → ◌≡◌ {A = Tally} (record { board = b; deal = d; scores = s; counts = c }) (record { board = b; deal = d'; scores = s'; counts = c' })
same-fields b e f g = rw (e, f, g)

module _ (t : Tally) (r : InRange t) where
  thirteen : length (deal_bytes t.deal) ≡ 13
  thirteen = length-deal-bytes 13 t.deal r.holders

  many : length (score_bytes t.scores) ≡ 256
  many = omega (arith, length-score-bytes t.scores, r.scores)

  pub length-tally-bytes : length (tally_bytes t) ≡ 398
  unfolding tally_bytes
  length-tally-bytes =
      let s = score_bytes t.scores in
      omega (arith, length-append (deal_bytes t.deal) (s ++ t.counts), length-append s t.counts, thirteen, many, r.counts)

  from_back : tally_from (tally_bytes t) ≡ t
  unfolding tally_from tally_bytes
  from_back =
      let d = deal_bytes t.deal in
      let s = score_bytes t.scores in
      let ed = ap deal_in (take_at d (s ++ t.counts) 13 thirteen) ∙ deal_back 13 t.deal r.holders r.holder in
      let es = ap scores_in_bytes (middle 13 256 d s t.counts thirteen many) ∙ scores_back t.scores r.score in
      let ec = ap (drop 269) (sym (append_assoc d s t.counts)) ∙ drop_at (d ++ s) t.counts 269 (omega (arith, length-append d s, thirteen, many)) in
      same-fields t.board ed es ec

  pub tally_back : tally_in (tally_bytes t) ≡ t
  unfolding tally_in
  tally_back = rw (eq-eqb (length (tally_bytes t)) 398 length-tally-bytes) from_back

-- ---- each is a byte
pub bytes_append : (a b : List ℕ) → Bytes a → Bytes b → Bytes (a ++ b)
bytes_append [] b f g i = g i
bytes_append (x ∷ a) b f g zero = f 0
bytes_append (x ∷ a) b f g (suc i) = bytes_append a b (λ k. f (suc k)) g i

deal_are_bytes : (deal : List ℕ) → Bytes (deal_bytes deal)
unfolding deal_bytes
deal_are_bytes [] i = lit< tt
deal_are_bytes (a ∷ []) i = lit< tt
deal_are_bytes (a ∷ b ∷ []) i = lit< tt
deal_are_bytes (a ∷ b ∷ c ∷ []) i = lit< tt
deal_are_bytes (a ∷ b ∷ c ∷ d ∷ deal) zero = omega arith
deal_are_bytes (a ∷ b ∷ c ∷ d ∷ deal) (suc i) = deal_are_bytes deal i

scores_are_bytes : (scores : List ℤ) → Bytes (score_bytes scores)
unfolding score_bytes
scores_are_bytes [] i = lit< tt
scores_are_bytes (s ∷ scores) i = bytes_append (bytes_of 2 (twos_complement s)) (score_bytes scores) (bytes-of 2 (twos_complement s)) (scores_are_bytes scores) i

pub bytes-tally : (t : Tally) → InRange t → Bytes (tally_bytes t)
unfolding tally_bytes
bytes-tally t r zero = r.board
bytes-tally t r (suc i) =
    bytes_append (deal_bytes t.deal) (score_bytes t.scores ++ t.counts) (deal_are_bytes t.deal)
    (bytes_append (score_bytes t.scores) t.counts (scores_are_bytes t.scores) r.count) i

-- ---- whole lists of bytes
-- a list cut at two places
cut : (n m : ℕ) (l : List ℕ) → n ≤ m → l ≡ take n l ++ (slice n m l ++ drop m l)
cut n m l h =
    sym (take-append-drop m l)
    ∙ ap (λ (x : List ℕ). x ++ drop m l) (sym (take-append-drop n (take m l)))
    ∙ ap (λ (x : List ℕ). (x ++ slice n m l) ++ drop m l) (take-take n m l h)
    ∙ append_assoc (take n l) (slice n m l) (drop m l)

take-bytes : (n : ℕ) (l : List ℕ) → Bytes l → Bytes (take n l)
take-bytes zero l h i = lit< tt
take-bytes (suc n) [] h i = lit< tt
take-bytes (suc n) (x ∷ l) h zero = h 0
take-bytes (suc n) (x ∷ l) h (suc i) = take-bytes n l (λ k. h (suc k)) i

pub slice-bytes : (n m : ℕ) (l : List ℕ) → Bytes l → Bytes (slice n m l)
slice-bytes n m l h i = rw (get_or-drop n (take m l) i 0) (take-bytes m l h (n + i))

pub bytes_back : (bytes : List ℕ) → length bytes ≡ 398 → Bytes bytes → tally_bytes (tally_in bytes) ≡ bytes
unfolding tally_in tally_from tally_bytes
bytes_back [] e h = absurd (omega arith)
bytes_back (x ∷ bytes) e h =
    let l = x ∷ bytes in
    let d = bytes_deal_back (slice 1 14 l) (slice-bytes 1 14 l h) in
    let s = bytes_scores_back 128 (slice 14 270 l) (omega (arith, length-slice 14 270 l (omega arith))) (slice-bytes 14 270 l h) in
    rw (eq-eqb (length l) 398 e, d, s) (sym (cut 14 270 l (omega arith)))
