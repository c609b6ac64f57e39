-- The loops that read a position's words from the lowest entry on: the tricks' answers filled in from the last trick, the revokes from the last card.
-- What is still to be filled in, and what is filled in, are together the whole. Assumes nothing.
use Rattle.std.specs.Prelude.{if◌then◌else◌}
use Prim.Native.Nat.{ℕ, zero, suc, ◌≤◌, ◌<◌, ◌+◌, ◌-◌, ◌*◌, ◌/◌, ◌%◌, ◌^◌}
use mathlib.Core.Path.{◌≡◌, refl, sym, ap, ◌∙◌}
use mathlib.Core.Bool.{true, false}
use mathlib.Core.List.{List, [], ◌∷◌, ◌++◌, map-append, append-nil, append_assoc}
use native.Mathlib.Nat.{pow-suc, div-one}
use native.Mathlib.Omega.{arith}
use borrow.Author.Tests.{eqb-true, eqb-false, eq-eqb, ne_eqb}
use lib.Count.{ones, ones_in, ones_step, count_trailing_zeros}
use lib.Dec.{eqb}
use lib.ListN.{length, set, drop, replicate, length-append, length-map, length-replicate, length-set}
use lib.Pow.{shr-shr}
use lib.Seq.{get_or-set_same, drop-set-lt, drop-cons}
use Rattle.laws.specs.Choice.{how_many}
use Rattle.laws.specs.Padded.{padded}
use Rattle.laws.specs.Cards.{side_of}
use Rattle.laws.specs.Law44.{tricks_won}
use Rattle.laws.proofs.Tests.{by_test}
use Rattle.laws.proofs.Counts.{many_append}
use Rattle.play.specs.declared.Tricks.{Tricks}
use Rattle.play.specs.declared.Won.{Won}
use Rattle.play.specs.Told.{answers_in, no_trick, seats_of, tricks_of, bytes_in}

-- ---- arrays filled from the end
pub padded-rest : {A : Type 0} (z : A) (n : ℕ) (l : List A) → length l ≤ n → l ++ drop (length l) (replicate n z) ≡ padded z n l
unfolding padded
padded-rest z zero [] h = refl
padded-rest z (suc n) [] h = ap (λ (m : List _). z ∷ m) (padded-rest z n [] (omega arith))
padded-rest z zero (x ∷ l) h = absurd (omega arith)
padded-rest z (suc n) (x ∷ l) h = ap (λ (m : List _). x ∷ m) (padded-rest z n l (omega arith))

-- one place more, before those that are filled
pub drop-set : {A : Type 0} (l : List A) (i : ℕ) (x : A) → i < length l → drop i (set l i x) ≡ x ∷ drop (suc i) l
drop-set l i x h =
    drop-cons (set l i x) i x (omega (arith, length-set l i x)) ∙ rw (get_or-set_same l i x x h, drop-set-lt (suc i) l i x (omega arith))

fill_one : {A : Type 0} (before : List A) (x : A) (l : List A) (i : ℕ) → i < length l → (before ++ (x ∷ [])) ++ drop (suc i) l ≡ before ++ drop i (set l i x)
fill_one before x l i h = append_assoc before (x ∷ []) (drop (suc i) l) ∙ ap (λ (m : List _). before ++ m) (sym (drop-set l i x h))

-- ---- the answers
pub answers-many : (n entries low high : ℕ) → length (answers_in n entries low high) ≡ n
unfolding answers_in
answers-many zero entries low high = refl
answers-many (suc n) entries low high =
    length-append (answers_in n (entries / 16) (low / 16) (high / 16)) _ ∙ omega (arith, answers-many n (entries / 16) (low / 16) (high / 16))

-- a side's tricks with one more winner
pub won-more : (side seat : ℕ) (ws : List ℕ) → tricks_won side (ws ++ (seat ∷ [])) ≡ tricks_won side ws + (if eqb (side_of seat) side then 1 else 0)
unfolding tricks_won how_many
won-more side seat ws = many_append (λ seat. eqb (side_of seat) side) ws (seat ∷ []) ∙ omega arith

-- the two sides share the tricks
pub sides_share : (ws : List ℕ) → tricks_won 0 ws + tricks_won 1 ws ≡ length ws
unfolding tricks_won how_many
sides_share [] = refl
sides_share (s ∷ ws) =
    let share = sides_share ws in
    by_test (eqb (side_of s) 0)
    (λ (q : eqb (side_of s) 0 ≡ true). rw (q, ne_eqb (side_of s) 1 (λ e. omega (arith, eqb-true (side_of s) 0 q))) (omega arith))
    (λ (q : eqb (side_of s) 0 ≡ false). rw (q, eq-eqb (side_of s) 1 (omega (arith, eqb-false (side_of s) 0 q))) (omega arith))

odd : (n : ℕ) → (if eqb (side_of n) 1 then 1 else 0) ≡ n % 2
odd n =
    by_test (eqb (side_of n) 1)
    (λ (q : eqb (side_of n) 1 ≡ true). rw q (sym (eqb-true (side_of n) 1 q)))
    (λ (q : eqb (side_of n) 1 ≡ false). rw q (omega (arith, eqb-false (side_of n) 1 q)))

-- the winners with one answer more
seats-more : (ws : List Won) (w : Won) → seats_of (ws ++ (w ∷ [])) ≡ seats_of ws ++ (w.seat ∷ [])
seats-more ws w = map-append _ ws (w ∷ [])

-- i answers are still to be filled in, by the entries `rest` and the words `low` and `high`; `whole` are all of them
pub record Filled (whole answers : List Won) (rest low high east i : ℕ) : Type 0 where
  pub few : i ≤ length whole
  pub most : length whole ≤ 13
  pub places : length answers ≡ 13
  pub same : answers_in i rest low high ++ drop i answers ≡ padded no_trick 13 whole
  pub sides : east + tricks_won 1 (seats_of (answers_in i rest low high)) ≡ tricks_won 1 (seats_of whole)
  pub small : east + i ≤ length whole

pub fill_begins : {count entries low high : ℕ} → count ≤ 13
    → Filled (answers_in count entries low high) (replicate 13 no_trick) entries low high 0 count
fill_begins {count} {entries} {low} {high} h =
    let whole = answers_in count entries low high in
    let n = answers-many count entries low high in
    record {
      few = omega arith;
      most = omega arith;
      places = refl;
      same = rw n at (padded-rest no_trick 13 whole (omega arith));
      sides = omega arith;
      small = omega arith;
    }

fill_one_more : {whole answers : List Won} {rest low high east : ℕ} {w : Won} (i : ℕ) → Filled whole answers rest low high east (suc i)
    → w ≡ record { seat = rest / 4 % 4; card = high % 16 * 16 + low % 16 }
    → Filled whole (set answers i w) (rest / 16) (low / 16) (high / 16) (east + w.seat % 2) i
unfolding answers_in
fill_one_more {whole} {answers} {rest} {low} {high} {east} {w} i r e =
    let before = answers_in i (rest / 16) (low / 16) (high / 16) in
    let all : (before ++ (w ∷ [])) ++ drop (suc i) answers ≡ padded no_trick 13 whole = rw e r.same in
    let sides : east + tricks_won 1 (seats_of (before ++ (w ∷ []))) ≡ tricks_won 1 (seats_of whole) = rw e r.sides in
    let more = ap (tricks_won 1) (seats-more before w) ∙ won-more 1 w.seat (seats_of before) in
    let last = odd w.seat in
    record {
      few = omega (arith, r.few);
      most = r.most;
      places = length-set answers i w ∙ r.places;
      same = sym (fill_one before w answers i (omega (arith, r.few, r.most, r.places))) ∙ all;
      sides = omega (arith, sides, more, last);
      small = omega (arith, r.small);
    }

pub fill_goes : {whole answers : List Won} {rest low high east i : ℕ} {w : Won} → Filled whole answers rest low high east i → 0 < i
    → w ≡ record { seat = rest / 4 % 4; card = high % 16 * 16 + low % 16 }
    → Filled whole (set answers (i - 1) w) (rest / 16) (low / 16) (high / 16) (east + w.seat % 2) (i - 1)
fill_goes {i = i} r h e =
    let back : i ≡ suc (i - 1) = omega arith in
    fill_one_more (i - 1) (rw back at r) e

pub fill_ends : {whole answers : List Won} {count rest low high east i : ℕ} → length whole ≡ count → Filled whole answers rest low high east i → i ≤ 0
    → ◌≡◌ {A = Tricks} (record { count = count; won = (count - east) ∷ east ∷ []; answers = answers }) (tricks_of whole)
unfolding answers_in tricks_won how_many
fill_ends {whole} {answers} {count} {rest} {low} {high} {east} {i} all r h =
    let ws = seats_of whole in
    let none : i ≡ 0 = omega arith in
    let many = length-map whole (λ (w : Won). w.seat) in
    let none_left = rw none at r in
    let odd : tricks_won 1 ws ≡ east = omega (arith, none_left.sides) in
    let even : tricks_won 0 ws ≡ count - east = omega (arith, sides_share ws, many, odd) in
    rw (even, odd, all, ← none_left.same)

-- ---- the revokes
-- as many revokes as bits are set
pub bytes-many : (byte : ℕ → ℕ) (n bits later : ℕ) → bits < 2 ^ n → length (bytes_in byte n bits later) ≡ ones bits
unfolding bytes_in ones ones_in
bytes-many byte zero bits later h = let none : bits ≡ 0 = omega arith in rw none
bytes-many byte (suc n) bits later h =
    let less : bits / 2 < 2 ^ n = omega (arith, rw pow-suc at h) in
    let rest = bytes_in byte n (bits / 2) (suc later) in
    let many = bytes-many byte n (bits / 2) (suc later) less in
    by_test (eqb (bits % 2) 1)
    (λ (q : eqb (bits % 2) 1 ≡ true). rw q (length-append rest _ ∙ omega (arith, many, ones_step bits, eqb-true (bits % 2) 1 q)))
    (λ (q : eqb (bits % 2) 1 ≡ false). rw q (length-append rest [] ∙ omega (arith, many, ones_step bits, eqb-false (bits % 2) 1 q)))

-- the lowest set bit is the last revoke; t cards after it are none
pub record Lowest (byte : ℕ → ℕ) (n bits later t : ℕ) : Type 0 where
  pub below : t < n
  pub rest : bits / 2 ^ t / 2 < 2 ^ (n - suc t)
  pub split :
      bytes_in byte n bits later
      ≡ bytes_in byte (n - suc t) (bits / 2 ^ t / 2) (later + t + 1) ++ (byte (later + t) ∷ [])

-- the bit is set
lowest_set : (byte : ℕ → ℕ) (n bits later : ℕ) → bits % 2 ≡ 1 → bits < 2 ^ suc n → Lowest byte (suc n) bits later 0
unfolding bytes_in
lowest_set byte n bits later e b =
    let less : suc n - 1 ≡ n = omega arith in
    let whole = div-one bits in
    let next : later + 0 + 1 ≡ suc later = omega arith in
    let here : later + 0 ≡ later = omega arith in
    record {
      below = omega arith;
      rest = rw (less, whole) (omega (arith, rw pow-suc at b));
      split = rw (less, whole, next, here, eq-eqb (bits % 2) 1 e);
    }

-- the bit is clear
lowest_clear : (byte : ℕ → ℕ) (n bits later t : ℕ) → bits % 2 ≡ 0 → Lowest byte n (bits / 2) (suc later) t
    → Lowest byte (suc n) bits later (suc t)
unfolding bytes_in
lowest_clear byte n bits later t e l =
    let less : suc n - suc (suc t) ≡ n - suc t = omega arith in
    let one : 1 + t ≡ suc t = omega arith in
    let half : bits / 2 ^ suc t ≡ bits / 2 / 2 ^ t = sym (shr-shr bits 1 t ∙ ap (λ (x : ℕ). bits / 2 ^ x) one) in
    let next : later + suc t + 1 ≡ suc later + t + 1 = omega arith in
    let here : later + suc t ≡ suc later + t = omega arith in
    record {
      below = omega (arith, l.below);
      rest = rw (less, half) l.rest;
      split = rw (less, half, next, here, ne_eqb (bits % 2) 1 (λ q. omega arith)) (append-nil _ ∙ l.split);
    }

pub lowest : (byte : ℕ → ℕ) (n k bits later : ℕ) → n ≤ k → 0 < bits → bits < 2 ^ n → Lowest byte n bits later (count_trailing_zeros k bits)
unfolding bytes_in count_trailing_zeros
lowest byte zero k bits later hk h b = absurd (omega arith)
lowest byte (suc n) zero bits later hk h b = absurd (omega arith)
lowest byte (suc n) (suc k) bits later hk h b =
    by_test (eqb (bits % 2) 1)
    (λ (q : eqb (bits % 2) 1 ≡ true). rw (eqb-true (bits % 2) 1 q) (lowest_set byte n bits later (eqb-true (bits % 2) 1 q) b))
    (λ (q : eqb (bits % 2) 1 ≡ false).
    let even : bits % 2 ≡ 0 = omega (arith, eqb-false (bits % 2) 1 q) in
    rw even (lowest_clear byte n bits later (count_trailing_zeros k (bits / 2)) even
    (lowest byte n k (bits / 2) (suc later) (omega arith) (omega arith) (omega (arith, rw pow-suc at b)))))

-- the revokes of the cards before `later` ones are still to be listed, by the bits `rest`; n of them
pub record Listing (byte : ℕ → ℕ) (size bits : ℕ) (list : List ℕ) (rest n later : ℕ) : Type 0 where
  pub few : later ≤ 64
  pub below : rest < 2 ^ (64 - later)
  pub many : n ≡ length (bytes_in byte (64 - later) rest later)
  pub room : n ≤ size
  pub places : length list ≡ size
  pub same : bytes_in byte (64 - later) rest later ++ drop n list ≡ padded 0 size (bytes_in byte 64 bits 0)

pub list-begins : {byte : ℕ → ℕ} {size bits n : ℕ} → bits < 2 ^ 64 → n ≡ ones bits → n ≤ size → Listing byte size bits (replicate size 0) bits n 0
list-begins {byte} {size} {bits} {n} b e h =
    let m : length (bytes_in byte 64 bits 0) ≡ n = bytes-many byte 64 bits 0 b ∙ sym e in
    record {
      few = omega arith;
      below = b;
      many = sym m;
      room = h;
      places = length-replicate size 0;
      same = rw m at (padded-rest 0 size (bytes_in byte 64 bits 0) (omega arith));
    }

module _ {byte : ℕ → ℕ} {size bits : ℕ} {list : List ℕ} {rest n later : ℕ} (r : Listing byte size bits list rest n later) (some : rest ≡ 0 → ⊥) where
  abbrev low : ℕ
  low = count_trailing_zeros 64 rest

  pub list-low : Lowest byte (64 - later) rest later low
  list-low = lowest byte (64 - later) 64 rest later (omega arith) (omega (arith, some)) r.below

  split-many : n ≡ suc (length (bytes_in byte (64 - later - suc low) (rest / 2 ^ low / 2) (later + low + 1)))
  split-many =
      let before = bytes_in byte (64 - later - suc low) (rest / 2 ^ low / 2) (later + low + 1) in
      omega (arith, r.many, ap length list-low.split, length-append before (byte (later + low) ∷ []))

  pub list-one : 1 ≤ n
  list-one = omega (arith, split-many)

  pub list-goes : {told : ℕ} → told ≡ byte (later + low)
      → Listing byte size bits (set list (n - 1) told) (rest / 2 ^ low / 2) (n - 1) (later + low + 1)
  list-goes {told} e =
      let l = list-low in
      let fuel : 64 - (later + low + 1) ≡ 64 - later - suc low = omega arith in
      let before = bytes_in byte (64 - later - suc low) (rest / 2 ^ low / 2) (later + low + 1) in
      let back : suc (n - 1) ≡ n = omega (arith, list-one) in
      let whole : (before ++ (told ∷ [])) ++ drop (suc (n - 1)) list ≡ padded 0 size (bytes_in byte 64 bits 0) = rw (e, back, ← l.split) r.same in
      record {
        few = omega (arith, l.below);
        below = rw fuel l.rest;
        many = rw fuel (omega (arith, split-many));
        room = omega (arith, r.room);
        places = length-set list (n - 1) told ∙ r.places;
        same = rw fuel (sym (fill_one before told list (n - 1) (omega (arith, r.places, r.room, list-one))) ∙ whole);
      }

pub none_in : (byte : ℕ → ℕ) (n later : ℕ) → bytes_in byte n 0 later ≡ []
unfolding bytes_in
none_in byte zero later = refl
none_in byte (suc n) later = rw (none_in byte n (suc later))

pub list_ends : {byte : ℕ → ℕ} {size bits : ℕ} {list : List ℕ} {rest n later : ℕ} → Listing byte size bits list rest n later → rest ≡ 0
    → list ≡ padded 0 size (bytes_in byte 64 bits 0)
list_ends {byte} {size} {bits} {list} {rest} {n} {later} r e =
    let none : bytes_in byte (64 - later) rest later ≡ [] = rw e (none_in byte (64 - later) later) in
    let zero : n ≡ 0 = r.many ∙ rw none in
    rw (zero, none) at r.same
