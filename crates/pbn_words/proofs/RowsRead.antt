-- A line of words read word by word: what was read so far with what the rest of the line gives is what the whole line gives. Assumes nothing.
use Prim.Native.Nat.{ℕ, suc, ◌+◌, ◌-◌, ◌≤◌, ◌<◌}
use native.Mathlib.Omega.{arith}
use mathlib.Core.Path.{◌≡◌, refl, sym, ap, ap₂, ◌∙◌}
use mathlib.Core.Bool.{Bool, true, false}
use mathlib.Core.List.{List, [], ◌∷◌, ◌++◌, append_assoc}
use borrow.Author.Tests.{le-ltb, lt-ltb, eqb-true, eqb-false}
use lib.Dec.{ltb, eqb}
use lib.ListN.{length, take, drop, set, replicate, length-append, length-drop}
use lib.Seq.{set_at, drop-drop, take_all}
use Rattle.laws.specs.PbnText.{space}
use Rattle.laws.specs.PbnReading.{Read, misses, reads, on_read, numbers_of}
use Rattle.laws.proofs.Tests.{by_test}
use Rattle.laws.proofs.PbnWords.{row_sound}
use Rattle.std.specs.Prelude.{Option, Some, None}
use Rattle.std.proofs.lemmas.Option.{none-some, same_Some}
use Rattle.parts.specs.Parts.{part_length}
use Rattle.pbn_words.specs.WordNumbers.{if_read, word_of, words, word_in}
use Rattle.pbn_words.specs.RowNumbers.{row_on, row_by}
use Rattle.pbn_words.specs.declared.rows.Row.{Row}
use Rattle.parts.proofs.PartsOf.{part_within, first_part, last_part}

-- numbers before others
abbrev prefixed : List ℕ → Read (List ℕ) → Read (List ℕ)
prefixed l r = on_read r (λ codes. reads (l ++ codes))

-- so many numbers were read, up to a place of the line
pub record Reached (line : List ℕ) (cards : Bool) (numbers : List ℕ) (count at : ℕ) : Type 0 where
  pub before : List ℕ
  pub as_many : length before ≡ count
  pub few : count ≤ 4
  pub padded : numbers ≡ before ++ replicate (4 - count) 0
  pub within : at ≤ length line
  pub same : row_on cards line ≡ prefixed before (row_on cards (drop at line))

prefixed_none : (r : Read (List ℕ)) → r ≡ prefixed [] r
prefixed_none misses = refl
prefixed_none (reads l) = refl

pub begins : (line : List ℕ) (cards : Bool) → Reached line cards (replicate 4 0) 0 0
begins line cards =
    record { before = []; as_many = refl; few = omega arith; padded = refl; within = omega arith; same = prefixed_none (row_on cards line) }

-- ---- what is read, as the code answers it
pub says_nothing : {A : Type 0} (o : Read A) {r : Option A} → r ≡ if_read o → r ≡ None → o ≡ misses
says_nothing misses e z = refl
says_nothing (reads k) e z = absurd (none-some k (sym z ∙ e))

pub says : {A : Type 0} (o : Read A) {r : Option A} {a : A} → r ≡ if_read o → r ≡ Some a → o ≡ reads a
says misses {r} {a} e z = absurd (none-some a (sym e ∙ z))
says (reads k) {r} {a} e z = ap reads (same_Some k a (sym e ∙ z))

-- ---- the first word of what is left of the line
module _ (line : List ℕ) (cards : Bool) (at end : ℕ) (inside : at ≤ length line) (e : end ≡ at + part_length space (drop at line)) where
  abbrev left : List ℕ
  left = drop at line

  abbrev word : List ℕ
  word = take (end - at) left

  pub end_after : at ≤ end
  end_after = omega arith

  pub end_within : end ≤ length line
  end_within = omega (arith, part_within space (drop at line), length-drop at line)

  -- it is the last
  last_word : end ≡ length line → row_on cards left ≡ on_read (word_in cards word) (λ n. reads (n ∷ []))
  unfolding numbers_of
  last_word z =
      let all : part_length space left ≡ length left = omega (arith, length-drop at line) in
      let same : word ≡ left = take_all (end - at) left (omega (arith, length-drop at line)) in
      rw (last_part space left all, same)

  -- another follows it
  more-words : (end ≡ length line → ⊥) → row_on cards left ≡ on_read (word_in cards word) (λ n. on_read (row_on cards (drop (end + 1) line)) (λ l. reads (n ∷ l)))
  unfolding numbers_of
  more-words z =
      let n : end - at ≡ part_length space left = omega arith in
      let fewer : part_length space left < length left = omega (arith, part_within space left, length-drop at line, end_within) in
      let next : at + suc (part_length space left) ≡ end + 1 = omega arith in
      rw (n, first_part space left fewer, drop-drop (suc (part_length space left)) at line, next)

  -- a word that says nothing
  nothing_here : word_in cards word ≡ misses → row_on cards left ≡ misses
  nothing_here q =
      by_test (eqb end (length line))
      (λ (t : eqb end (length line) ≡ true). last_word (eqb-true _ _ t) ∙ ap (λ r. on_read r (λ n. reads (n ∷ []))) q)
      (λ (t : eqb end (length line) ≡ false).
      more-words (eqb-false _ _ t) ∙ ap (λ r. on_read r (λ n. on_read (row_on cards (drop (end + 1) line)) (λ l. reads (n ∷ l)))) q)

prefixed_more : (l : List ℕ) (n : ℕ) (r : Read (List ℕ)) → prefixed l (on_read r (λ m. reads (n ∷ m))) ≡ prefixed (l ++ (n ∷ [])) r
prefixed_more l n misses = refl
prefixed_more l n (reads m) = ap reads (sym (append_assoc l (n ∷ []) m))

module _ (line : List ℕ) (cards : Bool) (numbers : List ℕ) (count at : ℕ) (r : Reached line cards numbers count at) where
  -- four numbers, and something is left
  some_number : (s row : List ℕ) → row_on cards s ≡ reads row → 1 ≤ length row
  some_number s row e = (row_sound (word_of cards) (words cards) s row e).1

  pub too_many : (count < 4 → ⊥) → None ≡ row_by (row_on cards line)
  unfolding row_by
  too_many h = go (row_on cards (drop at line)) refl r.same
    where
      go : (o : Read (List ℕ)) → row_on cards (drop at line) ≡ o → row_on cards line ≡ prefixed r.before o → None ≡ row_by (row_on cards line)
      go misses q w = rw w
      go (reads row) q w =
          let many : 4 < length (r.before ++ row)
          = omega (arith, length-append r.before row, some_number (drop at line) row q, r.as_many, r.few, r.within) in
          rw (w, lt-ltb 4 (length (r.before ++ row)) many)

  module _ (end : ℕ) (e : end ≡ at + part_length space (drop at line)) {said_by : Option ℕ}
      (ne : said_by ≡ if_read (word_in cards (take (end - at) (drop at line)))) where
    abbrev here : List ℕ
    here = take (end - at) (drop at line)

    pub stops : said_by ≡ None → None ≡ row_by (row_on cards line)
    unfolding row_by
    stops z =
        let nothing = nothing_here line cards at end r.within e (says_nothing (word_in cards here) ne z) in
        let all : row_on cards line ≡ misses = r.same ∙ ap (prefixed r.before) nothing in
        rw all

    module _ {n : ℕ} (some : said_by ≡ Some n) (room : count < 4) where
      abbrev next : List ℕ
      next = r.before ++ (n ∷ [])

      next-many : length next ≡ count + 1
      next-many = omega (arith, length-append r.before (n ∷ []), r.as_many)

      put : set numbers count n ≡ next ++ replicate (4 - (count + 1)) 0
      put =
          let k : 4 - count ≡ suc (4 - (count + 1)) = omega arith in
          ap (λ l. set l count n) (r.padded ∙ ap (λ m. r.before ++ replicate m 0) k)
          ∙ set_at r.before 0 (replicate (4 - (count + 1)) 0) n count r.as_many
          ∙ sym (append_assoc r.before (n ∷ []) (replicate (4 - (count + 1)) 0))

      said : word_in cards here ≡ reads n
      said = says (word_in cards here) ne some

      pub ends : end ≡ length line → ◌≡◌ {A = Option Row} (Some (record { count = count + 1; numbers = set numbers count n })) (row_by (row_on cards line))
      unfolding row_by
      ends z =
          let all : row_on cards line ≡ reads next
          = r.same ∙ ap (prefixed r.before) (last_word line cards at end r.within e z ∙ ap (λ o. on_read o (λ m. reads (m ∷ []))) said) in
          let few : ltb 4 (length next) ≡ false = le-ltb 4 (length next) (omega (arith, next-many)) in
          let whole : ◌≡◌ {A = Row}
          (record { count = count + 1; numbers = set numbers count n })
          (record { count = length next; numbers = next ++ replicate (4 - length next) 0 })
          = ap₂ (λ c l. record { count = c; numbers = l }) (sym next-many) (put ∙ ap (λ m. next ++ replicate (4 - m) 0) (sym next-many)) in
          rw (all, few) (ap Some whole)

      pub goes : (end ≡ length line → ⊥) → Reached line cards (set numbers count n) (count + 1) (end + 1)
      goes z =
          record {
            before = next;
            as_many = next-many;
            few = omega arith;
            padded = put;
            within = omega (arith, end_within line cards at end r.within e);
            same =
                r.same
                ∙ ap (prefixed r.before) (more-words line cards at end r.within e z
                ∙ ap (λ o. on_read o (λ m. on_read (row_on cards (drop (end + 1) line)) (λ l. reads (m ∷ l)))) said)
                ∙ prefixed_more r.before n (row_on cards (drop (end + 1) line));
          }
