-- What is printed of an input, by the way out of the code, and how long it is. Assumes nothing.
use Prim.Native.Nat.{ℕ, suc, ◌+◌, ◌≤◌, ◌<◌}
use native.Mathlib.Omega.{arith}
use mathlib.Core.Path.{◌≡◌, refl, sym, ap, ◌∙◌}
use mathlib.Core.Bool.{Bool, true, false, ◌&&◌}
use mathlib.Core.List.{List, [], ◌∷◌, ◌++◌}
use borrow.Author.Tests.{eqb-true, eq-eqb, ne_eqb, lt-ltb, le-ltb, leb-true, leb-false, le-leb, lt-leb}
use lib.Dec.{eqb, ltb, leb, lit≤}
use lib.ListN.{length, get_or, take, drop, length-append, length-take}
use lib.Seq.{take_at}
use Rattle.laws.specs.Refusals.{refused_at, given, outside_subset, refuses_game}
use Rattle.writer.specs.Answer.{written_by}
use Rattle.laws.specs.Decimal.{decimal, last_digits, starts_with, all_digits, is_number, value, value_after}
use Rattle.laws.specs.Record.{Parts, encode}
use Rattle.laws.specs.Judge.{Outcome, Outcome.refused as declined, Outcome.accepted}
use Rattle.laws.specs.Writing.{write_by, record_left}
use Rattle.laws.specs.Lent.{◌over◌}
use Rattle.laws.specs.Sheet.{newline}
use Rattle.laws.specs.Slip.{refusal_line}
use Rattle.laws.specs.PbnReading.{parse}
use Rattle.laws.specs.Pbn.{pbn_outcome, read_pbn}
use Rattle.laws.specs.PbnInput.{first_line, ends_line, behind_line, table_on, printed, over_line, pbn_printed}
use Rattle.laws.proofs.Tests.{by_test, not_both, and_left}
use Rattle.laws.proofs.Counts.{every_below, every_below_lem}
use Rattle.laws.proofs.Lengths.{at_most_505}
use Rattle.laws.proofs.PbnNumbers.{said-refused, said-lawful}
use Rattle.parts.specs.Parts.{part_length}
use Rattle.text.proofs.Printed.{length_by}

-- ---- the first line
pub line-length : (s : List ℕ) → part_length newline s ≡ length (first_line s)
unfolding part_length first_line
line-length [] = refl
line-length (b ∷ s) =
    by_test (eqb b newline)
    (λ (q : eqb b newline ≡ true). rw q)
    (λ (q : eqb b newline ≡ false). rw q (ap suc (line-length s)))

line-front : (s : List ℕ) → take (length (first_line s)) s ≡ first_line s
unfolding first_line
line-front [] = refl
line-front (b ∷ s) =
    by_test (eqb b newline)
    (λ (q : eqb b newline ≡ true). rw q)
    (λ (q : eqb b newline ≡ false). rw q (ap (λ (l : List ℕ). b ∷ l) (line-front s)))

line-within : (s : List ℕ) → length (first_line s) ≤ length s
line-within s = omega (arith, ap length (line-front s), length-take (length (first_line s)) s)

-- ---- the table
starts_is : (k : ℕ) (s : List ℕ) → 0 < length s → starts_with k s ≡ eqb (get_or s 0 0) k
unfolding starts_with
starts_is k [] h = absurd (omega arith)
starts_is k (b ∷ s) h = refl

pub some_byte : (s : List ℕ) → is_number s ≡ true → 0 < length s
unfolding is_number
some_byte s e = leb-true 1 (length s) (and_left (leb 1 (length s)) _ e)

module _ (line : List ℕ) where
  pub no_table_lem : is_number line ≡ false → 0 ≡ table_on line
  unfolding table_on
  no_table_lem e = rw e

  module _ (number : is_number line ≡ true) where
    pub long-table : 3 < length line → 0 ≡ table_on line
    unfolding table_on
    long-table h = rw (number, lt-leb (length line) 3 h)

    module _ (few : length line ≤ 3) where
      pub zero-first : get_or line 0 0 ≡ 48 → 0 ≡ table_on line
      unfolding table_on
      zero-first e = rw (number, le-leb (length line) 3 few, starts_is 48 line (some_byte line number), eq-eqb (get_or line 0 0) 48 e)

      pub table_is : (get_or line 0 0 ≡ 48 → ⊥) → value line ≡ table_on line
      unfolding table_on
      table_is e = rw (number, le-leb (length line) 3 few, starts_is 48 line (some_byte line number), ne_eqb (get_or line 0 0) 48 e)

-- a table's number in decimal is read as that number: a test that the checker computes
tells_table : ℕ → Bool
tells_table n = eqb (table_on (decimal n)) n

all_told : every_below 1000 tells_table ≡ true
unfolding tells_table table_on decimal last_digits starts_with all_digits is_number value_after
all_told = refl

pub tables : (table : ℕ) → table ≤ 999 → table_on (decimal table) ≡ table
unfolding tells_table
tables n h = eqb-true _ _ (every_below_lem 1000 tells_table all_told n (omega arith))

-- ---- a text at a table
module _ (t : List ℕ) (table : ℕ) where
  abbrev said : Outcome
  said = pbn_outcome (parse t) table

  room-is : (p : Parts) → said ≡ accepted p → ltb 505 (length (encode p)) ≡ false
  room-is p e = le-ltb 505 (length (encode p)) (at_most_505 p (said-lawful t table e))

  pub as_refusal : {k place : ℕ} → refused_at k place ≡ written_by (read_pbn t table 505) → printed said ≡ refusal_line k place
  unfolding printed read_pbn
  as_refusal {k} {place} r = go said refl
    where
      go : (o : Outcome) → said ≡ o → printed o ≡ refusal_line k place
      go (declined m at) e =
          let f : refused_at k place ≡ refused_at m at = r ∙ ap (λ o. written_by (write_by o 505)) e in
          let same : (m ≡ k) × (at ≡ place) = (cc, cc) in
          rw (same.0, same.1) refl
      go (accepted p) e =
          let f : refused_at k place ≡ given (length (encode p)) = r ∙ ap (λ o. written_by (write_by o 505)) e ∙ rw (room-is p e) refl in
          absurd cc

  module _ {n : ℕ} (en : given n ≡ written_by (read_pbn t table 505)) where
    -- the parts that were written
    parts : (p : Parts) × (said ≡ accepted p) × (n ≡ length (encode p))
    unfolding read_pbn
    parts = go said refl
      where
        go : (o : Outcome) → said ≡ o → (p : Parts) × (said ≡ accepted p) × (n ≡ length (encode p))
        go (declined m at) e = absurd (let f = en ∙ ap (λ o. written_by (write_by o 505)) e in cc)
        go (accepted p) e =
            let f : given n ≡ given (length (encode p)) = en ∙ ap (λ o. written_by (write_by o 505)) e ∙ rw (room-is p e) refl in
            (p, e, cc)

    pub as_record : (old left : List ℕ) → left ≡ record_left (read_pbn t table 505) old → printed said ≡ take n left
    unfolding printed read_pbn record_left ◌over◌
    as_record old left el =
        let p = parts.0 in
        let l : left ≡ encode p ++ drop (length (encode p)) old
        = el ∙ ap (λ o. record_left (write_by o 505) old) parts.1 ∙ rw (room-is p parts.1) refl in
        rw (parts.1, l) (sym (take_at (encode p) (drop (length (encode p)) old) n (sym parts.2)))

    pub record_low : n ≤ 505
    record_low = omega (arith, parts.2, at_most_505 parts.0 (said-lawful t table parts.1))

-- ---- the whole input
module _ (s : List ℕ) where
  pub held-not : 65536 < length s → pbn_printed s ≡ over_line
  unfolding pbn_printed
  held-not h = rw (lt-ltb 65536 (length s) h)

  module _ (held : length s ≤ 65536) (end : ℕ) (ep : end ≡ part_length newline s) where
    ee : end ≡ length (first_line s)
    ee = ep ∙ line-length s

    pub no_text : end ≡ length s → pbn_printed s ≡ refusal_line outside_subset 1
    unfolding pbn_printed ends_line
    no_text h = rw (le-ltb 65536 (length s) held, le-ltb (length (first_line s)) (length s) (omega (arith, ee)))

    module _ (more : end ≡ length s → ⊥) where
      pub end_within : end < length s
      end_within = omega (arith, line-within s, ee, more)

      pub of-text : (line text : List ℕ) → line ≡ take end s → text ≡ drop (end + 1) s → (table : ℕ) → table ≡ table_on line
          → pbn_printed s ≡ printed (pbn_outcome (parse text) table)
      unfolding pbn_printed ends_line behind_line
      of-text line text el et table eb =
          let here : line ≡ first_line s = el ∙ ap (λ n. take n s) ee ∙ line-front s in
          let next : end + 1 ≡ suc (length (first_line s)) = omega (arith, ee) in
          let rest : text ≡ drop (suc (length (first_line s))) s = et ∙ ap (λ n. drop n s) next in
          let ends : length (first_line s) < length s = omega (arith, end_within, ee) in
          rw (le-ltb 65536 (length s) held, lt-ltb (length (first_line s)) (length s) ends, eb, here, rest)

-- ---- how long it is
refusal-short : (n place : ℕ) → n < 100 → place < 1024 → length (refusal_line n place) ≤ 8
unfolding refusal_line
refusal-short n place h l = simp length-append (omega (arith, length_by 1 n h, length_by 3 place (omega arith)))

below_100 : (n : ℕ) → refuses_game n ≡ true → n < 100
below_100 n e =
    by_test (leb n 33)
    (λ (q : leb n 33 ≡ true). omega (arith, leb-true n 33 q))
    (λ (q : leb n 33 ≡ false).
    let high = leb-false n 33 q in
    not_both (refuses_game n) e (simp (
      ne_eqb n 3 (λ e. omega arith),
      ne_eqb n 4 (λ e. omega arith),
      lt-leb n 9 (omega arith),
      ne_eqb n 12 (λ e. omega arith),
      ne_eqb n 23 (λ e. omega arith),
      q,
      and_no (leb 6 n),
      and_no (leb 32 n),
    )))
  where
    and_no : (b : Bool) → (b && false) ≡ false
    and_no true = refl
    and_no false = refl

said-short : (t : List ℕ) (table : ℕ) (o : Outcome) → pbn_outcome (parse t) table ≡ o → length (printed o) ≤ 505
unfolding printed
said-short t table (declined n place) e =
    let f = said-refused t table e in
    omega (arith, refusal-short n place (below_100 n f.number) f.place_lt)
said-short t table (accepted p) e = at_most_505 p (said-lawful t table e)

pub enough : (s : List ℕ) → length (pbn_printed s) ≤ 505
unfolding pbn_printed
enough s =
    by_test (ltb 65536 (length s))
    (λ (q : ltb 65536 (length s) ≡ true). rw q (lit≤ tt))
    (λ (q : ltb 65536 (length s) ≡ false). rw q (by_test (ends_line s)
    (λ (r : ends_line s ≡ true). rw r (said-short (behind_line s) (table_on (first_line s)) _ refl))
    (λ (r : ends_line s ≡ false). rw r (omega (arith, refusal-short 32 1 (omega arith) (omega arith))))))
