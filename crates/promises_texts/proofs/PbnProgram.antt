-- What the program that reads Portable Bridge Notation prints, proved. Assumes nothing.
use Prim.Native.Nat.{ℕ, suc, ◌+◌, ◌≤◌, ◌<◌}
use native.Mathlib.Omega.{arith}
use mathlib.Core.Path.{◌≡◌, refl, sym, ap, ◌∙◌}
use mathlib.Core.Bool.{true, false}
use mathlib.Core.List.{List, [], ◌∷◌, ◌++◌}
use borrow.Author.Tests.{le-ltb, lt-ltb, leb-true, leb-false}
use lib.Dec.{eqb, ltb, leb}
use lib.ListN.{length, take, drop, length-append}
use lib.Seq.{take_all, length-take-le}
use Rattle.laws.specs.Choice.{some}
use Rattle.laws.specs.Refusals.{outside_subset, short_record_buffer}
use Rattle.laws.specs.Record.{encode}
use Rattle.laws.specs.Judge.{Outcome, Outcome.refused as declined, Outcome.accepted}
use Rattle.laws.specs.Writing.{refused, written, write_by}
use Rattle.laws.specs.Sheet.{newline}
use Rattle.laws.specs.Slip.{refusal_line}
use Rattle.laws.specs.PbnReading.{parse}
use Rattle.laws.specs.Pbn.{pbn_outcome, read_pbn}
use Rattle.laws.specs.PbnInput.{first_line, ends_line, behind_line, table_on, printed, most_input, over_line, pbn_printed}
use Rattle.laws.proofs.Tests.{by_test, or_left, or_right}
use Rattle.promises_texts.specs.Pbn.{PbnProgram}
use Rattle.promises_texts.proofs.Pbn as Text

-- ---- the first line
module _ (t : List ℕ) where
  first-line : (line : List ℕ) → some (λ b. eqb b newline) line ≡ false → first_line (line ++ (newline ∷ t)) ≡ line
  unfolding first_line some
  first-line [] e = refl
  first-line (b ∷ line) e =
      rw (or_left (eqb b newline) _ e) (ap (λ (l : List ℕ). b ∷ l) (first-line line (or_right (eqb b newline) _ e)))

no_end : (s : List ℕ) → some (λ b. eqb b newline) s ≡ false → first_line s ≡ s
unfolding first_line some
no_end [] e = refl
no_end (b ∷ s) e = rw (or_left (eqb b newline) _ e) (ap (λ (l : List ℕ). b ∷ l) (no_end s (or_right (eqb b newline) _ e)))

prints : (line t : List ℕ) → some (λ b. eqb b newline) line ≡ false → length (line ++ (newline ∷ t)) ≤ most_input
    → pbn_printed (line ++ (newline ∷ t)) ≡ printed (pbn_outcome (parse t) (table_on line))
unfolding pbn_printed ends_line behind_line
prints line t e held =
    let first = first-line t line e in
    let n : length (line ++ (newline ∷ t)) ≡ length line + suc (length t) = length-append line (newline ∷ t) in
    let rest : drop (suc (length line)) (line ++ (newline ∷ t)) ≡ t = behind line in
    let ends : length line < length (line ++ (newline ∷ t)) = omega arith in
    rw (le-ltb most_input (length (line ++ (newline ∷ t))) held, first, lt-ltb (length line) (length (line ++ (newline ∷ t))) ends, rest)
  where
    behind : (l : List ℕ) → drop (suc (length l)) (l ++ (newline ∷ t)) ≡ t
    behind [] = refl
    behind (b ∷ l) = behind l

no_line : (input : List ℕ) → some (λ b. eqb b newline) input ≡ false → length input ≤ most_input → pbn_printed input ≡ refusal_line outside_subset 1
unfolding pbn_printed ends_line
no_line s e held = rw (le-ltb most_input (length s) held, no_end s e, le-ltb (length s) (length s) (omega arith))

-- ---- more bytes than are held
too_long : (input : List ℕ) → most_input < length input → pbn_printed input ≡ over_line
unfolding pbn_printed
too_long s h = rw (lt-ltb most_input (length s) h)

first_bytes : (input : List ℕ) → pbn_printed (take 65537 input) ≡ pbn_printed input
first_bytes s =
    by_test (leb (length s) most_input)
    (λ (q : leb (length s) most_input ≡ true). ap pbn_printed (take_all 65537 s (omega (arith, leb-true (length s) most_input q))))
    (λ (q : leb (length s) most_input ≡ false).
    let high = leb-false (length s) most_input q in
    let n : length (take 65537 s) ≡ 65537 = length-take-le 65537 s (omega arith) in
    too_long (take 65537 s) (omega arith) ∙ sym (too_long s high))

-- ---- what is said of a text
record_printed : (t : List ℕ) (table room : ℕ) (bytes : List ℕ) → read_pbn t table room ≡ written bytes → printed (pbn_outcome (parse t) table) ≡ bytes
unfolding read_pbn printed
record_printed t table room bytes e = go (pbn_outcome (parse t) table) e
  where
    go : (o : Outcome) → write_by o room ≡ written bytes → printed o ≡ bytes
    go (declined n place) w = let z : ◌≡◌ {A = ℕ} 0 1 = cc in absurd (omega arith)
    go (accepted p) w =
        by_test (ltb room (length (encode p)))
        (λ (r : ltb room (length (encode p)) ≡ true).
        let x : refused short_record_buffer 0 ≡ written bytes = rw r at w in
        let z : ◌≡◌ {A = ℕ} 0 1 = cc in
        absurd (omega arith))
        (λ (r : ltb room (length (encode p)) ≡ false). let x : written (encode p) ≡ written bytes = rw r at w in cc)

refusal_printed : (t : List ℕ) (table n place : ℕ) → read_pbn t table 296 ≡ refused n place → printed (pbn_outcome (parse t) table) ≡ refusal_line n place
unfolding read_pbn printed
refusal_printed t table n place e = go (pbn_outcome (parse t) table) refl e
  where
    go : (o : Outcome) → pbn_outcome (parse t) table ≡ o → write_by o 296 ≡ refused n place → printed o ≡ refusal_line n place
    go (declined m at) q w = let ea : m ≡ n = cc in let eb : at ≡ place = cc in rw (ea, eb)
    go (accepted p) q w =
        by_test (ltb 296 (length (encode p)))
        (λ (r : ltb 296 (length (encode p)) ≡ true).
        absurd (Text.enough t table 296 0 (omega arith) (ap (λ o. write_by o 296) q ∙ rw r)))
        (λ (r : ltb 296 (length (encode p)) ≡ false).
        let x : written (encode p) ≡ refused n place = rw r at w in
        let z : ◌≡◌ {A = ℕ} 0 1 = cc in
        absurd (omega arith))

pub pbn_program : PbnProgram
pbn_program =
    record {
      prints = prints;
      record_printed = record_printed;
      refusal_printed = refusal_printed;
      no_line = no_line;
      too_long = too_long;
      first_bytes = first_bytes;
    }
