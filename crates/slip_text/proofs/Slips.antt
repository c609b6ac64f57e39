-- The text of the judge's items is the slip, and it is short. Assumes nothing.
use Prim.Native.Nat.{ℕ, ◌≤◌, ◌<◌}
use native.Mathlib.Omega.{arith}
use mathlib.Core.Path.{◌≡◌, refl, sym, ap, ◌∙◌}
use mathlib.Core.Bool.{true, false}
use mathlib.Core.List.{List, [], ◌∷◌, ◌++◌, append_assoc, append-nil}
use lib.Dec.{leb, lit≤}
use borrow.Author.Tests.{leb-true, leb-false, le-leb, lt-leb}
use lib.IntN.{ℤ}
use lib.ListN.{length, length-append}
use Rattle.laws.specs.Auction.{passed_out}
use Rattle.laws.specs.Record.{Parts}
use Rattle.laws.specs.Reading.{Reading, Reading.refused as stopped, Reading.found}
use Rattle.laws.specs.Judge.{read_record, Outcome, Outcome.refused, Outcome.accepted, outcome, least_rooms, judge_of}
use Rattle.laws.specs.Judgement.{calls_of, declarer_of, stake_of, after_of, score_of}
use Rattle.laws.specs.Decimal.{last_digits, decimal, signed_decimal}
use Rattle.laws.specs.Lawful.{Lawful}
use Rattle.laws.specs.Refusals.{refuses_record, refused_at, given}
use Rattle.laws.specs.Slip.{Name, is_nothing, items_among, items_of, word_of, sum_word, line, lines, refusal_line, slip_of, slip, most_slip_bytes}
use Rattle.laws.proofs.Accepts.{least-enough, judged, lent_is}
use Rattle.laws.proofs.Numbered.{Ruled, ruled}
use Rattle.laws.proofs.Tests.{by_test, not_both}
use Rattle.explanation.specs.declared.slip.Items.{Items}
use Rattle.explanation.specs.Explained.{no_items, items_in, explained_of}
use Rattle.explanation.proofs.Explaining.{bid-parts, out_parts, parts_possible}
use Rattle.text.proofs.Printed.{length_by}
use Rattle.slip_text.specs.Text.{item_line, items_text}
use Rattle.slip_text.proofs.Enough.{contract-le}

-- ---- the text of the items
-- a name's line, and those behind it
next-lines : (points : Name → ℤ) (name : Name) (names : List Name)
    → lines (items_among points (name ∷ names)) ≡ item_line (word_of name) (points name) ++ lines (items_among points names)
unfolding items_among lines item_line
next-lines points name names =
    by_test (is_nothing (points name))
    (λ (q : is_nothing (points name) ≡ true). rw q)
    (λ (q : is_nothing (points name) ≡ false). rw q)

no_lines : (points : Name → ℤ) → lines (items_among points []) ≡ []
unfolding items_among lines
no_lines points = refl

pub items-text : (p : Parts) → items_text (items_in p) ≡ lines (items_of p) ++ line sum_word (score_of p)
unfolding items_in items_of
items-text p = simp (next-lines, no_lines, append_assoc, append-nil)

out_short : length (items_text no_items) ≤ most_slip_bytes
unfolding item_line line signed_decimal decimal last_digits
out_short = lit≤ tt

-- ---- of what is explained
refused-slip : (o : Outcome) {n place : ℕ} → refused_at n place ≡ explained_of o → slip_of o ≡ refusal_line n place
unfolding explained_of slip_of
refused-slip (refused m at) {n} {place} e =
    let same : (m ≡ n) × (at ≡ place) = (cc, cc) in
    rw (same.0, same.1)
refused-slip (accepted p) e = absurd cc

pub granted_slip : (o : Outcome) {i : Items} → given i ≡ explained_of o → (p : Parts) × (o ≡ accepted p) × (i ≡ items_in p)
unfolding explained_of
granted_slip (refused m at) e = absurd cc
granted_slip (accepted p) e = (p, refl, cc)

-- parts that the judge accepts are lawful
accepted-lawful : (bytes : List ℕ) (p : Parts) → judge_of bytes least_rooms ≡ accepted p → Lawful p
accepted-lawful bytes p q = go (read_record bytes 0) refl (sym (lent_is least_rooms least-enough bytes) ∙ q)
  where
    go : (r : Reading Parts) → read_record bytes 0 ≡ r → outcome r ≡ accepted p → Lawful p
    go (stopped n place) e o = absurd (let z : ◌≡◌ {A = ℕ} 0 1 = cc in omega arith)
    go (found a end) e o = let same : a ≡ p = cc in (judged bytes p end (e ∙ ap (λ (x : Parts). found x end) same)).0.0

-- lawful parts have a short slip
pub parts-short : (p : Parts) → Lawful p → length (items_text (items_in p)) ≤ most_slip_bytes
parts-short p ok =
    by_test (passed_out (calls_of p))
    (λ (q : passed_out (calls_of p) ≡ true). rw (← out_parts p q) out_short)
    (λ (q : passed_out (calls_of p) ≡ false). rw (← bid-parts p q) (contract-le (declarer_of p) (stake_of p) (after_of p) (parts_possible p ok q)))

module _ (bytes : List ℕ) where
  pub slip-refused : {n place : ℕ} → refused_at n place ≡ explained_of (judge_of bytes least_rooms) → slip bytes ≡ refusal_line n place
  unfolding slip
  slip-refused e = refused-slip (judge_of bytes least_rooms) e

  module _ {i : Items} (e : given i ≡ explained_of (judge_of bytes least_rooms)) where
    of_parts : (p : Parts) × (judge_of bytes least_rooms ≡ accepted p) × (i ≡ items_in p)
    of_parts = granted_slip (judge_of bytes least_rooms) e

    pub slip_granted : slip bytes ≡ items_text i
    unfolding slip slip_of
    slip_granted = ap slip_of of_parts.1 ∙ sym (items-text of_parts.0) ∙ ap items_text (sym of_parts.2)

    pub granted_short : length (items_text i) ≤ most_slip_bytes
    granted_short = rw of_parts.2 (parts-short of_parts.0 (accepted-lawful bytes of_parts.0 of_parts.1))

-- ---- every slip has at most 72 bytes, whatever the bytes that it is of
number-le : (n : ℕ) → refuses_record n ≡ true → n ≤ 27
number-le n e =
    by_test (leb n 27)
    (λ (q : leb n 27 ≡ true). leb-true n 27 q)
    (λ (q : leb n 27 ≡ false).
    let above : 27 < n = leb-false n 27 q in
    not_both (refuses_record n) e (rw (le-leb 1 n (omega arith), lt-leb n 16 (omega arith), le-leb 23 n (omega arith), q)))

refused-short : (n place : ℕ) → refuses_record n ≡ true → place < 1024 → length (refusal_line n place) ≤ most_slip_bytes
unfolding refusal_line
refused-short n place e h =
    simp length-append (omega (arith, length_by 1 n (omega (arith, number-le n e)), length_by 3 place (omega arith)))

-- the theorem
pub enough : (bytes : List ℕ) → length (slip bytes) ≤ most_slip_bytes
unfolding slip slip_of
enough bytes = go (judge_of bytes least_rooms) refl (ruled bytes least_rooms)
  where
    go : (o : Outcome) → judge_of bytes least_rooms ≡ o → Ruled o → length (slip_of o) ≤ most_slip_bytes
    go (refused n place) e f = refused-short n place f.number f.place_lt
    go (accepted p) e f = rw (← items-text p) (parts-short p (accepted-lawful bytes p e))
