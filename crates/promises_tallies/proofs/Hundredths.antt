-- The shares of a result, proved. Assumes nothing.
use Prim.Native.Nat.{ℕ, ◌+◌, ◌*◌, ◌/◌, ◌≤◌, ◌<◌}
use native.Mathlib.Nat.{div-add-mod', mul-le-mul_left}
use native.Mathlib.Omega.{arith}
use mathlib.Core.Path.{◌≡◌, refl, sym, ap, ◌∙◌}
use mathlib.Core.Bool.{true, false}
use mathlib.Core.List.{List}
use borrow.Author.Tests.{eq-eqb, ne_eqb, leb-true, leb-false}
use lib.Dec.{eqb, leb}
use lib.IntN.{ℤ}
use lib.ListN.{length, length-append}
use Rattle.laws.specs.Bytes.{Bytes}
use Rattle.laws.specs.CellSheet.{hundredths, share, alone_word, two_decimals}
use Rattle.laws.specs.Law77.{valid_score}
use Rattle.laws.specs.Law78.{occurrences, ns_matchpoints, ew_matchpoints}
use Rattle.laws.specs.Percentages.{most_matchpoints}
use Rattle.laws.specs.Record.{bytes_of}
use Rattle.laws.specs.Refusals.{refused_at, placed}
use Rattle.laws.specs.Tally.{Result, Tree, list_of, asked, ◌or_else◌, Refusal, refusal, score_refusal, given_refusal}
use Rattle.laws.proofs.Bytes.{length-bytes, bytes-of}
use Rattle.laws.proofs.Comparisons.{both_most}
use Rattle.laws.proofs.Tests.{by_test}
use Rattle.tally.proofs.InBytes.{bytes_append}
use Rattle.tally.specs.declared.Tally.{Tally}
use Rattle.tally.specs.InBytes.{tally_in}
use Rattle.tally.specs.Tallies.{results_in, well_formed}
use Rattle.hundredths.specs.Shares.{BothShares, share_in, shares_asked, shares_of_tally}
use Rattle.hundredths.proofs.Told.{by_points, by_points_lem, by_asked}
use Rattle.tally_calls.specs.Calls.{in_room, spelled, result_of, shares_bytes, hundredths_call}
use Rattle.promises_tallies.specs.Demand3.{left}
use Rattle.promises_tallies.specs.Demand3Bytes.{left_bytes}
use Rattle.promises_tallies.specs.Hundredths.{OfShares, Hundredths}
use Rattle.promises_tallies.specs.Percentages.{Compared}
use Rattle.promises_tallies.specs.TallyBytes.{OfCall}
use Rattle.promises_tallies.proofs.Demand3.{points-left}
use Rattle.promises_tallies.proofs.Demand3Bytes.{demand_3_bytes}
use Rattle.promises_tallies.proofs.TallyBytes.{in_room_lem}
use Rattle.promises_tallies.proofs.TallyNumbers.{Good, Allowed, spelled-good, asked-allowed, of-tally}

-- ---- the number and the bytes
shares_allowed : (l : List ℤ) (s : ℤ) → Allowed (placed (shares_asked l s))
unfolding shares_asked
shares_allowed l s =
    by_test (valid_score s)
    (λ (v : valid_score s ≡ true).
    by_test (eqb (occurrences s l) 0)
    (λ (o : eqb (occurrences s l) 0 ≡ true). rw (v, o) (refl, omega arith))
    (λ (o : eqb (occurrences s l) 0 ≡ false). rw (v, o) tt))
    (λ (v : valid_score s ≡ false). rw v (refl, omega arith))

four_bytes : (s : BothShares) → (length (shares_bytes s) ≡ 4) × Bytes (shares_bytes s)
unfolding shares_bytes
four_bytes s = (
  length-append (bytes_of 2 s.ns) (bytes_of 2 s.ew) ∙ omega (arith, length-bytes 2 s.ns, length-bytes 2 s.ew),
  bytes_append (bytes_of 2 s.ns) (bytes_of 2 s.ew) (bytes-of 2 s.ns) (bytes-of 2 s.ew),
)

good_shares : (t : Tally) (r : Result) → Good 4 (spelled shares_bytes (shares_of_tally t r))
unfolding shares_of_tally
good_shares t r =
    spelled-good 4 shares_bytes (shares_of_tally t r)
    (of-tally t (asked shares_asked (results_in t) r) (asked-allowed shares_asked shares_allowed (results_in t) r)) four_bytes

module _ (tally : List ℕ) (score : ℤ) (holders : List ℕ) where
  abbrev t : Tally
  t = tally_in tally

  abbrev r : Result
  r = result_of score holders

  of_hundredths : OfCall 4 (hundredths_call tally score holders)
  unfolding hundredths_call
  of_hundredths = in_room_lem 4 (spelled shares_bytes (shares_of_tally t r)) (good_shares t r)

  hundredths_17 : well_formed t ≡ false → hundredths_call tally score holders 4 ≡ refused_at 17 0
  unfolding hundredths_call in_room shares_of_tally
  hundredths_17 w = rw w

  given_20 : valid_score score ≡ false → given_refusal (results_in t) r ≡ refusal 20
  unfolding given_refusal score_refusal ◌or_else◌
  given_20 v = rw v

  hundredths_20 : well_formed t ≡ true → valid_score score ≡ false → hundredths_call tally score holders 4 ≡ refused_at 20 0
  unfolding hundredths_call in_room shares_of_tally asked
  hundredths_20 w v = rw (w, given_20 v)

-- ---- trees
shares_left : (t : Tree) (r : Result) → shares_of_tally (left t) r ≡ asked shares_asked (list_of t) r
shares_left t r = sym (by_points_lem (left t) r) ∙ ap by_points (points-left t r) ∙ by_asked (list_of t) r

of_tree : (t : Tree) (score : ℤ) (holders : List ℕ)
    → hundredths_call (left_bytes t) score holders 4 ≡ spelled shares_bytes (asked shares_asked (list_of t) (result_of score holders))
unfolding hundredths_call in_room
of_tree t score holders =
    ap (λ (x : Tally). spelled shares_bytes (shares_of_tally x (result_of score holders))) (demand_3_bytes.of_tree t).read_back
    ∙ ap (spelled shares_bytes) (shares_left t (result_of score holders))

-- ---- lists of results
-- so many points of at least as many are at most 10000 hundredths of a per cent
most-hundredths : (points most : ℕ) → points ≤ most → 1 ≤ most → hundredths points most ≤ 10000
unfolding hundredths
most-hundredths points most h k =
    let n = 20000 * points + most in
    let b = 2 * most in
    let q = n / b in
    let e = div-add-mod' n b in
    by_test (leb q 10000)
    (λ (t : leb q 10000 ≡ true). leb-true q 10000 t)
    (λ (t : leb q 10000 ≡ false).
    let over : 10001 ≤ q = leb-false q 10000 t in
    let more = mul-le-mul_left b over in
    absurd (omega (arith, e, more, h, k)))

module _ (l : List ℤ) where
  alone : (points : ℕ) → length l ≡ 1 → share_in l points ≡ 65535
  unfolding share_in
  alone points e = rw (eq-eqb (length l) 1 e)

  some-most : 2 ≤ length l → 1 ≤ most_matchpoints l
  unfolding most_matchpoints
  some-most h = omega arith

  within : (s : ℤ) → Compared l s → (points : ℕ) → points ≤ most_matchpoints l → share_in l points ≤ 10000
  unfolding share_in
  within s c points h =
      rw (ne_eqb (length l) 1 (λ e. omega (arith, c.more, e))) (most-hundredths points (most_matchpoints l) h (some-most c.more))

  of_shares : OfShares l
  unfolding share share_in
  of_shares =
      record {
        alone = alone;
        ns_most = λ s c. within s c (ns_matchpoints l s) (omega (arith, both_most l s c.some));
        ew_most = λ s c. within s c (ew_matchpoints l s) (omega (arith, both_most l s c.some));
        printed = λ points n. rw (ne_eqb (length l) 1 n);
        printed_alone = λ points e. rw (eq-eqb (length l) 1 e);
      }

pub hundredths_promised : Hundredths
hundredths_promised =
    record {
      of_hundredths = of_hundredths;
      hundredths_17 = hundredths_17;
      hundredths_20 = hundredths_20;
      of_tree = of_tree;
      of_shares = of_shares;
    }
