-- Every well-formed tally, and the all-zero one, is one that bytes can tell; and the all-zero one is 398 zeros. Assumes nothing.
use Prim.Native.Nat.{ℕ, zero, suc, ◌≤◌, ◌<◌}
use native.Mathlib.Omega.{arith}
use mathlib.Core.Path.{◌≡◌, refl, ap, ◌∙◌}
use mathlib.Core.Bool.{true, false}
use mathlib.Core.List.{List, [], ◌∷◌, map}
use borrow.Author.Tests.{eqb-true, eqb-false, ltb-true, ltb-false}
use lib.Dec.{eqb, ltb, lit<}
use lib.IntN.{ℤ, pos}
use lib.ListN.{length, get_or, replicate, get_or-eq_default}
use lib.Signed.{mag}
use Rattle.laws.specs.Judgement.{twos_complement}
use Rattle.laws.specs.Padded.{padded}
use Rattle.laws.specs.Record.{bytes_of}
use Rattle.laws.specs.Tally.{no_deal, Thirteen}
use Rattle.laws.proofs.Integers.{mag-le-size}
use Rattle.laws.proofs.Padded.{length-padded}
use Rattle.laws.proofs.TallyRules.{deal-thirteen}
use Rattle.laws.proofs.Tests.{by_test}
use Rattle.score.proofs.Validity.{valid-size}
use Rattle.tally.specs.declared.Entry.{Entry}
use Rattle.tally.specs.declared.Tally.{Tally}
use Rattle.tally.specs.Entries.{score, count, entries_of}
use Rattle.tally.specs.Tallies.{tally_with, tally_for, tally_of, no_tally, entries_in, scores_in, well_formed}
use Rattle.tally.specs.InBytes.{deal_bytes, score_bytes, tally_bytes, InRange}
use Rattle.tally.proofs.Ordered.{Ordered, sum_of}
use Rattle.tally.proofs.Formed.{formed, carried}
use Rattle.tally.proofs.Dealing.{none_carried, deal_carried}
use Rattle.tally.proofs.Refusing.{board_range}

-- ---- the places of ordered entries
no_score : (n k : ℕ) → mag (get_or (padded (pos 0) n []) k (pos 0)) < 32768
unfolding padded
no_score zero k = lit< tt
no_score (suc n) zero = lit< tt
no_score (suc n) (suc k) = no_score n k

no_count : (n k : ℕ) → get_or (padded 0 n []) k 0 < 256
unfolding padded
no_count zero k = lit< tt
no_count (suc n) zero = lit< tt
no_count (suc n) (suc k) = no_count n k

score_in : (n : ℕ) (top : ℤ) (es : List Entry) → Ordered top es → (k : ℕ) → mag (get_or (padded (pos 0) n (map score es)) k (pos 0)) < 32768
unfolding padded
score_in n top [] w k = no_score n k
score_in zero top (e ∷ es) w k = lit< tt
score_in (suc n) top (e ∷ es) w zero = omega (arith, valid-size (score e) w.0, mag-le-size (score e))
score_in (suc n) top (e ∷ es) w (suc k) = score_in n (score e) es w.3 k

count_in_lem : (n : ℕ) (es : List Entry) → sum_of es ≤ 128 → (k : ℕ) → get_or (padded 0 n (map count es)) k 0 < 256
unfolding padded
count_in_lem n [] h k = no_count n k
count_in_lem zero (e ∷ es) h k = lit< tt
count_in_lem (suc n) (e ∷ es) h zero = omega arith
count_in_lem (suc n) (e ∷ es) h (suc k) = count_in_lem n es (omega arith) k

-- ---- the deal that is carried
record Seats (deal : List ℕ) : Type 0 where
  many : length deal ≡ 52
  seat : (k : ℕ) → get_or deal k 0 ≤ 3

none-seats : Seats no_deal
none-seats = record { many = refl; seat = zeros 52 }
  where
    zeros : (n k : ℕ) → get_or (replicate n 0) k 0 ≤ 3
    zeros zero k = omega arith
    zeros (suc n) zero = omega arith
    zeros (suc n) (suc k) = zeros n k

dealt-seats : (deal : List ℕ) → Thirteen deal → Seats deal
dealt-seats deal h =
    record {
      many = h.holders;
      seat = λ k.
          by_test (ltb k 52)
          (λ (q : ltb k 52 ≡ true). h.holder k (ltb-true k 52 q))
          (λ (q : ltb k 52 ≡ false). rw (get_or-eq_default deal 0 {n = k} (omega (arith, h.holders, ltb-false k 52 q))) (omega arith));
    }

carried_seats : (t : Tally) → well_formed t ≡ true → Seats t.deal
carried_seats t w =
    let n = length (scores_in t) in
    by_test (eqb n 0)
    (λ (q : eqb n 0 ≡ true). rw (none_carried t.deal n (eqb-true n 0 q) (carried t w)) none-seats)
    (λ (q : eqb n 0 ≡ false). dealt-seats t.deal (deal-thirteen t.deal (deal_carried t.deal n (eqb-false n 0 q) (carried t w))))

-- ---- whole tallies
pub formed_range : (t : Tally) → well_formed t ≡ true → InRange t
unfolding tally_with
formed_range t w =
    let f = formed t w in
    let es = entries_in t in
    let s = carried_seats t w in
    let is = ap (λ (x : Tally). x.scores) f.whole in
    let ac = ap (λ (x : Tally). x.counts) f.whole in
    record {
      board = omega (arith, (board_range t.board f.board).1);
      holders = s.many;
      holder = s.seat;
      scores = ap length is ∙ length-padded (pos 0) 128 (map score es);
      score = λ k. rw is (score_in 128 _ es f.ordered k);
      counts = ap length ac ∙ length-padded 0 128 (map count es);
      count = λ k. rw ac (count_in_lem 128 es f.room k);
    }

pub none_range : InRange no_tally
unfolding tally_of tally_for tally_with entries_of
none_range =
    let s = none-seats in
    record {
      board = lit< tt;
      holders = s.many;
      holder = s.seat;
      scores = length-padded (pos 0) 128 [];
      score = no_score 128;
      counts = length-padded 0 128 [];
      count = no_count 128;
    }

pub none-bytes : tally_bytes no_tally ≡ replicate 398 0
unfolding tally_bytes deal_bytes score_bytes bytes_of twos_complement tally_of tally_for tally_with entries_of padded
none-bytes = refl
