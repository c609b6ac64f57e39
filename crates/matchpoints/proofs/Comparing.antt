-- How a tally's results stand to a score: one turn of the loop that counts them, and Law 78A by the counts. Assumes nothing.
use Prim.Native.Nat.{ℕ, suc, ◌≤◌, ◌<◌, ◌+◌, ◌-◌, ◌*◌}
use native.Mathlib.Omega.{arith}
use native.Mathlib.Numerals.{add-one}
use mathlib.Core.Path.{◌≡◌, sym, ap, ◌∙◌}
use mathlib.Core.Bool.{Bool, true, false}
use mathlib.Core.List.{List, [], ◌∷◌}
use borrow.Author.Tests.{eq-eqb, ne_eqb}
use lib.IntN.{ℤ, pos}
use lib.ListN.{length, get_or}
use Rattle.laws.specs.Choice.{how_many}
use Rattle.laws.specs.Refusals.{refused_at, given, placed}
use Rattle.laws.specs.Law77.{valid_score}
use Rattle.laws.specs.Law78.{same_score, occurrences, ew_matchpoints, matchpoints}
use Rattle.laws.specs.Tally.{Result, Refusal, given_refusal, asked}
use Rattle.laws.proofs.Tests.{by_test}
use Rattle.laws.proofs.TallyRules.{scores_on, given-allowed}
use Rattle.laws.proofs.Comparisons.{lower, ns-counts, below_equal}
use Rattle.std.specs.Prelude as Std
use Rattle.laws.specs.Refused.{number}
use Rattle.laws.specs.declared.Refused.{Refused}
use Rattle.laws.proofs.RefusalNumbers.{number_not_none}
use Rattle.tally.specs.declared.Size.{Size}
use Rattle.tally.specs.declared.Entry.{Entry}
use Rattle.matchpoints.specs.declared.points.Standing.{Standing}
use Rattle.tally.specs.declared.Tally.{Tally}
use Rattle.tally.specs.Entries.{score, entry, expand}
use Rattle.tally.specs.Tallies.{entries_in, scores_in, results_in, well_formed}
use Rattle.tally.specs.Steps.{check_of, ruled, given_by}
use Rattle.tally.proofs.Refusing.{given_law}
use Rattle.tally.proofs.Checking.{checked, unchecked, size_results}
use Rattle.tally.specs.Points.{matchpoints_of}
use Rattle.matchpoints.specs.Points.{below_of, equal_of, standing_of}
use Rattle.tally.proofs.Ordered.{in_entries, sum_of}
use Rattle.tally.proofs.Lists.{in_expand, sum_expand}
use Rattle.tally.proofs.Formed.{formed}
use Rattle.tally.proofs.Places.{entries_at, entries-used, entries-unused, entries_end}

pub in_le : (test : ℤ → Bool) (es : List Entry) → in_entries test es ≤ sum_of es
in_le test [] = omega arith
in_le test (e ∷ es) =
    by_test (test (score e))
    (λ (q : test (score e) ≡ true). rw q (omega (arith, in_le test es)))
    (λ (q : test (score e) ≡ false). rw q (omega (arith, in_le test es)))

-- what is counted, and what the places from i on hold, are together the whole
pub record Stood (t : Tally) (s : ℤ) (below equal results i : ℕ) : Type 0 where
  pub places : i ≤ 128
  pub scores : length t.scores ≡ 128
  pub counts : length t.counts ≡ 128
  pub room : sum_of (entries_in t) ≤ 128
  pub of_lower : in_entries (lower s) (entries_in t) ≡ below + in_entries (lower s) (entries_at t.scores t.counts i)
  pub of_equal : in_entries (same_score s) (entries_in t) ≡ equal + in_entries (same_score s) (entries_at t.scores t.counts i)
  pub of-all : sum_of (entries_in t) ≡ results + sum_of (entries_at t.scores t.counts i)

pub begins : (t : Tally) (s : ℤ) → length t.scores ≡ 128 → length t.counts ≡ 128 → well_formed t ≡ true → Stood t s 0 0 0 0
begins t s hs hc w =
    record {
      places = omega arith;
      scores = hs;
      counts = hc;
      room = (formed t w).room;
      of_lower = omega arith;
      of_equal = omega arith;
      of-all = omega arith;
    }

module _ (t : Tally) (s : ℤ) (below equal results i : ℕ) (w : Stood t s below equal results i) where
  ended : entries_at t.scores t.counts i ≡ [] → record { below = below; equal = equal; results = results } ≡ standing_of t s
  unfolding scores_in occurrences
  ended e =
      let b : below ≡ how_many (lower s) (expand (entries_in t)) = omega (arith, rw e at w.of_lower, in_expand (lower s) (entries_in t)) in
      let q : equal ≡ how_many (same_score s) (expand (entries_in t)) = omega (arith, rw e at w.of_equal, in_expand (same_score s) (entries_in t)) in
      let n : results ≡ length (expand (entries_in t)) = omega (arith, rw e at w.of-all, sum_expand (entries_in t)) in
      rw (b, q, n)

  pub ends : i < 128 → get_or t.counts i 0 ≡ 0 → record { below = below; equal = equal; results = results } ≡ standing_of t s
  ends h z = ended (entries-unused t.scores t.counts i (omega (arith, w.scores)) (omega (arith, w.counts)) z)

  pub full : 128 ≤ i → record { below = below; equal = equal; results = results } ≡ standing_of t s
  full h = ended (entries_end t.scores t.counts i (omega (arith, w.scores)))

  module _ (h : i < 128) (u : get_or t.counts i 0 ≡ 0 → ⊥) where
    used : entries_at t.scores t.counts i ≡ entry (get_or t.scores i (pos 0)) (get_or t.counts i 0) ∷ entries_at t.scores t.counts (suc i)
    used = entries-used t.scores t.counts i (omega (arith, w.scores)) (omega (arith, w.counts)) u

    module _ (b q : ℕ) (eb : b ≡ below_of s (get_or t.scores i (pos 0)) (get_or t.counts i 0))
        (eq : q ≡ equal_of s (get_or t.scores i (pos 0)) (get_or t.counts i 0)) where
      pub goes : Stood t s (below + b) (equal + q) (results + get_or t.counts i 0) (i + 1)
      unfolding below_of equal_of
      goes =
          record {
            places = omega arith;
            scores = w.scores;
            counts = w.counts;
            room = w.room;
            of_lower = rw (add-one i) (omega (arith, rw used at w.of_lower));
            of_equal = rw (add-one i) (omega (arith, rw used at w.of_equal));
            of-all = rw (add-one i) (omega (arith, rw used at w.of-all));
          }

      pub fits : (below + b ≤ 128) × (equal + q ≤ 128) × (results + get_or t.counts i 0 ≤ 128)
      fits =
          let g = goes in (
            omega (arith, g.of_lower, in_le (lower s) (entries_in t), g.room),
            omega (arith, g.of_equal, in_le (same_score s) (entries_in t), g.room),
            omega
                (arith, g.of-all, g.room),
          )

-- ---- the answer by the standing
module _ (t : Tally) (s : ℤ) (w : well_formed t ≡ true) (v : valid_score s ≡ true) (x : Standing) (ex : x ≡ standing_of t s) where
  pub points-absent : x.equal ≡ 0 → refused_at 21 0 ≡ placed (matchpoints (scores_in t) s)
  unfolding matchpoints
  points-absent z = let e : occurrences s (scores_in t) ≡ 0 = rw ex at z in rw (v, e)

  -- the numbers of the code fit, and are the Law's
  pub some_results : (x.equal ≡ 0 → ⊥) → 1 ≤ x.results
  some_results h = let b = below_equal s (scores_in t) in let h' = rw ex at h in rw ex (omega arith)

  pub ns-fits : (x.equal ≡ 0 → ⊥) → 2 * x.below + x.equal - 1 ≤ 2 * (x.results - 1)
  ns-fits h = let b = below_equal s (scores_in t) in let h' = rw ex at h in rw ex (omega arith)

  pub points-found : (x.equal ≡ 0 → ⊥) → (below equal results : ℕ) → below ≡ x.below → equal ≡ x.equal → results ≡ x.results
      → given (record { ns = 2 * below + equal - 1; ew = 2 * (results - 1) - (2 * below + equal - 1) }) ≡ placed (matchpoints (scores_in t) s)
  unfolding matchpoints ew_matchpoints
  points-found h below equal results eb ee er =
      let h' : occurrences s (scores_in t) ≡ 0 → ⊥ = rw ex at h in
      let n = ns-counts s (scores_in t) (omega arith) in
      rw (v, ne_eqb (occurrences s (scores_in t)) 0 h', n, eb, ee, er, ex)

-- ---- the answer to a result
module _ (t : Tally) (r : Result) where
  points-malformed : well_formed t ≡ false → refused_at 17 0 ≡ matchpoints_of t r
  unfolding matchpoints_of
  points-malformed e = rw e

  pub points_malformed : (e : Refused) → Std.Err e ≡ check_of t → refused_at (number e.refusal) e.place ≡ matchpoints_of t r
  points_malformed e q =
      let p = unchecked t e q in
      ap (λ (x : Refused). refused_at (number x.refusal) x.place) p.1 ∙ points-malformed p.0

  module _ (x : Size) (ok : Std.Ok x ≡ check_of t) where
    w : well_formed t ≡ true
    w = (checked t x ok).0

    abbrev by_deal : Refusal
    by_deal = given_by t.deal x.results r.score r.deal

    by-law : by_deal ≡ given_refusal (results_in t) r
    by-law = given_law t.deal x.results r.score r.deal (scores_in t) (size_results t x (checked t x ok).1)

    pub points-refused : (e : Refused) → ruled e ≡ by_deal → refused_at (number e.refusal) e.place ≡ matchpoints_of t r
    unfolding matchpoints_of asked
    points-refused e q =
        let k = q ∙ by-law in
        rw w (rw (← k) (rw (ne_eqb (number e.refusal) 0 (number_not_none e.refusal))))

    module _ (z : by_deal.number ≡ 0) where
      pub none : (given_refusal (results_in t) r).number ≡ 0
      none = sym (ap (λ (q : Refusal). q.number) by-law) ∙ z

      pub score-valid : valid_score r.score ≡ true
      score-valid = (given-allowed (results_in t) r none).0

      pub points-asked : placed (matchpoints (scores_in t) r.score) ≡ matchpoints_of t r
      unfolding matchpoints_of asked
      points-asked = rw (w, eq-eqb (given_refusal (results_in t) r).number 0 none, scores_on t.deal (scores_in t))
