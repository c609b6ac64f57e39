-- A tally's places are in order exactly when it is that of a board from 1 to 127 and of ordered entries with at most 128 results.
-- Assumes nothing.
use Prim.Native.Nat.{ℕ, zero, suc, ◌≤◌, ◌-◌}
use native.Mathlib.Omega.{arith}
use mathlib.Core.Path.{◌≡◌, refl, sym, ap, ◌∙◌}
use mathlib.Core.Bool.{true, false, ◌&&◌}
use mathlib.Core.List.{List, [], ◌∷◌, map}
use borrow.Author.Tests.{eqb-true, eqb-false, ne_eqb, leb-true, le-leb}
use lib.Dec.{leb, eqb}
use lib.IntN.{ℤ, pos}
use lib.ListN.{length}
use lib.Signed.{lt_z}
use Rattle.laws.specs.Law77.{valid_score}
use Rattle.laws.specs.Law78.{same_score, occurrences}
use Rattle.laws.specs.Tally.{fresh_refusal, AllValid, SameScores}
use Rattle.laws.specs.Padded.{padded}
use Rattle.laws.proofs.Tests.{by_test, and_left, and_right, and_both}
use Rattle.laws.proofs.Scores.{same_true}
use Rattle.laws.proofs.Padded.{length-padded}
use Rattle.tally.specs.declared.Entry.{Entry}
use Rattle.tally.specs.declared.Tally.{Tally}
use Rattle.tally.specs.Entries.{score, count, entries, entries_of}
use Rattle.tally.specs.Tallies.{tally_with, tally_for, entries_in, scores_in, all_zero, in_order, ceiling, in_places, carries, well_formed}
use Rattle.tally.proofs.Ordered.{count_of, sum_of, Ordered}
use Rattle.tally.proofs.Lists.{ordered_list, sum_list, in_list, in_expand, sum_expand, valid-expand, entries-expand}

-- entries are at most as many as their results
pub length_sum : (top : ℤ) (es : List Entry) → Ordered top es → length es ≤ sum_of es
length_sum top [] w = omega arith
length_sum top (e ∷ es) w = omega (arith, length_sum (score e) es w.3, w.2)

-- a count of an ordered entry is not zero
pub not-zero : (n : ℕ) → 1 ≤ n → eqb n 0 ≡ false
not-zero n h = ne_eqb n 0 (λ e. omega arith)

entries_none : (k : ℕ) → entries (padded (pos 0) k []) (padded 0 k []) ≡ []
unfolding entries padded
entries_none zero = refl
entries_none (suc k) = refl

entries-padded : (k : ℕ) (top : ℤ) (es : List Entry) → Ordered top es → length es ≤ k
    → entries (padded (pos 0) k (map score es)) (padded 0 k (map count es)) ≡ es
unfolding entries padded
entries-padded k top [] w h = entries_none k
entries-padded zero top (e ∷ es) w h = absurd (omega arith)
entries-padded (suc k) top (e ∷ es) w h = rw (not-zero (count e) w.2) (ap (λ (l : List Entry). e ∷ l) (entries-padded k (score e) es w.3 (omega arith)))

-- ---- from the test to the entries
zeros-padded : (k : ℕ) (ss : List ℤ) (cs : List ℕ) → length ss ≡ k → length cs ≡ k → all_zero ss cs ≡ true → (ss ≡ padded (pos 0) k []) × (cs ≡ padded 0 k [])
unfolding all_zero padded
zeros-padded zero [] [] hs hc e = (refl, refl)
zeros-padded zero [] (c ∷ cs) hs hc e = absurd (omega arith)
zeros-padded zero (s ∷ ss) cs hs hc e = absurd (omega arith)
zeros-padded (suc k) [] cs hs hc e = absurd (omega arith)
zeros-padded (suc k) (s ∷ ss) [] hs hc e = absurd (omega arith)
zeros-padded (suc k) (s ∷ ss) (c ∷ cs) hs hc e =
    let p = and_left (same_score s (pos 0)) (eqb c 0 && all_zero ss cs) e in
    let q = and_right (same_score s (pos 0)) (eqb c 0 && all_zero ss cs) e in
    let r = zeros-padded k ss cs (omega arith) (omega arith) (and_right (eqb c 0) (all_zero ss cs) q) in
    let es = same_true s (pos 0) p in
    let ec = eqb-true c 0 (and_left (eqb c 0) (all_zero ss cs) q) in
    (rw (es, r.0), rw (ec, r.1))

record Known (k : ℕ) (top : ℤ) (room : ℕ) (ss : List ℤ) (cs : List ℕ) : Type 0 where
  scores : ss ≡ padded (pos 0) k (map score (entries ss cs))
  counts : cs ≡ padded 0 k (map count (entries ss cs))
  ordered : Ordered top (entries ss cs)
  within : sum_of (entries ss cs) ≤ room

known : (k : ℕ) (top : ℤ) (room : ℕ) (ss : List ℤ) (cs : List ℕ) → length ss ≡ k → length cs ≡ k → in_order top room ss cs ≡ true → Known k top room ss cs
unfolding in_order entries padded
known zero top room [] [] hs hc e = record { scores = refl; counts = refl; ordered = tt; within = omega arith }
known zero top room [] (c ∷ cs) hs hc e = absurd (omega arith)
known zero top room (s ∷ ss) cs hs hc e = absurd (omega arith)
known (suc k) top room [] cs hs hc e = absurd (omega arith)
known (suc k) top room (s ∷ ss) [] hs hc e = absurd (omega arith)
known (suc k) top room (s ∷ ss) (c ∷ cs) hs hc e =
    by_test (eqb c 0)
    (λ (q : eqb c 0 ≡ true).
    let r = zeros-padded (suc k) (s ∷ ss) (c ∷ cs) hs hc (rw q at e) in
    record { scores = rw q r.0; counts = rw q r.1; ordered = rw q tt; within = rw q (omega arith) })
    (λ (q : eqb c 0 ≡ false).
    let z = eqb-false c 0 q in
    let e₁ = rw q at e in
    let e₂ = and_right (valid_score s) (lt_z s top && (leb c room && in_order s (room - c) ss cs)) e₁ in
    let e₃ = and_right (lt_z s top) (leb c room && in_order s (room - c) ss cs) e₂ in
    let r = known k s (room - c) ss cs (omega arith) (omega arith) (and_right (leb c room) (in_order s (room - c) ss cs) e₃) in
    let fits = leb-true c room (and_left (leb c room) (in_order s (room - c) ss cs) e₃) in
    record {
      scores = rw q (ap (λ (l : List ℤ). s ∷ l) r.scores);
      counts = rw q (ap (λ (l : List ℕ). c ∷ l) r.counts);
      ordered =
          rw q (
            and_left (valid_score s) (lt_z s top && (leb c room && in_order s (room - c) ss cs)) e₁,
            and_left (lt_z s top) (leb c room && in_order s (room - c) ss cs) e₂,
            omega arith,
            r.ordered,
          );
      within = rw q (omega (arith, r.within));
    })

-- ---- and back
zeros_back : (k : ℕ) → all_zero (padded (pos 0) k []) (padded 0 k []) ≡ true
unfolding all_zero padded
zeros_back zero = refl
zeros_back (suc k) = zeros_back k

order-none : (k : ℕ) (top : ℤ) (room : ℕ) → in_order top room (padded (pos 0) k []) (padded 0 k []) ≡ true
unfolding in_order all_zero padded
order-none zero top room = refl
order-none (suc k) top room = zeros_back k

order_back : (k : ℕ) (top : ℤ) (room : ℕ) (es : List Entry) → Ordered top es → sum_of es ≤ room → length es ≤ k
    → in_order top room (padded (pos 0) k (map score es)) (padded 0 k (map count es)) ≡ true
unfolding in_order padded
order_back k top room [] w r h = order-none k top room
order_back zero top room (e ∷ es) w r h = absurd (omega arith)
order_back (suc k) top room (e ∷ es) w r h =
    rw (not-zero (count e) w.2, w.0, w.1, le-leb (count e) room (omega arith))
    (order_back k (score e) (room - count e) es w.3 (omega arith) (omega arith))

-- ---- a well-formed tally
pub record Formed (t : Tally) : Type 0 where
  pub board : fresh_refusal t.board ≡ 0
  pub ordered : Ordered ceiling (entries_in t)
  pub room : sum_of (entries_in t) ≤ 128
  pub whole : t ≡ tally_with t.board t.deal (entries_in t)

pub formed_places : (t : Tally) → in_places t ≡ true → Formed t
unfolding in_places tally_with
formed_places t e =
    let p = eqb (fresh_refusal t.board) 0 in
    let q = eqb (length t.scores) 128 in
    let r = eqb (length t.counts) 128 in
    let o = in_order ceiling 128 t.scores t.counts in
    let e₁ = and_right p (q && (r && o)) e in
    let e₂ = and_right q (r && o) e₁ in
    let k =
    known 128 ceiling 128 t.scores t.counts
    (eqb-true (length t.scores) 128 (and_left q (r && o) e₁))
    (eqb-true (length t.counts) 128 (and_left r o e₂))
    (and_right r o e₂) in
    record {
      board = eqb-true (fresh_refusal t.board) 0 (and_left p (q && (r && o)) e);
      ordered = k.ordered;
      room = k.within;
      whole = rw (← k.scores, ← k.counts);
    }

-- of a tally that is well formed both are known: its places, and what it carries
pub places_formed : (t : Tally) → well_formed t ≡ true → in_places t ≡ true
unfolding well_formed
places_formed t e = and_left (in_places t) (carries t.deal (length (scores_in t))) e

pub formed : (t : Tally) → well_formed t ≡ true → Formed t
formed t e = formed_places t (places_formed t e)

pub carried : (t : Tally) → well_formed t ≡ true → carries t.deal (length (scores_in t)) ≡ true
unfolding well_formed
carried t e = and_right (in_places t) (carries t.deal (length (scores_in t))) e

module _ (b : ℕ) (d : List ℕ) (es : List Entry) (ordered : Ordered ceiling es) (room : sum_of es ≤ 128) where
  pub its_entries : entries_in (tally_with b d es) ≡ es
  unfolding tally_with
  its_entries = entries-padded 128 ceiling es ordered (omega (arith, length_sum ceiling es ordered))

  pub is_formed : fresh_refusal b ≡ 0 → in_places (tally_with b d es) ≡ true
  unfolding tally_with in_places
  is_formed e =
      rw (e, length-padded (pos 0) 128 (map score es), length-padded 0 128 (map count es))
      (order_back 128 ceiling 128 es ordered room (omega (arith, length_sum ceiling es ordered)))

-- ---- the tally of a deal and a list of valid scores, at most 128
module _ (b : ℕ) (d : List ℕ) (l : List ℤ) (valid : AllValid l) (room : length l ≤ 128) where
  within : sum_of (entries_of l) ≤ 128
  within = omega (arith, sum_list l)

  pub entries-tally : entries_in (tally_for b d l) ≡ entries_of l
  unfolding tally_for
  entries-tally = its_entries b d (entries_of l) (ordered_list l valid) within

  pub placed-tally : fresh_refusal b ≡ 0 → in_places (tally_for b d l) ≡ true
  unfolding tally_for
  placed-tally = is_formed b d (entries_of l) (ordered_list l valid) within

  -- its results are those of the list
  pub same_tally : SameScores (scores_in (tally_for b d l)) l
  unfolding SameScores occurrences scores_in
  same_tally s = in_expand (same_score s) (entries_in (tally_for b d l)) ∙ ap (count_of s) entries-tally ∙ in_list (same_score s) l

  pub length-tally : length (scores_in (tally_for b d l)) ≡ length l
  unfolding scores_in
  length-tally = sum_expand (entries_in (tally_for b d l)) ∙ ap sum_of entries-tally ∙ sum_list l

  pub formed_tally : fresh_refusal b ≡ 0 → carries d (length l) ≡ true → well_formed (tally_for b d l) ≡ true
  unfolding well_formed tally_for tally_with
  formed_tally e c = and_both (in_places (tally_for b d l)) _ (placed-tally e) (ap (carries d) length-tally ∙ c)

-- ---- a well-formed tally is that of its own results
module _ (t : Tally) (w : Formed t) where
  pub valid-scores : AllValid (scores_in t)
  unfolding scores_in
  valid-scores = valid-expand ceiling (entries_in t) w.ordered

  pub room-scores : length (scores_in t) ≤ 128
  unfolding scores_in
  room-scores = omega (arith, sum_expand (entries_in t), w.room)

  pub entries-scores : entries_of (scores_in t) ≡ entries_in t
  unfolding scores_in
  entries-scores = entries-expand (entries_in t) w.ordered

  pub own_tally : tally_for t.board t.deal (scores_in t) ≡ t
  unfolding tally_for
  own_tally = ap (tally_with t.board t.deal) entries-scores ∙ sym w.whole
