-- The state of `joined` in its loop, and one turn of it: the first k entries of the whole are written, and the rest is still in the two tallies.
-- Assumes nothing.
use Prim.Native.Nat.{ℕ, zero, suc, ◌≤◌, ◌<◌, ◌+◌}
use native.Mathlib.Omega.{arith}
use native.Mathlib.Numerals.{add-one}
use mathlib.Core.Path.{◌≡◌, refl, ap, ◌∙◌}
use mathlib.Core.List.{List, ◌++◌, map}
use borrow.Author.Tests.{ne_eqb}
use lib.IntN.{ℤ, pos}
use lib.ListN.{length, take, drop, set, length-append}
use lib.Seq.{drop-drop, take_all}
use Rattle.laws.specs.Law78.{same_score}
use Rattle.laws.specs.Tally.{AllValid}
use Rattle.laws.specs.Padded.{padded}
use Rattle.laws.proofs.Counts.{many_append}
use Rattle.tally.specs.declared.Entry.{Entry}
use Rattle.merging.specs.declared.Next.{Next}
use Rattle.tally.specs.declared.Tally.{Tally}
use Rattle.tally.specs.Entries.{score, count, entry, entries_of}
use Rattle.tally.specs.Tallies.{tally_with, tally_for, entries_in, scores_in, ceiling}
use Rattle.merging.specs.Joins.{entry_at, higher_of, next_of, Joinable}
use Rattle.tally.proofs.Ordered.{count_of}
use Rattle.tally.proofs.Lists.{in_expand, in_list, sum_expand, sum_list, ordered_list, valid_append}
use Rattle.tally.proofs.Formed.{Formed, formed_places, valid-scores, length_sum}
use Rattle.merging.proofs.Joining.{head_of, Split, Turn, turn, head_at, heads_fit, takes_one, written, write, all-taken}

-- the entries of two tallies together
abbrev pub whole_of : Tally → Tally → List Entry
whole_of a b = entries_of (scores_in a ++ scores_in b)

pub record Reached (none a : Tally) (n : ℕ) (b : Tally) (m : ℕ) (u : Tally) (i j k : ℕ) : Type 0 where
  pub given : Joinable none a n b m
  pub places : k ≤ 128
  pub of-first : i ≤ k
  pub of-second : j ≤ k
  pub board : u.board ≡ none.board
  pub deal : u.deal ≡ none.deal
  pub scores : u.scores ≡ written (pos 0) score 128 k (whole_of a b)
  pub counts : u.counts ≡ written 0 count 128 k (whole_of a b)
  pub split : Split (drop i (entries_in a)) (drop j (entries_in b)) (drop k (whole_of a b))

module _ (none a : Tally) (n : ℕ) (b : Tally) (m : ℕ) (g : Joinable none a n b m) where
  first_formed : Formed a
  first_formed = formed_places a g.first

  second_formed : Formed b
  second_formed = formed_places b g.second

  all_valid : AllValid (scores_in a ++ scores_in b)
  all_valid = valid_append (scores_in a) (scores_in b) (valid-scores a first_formed) (valid-scores b second_formed)

  -- each score's results are those in the first and those in the second
  pub counts-split : (y : ℤ) → count_of y (whole_of a b) ≡ count_of y (entries_in a) + count_of y (entries_in b)
  unfolding scores_in
  counts-split y =
      omega (
        arith,
        in_list (same_score y) (scores_in a ++ scores_in b),
        many_append (same_score y) (scores_in a) (scores_in b),
        in_expand (same_score y)
            (entries_in a),
        in_expand (same_score y) (entries_in b),
      )

  pub whole_split : Split (entries_in a) (entries_in b) (whole_of a b)
  unfolding scores_in
  whole_split =
      record {
        first = first_formed.ordered;
        second = second_formed.ordered;
        both = ordered_list (scores_in a ++ scores_in b) all_valid;
        counts = counts-split;
        room = omega (arith, sum_expand (entries_in a), sum_expand (entries_in b), g.room);
      }

  pub whole_length : length (whole_of a b) ≤ 128
  whole_length =
      omega (
        arith,
        length_sum ceiling (whole_of a b) (ordered_list (scores_in a ++ scores_in b) all_valid),
        sum_list (scores_in a ++ scores_in b),
        length-append
            (scores_in a) (scores_in b),
        g.room,
      )

  pub begins : Reached none a n b m none 0 0 0
  unfolding tally_for tally_with entries_of
  begins =
      record {
        given = g;
        places = omega arith;
        of-first = omega arith;
        of-second = omega arith;
        board = refl;
        deal = refl;
        scores = ap (λ (t : Tally). t.scores) g.is_empty;
        counts = ap (λ (t : Tally). t.counts) g.is_empty;
        split = whole_split;
      }

-- the tally where all is written
all-written : (none a b u : Tally) (k : ℕ) → u.board ≡ none.board → u.deal ≡ none.deal → u.scores ≡ written (pos 0) score 128 k (whole_of a b)
    → u.counts ≡ written 0 count 128 k (whole_of a b)
    → take k (whole_of a b) ≡ whole_of a b → u ≡ tally_for none.board none.deal (scores_in a ++ scores_in b)
unfolding tally_for tally_with
all-written none a b u k e d f g h =
    let f' = f ∙ ap (λ (l : List Entry). padded (pos 0) 128 (map score l)) h in
    let g' = g ∙ ap (λ (l : List Entry). padded 0 128 (map count l)) h in
    rw (← e, ← d, ← f', ← g')

module _ (none a : Tally) (n : ℕ) (b : Tally) (m : ℕ) (u : Tally) (i j k : ℕ) (w : Reached none a n b m u i j k) where
  pub full : 128 ≤ k → u ≡ tally_for none.board none.deal (scores_in a ++ scores_in b)
  full h =
      all-written none a b u k w.board w.deal w.scores w.counts
      (take_all k (whole_of a b) (omega (arith, whole_length none a n b m w.given)))

  pub first_end : n ≤ 128
  first_end = let f = formed_places a w.given.first in omega (arith, length_sum ceiling (entries_in a) f.ordered, f.room, w.given.first_used)

  pub second_end : m ≤ 128
  second_end = let f = formed_places b w.given.second in omega (arith, length_sum ceiling (entries_in b) f.ordered, f.room, w.given.second_used)

  first_head : entry_at a.scores a.counts i n ≡ head_of (drop i (entries_in a))
  unfolding entry_at
  first_head = rw w.given.first_used (head_at i a.scores a.counts)

  second_head : entry_at b.scores b.counts j m ≡ head_of (drop j (entries_in b))
  unfolding entry_at
  second_head = rw w.given.second_used (head_at j b.scores b.counts)

  -- the two entries that a turn reads
  module _ (x y : Entry) (ex : x ≡ entry_at a.scores a.counts i n) (ey : y ≡ entry_at b.scores b.counts j m) where
    pub fits : count x + count y ≤ 128
    fits = rw (ex ∙ first_head, ey ∙ second_head) (heads_fit (drop i (entries_in a)) (drop j (entries_in b)) (drop k (whole_of a b)) w.split)

    -- and the one that it writes
    module _ (e : Next) (ee : e ≡ higher_of x y) where
      the_turn : Turn e (drop i (entries_in a)) (drop j (entries_in b)) (drop k (whole_of a b))
      the_turn = rw (ee, ex ∙ first_head, ey ∙ second_head) (turn (drop i (entries_in a)) (drop j (entries_in b)) (drop k (whole_of a b)) w.split)

      pub one_each : (e.first ≤ 1) × (e.second ≤ 1)
      one_each = rw ee (takes_one x y)

      pub ends : e.count ≡ 0 → u ≡ tally_for none.board none.deal (scores_in a ++ scores_in b)
      ends z = all-written none a b u k w.board w.deal w.scores w.counts (all-taken k (whole_of a b) (the_turn.ends z))

      pub goes : (e.count ≡ 0 → ⊥) → k < 128
          → Reached none a n b m
          (record { board = u.board; deal = u.deal; scores = set u.scores k e.score; counts = set u.counts k e.count })
          (i + e.first) (j + e.second) (k + 1)
      goes z h =
          let t = the_turn.goes z in
          let r = t.rest in
          let x = entry e.score e.count in
          let whole = whole_of a b in
          record {
            given = w.given;
            places = omega arith;
            of-first = omega (arith, w.of-first, one_each.0);
            of-second = omega (arith, w.of-second, one_each.1);
            board = w.board;
            deal = w.deal;
            scores = rw (w.scores, add-one k) (write (pos 0) score 128 k x (drop 1 (drop k whole)) whole t.begins h);
            counts = rw (w.counts, add-one k) (write 0 count 128 k x (drop 1 (drop k whole)) whole t.begins h);
            split = rw (drop-drop e.first i (entries_in a), drop-drop e.second j (entries_in b), drop-drop 1 k whole) at r;
          }

-- an entry that is taken is followed by the one after it
pub next-entry : (ss : List ℤ) (cs : List ℕ) (i n taken : ℕ) (x after : Entry) → taken ≤ 1 → x ≡ entry_at ss cs i n → after ≡ entry_at ss cs (i + 1) n
    → next_of taken x after ≡ entry_at ss cs (i + taken) n
unfolding next_of
next-entry ss cs i n zero x after h ex ea = let e : i + 0 ≡ i = omega arith in rw e ex
next-entry ss cs i n (suc taken) x after h ex ea =
    let e : suc taken ≡ 1 = omega arith in
    rw (ne_eqb (suc taken) 0 (λ z. omega arith), e) ea
