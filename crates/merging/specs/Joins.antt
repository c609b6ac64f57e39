-- What the functions that join two tallies answer: the entry at a place, the higher of two, and what they are given.
-- Assumes nothing.
use Rattle.std.specs.Prelude.{ℕ, ◌+◌, ◌≤◌, ◌≡◌, true, List, [], ltb, eqb, ℤ, pos, length, get_or, if◌then◌else◌}
use Rattle.std.specs.Int.Signed.{lt_z}
use Rattle.laws.specs.Law78.{same_score}
use Rattle.tally.specs.declared.Entry.{Entry}
use Rattle.tally.specs.declared.Tally.{Tally}
use Rattle.tally.specs.Entries.{score, count, entry, no_entry}
use Rattle.tally.specs.Tallies.{tally_for, entries_in, scores_in, in_places}
use Rattle.merging.specs.declared.Next.{Next}

-- the entry at a place before the end, and none from there on
unfoldable pub entry_at : List ℤ → List ℕ → ℕ → ℕ → Entry
entry_at ss cs i end = if ltb i end then entry (get_or ss i (pos 0)) (get_or cs i 0) else no_entry

-- the higher of two entries, or of two with one score both together; and how many entries of each side that takes
unfoldable pub higher_of : Entry → Entry → Next
higher_of x y =
    if same_score (score x) (score y) then (record { score = score x; count = count x + count y; first = 1; second = 1 })
    else if lt_z (score y) (score x) then (record { score = score x; count = count x; first = 1; second = 0 })
    else (record { score = score y; count = count y; first = 0; second = 1 })

-- the entry after one that is taken; one that is not taken stays
unfoldable pub next_of : ℕ → Entry → Entry → Entry
next_of taken x after = if eqb taken 0 then x else after

-- ---- what `joined` is given: a tally without a result, two tallies that fit together, and how many places each uses
pub record Joinable (none a : Tally) (n : ℕ) (b : Tally) (m : ℕ) : Type 0 where
  pub is_empty : none ≡ tally_for none.board none.deal []
  pub first : in_places a ≡ true
  pub second : in_places b ≡ true
  pub first_used : n ≡ length (entries_in a)
  pub second_used : m ≡ length (entries_in b)
  pub room : length (scores_in a) + length (scores_in b) ≤ 128
