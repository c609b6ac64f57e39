-- States of a team match: which boards a state has used, which states there are, and what each call answers and leaves.
-- Assumes nothing.
use Rattle.std.specs.Prelude.{ℕ, suc, ◌*◌, Bool, true, false, not, ◌&&◌, List, [], ◌∷◌, leb, eqb, ℤ, pos, nat_abs, ◌+ℤ◌, length, get_or, set, replicate, Result, Ok, Err, if◌then◌else◌}
use Rattle.laws.specs.Refusals.{Answer, refused, answered, malformed_tally}
use Rattle.laws.specs.TeamMatch.{most_boards, Call, answer_to, leaving, imps_on, Totals, totals_of}
use Rattle.laws.specs.Refused.{number}
use Rattle.laws.specs.declared.Refusal.{Refusal}
use Rattle.team_match.specs.declared.TeamMatch.{TeamMatch}
use Rattle.team_match.specs.declared.BothTotals.{BothTotals}

-- the places of a list that hold, counted from a number on
unfoldable pub places_from : ℕ → List Bool → List ℕ
places_from i [] = []
places_from i (used ∷ rest) = if used then (i ∷ places_from (suc i) rest) else places_from (suc i) rest

-- the boards that a state has used, the lowest number first
unfoldable pub boards_in : TeamMatch → List ℕ
boards_in m = places_from 0 m.used

-- the test of a state: 128 places, of which place 0 is no board's; at most 32 boards; and at most 24 IMPs a board, for either team
unfoldable pub is_match : TeamMatch → Bool
is_match m =
    eqb (length m.used) 128 && (not (get_or m.used 0 false)
    && (leb (length (boards_in m)) most_boards && leb (nat_abs m.total.0) (24 * length (boards_in m))))

-- before the first board
unfoldable pub start_of : TeamMatch
start_of = record { total = record { 0 = pos 0 }; used = replicate 128 false }

-- what a call answers: 17 for a state that is none, else as for the boards used
unfoldable pub answer_on : TeamMatch → Call → Answer ℤ
answer_on m c = if is_match m then answer_to (boards_in m) c else refused malformed_tally

-- a state with one board more, worth so many IMPs
abbrev pub with_imps : TeamMatch → ℕ → ℤ → TeamMatch
with_imps m board gained = record { total = record { 0 = m.total.0 +ℤ gained }; used = set m.used board true }

-- the state after a call: with that board, or unchanged where the call is refused
unfoldable pub after_on : TeamMatch → Call → TeamMatch
after_on m c = leaving (answer_on m c) (with_imps m c.board (imps_on c)) m

-- asked for the totals: 17 for a state that is none, else those of both teams
unfoldable pub totals_on : TeamMatch → Answer Totals
totals_on m = if is_match m then answered (totals_of m.total.0) else refused malformed_tally

-- what an answer for the totals stands for: a refusal by its number, or the totals of both teams
abbrev pub totals_answer : Result BothTotals Refusal → Answer Totals
totals_answer (Ok t) = answered (record { first = t.first.0; second = t.second.0 })
totals_answer (Err refusal) = refused (number refusal)
