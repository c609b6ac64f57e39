-- A team match: what is promised of every run of calls, refused ones included (docs/RULES.md, 13), by the definitions that the calls' contracts cite.
-- A run is written latest first: in `c ∷ run`, c came after run.
-- Assumes nothing.
use Rattle.std.specs.Prelude.{ℕ, ◌-◌, min, ◌≡◌, true, false, List, [], ◌∷◌, eqb, ℤ, pos, negsuc, neg_ℤ, nat_abs, length, get_or, if◌then◌else◌}
use Rattle.laws.specs.Refusals.{refused, answered}
use Rattle.laws.specs.Law78.{lower_end}
use Rattle.laws.specs.TeamMatch.{Call, is_used, answer_to, boards_of, accepted_in, total_of, totals_of, Boards, SameBoards, swapped}
use Rattle.score.specs.Units.{imp_answer}
use Rattle.team_match.specs.declared.TeamMatch.{TeamMatch}
use Rattle.team_match.specs.declared.Played.{Played}
use Rattle.std.specs.Prelude as Std
use Rattle.laws.specs.declared.Refusal.{Refusal}
use Rattle.team_match.specs.declared.BothTotals.{BothTotals}
use Rattle.team_match.specs.Matches.{boards_in, is_match, start_of, answer_on, after_on, totals_on, totals_answer}

-- the state that a run of calls leaves: each call gets, unchanged, the state that those before it left
unfoldable pub left : List Call → TeamMatch
left [] = start_of
left (c ∷ run) = after_on (left run) c

-- ---- what is promised of every run
pub record OfRun (run : List Call) : Type 0 where
  -- the boards accepted are at most 32, with distinct numbers from 1 to 127 and valid scores
  pub boards : Boards (accepted_in run)
  -- the total left is the sum of their IMPs by Law 78B, the first score less the second
  pub total : (left run).total.0 ≡ total_of (accepted_in run)
  -- the boards used are theirs: of 128 places, those of their numbers hold and no others
  pub places : length (left run).used ≡ 128
  pub used : (board : ℕ) → get_or (left run).used board false ≡ is_used board (boards_of (accepted_in run))
  -- what is left is a state, so that no call of a run is refused with 17
  pub state : is_match (left run) ≡ true
  -- the next call, whatever it is, is refused exactly when the rules say, with their number; else it is answered its IMPs
  pub answers : (c : Call) → answer_on (left run) c ≡ answer_to (boards_of (accepted_in run)) c
  -- every answer that the contract of `team_match::play` allows stands for that, and leaves the state of the longer run
  pub plays : (c : Call) (r : Played) → r.state ≡ after_on (left run) c → imp_answer r.answer ≡ answer_on (left run) c
      → (r.state ≡ left (c ∷ run)) × (imp_answer r.answer ≡ answer_to (boards_of (accepted_in run)) c)
  -- a refused call leaves the state as it was
  pub unchanged : (c : Call) (n : ℕ) → answer_on (left run) c ≡ refused n → left (c ∷ run) ≡ left run
  -- asked for the totals: the other team's is the negation, which is the sum of the IMPs with the scores swapped
  pub totals : totals_on (left run) ≡ answered (totals_of (total_of (accepted_in run)))
  pub other : neg_ℤ (left run).total.0 ≡ total_of (swapped (accepted_in run))
  pub totals_answered : (r : Std.Result BothTotals Refusal) → totals_answer r ≡ totals_on (left run) → totals_answer r ≡ answered (totals_of (total_of (accepted_in run)))

-- ---- described: a run that leaves a given state
-- the size of a difference worth so many IMPs: the scale's entry
unfoldable pub points_for : ℕ → ℕ
points_for imps = if eqb imps 0 then 0 else lower_end imps

-- a board worth so many IMPs to the team that a total favours
unfoldable pub board_worth : ℤ → ℕ → ℕ → Call
board_worth (pos n) board imps = record { board = board; first = pos (points_for imps); second = pos 0 }
board_worth (negsuc n) board imps = record { board = board; first = pos 0; second = pos (points_for imps) }

-- the most IMPs that one board gets
abbrev pub most_on_one : ℕ
most_on_one = 24

-- so many IMPs spread over some boards: each gets what is left, but at most 24
unfoldable pub spread : ℤ → ℕ → List ℕ → List Call
spread total imps [] = []
spread total imps (board ∷ boards) = board_worth total board (min imps most_on_one) ∷ spread total (imps - min imps most_on_one) boards

-- the run that is exhibited for a state: its boards, with its total spread over them
unfoldable pub run_for : TeamMatch → List Call
run_for m = spread m.total.0 (nat_abs m.total.0) (boards_in m)

-- the test of a state holds exactly for those that some run of 0 to 32 boards with distinct numbers leaves
pub record Described (m : TeamMatch) : Type 0 where
  pub holds : is_match m ≡ true → Boards (run_for m) × (m ≡ left (run_for m))
  pub only : (run : List Call) → Boards run → m ≡ left run → is_match m ≡ true

-- the claim
pub record OfTeamMatches : Type 0 where
  pub of_run : (run : List Call) → OfRun run
  -- in a run of boards of a match no call is refused
  pub all_accepted : (run : List Call) → Boards run → accepted_in run ≡ run
  -- two runs that accept the same boards with the same scores, in whatever order, leave the same state, value for value
  pub same_state : (run run2 : List Call) → SameBoards (accepted_in run) (accepted_in run2) → left run ≡ left run2
  pub described : (m : TeamMatch) → Described m
  -- what an answer for the totals stands for determines it
  pub one_totals : (r s : Std.Result BothTotals Refusal) → totals_answer r ≡ totals_answer s → r ≡ s
