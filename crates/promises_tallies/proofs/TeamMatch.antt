-- What is promised of a team match, proved. Assumes nothing.
use Prim.Native.Nat.{ℕ}
use mathlib.Core.Path.{◌≡◌, refl, sym, ap, ap₂, ◌∙◌}
use mathlib.Core.List.{List, [], ◌∷◌}
use lib.IntN.{ℤ, neg_ℤ, ◌+ℤ◌, neg_ℤ-+ℤ}
use Rattle.laws.specs.Refusals.{refused, answered}
use Rattle.laws.specs.Law78.{imps_of}
use Rattle.laws.specs.TeamMatch.{Call, accepted_in, total_of, totals_of, swapped}
use Rattle.laws.proofs.Integers.{swap_difference}
use Rattle.laws.proofs.Scale.{imps_neg}
use Rattle.team_match.specs.Matches.{answer_on, after_on, totals_on}
use Rattle.team_match.proofs.Told.{one_totals}
use Rattle.promises_tallies.specs.TeamMatch.{left, OfRun, OfTeamMatches}
use Rattle.promises_tallies.proofs.TeamMatchRuns.{stands, is_state, answers, all_accepted}
use Rattle.promises_tallies.proofs.TeamMatchOrder.{same_state}
use Rattle.promises_tallies.proofs.TeamMatchReached.{described}

-- a refused call leaves the state
stays : (run : List Call) (c : Call) (n : ℕ) → answer_on (left run) c ≡ refused n → left (c ∷ run) ≡ left run
unfolding left after_on
stays run c n e = rw e

-- a call leaves the state of the longer run
goes_on : (run : List Call) (c : Call) → after_on (left run) c ≡ left (c ∷ run)
unfolding left
goes_on run c = refl

-- with the scores swapped the total is the negation
swapped-total : (calls : List Call) → neg_ℤ (total_of calls) ≡ total_of (swapped calls)
unfolding total_of swapped
swapped-total [] = refl
swapped-total (c ∷ calls) =
    neg_ℤ-+ℤ (total_of calls) _
    ∙ ap₂ ◌+ℤ◌ (swapped-total calls) (sym (ap imps_of (swap_difference c.first c.second) ∙ imps_neg _))

of_run : (run : List Call) → OfRun run
unfolding totals_on
of_run run =
    let s = stands run in
    let a = answers (left run) (accepted_in run) s in
    let k = is_state (left run) (accepted_in run) s in
    let t : totals_on (left run) ≡ answered (totals_of (total_of (accepted_in run))) = rw (k, s.total) in
    record {
      boards = s.boards;
      total = s.total;
      places = s.places;
      used = s.used;
      state = k;
      answers = a;
      plays = λ c r q e. (q ∙ goes_on run c, e ∙ a c);
      unchanged = stays run;
      totals = t;
      other = ap neg_ℤ s.total ∙ swapped-total (accepted_in run);
      totals_answered = λ r e. e ∙ t;
    }

pub team_matches : OfTeamMatches
team_matches = record { of_run = of_run; all_accepted = all_accepted; same_state = same_state; described = described; one_totals = one_totals }
