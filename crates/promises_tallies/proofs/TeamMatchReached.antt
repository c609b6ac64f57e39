-- Every state that passes the test is left by the run that is exhibited for it: its boards, with its total spread over them. Assumes nothing.
use Prim.Native.Nat.{ℕ, suc, ◌≤◌, ◌+◌, ◌-◌, ◌*◌, min}
use native.Mathlib.Omega.{arith}
use mathlib.Core.Path.{◌≡◌, refl, sym, ap, ap₂, ◌∙◌}
use mathlib.Core.Bool.{Bool, true, false}
use mathlib.Core.List.{List, [], ◌∷◌}
use borrow.Author.Tests.{eqb-true}
use lib.Dec.{eqb}
use lib.IntN.{ℤ, pos, negsuc, neg_ℤ, nat_abs, ◌+ℤ◌, +ℤ_idl, +ℤ_idr, neg_ℤ-+ℤ}
use lib.ListN.{length, get_or}
use Rattle.laws.specs.Choice.{how_many}
use Rattle.laws.specs.Law77.{valid_score}
use Rattle.laws.specs.Law78.{lower_ends, lower_end, imps_for_size, with_sign_of, imps_of}
use Rattle.laws.specs.TeamMatch.{Call, is_used, boards_of, accepted_in, imps_on, total_of, Playable, Boards}
use Rattle.laws.proofs.Tests.{not_both}
use Rattle.laws.proofs.Counts.{every_below, every_below_lem}
use Rattle.laws.proofs.Scale.{imps_neg}
use Rattle.team_match.specs.declared.TeamMatch.{TeamMatch}
use Rattle.team_match.specs.Matches.{places_from, boards_in, is_match}
use Rattle.team_match.proofs.Boards.{none_before, used-place}
use Rattle.team_match.proofs.States.{parts}
use Rattle.promises_tallies.specs.TeamMatch.{left, points_for, board_worth, most_on_one, spread, run_for, Described}
use Rattle.promises_tallies.proofs.TeamMatchRuns.{Stands, stands, is_state, all_accepted, boards-length}
use Rattle.promises_tallies.proofs.TeamMatchOrder.{one_state}

-- ---- one board
-- the points of up to 24 IMPs are a valid score
abbrev is_valid : ℕ → Bool
is_valid imps = valid_score (pos (points_for imps))

all_valid : every_below 25 is_valid ≡ true
unfolding points_for lower_end lower_ends valid_score
all_valid = refl

points-valid : (imps : ℕ) → imps ≤ 24 → valid_score (pos (points_for imps)) ≡ true
points-valid imps h = every_below_lem 25 is_valid all_valid imps (omega arith)

zero-valid : valid_score (pos 0) ≡ true
unfolding valid_score
zero-valid = refl

-- and are worth these IMPs
abbrev is_worth : ℕ → Bool
is_worth imps = eqb (imps_for_size (points_for imps)) imps

all-worth : every_below 25 is_worth ≡ true
unfolding points_for lower_end lower_ends imps_for_size how_many
all-worth = refl

points-worth : (imps : ℕ) → imps ≤ 24 → imps_for_size (points_for imps) ≡ imps
points-worth imps h = eqb-true _ _ (every_below_lem 25 is_worth all-worth imps (omega arith))

board-imps : (total : ℤ) (board imps : ℕ) → imps ≤ 24 → imps_on (board_worth total board imps) ≡ with_sign_of total imps
unfolding board_worth imps_of
board-imps (pos n) board imps h = ap imps_of (+ℤ_idr (pos (points_for imps))) ∙ ap pos (points-worth imps h)
board-imps (negsuc n) board imps h =
    ap imps_of (+ℤ_idl (neg_ℤ (pos (points_for imps)))) ∙ imps_neg (pos (points_for imps)) ∙ ap (λ (k : ℕ). neg_ℤ (pos k)) (points-worth imps h)

board-number : (total : ℤ) (board imps : ℕ) → (board_worth total board imps).board ≡ board
unfolding board_worth
board-number (pos n) board imps = refl
board-number (negsuc n) board imps = refl

board-first : (total : ℤ) (board imps : ℕ) → imps ≤ 24 → valid_score (board_worth total board imps).first ≡ true
unfolding board_worth
board-first (pos n) board imps h = points-valid imps h
board-first (negsuc n) board imps h = zero-valid

board-second : (total : ℤ) (board imps : ℕ) → imps ≤ 24 → valid_score (board_worth total board imps).second ≡ true
unfolding board_worth
board-second (pos n) board imps h = zero-valid
board-second (negsuc n) board imps h = points-valid imps h

-- ---- numbers of the sign of a total
none_of_sign : (total : ℤ) → with_sign_of total 0 ≡ pos 0
none_of_sign (pos n) = refl
none_of_sign (negsuc n) = refl

sum_of_sign : (total : ℤ) (a b : ℕ) → with_sign_of total a +ℤ with_sign_of total b ≡ with_sign_of total (a + b)
sum_of_sign (pos n) a b = refl
sum_of_sign (negsuc n) a b = sym (neg_ℤ-+ℤ (pos a) (pos b))

own_sign : (total : ℤ) → with_sign_of total (nat_abs total) ≡ total
own_sign (pos n) = refl
own_sign (negsuc n) = refl

-- ---- a total spread over some boards
module _ (total : ℤ) where
  spread-boards : (imps : ℕ) (boards : List ℕ) → boards_of (spread total imps boards) ≡ boards
  unfolding spread boards_of
  spread-boards imps [] = refl
  spread-boards imps (b ∷ boards) =
      let k = min imps most_on_one in
      ap₂ (λ (x : ℕ) (l : List ℕ). x ∷ l) (board-number total b k) (spread-boards (imps - k) boards)

  spread-length : (imps : ℕ) (boards : List ℕ) → length (spread total imps boards) ≡ length boards
  spread-length imps boards = sym (boards-length (spread total imps boards)) ∙ ap length (spread-boards imps boards)

  spread-total : (imps : ℕ) (boards : List ℕ) → imps ≤ 24 * length boards → total_of (spread total imps boards) ≡ with_sign_of total imps
  unfolding spread total_of
  spread-total imps [] h =
      let none : imps ≡ 0 = omega arith in
      rw none (sym (none_of_sign total))
  spread-total imps (b ∷ boards) h =
      let k = min imps most_on_one in
      let whole : (imps - k) + k ≡ imps = omega arith in
      ap₂ ◌+ℤ◌ (spread-total (imps - k) boards (omega arith)) (board-imps total b k (omega arith))
      ∙ sum_of_sign total (imps - k) k ∙ ap (with_sign_of total) whole

  spread-playable : (imps i : ℕ) (l : List Bool) → 1 ≤ i → i + length l ≤ 128 → Playable (spread total imps (places_from i l))
  unfolding spread Playable places_from
  spread-playable imps i [] from to = tt
  spread-playable imps i (true ∷ l) from to =
      let k = min imps most_on_one in
      let free : is_used i (boards_of (spread total (imps - k) (places_from (suc i) l))) ≡ false =
      ap (is_used i) (spread-boards (imps - k) (places_from (suc i) l)) ∙ not_yet i l in
      rw (board-number total i k) (
        from,
        omega arith,
        free,
        board-first total i k (omega arith),
        board-second total i k (omega arith),
        spread-playable (imps - k) (suc i) l (omega arith) (omega arith),
      )
    where
      not_yet : (i : ℕ) (l : List Bool) → is_used i (places_from (suc i) l) ≡ false
      not_yet i l = none_before i (suc i) l (omega arith)
  spread-playable imps i (false ∷ l) from to = spread-playable imps (suc i) l (omega arith) (omega arith)

-- ---- the state that the run leaves
-- the first place is no board's
playable_from_1 : (total : ℤ) (imps : ℕ) (l : List Bool) → get_or l 0 false ≡ false → length l ≡ 128 → Playable (spread total imps (places_from 0 l))
unfolding places_from
playable_from_1 total imps [] e n = absurd (omega arith)
playable_from_1 total imps (true ∷ l) e n = not_both true refl e
playable_from_1 total imps (false ∷ l) e n = spread-playable total imps 1 l (omega arith) (omega arith)

module _ (m : TeamMatch) where
  run_boards : is_match m ≡ true → Boards (run_for m)
  unfolding run_for boards_in
  run_boards e =
      let p = parts m e in
      record {
        room = rw (spread-length m.total.0 (nat_abs m.total.0) (boards_in m)) p.room;
        playable = playable_from_1 m.total.0 (nat_abs m.total.0) m.used p.no_zero p.places;
      }

  -- the state stands for the run's boards itself
  run_stands : is_match m ≡ true → Stands m (run_for m)
  unfolding run_for boards_in
  run_stands e =
      let p = parts m e in
      let t = m.total.0 in
      record {
        places = p.places;
        used = λ b. sym (ap (is_used b) (spread-boards t (nat_abs t) (boards_in m)) ∙ used-place m.used b);
        count = sym (spread-length t (nat_abs t) (boards_in m));
        total = sym (spread-total t (nat_abs t) (boards_in m) p.small ∙ own_sign t);
        boards = run_boards e;
      }

  run_leaves : is_match m ≡ true → m ≡ left (run_for m)
  run_leaves e =
      let a = all_accepted (run_for m) (run_boards e) in
      one_state m (left (run_for m)) (run_for m) (accepted_in (run_for m)) (run_stands e) (stands (run_for m))
      (ap total_of (sym a))
      (λ b. ap (λ (l : List Call). is_used b (boards_of l)) (sym a))

  pub described : Described m
  described =
      record {
        holds = λ e. (run_boards e, run_leaves e);
        only = λ run b e. rw e (is_state (left run) (accepted_in run) (stands run));
      }
