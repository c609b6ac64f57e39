-- What a run of calls of a team match leaves stands for the boards that it accepts: at every call, by one step. Assumes nothing.
use Prim.Native.Nat.{ℕ, suc, ◌≤◌, ◌<◌, ◌+◌, ◌*◌}
use native.Mathlib.Omega.{arith}
use mathlib.Core.Path.{◌≡◌, refl, sym, ap, ◌∙◌}
use mathlib.Core.Bool.{Bool, true, false, ◌||◌}
use mathlib.Core.List.{List, [], ◌∷◌}
use borrow.Author.Tests.{ne_eqb}
use lib.Dec.{eqb}
use lib.IntN.{ℤ, nat_abs, ◌+ℤ◌, ◌-ℤ◌}
use lib.ListN.{length, get_or, replicate, length-set, length-replicate}
use Rattle.laws.specs.Choice.{some}
use Rattle.laws.specs.Refusals.{Answer, refused, answered}
use Rattle.laws.specs.TeamMatch.{Call, is_used, answer_to, leaving, boards_of, accepted_in, imps_on, total_of, Playable, Boards}
use Rattle.laws.proofs.Integers.{size_sum}
use Rattle.laws.proofs.Scale.{at_most_24_imps}
use Rattle.team_match.specs.declared.TeamMatch.{TeamMatch}
use Rattle.team_match.specs.Matches.{boards_in, is_match, start_of, answer_on, with_imps, after_on}
use Rattle.team_match.proofs.Boards.{used-place, one_more, one_place, none-used}
use Rattle.team_match.proofs.States.{whole}
use Rattle.team_match.proofs.Answers.{same-used, Taken, taken-apart, answered-to}
use Rattle.promises_tallies.specs.TeamMatch.{left}

-- ---- the boards of a match
pub boards-length : (calls : List Call) → length (boards_of calls) ≡ length calls
unfolding boards_of
boards-length [] = refl
boards-length (c ∷ calls) = ap suc (boards-length calls)

-- none has the number 0
pub zero_free : (calls : List Call) → Playable calls → is_used 0 (boards_of calls) ≡ false
unfolding Playable boards_of is_used some
zero_free [] p = refl
zero_free (c ∷ calls) p = rw (ne_eqb 0 c.board (λ e. omega (arith, p.0))) (zero_free calls p.5)

-- a board is worth at most 24 IMPs
pub total-small : (calls : List Call) → nat_abs (total_of calls) ≤ 24 * length calls
unfolding total_of
total-small [] = omega arith
total-small (c ∷ calls) = omega (arith, size_sum (total_of calls) (imps_on c), at_most_24_imps (c.first -ℤ c.second), total-small calls)

-- ---- a state stands for boards
pub record Stands (m : TeamMatch) (calls : List Call) : Type 0 where
  pub places : length m.used ≡ 128
  pub used : (b : ℕ) → get_or m.used b false ≡ is_used b (boards_of calls)
  pub count : length (boards_in m) ≡ length calls
  pub total : m.total.0 ≡ total_of calls
  pub boards : Boards calls

module _ (m : TeamMatch) (calls : List Call) (s : Stands m calls) where
  -- it is a state
  pub is_state : is_match m ≡ true
  is_state =
      whole m
      (record {
        places = s.places;
        no_zero = s.used 0 ∙ zero_free calls s.boards.playable;
        room = rw s.count s.boards.room;
        small = rw (s.count, s.total) (total-small calls);
      })

  -- and answers a call by the boards
  pub answers : (c : Call) → answer_on m c ≡ answer_to (boards_of calls) c
  unfolding answer_on boards_in
  answers c =
      rw is_state
      (same-used (boards_in m) (boards_of calls) c (used-place m.used c.board ∙ s.used c.board) (s.count ∙ sym (boards-length calls)))

  -- one board more
  pub with_board_lem : (c : Call) (z : ℤ) → answer_to (boards_of calls) c ≡ answered z → Stands (with_imps m c.board (imps_on c)) (c ∷ calls)
  unfolding boards_in boards_of is_used some total_of Playable
  with_board_lem c z e =
      let t = taken-apart (boards_of calls) c z e in
      let below : c.board < length m.used = omega (arith, s.places, t.to) in
      record {
        places = simp length-set s.places;
        used = λ b. one_place m.used c.board b below ∙ ap (λ (r : Bool). eqb b c.board || r) (s.used b);
        count = one_more m.used c.board below (s.used c.board ∙ t.free) ∙ ap suc s.count;
        total = ap (λ (y : ℤ). y +ℤ imps_on c) s.total;
        boards = record { room = omega (arith, t.room, boards-length calls); playable = (t.from, t.to, t.free, t.one, t.two, s.boards.playable) };
      }

  -- a call, by what it is answered
  after : (c : Call) (a : Answer ℤ) → answer_to (boards_of calls) c ≡ a
      → Stands (leaving a (with_imps m c.board (imps_on c)) m) (leaving a (c ∷ calls) calls)
  after c (refused n) e = s
  after c (answered z) e = with_board_lem c z e

-- before the first call
begins : Stands start_of []
unfolding start_of boards_in boards_of is_used some total_of Playable
begins =
    record {
      places = length-replicate 128 false;
      used = λ b. (none-used (replicate 128 false) 128 b refl).0;
      count = (none-used (replicate 128 false) 128 0 refl).1;
      total = refl;
      boards = record { room = omega arith; playable = tt };
    }

-- after every run
pub stands : (run : List Call) → Stands (left run) (accepted_in run)
unfolding left accepted_in after_on
stands [] = begins
stands (c ∷ run) = rw (answers (left run) (accepted_in run) (stands run) c) (after (left run) (accepted_in run) (stands run) c _ refl)

-- ---- boards of a match are all accepted
pub all_accepted : (run : List Call) → Boards run → accepted_in run ≡ run
unfolding accepted_in Playable
all_accepted [] b = refl
all_accepted (c ∷ run) b =
    let p = b.playable in
    let e = all_accepted run (record { room = omega (arith, b.room); playable = p.5 }) in
    let t : Taken (boards_of run) c (imps_on c) =
    record {
      one = p.3;
      two = p.4;
      from = p.0;
      to = p.1;
      free = p.2;
      room = omega (arith, b.room, boards-length run);
      worth = refl;
    } in
    rw (e, answered-to (boards_of run) c (imps_on c) t)
