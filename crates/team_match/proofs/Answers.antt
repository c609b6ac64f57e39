-- What a call answers and leaves, by the tests that it makes. Assumes nothing.
use Rattle.std.specs.Prelude.{if◌then◌else◌}
use Prim.Native.Nat.{ℕ, ◌≤◌, ◌<◌}
use native.Mathlib.Omega.{arith}
use mathlib.Core.Path.{◌≡◌, refl, sym, ◌∙◌}
use mathlib.Core.Bool.{Bool, true, false, not, ◌&&◌}
use mathlib.Core.List.{List}
use borrow.Author.Tests.{lt-leb, le-leb, leb-true, leb-false, not-true}
use lib.Dec.{leb}
use lib.IntN.{ℤ, ◌-ℤ◌}
use lib.ListN.{length}
use Rattle.laws.specs.Refusals.{refused, answered, malformed_tally, invalid_score, board_not_free, too_many_boards}
use Rattle.laws.specs.Law77.{valid_score}
use Rattle.laws.specs.Law78.{imps_of, imps}
use Rattle.laws.specs.TeamMatch.{Call, is_used, is_free, answer_to, imps_on}
use Rattle.laws.proofs.Tests.{by_test, and_left, and_right, and_both}
use Rattle.team_match.specs.declared.TeamMatch.{TeamMatch}
use Rattle.team_match.specs.Matches.{boards_in, is_match, answer_on, with_imps, after_on}

-- IMPs are refused where a score isn't valid, and answered where both are
pub never : {A : Type 0} (z : ℤ) (n : ℕ) → answered z ≡ refused n → A
never z n e = absurd (let k : ◌≡◌ {A = ℕ} 0 1 = cc in omega arith)

pub same_answer : (y z : ℤ) → answered y ≡ answered z → y ≡ z
same_answer y z e = cc

module _ (first second : ℤ) where
  pub valid_both : (z : ℤ) → answered z ≡ imps first second → (valid_score first && valid_score second) ≡ true
  unfolding imps
  valid_both z e =
      by_test (valid_score first && valid_score second)
      (λ (q : (valid_score first && valid_score second) ≡ true). q)
      (λ (q : (valid_score first && valid_score second) ≡ false). never z invalid_score (rw q at e))

  pub valid-imps : (valid_score first && valid_score second) ≡ true → imps first second ≡ answered (imps_of (first -ℤ second))
  unfolding imps
  valid-imps q = rw q

  pub scored : (z : ℤ) → answered z ≡ imps first second → z ≡ imps_of (first -ℤ second)
  scored z e = same_answer z _ (e ∙ valid-imps (valid_both z e))

-- both scores are valid
abbrev pub both_valid : Call → Bool
both_valid c = valid_score c.first && valid_score c.second

module _ (m : TeamMatch) (c : Call) where
  -- ---- the answers, in the order of the tests
  pub no_match : is_match m ≡ false → answer_on m c ≡ refused malformed_tally
  unfolding answer_on
  no_match e = rw e

  pub no_score : is_match m ≡ true → both_valid c ≡ false → answer_on m c ≡ refused invalid_score
  unfolding answer_on answer_to
  no_score ok q = rw (ok, q)

  module _ (ok : is_match m ≡ true) (q : both_valid c ≡ true) where
    pub not_free : is_free c.board (boards_in m) ≡ false → answer_on m c ≡ refused board_not_free
    unfolding answer_on answer_to
    not_free e = rw (ok, q, e)

    pub full : is_free c.board (boards_in m) ≡ true → 32 ≤ length (boards_in m) → answer_on m c ≡ refused too_many_boards
    unfolding answer_on answer_to
    full e h = rw (ok, q, e, le-leb _ _ h)

    pub played : is_free c.board (boards_in m) ≡ true → length (boards_in m) < 32 → answer_on m c ≡ imps c.first c.second
    unfolding answer_on answer_to
    played e h = rw (ok, q, e, lt-leb _ _ h)

  -- ---- the state after it
  pub after_refusal : (n : ℕ) → refused n ≡ answer_on m c → m ≡ after_on m c
  unfolding after_on
  after_refusal n e = rw (← e)

  pub after_board : (z : ℤ) → answered z ≡ answer_on m c → z ≡ imps_on c → with_imps m c.board z ≡ after_on m c
  unfolding after_on
  after_board z e q = rw (← e, q)

-- ---- what is answered goes by which boards are used and by how many
pub same-used : (used used2 : List ℕ) (c : Call) → is_used c.board used ≡ is_used c.board used2 → length used ≡ length used2
    → answer_to used c ≡ answer_to used2 c
unfolding answer_to is_free
same-used used used2 c e q = rw (e, q)

-- a call that is answered, taken apart
pub record Taken (used : List ℕ) (c : Call) (z : ℤ) : Type 0 where
  pub one : valid_score c.first ≡ true
  pub two : valid_score c.second ≡ true
  pub from : 1 ≤ c.board
  pub to : c.board ≤ 127
  pub free : is_used c.board used ≡ false
  pub room : length used < 32
  pub worth : z ≡ imps_on c

module _ (used : List ℕ) (c : Call) (z : ℤ) where
  answered-only : (valid free full : Bool)
      → (if not valid then refused invalid_score else if not free then refused board_not_free else if full then refused too_many_boards
      else imps c.first c.second) ≡ answered z
      → (valid ≡ true) × (free ≡ true) × (full ≡ false) × (imps c.first c.second ≡ answered z)
  answered-only true true true e = never z too_many_boards (sym e)
  answered-only true true false e = (refl, refl, refl, e)
  answered-only true false full e = never z board_not_free (sym e)
  answered-only false free full e = never z invalid_score (sym e)

  pub taken-apart : answer_to used c ≡ answered z → Taken used c z
  unfolding answer_to is_free
  taken-apart e =
      let v = valid_score c.first && valid_score c.second in
      let last = leb c.board 127 && not (is_used c.board used) in
      let r = answered-only v (leb 1 c.board && last) (leb 32 (length used)) e in
      let f = and_right (leb 1 c.board) last r.1 in
      record {
        one = and_left _ (valid_score c.second) r.0;
        two = and_right (valid_score c.first) _ r.0;
        from = leb-true _ _ (and_left (leb 1 c.board) last r.1);
        to = leb-true _ _ (and_left (leb c.board 127) (not (is_used c.board used)) f);
        free = not-true _ (and_right (leb c.board 127) (not (is_used c.board used)) f);
        room = leb-false _ _ r.2;
        worth = scored c.first c.second z (sym r.3);
      }

  -- such a call is answered
  pub answered-to : Taken used c z → answer_to used c ≡ answered z
  unfolding answer_to is_free
  answered-to t =
      rw (t.one, t.two, le-leb 1 c.board t.from, le-leb c.board 127 t.to, t.free, lt-leb 32 (length used) t.room, t.worth)
      (valid-imps c.first c.second (and_both _ _ t.one t.two))

-- a call that a state answers: the state is one, and the call's parts
pub answered_parts : (m : TeamMatch) (c : Call) (z : ℤ) → answered z ≡ answer_on m c → (is_match m ≡ true) × Taken (boards_in m) c z
unfolding answer_on
answered_parts m c z e =
    by_test (is_match m)
    (λ (q : is_match m ≡ true). (q, taken-apart (boards_in m) c z (sym (rw q at e))))
    (λ (q : is_match m ≡ false). never z malformed_tally (rw q at e))
