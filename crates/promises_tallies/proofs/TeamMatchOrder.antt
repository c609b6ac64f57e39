-- Lists with the same boards and the same scores, in whatever order, have the same total and use the same boards. Assumes nothing.
use Rattle.std.specs.Prelude.{if◌then◌else◌}
use Prim.Native.Nat.{ℕ, ◌<◌, ◌+◌}
use native.Mathlib.Omega.{arith}
use mathlib.Core.Path.{◌≡◌, refl, sym, ap, ◌∙◌}
use mathlib.Core.Bool.{Bool, true, false, ◌&&◌, ◌||◌}
use mathlib.Core.List.{List, [], ◌∷◌}
use borrow.Author.Tests.{eqb-true, eq-eqb}
use lib.Dec.{eqb}
use lib.IntN.{ℤ, ◌+ℤ◌, +ℤ_assoc, +ℤ_comm}
use lib.Seq.{ext_get_or}
use Rattle.laws.specs.Choice.{how_many, some}
use Rattle.laws.specs.Law78.{same_score}
use Rattle.laws.specs.TeamMatch.{Call, is_used, boards_of, accepted_in, imps_on, total_of, same_call, SameBoards}
use Rattle.laws.proofs.Tests.{by_test, and_left, and_right}
use Rattle.laws.proofs.Scores.{same_true, is_self}
use Rattle.team_match.specs.declared.TeamMatch.{TeamMatch}
use Rattle.promises_tallies.specs.TeamMatch.{left}
use Rattle.promises_tallies.proofs.TeamMatchRuns.{Stands, stands}

-- what a test counts
counted : {a b : Bool} → a ≡ b → ◌≡◌ {A = ℕ} (if a then 1 else 0) (if b then 1 else 0)
counted e = rw e

-- ---- the same board with the same scores
same-call : (a b : Call) → same_call a b ≡ true → a ≡ b
unfolding same_call
same-call a b e =
    let board = eqb-true a.board b.board (and_left _ _ e) in
    let scores = and_right (eqb a.board b.board) (same_score a.first b.first && same_score a.second b.second) e in
    let first = same_true a.first b.first (and_left _ _ scores) in
    let second = same_true a.second b.second (and_right (same_score a.first b.first) _ scores) in
    λ i. record { board = board i; first = first i; second = second i }

self_call : (a : Call) → same_call a a ≡ true
unfolding same_call
self_call a = rw (eq-eqb a.board a.board refl, is_self a.first, is_self a.second)

-- ---- a list without one board
unfoldable without : Call → List Call → List Call
without c [] = []
without c (x ∷ calls) = if same_call c x then calls else (x ∷ without c calls)

module _ (c : Call) where
  -- a board that is there, by the front of the list
  by_front : {A : Type 0} (x : Call) → (same_call c x ≡ true → c ≡ x → A) → (same_call c x ≡ false → A) → A
  by_front x f g = by_test (same_call c x) (λ (q : same_call c x ≡ true). f q (same-call c x q)) g

  total-without : (calls : List Call) → 0 < how_many (same_call c) calls → total_of calls ≡ total_of (without c calls) +ℤ imps_on c
  unfolding without total_of how_many
  total-without [] h = absurd (omega arith)
  total-without (x ∷ calls) h =
      by_front x
      (λ q e. rw q (ap (λ (y : Call). total_of calls +ℤ imps_on y) (sym e)))
      (λ q. rw q (ap (λ (z : ℤ). z +ℤ imps_on x) (total-without calls (omega (arith, counted q)))
      ∙ moved (total_of (without c calls)) (imps_on c) (imps_on x)))
    where
      moved : (a b d : ℤ) → a +ℤ b +ℤ d ≡ a +ℤ d +ℤ b
      moved a b d = +ℤ_assoc a b d ∙ ap (λ (z : ℤ). a +ℤ z) (+ℤ_comm b d) ∙ sym (+ℤ_assoc a d b)

  used-without : (b : ℕ) (calls : List Call) → 0 < how_many (same_call c) calls
      → is_used b (boards_of calls) ≡ (eqb b c.board || is_used b (boards_of (without c calls)))
  unfolding without boards_of is_used some how_many
  used-without b [] h = absurd (omega arith)
  used-without b (x ∷ calls) h =
      by_front x
      (λ q e. rw q (ap (λ (y : Call). eqb b y.board || some (eqb b) (boards_of calls)) (sym e)))
      (λ q. rw q (ap (λ (r : Bool). eqb b x.board || r) (used-without b calls (omega (arith, counted q)))
      ∙ either (eqb b x.board) (eqb b c.board) (some (eqb b) (boards_of (without c calls)))))
    where
      either : (p q r : Bool) → (p || (q || r)) ≡ (q || (p || r))
      either true true r = refl
      either true false r = refl
      either false true r = refl
      either false false r = refl

  count-without : (d : Call) (calls : List Call) → 0 < how_many (same_call c) calls
      → how_many (same_call d) calls ≡ (if same_call d c then 1 else 0) + how_many (same_call d) (without c calls)
  unfolding without how_many
  count-without d [] h = absurd (omega arith)
  count-without d (x ∷ calls) h =
      by_front x
      (λ q e. rw q (ap (λ (y : Call). (if same_call d y then 1 else 0) + how_many (same_call d) calls) (sym e)))
      (λ q. rw q (omega (arith, count-without d calls (omega (arith, counted q)))))

-- ---- lists with the same boards
-- what is left of both without the front of the first
rest-same : (c : Call) (calls calls2 : List Call) → SameBoards (c ∷ calls) calls2 → (0 < how_many (same_call c) calls2) × SameBoards calls (without c calls2)
unfolding SameBoards how_many
rest-same c calls calls2 s =
    let there : 0 < how_many (same_call c) calls2 = omega (arith, s c, counted (self_call c)) in
    (there, λ d. omega (arith, s d, count-without c d calls2 there))

none_left : (calls : List Call) → SameBoards [] calls → calls ≡ []
unfolding SameBoards how_many
none_left [] s = refl
none_left (c ∷ calls) s = absurd (omega (arith, s c, counted (self_call c)))

pub same_total : (calls calls2 : List Call) → SameBoards calls calls2 → total_of calls ≡ total_of calls2
unfolding total_of
same_total [] calls2 s = rw (none_left calls2 s)
same_total (c ∷ calls) calls2 s =
    let r = rest-same c calls calls2 s in
    ap (λ (z : ℤ). z +ℤ imps_on c) (same_total calls (without c calls2) r.1) ∙ sym (total-without c calls2 r.0)

pub same-used : (b : ℕ) (calls calls2 : List Call) → SameBoards calls calls2 → is_used b (boards_of calls) ≡ is_used b (boards_of calls2)
unfolding is_used boards_of some
same-used b [] calls2 s = rw (none_left calls2 s)
same-used b (c ∷ calls) calls2 s =
    let r = rest-same c calls calls2 s in
    ap (λ (q : Bool). eqb b c.board || q) (same-used b calls (without c calls2) r.1) ∙ sym (used-without c b calls2 r.0)

-- ---- states by their boards
pub one_state : (m n : TeamMatch) (calls calls2 : List Call) → Stands m calls → Stands n calls2
    → total_of calls ≡ total_of calls2 → ((b : ℕ) → is_used b (boards_of calls) ≡ is_used b (boards_of calls2)) → m ≡ n
one_state m n calls calls2 s t e u =
    let total : m.total.0 ≡ n.total.0 = s.total ∙ e ∙ sym t.total in
    let used : m.used ≡ n.used = ext_get_or false m.used n.used (s.places ∙ sym t.places) (λ b h. s.used b ∙ u b ∙ sym (t.used b)) in
    λ i. record { total = record { 0 = total i }; used = used i }

-- two runs that accept the same boards with the same scores leave the same state
pub same_state : (run run2 : List Call) → SameBoards (accepted_in run) (accepted_in run2) → left run ≡ left run2
same_state run run2 s =
    one_state (left run) (left run2) _ _ (stands run) (stands run2)
    (same_total (accepted_in run) (accepted_in run2) s)
    (λ b. same-used b (accepted_in run) (accepted_in run2) s)
