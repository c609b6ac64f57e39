-- A plan and a defence make one line, legal and done, that keeps both. Assumes nothing.
use Rattle.std.specs.Prelude.{if◌then◌else◌}
use Prim.Native.Nat.{ℕ, zero, suc, ◌+◌, ◌-◌, ◌≤◌, ◌<◌}
use native.Mathlib.Omega.{arith}
use mathlib.Core.Path.{◌≡◌}
use mathlib.Core.Bool.{Bool, true, false}
use mathlib.Core.List.{List, [], ◌∷◌, ◌++◌}
use Rattle.laws.specs.Law44.{cards_played}
use Rattle.laws.specs.BestPlay.{may_play, our_turn}
use Rattle.laws.specs.Lines.{Legal, Done, Keeps, Plays, played_on, played_by}
use Rattle.laws.proofs.Tests.{by_test}

module _ (trump opening : ℕ) (deal : List ℕ) (side : ℕ) (g : List ℕ) (f d : List ℕ → ℕ) where
  abbrev turn : List ℕ → Bool
  turn u = our_turn trump opening side (u ++ g)

  -- the next card, by the plan or by the defence
  abbrev next_card : List ℕ → ℕ
  next_card u = if turn u then f u else d u

  -- the line keeps what it has kept, and the plan and the defence for its next cards
  on_plan : (left : ℕ) (u : List ℕ) → Keeps trump opening side g true f u → Keeps trump opening side g true f (played_on trump opening side g f d left u)
  unfolding played_on Keeps
  on_plan zero u k = k
  on_plan (suc left) u k = on_plan left (next_card u ∷ u) ((λ q. rw q), k)

  on_defence : (left : ℕ) (u : List ℕ) → Keeps trump opening side g false d u → Keeps trump opening side g false d (played_on trump opening side g f d left u)
  unfolding played_on Keeps
  on_defence zero u k = k
  on_defence (suc left) u k = on_defence left (next_card u ∷ u) ((λ q. rw q), k)

  pub keeps_plan : Keeps trump opening side g true f (played_by trump opening side g f d)
  unfolding played_by Keeps
  keeps_plan = on_plan (52 - cards_played g) [] tt

  pub keeps_defence : Keeps trump opening side g false d (played_by trump opening side g f d)
  unfolding played_by Keeps
  keeps_defence = on_defence (52 - cards_played g) [] tt

  module _ (plan : Plays trump opening deal side g true f) (defence : Plays trump opening deal side g false d) where
    next_may : (u : List ℕ) → Legal trump opening deal g u → cards_played (u ++ g) < 52 → may_play trump opening deal (u ++ g) (next_card u) ≡ true
    unfolding Plays
    next_may u ok n =
        by_test (turn u)
        (λ (q : turn u ≡ true). rw q (plan u ok n q))
        (λ (q : turn u ≡ false). rw q (defence u ok n q))

    on_legal : (left : ℕ) (u : List ℕ) → Legal trump opening deal g u → cards_played (u ++ g) + left ≡ 52
        → Legal trump opening deal g (played_on trump opening side g f d left u) × Done g (played_on trump opening side g f d left u)
    unfolding played_on Legal cards_played
    on_legal zero u ok n = (ok, omega arith)
    on_legal (suc left) u ok n = on_legal left (next_card u ∷ u) (next_may u ok (omega arith), ok) (omega arith)

    pub legal_done : cards_played g ≤ 52 → Legal trump opening deal g (played_by trump opening side g f d) × Done g (played_by trump opening side g f d)
    unfolding played_by Legal
    legal_done n = on_legal (52 - cards_played g) [] tt (omega arith)
