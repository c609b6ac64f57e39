-- By best play each side holds the other to the value: the card that attains it is a plan and a defence at once. Assumes nothing.
use Rattle.std.specs.Prelude.{if◌then◌else◌}
use Prim.Native.Nat.{ℕ, zero, suc, ◌+◌, ◌-◌, ◌/◌, ◌≤◌, ◌<◌, max, min}
use native.Mathlib.Omega.{arith}
use mathlib.Core.Path.{◌≡◌, refl, ap, ◌∙◌}
use mathlib.Core.Bool.{Bool, true, false, ◌&&◌}
use mathlib.Core.List.{List, [], ◌∷◌, ◌++◌}
use borrow.Author.Tests.{leb-true, leb-false, eqb-true, eqb-false, eq-eqb}
use lib.Dec.{eqb, leb}
use lib.ListN.{length}
use Rattle.laws.specs.Choice.{how_many, some_below}
use Rattle.laws.specs.Cards.{side_of}
use Rattle.laws.specs.Law44.{cards_played, cards_in_trick, trick_under_way, leader, winner, winners, tricks_won, playable}
use Rattle.laws.specs.BestPlay.{greatest, smallest, may_play, our_turn, gain, most, least, best_play}
use Rattle.laws.specs.Lines.{Legal, Done, ours, Keeps, Plays}
use Rattle.laws.proofs.TricksWon.{winners-same, winners-more}
use Rattle.laws.proofs.Tests.{by_test, not_both, and_left, and_right, and_both, or_left, or_right}
use Rattle.laws.proofs.Counts.{many_append, below-some}
use Rattle.laws.proofs.CardRefusals.{playable-dealt}

-- ---- the greatest and the smallest
module _ (test : ℕ → Bool) (value : ℕ → ℕ) where
  -- no number that passes has more than the greatest, nor less than the smallest
  at_most : (n k : ℕ) → k < n → test k ≡ true → value k ≤ greatest test value n
  unfolding greatest
  at_most zero k h t = absurd (omega arith)
  at_most (suc n) k h t =
      by_test (eqb k n)
      (λ (e : eqb k n ≡ true). let is = eqb-true k n e in rw (← is, t) (omega arith))
      (λ (e : eqb k n ≡ false).
      let more = at_most n k (omega (arith, eqb-false k n e)) t in
      by_test (test n) (λ (q : test n ≡ true). rw q (omega (arith, more))) (λ (q : test n ≡ false). rw q more))

  at_least : (n k : ℕ) → k < n → test k ≡ true → smallest test value n ≤ value k
  unfolding smallest
  at_least zero k h t = absurd (omega arith)
  at_least (suc n) k h t =
      by_test (eqb k n)
      (λ (e : eqb k n ≡ true). let is = eqb-true k n e in rw (← is, t) (omega arith))
      (λ (e : eqb k n ≡ false).
      let more = at_least n k (omega (arith, eqb-false k n e)) t in
      by_test (test n) (λ (q : test n ≡ true). rw q (omega (arith, more))) (λ (q : test n ≡ false). rw q more))

  -- a bound of all is one of the greatest
  below_all : (b n : ℕ) → ((k : ℕ) → k < n → test k ≡ true → value k ≤ b) → greatest test value n ≤ b
  unfolding greatest
  below_all b zero f = omega arith
  below_all b (suc n) f =
      let more = below_all b n (λ k h t. f k (omega arith) t) in
      by_test (test n) (λ (q : test n ≡ true). rw q (omega (arith, more, f n (omega arith) q))) (λ (q : test n ≡ false). rw q more)

  -- each is the value of a number that passes, where one does; for the smallest, where no value is over 13
  record Attained (n v : ℕ) : Type 0 where
    number : ℕ
    below : number < n
    passes : test number ≡ true
    is : value number ≡ v

  wider : {n v : ℕ} → Attained n v → Attained (suc n) v
  wider a = record { number = a.number; below = omega (arith, a.below); passes = a.passes; is = a.is }

  -- one of two values that are each attained
  greater : (n v : ℕ) → test n ≡ true → Attained n v → Attained (suc n) (max v (value n))
  greater n v t a =
      by_test (leb v (value n))
      (λ (q : leb v (value n) ≡ true).
      let e : max v (value n) ≡ value n = omega (arith, leb-true v (value n) q) in rw e (record { number = n; below = omega arith; passes = t; is = refl }))
      (λ (q : leb v (value n) ≡ false). let e : max v (value n) ≡ v = omega (arith, leb-false v (value n) q) in rw e (wider a))

  lesser : (n v : ℕ) → test n ≡ true → Attained n v → Attained (suc n) (min v (value n))
  lesser n v t a =
      by_test (leb v (value n))
      (λ (q : leb v (value n) ≡ true). let e : min v (value n) ≡ v = omega (arith, leb-true v (value n) q) in rw e (wider a))
      (λ (q : leb v (value n) ≡ false).
      let e : min v (value n) ≡ value n = omega (arith, leb-false v (value n) q) in rw e (record { number = n; below = omega arith; passes = t; is = refl }))

  -- where no number below n passes
  greatest-none : (n : ℕ) → some_below n test ≡ false → greatest test value n ≡ 0
  unfolding greatest some_below
  greatest-none zero e = refl
  greatest-none (suc n) e = rw (or_left (test n) _ e) (greatest-none n (or_right (test n) _ e))

  smallest-none : (n : ℕ) → some_below n test ≡ false → smallest test value n ≡ 13
  unfolding smallest some_below
  smallest-none zero e = refl
  smallest-none (suc n) e = rw (or_left (test n) _ e) (smallest-none n (or_right (test n) _ e))

  greatest_attained : (n : ℕ) → some_below n test ≡ true → Attained n (greatest test value n)
  unfolding greatest some_below
  greatest_attained zero e = not_both false e refl
  greatest_attained (suc n) e =
      let more = greatest_attained n in
      by_test (test n)
      (λ (q : test n ≡ true). rw q (by_test (some_below n test)
      (λ (s : some_below n test ≡ true). greater n (greatest test value n) q (more s))
      (λ (s : some_below n test ≡ false).
      let z : max (greatest test value n) (value n) ≡ value n = omega (arith, greatest-none n s) in
      rw z (record { number = n; below = omega arith; passes = q; is = refl }))))
      (λ (q : test n ≡ false). rw q (wider (more (rw q at e))))

  smallest_attained : ((k : ℕ) → test k ≡ true → value k ≤ 13) → (n : ℕ) → some_below n test ≡ true → Attained n (smallest test value n)
  unfolding smallest some_below
  smallest_attained b zero e = not_both false e refl
  smallest_attained b (suc n) e =
      let more = smallest_attained b n in
      by_test (test n)
      (λ (q : test n ≡ true). rw q (by_test (some_below n test)
      (λ (s : some_below n test ≡ true). lesser n (smallest test value n) q (more s))
      (λ (s : some_below n test ≡ false).
      let z : min (smallest test value n) (value n) ≡ value n = omega (arith, smallest-none n s, b n q) in
      rw z (record { number = n; below = omega arith; passes = q; is = refl }))))
      (λ (q : test n ≡ false). rw q (wider (more (rw q at e))))

-- the greatest number below n that passes a test, 0 where none does
unfoldable pub chosen : (ℕ → Bool) → ℕ → ℕ
chosen test zero = 0
chosen test (suc n) = if test n then n else chosen test n

chosen_passes : (test : ℕ → Bool) (n k : ℕ) → k < n → test k ≡ true → (test (chosen test n) ≡ true) × (chosen test n < n)
unfolding chosen
chosen_passes test zero k h t = absurd (omega arith)
chosen_passes test (suc n) k h t =
    by_test (test n)
    (λ (q : test n ≡ true). rw q (q, omega arith))
    (λ (q : test n ≡ false).
    let low : k < n = lower q in
    let more = chosen_passes test n k low t in
    rw q (more.0, omega (arith, more.1)))
  where
    lower : test n ≡ false → k < n
    lower q =
        by_test (eqb k n)
        (λ (e : eqb k n ≡ true). let is = eqb-true k n e in not_both (test n) (rw is at t) q)
        (λ (e : eqb k n ≡ false). omega (arith, eqb-false k n e))

-- ---- one card
module _ (trump opening : ℕ) (deal : List ℕ) (side : ℕ) where
  -- the value after the cards h, with so many left
  abbrev value_of : ℕ → List ℕ → ℕ
  value_of left h = if our_turn trump opening side h then most trump opening deal side left h else least trump opening deal side left h

  -- what a card is worth with so many left after it: what it gains, and the value after it
  abbrev worth : ℕ → List ℕ → ℕ → ℕ
  worth left h c = gain trump opening side h c + value_of left (c ∷ h)

  -- with no card left it is 0
  none_left : (h : List ℕ) → value_of 0 h ≡ 0
  unfolding most least
  none_left h =
      by_test (our_turn trump opening side h)
      (λ (q : our_turn trump opening side h ≡ true). rw q)
      (λ (q : our_turn trump opening side h ≡ false). rw q)

  -- the value at declarer's turn, and at the defenders'
  our_value : (left : ℕ) (h : List ℕ) → our_turn trump opening side h ≡ true → value_of (suc left) h ≡ greatest (may_play trump opening deal h) (worth left h) 52
  unfolding most
  our_value left h q = rw q

  their_value : (left : ℕ) (h : List ℕ) → our_turn trump opening side h ≡ false
      → value_of (suc left) h ≡ smallest (may_play trump opening deal h) (worth left h) 52
  unfolding least
  their_value left h q = rw q

  -- the tricks won grow by what the card gains
  pub won-more : (h : List ℕ) (c : ℕ)
      → tricks_won side (winners trump opening (c ∷ h)) ≡ tricks_won side (winners trump opening h) + gain trump opening side h c
  unfolding tricks_won leader gain how_many
  won-more h c =
      by_test (eqb (cards_in_trick (c ∷ h)) 0)
      (λ (q : eqb (cards_in_trick (c ∷ h)) 0 ≡ true).
      let w = winner trump (leader trump opening h) (c ∷ trick_under_way h) in
      rw (winners-more trump opening c h q, q, many_append (λ seat. eqb (side_of seat) side) (winners trump opening h) (w ∷ [])) (omega arith))
      (λ (q : eqb (cards_in_trick (c ∷ h)) 0 ≡ false). rw (winners-same trump opening c h q, q) (omega arith))

-- ---- lines from an ending g, after each of which, as long as cards are left, some card may be played
module _ (trump opening : ℕ) (deal : List ℕ) (side : ℕ) (g : List ℕ) (all : length deal ≡ 52)
    (can : (u : List ℕ) → Legal trump opening deal g u → cards_played (u ++ g) < 52 → some_below 52 (may_play trump opening deal (u ++ g)) ≡ true) where
  abbrev value : ℕ → List ℕ → ℕ
  value left h = value_of trump opening deal side left h

  abbrev worth_in : ℕ → List ℕ → ℕ → ℕ
  worth_in left h c = worth trump opening deal side left h c

  abbrev may : List ℕ → ℕ → Bool
  may h c = may_play trump opening deal h c

  -- a card that may be played is one
  may_low : (h : List ℕ) (c : ℕ) → may h c ≡ true → c < 52
  unfolding may_play
  may_low h c e = omega (arith, playable-dealt trump opening deal h c (and_left (playable trump opening deal h c) _ e), all)

  -- of the cards left and those of the trick under way a side wins at most a trick for each four
  worth-le : (left : ℕ) (h : List ℕ) (c : ℕ) → value left (c ∷ h) ≤ (left + cards_in_trick (c ∷ h)) / 4 → worth_in left h c ≤ (suc left + cards_in_trick h) / 4
  unfolding gain cards_in_trick cards_played
  worth-le left h c b =
      by_test (eqb (cards_in_trick (c ∷ h)) 0)
      (λ (q : eqb (cards_in_trick (c ∷ h)) 0 ≡ true).
      let full = eqb-true (cards_in_trick (c ∷ h)) 0 q in
      by_test (eqb (side_of (leader trump opening (c ∷ h))) side)
      (λ (w : eqb (side_of (leader trump opening (c ∷ h))) side ≡ true). rw (q, w) (omega (arith, b, full)))
      (λ (w : eqb (side_of (leader trump opening (c ∷ h))) side ≡ false). rw (q, w) (omega (arith, b, full))))
      (λ (q : eqb (cards_in_trick (c ∷ h)) 0 ≡ false). rw q (omega (arith, b, eqb-false (cards_in_trick (c ∷ h)) 0 q)))

  bounded : (left : ℕ) (u : List ℕ) → Legal trump opening deal g u → cards_played (u ++ g) + left ≡ 52
      → value left (u ++ g) ≤ (left + cards_in_trick (u ++ g)) / 4
  unfolding Legal cards_played
  bounded zero u ok n = rw (none_left trump opening deal side (u ++ g)) (omega arith)
  bounded (suc left) u ok n =
      let h = u ++ g in
      let each : (c : ℕ) → may h c ≡ true → worth_in left h c ≤ (suc left + cards_in_trick h) / 4 =
      λ c m. worth-le left h c (bounded left (c ∷ u) (m, ok) (omega arith)) in
      by_test (our_turn trump opening side h)
      (λ (q : our_turn trump opening side h ≡ true).
      rw (our_value trump opening deal side left h q) (below_all (may h) (worth_in left h) _ 52 (λ c l m. each c m)))
      (λ (q : our_turn trump opening side h ≡ false).
      let some = below-some (may h) 52 (can u ok (omega arith)) in
      rw (their_value trump opening deal side left h q)
      (omega (arith, at_least (may h) (worth_in left h) 52 some.0 some.1 some.2, each some.0 some.2)))

  -- ---- the card that attains the value, for declarer's side and for the defenders alike
  abbrev is_best : List ℕ → ℕ → Bool
  is_best u c = may (u ++ g) c && eqb (worth_in (51 - cards_played (u ++ g)) (u ++ g) c) (value (52 - cards_played (u ++ g)) (u ++ g))

  abbrev pub best_card : List ℕ → ℕ
  best_card u = chosen (is_best u) 52

  -- some card attains the value
  attained : (left : ℕ) (u : List ℕ) → Legal trump opening deal g u → cards_played (u ++ g) + suc left ≡ 52
      → Attained (may (u ++ g)) (worth_in left (u ++ g)) 52 (value (suc left) (u ++ g))
  unfolding Legal cards_played cards_in_trick
  attained left u ok n =
      let h = u ++ g in
      let some = can u ok (omega arith) in
      let few : (c : ℕ) → may h c ≡ true → worth_in left h c ≤ 13 =
      λ c m. omega (arith, worth-le left h c (bounded left (c ∷ u) (m, ok) (omega arith))) in
      by_test (our_turn trump opening side h)
      (λ (q : our_turn trump opening side h ≡ true). rw (our_value trump opening deal side left h q) (greatest_attained (may h) (worth_in left h) 52 some))
      (λ (q : our_turn trump opening side h ≡ false). rw (their_value trump opening deal side left h q) (smallest_attained (may h) (worth_in left h) few 52 some))

  -- so the best card may be played, and attains it
  best-card : (left : ℕ) (u : List ℕ) → Legal trump opening deal g u → cards_played (u ++ g) + suc left ≡ 52
      → (may (u ++ g) (best_card u) ≡ true) × (worth_in left (u ++ g) (best_card u) ≡ value (suc left) (u ++ g))
  best-card left u ok n =
      let h = u ++ g in
      let a = attained left u ok n in
      let now : 52 - cards_played h ≡ suc left = omega arith in
      let after : 51 - cards_played h ≡ left = omega arith in
      let passes : is_best u a.number ≡ true = and_both (may h a.number) _ a.passes (rw (now, after) (eq-eqb _ _ a.is)) in
      let c = (chosen_passes (is_best u) 52 a.number a.below passes).0 in
      (and_left (may h (best_card u)) _ c, eqb-true _ _ (rw (now, after) at (and_right (may h (best_card u)) _ c)))

  -- ---- the tricks of a line
  abbrev won_by : List ℕ → ℕ
  won_by u = tricks_won side (winners trump opening (u ++ g))

  won-before : (u : List ℕ) → won_by [] ≤ won_by u
  won-before [] = omega arith
  won-before (c ∷ u) = omega (arith, won-before u, won-more trump opening deal side (u ++ g) c)

  ours-more : (u : List ℕ) (c : ℕ) → ours trump opening side g (c ∷ u) ≡ ours trump opening side g u + gain trump opening side (u ++ g) c
  unfolding ours
  ours-more u c = omega (arith, won-before u, won-more trump opening deal side (u ++ g) c)

  none_yet : ours trump opening side g [] ≡ 0
  unfolding ours
  none_yet = omega arith

  abbrev start : ℕ
  start = value (52 - cards_played g) g

  abbrev hence : List ℕ → ℕ
  hence u = value (52 - cards_played (u ++ g)) (u ++ g)

  -- one card more, with so many left after it
  module _ (left : ℕ) (u : List ℕ) (c : ℕ) (ok : Legal trump opening deal g u) (m : may (u ++ g) c ≡ true) (n : cards_played (u ++ g) + suc left ≡ 52) where
    -- declarer's side gets no more than the value by any card, and the defenders give no less
    no_more : our_turn trump opening side (u ++ g) ≡ true → worth_in left (u ++ g) c ≤ value (suc left) (u ++ g)
    no_more q = rw (our_value trump opening deal side left (u ++ g) q) (at_most (may (u ++ g)) (worth_in left (u ++ g)) 52 c (may_low (u ++ g) c m) m)

    no_less : our_turn trump opening side (u ++ g) ≡ false → value (suc left) (u ++ g) ≤ worth_in left (u ++ g) c
    no_less q = rw (their_value trump opening deal side left (u ++ g) q) (at_least (may (u ++ g)) (worth_in left (u ++ g)) 52 c (may_low (u ++ g) c m) m)

    -- the best card attains it
    as_best : c ≡ best_card u → worth_in left (u ++ g) c ≡ value (suc left) (u ++ g)
    as_best e = ap (worth_in left (u ++ g)) e ∙ (best-card left u ok n).1

    kept-up : (our_turn trump opening side (u ++ g) ≡ true → c ≡ best_card u) → value (suc left) (u ++ g) ≤ worth_in left (u ++ g) c
    kept-up k =
        by_test (our_turn trump opening side (u ++ g))
        (λ (q : our_turn trump opening side (u ++ g) ≡ true). omega (arith, as_best (k q)))
        no_less

    kept-down : (our_turn trump opening side (u ++ g) ≡ false → c ≡ best_card u) → worth_in left (u ++ g) c ≤ value (suc left) (u ++ g)
    kept-down k =
        by_test (our_turn trump opening side (u ++ g))
        no_more
        (λ (q : our_turn trump opening side (u ++ g) ≡ false). omega (arith, as_best (k q)))

  -- along a line that keeps the plan the tricks won and the value never fall below the ending's value; along one that keeps the defence they never rise
  -- above it
  up_to : (u : List ℕ) → Legal trump opening deal g u → Keeps trump opening side g true best_card u → cards_played (u ++ g) ≤ 52
      → start ≤ ours trump opening side g u + hence u
  unfolding Legal Keeps cards_played
  up_to [] ok k n = omega (arith, none_yet)
  up_to (c ∷ u) ok k n =
      let left = 52 - cards_played (c ∷ u ++ g) in
      let before : 52 - cards_played (u ++ g) ≡ suc left = omega arith in
      let more = up_to u ok.1 k.1 (omega arith) in
      omega (arith, ours-more u c, rw before at more, kept-up left u c ok.1 ok.0 (omega arith) k.0)

  down_to : (u : List ℕ) → Legal trump opening deal g u → Keeps trump opening side g false best_card u → cards_played (u ++ g) ≤ 52
      → ours trump opening side g u + hence u ≤ start
  unfolding Legal Keeps cards_played
  down_to [] ok k n = omega (arith, none_yet)
  down_to (c ∷ u) ok k n =
      let left = 52 - cards_played (c ∷ u ++ g) in
      let before : 52 - cards_played (u ++ g) ≡ suc left = omega arith in
      let more = down_to u ok.1 k.1 (omega arith) in
      omega (arith, ours-more u c, rw before at more, kept-down left u c ok.1 ok.0 (omega arith) k.0)

  -- when all cards are played nothing is left
  at_end : (u : List ℕ) → Done g u → hence u ≡ 0
  at_end u d = let e : 52 - cards_played (u ++ g) ≡ 0 = omega (arith, d) in rw e (none_left trump opening deal side (u ++ g))

  -- ---- the theorems
  pub plays-best : (ourside : Bool) → Plays trump opening deal side g ourside best_card
  unfolding Plays
  plays-best ourside u ok n q = (best-card (51 - cards_played (u ++ g)) u ok (omega arith)).0

  pub reaches : (u : List ℕ) → Legal trump opening deal g u → Done g u → Keeps trump opening side g true best_card u
      → best_play trump opening deal side g ≤ ours trump opening side g u
  unfolding best_play
  reaches u ok d k = omega (arith, up_to u ok k (omega (arith, d)), at_end u d)

  pub holds-to : (u : List ℕ) → Legal trump opening deal g u → Done g u → Keeps trump opening side g false best_card u
      → ours trump opening side g u ≤ best_play trump opening deal side g
  unfolding best_play
  holds-to u ok d k = omega (arith, down_to u ok k (omega (arith, d)), at_end u d)
