-- `pbn_deal::walk::over_hands` meets its contract. Assumes nothing.
use Prim.Native.Nat.{ℕ}
use native.Mathlib.Omega.{arith}
use mathlib.Core.Path.{◌≡◌, ap, ◌∙◌}
use mathlib.Core.List.{List, ◌∷◌}
use Rattle.laws.specs.Cards.{clockwise}
use Rattle.laws.specs.PbnText.{space, hand_and, hands_and}
use Rattle.pbn_deal.specs.Walks.{follows}
use Rattle.pbn_deal.proofs.walk.over_hands.Goals as goal

pub returns : goal.returns
unfolding hands_and clockwise
returns c t =
    let a = c.args in
    let first : clockwise a.first 0 ≡ a.first = omega (arith, c.requires) in
    let l : List ℕ = hand_and a.holders (clockwise a.first 3) t in
    let m : List ℕ = hand_and a.holders (clockwise a.first 2) (space ∷ l) in
    let n : List ℕ = hand_and a.holders (clockwise a.first 1) (space ∷ m) in
    ap (λ s. follows a.line.now a.from (hand_and a.holders s (space ∷ n))) first
    ∙ c.over_hand.ensures (space ∷ n)
    ∙ c.over_byte-a.ensures n
    ∙ c.over_hand-2.ensures (space ∷ m)
    ∙ c.over_byte-b.ensures m
    ∙ c.over_hand-3.ensures (space ∷ l)
    ∙ c.over_byte-c.ensures l
    ∙ c.over_hand-4.ensures t
