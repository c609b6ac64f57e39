-- `pbn_deal::walk::over_hand` meets its contract. Assumes nothing.
use Prim.Native.Nat.{ℕ}
use mathlib.Core.Path.{◌∙◌}
use mathlib.Core.List.{List, ◌∷◌, ◌++◌}
use Rattle.laws.specs.Cards.{clubs, diamonds, hearts}
use Rattle.laws.specs.PbnText.{dot, ranks_held, hand_and}
use Rattle.pbn_deal.proofs.walk.over_hand.Goals as goal

pub returns : goal.returns
unfolding hand_and
returns c t =
    let a = c.args in
    let l : List ℕ = ranks_held a.holders a.seat clubs 13 ++ t in
    let m : List ℕ = ranks_held a.holders a.seat diamonds 13 ++ (dot ∷ l) in
    let n : List ℕ = ranks_held a.holders a.seat hearts 13 ++ (dot ∷ m) in
    c.over_suit.ensures (dot ∷ n)
    ∙ c.over_byte-spades.ensures n
    ∙ c.over_suit-2.ensures (dot ∷ m)
    ∙ c.over_byte-hearts.ensures m
    ∙ c.over_suit-3.ensures (dot ∷ l)
    ∙ c.over_byte-diamonds.ensures l
    ∙ c.over_suit-4.ensures t
