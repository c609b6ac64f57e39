-- The deals of a script, computed: 0 to 3 have thirteen cards a seat, 4 has a holder that is no seat, and in 5 East is the first seat without thirteen.
-- Assumes nothing.
use Prim.Native.Nat.{ℕ}
use mathlib.Core.Path.{◌≡◌, refl}
use mathlib.Core.Bool.{true, false}
use mathlib.Core.List.{[], ◌∷◌, map}
use lib.ListN.{take, drop}
use Rattle.laws.specs.Choice.{how_many, some}
use Rattle.laws.specs.Cards.{cards_dealt, first_without_thirteen, east}
use Rattle.laws.specs.Contents.{are_seats, take_deal}
use Rattle.laws.specs.Reading.{refuse}
use Rattle.laws.specs.Refusals.{not_thirteen}
use Rattle.laws.specs.Tally.{same_deal, refusal, deal_refusal}
use Rattle.tree_stack.specs.Deals.{suits, deal_numbered}

pub deals : map (λ (n : ℕ). deal_refusal (deal_numbered n)) (0 ∷ 1 ∷ 2 ∷ 3 ∷ 4 ∷ 5 ∷ [])
    ≡ refusal 0 ∷ refusal 0 ∷ refusal 0 ∷ refusal 0 ∷ record { number = not_thirteen; place = 4 } ∷ record { number = not_thirteen; place = east } ∷ []
unfolding deal_refusal take_deal are_seats deal_numbered first_without_thirteen cards_dealt how_many some refuse
deals = refl

-- 2 differs from 0 among the last 26 cards alone, and 1 among the first
pub last_half : take 26 (deal_numbered 2) ≡ take 26 (deal_numbered 0)
unfolding deal_numbered
last_half = refl

pub first_half : drop 26 (deal_numbered 1) ≡ drop 26 (deal_numbered 0)
unfolding deal_numbered
first_half = refl

pub differ : map (λ (n : ℕ). same_deal (deal_numbered n) suits) (0 ∷ 1 ∷ 2 ∷ 3 ∷ []) ≡ true ∷ false ∷ false ∷ false ∷ []
unfolding deal_numbered same_deal
differ = refl
