-- What best play would give: an ending is a play that has reached some cards, and lines of cards go on from it. All hands are seen; a card may be played from
-- the hand of the seat at turn, of the suit led where that seat holds it, and nothing else binds. A history has the latest card first.
-- `trump` is the contract's strain, `opening` the seat that led first, `side` declarer's side.
-- Assumes nothing.
use Rattle.std.specs.Prelude.{ℕ, zero, suc, ◌+◌, ◌-◌, max, min, Bool, not, ◌&&◌, List, ◌∷◌, eqb, if◌then◌else◌}
use Rattle.laws.specs.Cards.{side_of}
use Rattle.laws.specs.Law44.{cards_played, cards_in_trick, leader, to_play, playable}
use Rattle.laws.specs.Law61.{is_revoke}

-- the greatest and the smallest value of the numbers below n that pass a test; where none does, 0 and 13
unfoldable pub greatest : (ℕ → Bool) → (ℕ → ℕ) → ℕ → ℕ
greatest test value zero = 0
greatest test value (suc n) = if test n then max (greatest test value n) (value n) else greatest test value n

unfoldable pub smallest : (ℕ → Bool) → (ℕ → ℕ) → ℕ → ℕ
smallest test value zero = 13
smallest test value (suc n) = if test n then min (smallest test value n) (value n) else smallest test value n

module _ (trump opening : ℕ) (deal : List ℕ) where
  -- the card may be played after the cards h: it is in the hand of the seat at turn, and is no revoke
  unfoldable pub may_play : List ℕ → ℕ → Bool
  may_play h c = playable trump opening deal h c && not (is_revoke trump opening deal h c)

module _ (trump opening side : ℕ) where
  -- a player of declarer's side is at turn
  unfoldable pub our_turn : List ℕ → Bool
  our_turn h = eqb (side_of (to_play trump opening h)) side

  -- what the card gains after the cards h: 1 where it completes a trick that declarer's side wins, so that a player of that side leads next, else 0
  unfoldable pub gain : List ℕ → ℕ → ℕ
  gain h c = if eqb (cards_in_trick (c ∷ h)) 0 && eqb (side_of (leader trump opening (c ∷ h))) side then 1 else 0

-- ---- the value: with so many cards left, declarer's side picks the most and hands over, the defenders pick the least and hand back; a side whose card is
-- followed by its own turn hands over to itself
module _ (trump opening : ℕ) (deal : List ℕ) (side : ℕ) where
  unfoldable mutual
    pub most : ℕ → List ℕ → ℕ
    most zero h = 0
    most (suc left) h =
        greatest (may_play trump opening deal h)
        (λ c. gain trump opening side h c + (if our_turn trump opening side (c ∷ h) then most left (c ∷ h) else least left (c ∷ h))) 52

    pub least : ℕ → List ℕ → ℕ
    least zero h = 0
    least (suc left) h =
        smallest (may_play trump opening deal h)
        (λ c. gain trump opening side h c + (if our_turn trump opening side (c ∷ h) then most left (c ∷ h) else least left (c ∷ h))) 52

  -- the tricks that declarer's side takes of those left by best play on both sides
  unfoldable pub best_play : List ℕ → ℕ
  best_play g = if our_turn trump opening side g then most (52 - cards_played g) g else least (52 - cards_played g) g
