-- Lines of cards that go on from an ending, plans of declarer's side and defences of the other, by Laws 44 and 61 alone. The ending is the play after the
-- cards g; a line is the cards played after them, and like every history it has the latest card first.
-- `trump` is the contract's strain, `opening` the seat that led first, `side` declarer's side.
-- Assumes nothing.
use Rattle.std.specs.Prelude.{ℕ, zero, suc, ◌-◌, ◌<◌, ◌≡◌, Bool, true, false, List, [], ◌∷◌, ◌++◌, if◌then◌else◌}
use Rattle.laws.specs.Law44.{cards_played, winners, tricks_won}
use Rattle.laws.specs.BestPlay.{may_play, our_turn}

module _ (trump opening : ℕ) (deal g : List ℕ) where
  -- each card of the line may be played after the cards before it
  unfoldable pub Legal : List ℕ → Type 0
  Legal [] = Unit {0}
  Legal (c ∷ u) = (may_play trump opening deal (u ++ g) c ≡ true) × Legal u

-- all 52 cards have been played
abbrev pub Done : List ℕ → List ℕ → Type 0
Done g u = cards_played (u ++ g) ≡ 52

module _ (trump opening side : ℕ) (g : List ℕ) where
  -- the tricks of the line that declarer's side won: those of the whole play less those before it
  unfoldable pub ours : List ℕ → ℕ
  ours u = tricks_won side (winners trump opening (u ++ g)) - tricks_won side (winners trump opening g)

  -- wherever declarer's side was at turn (true), or the defenders were (false), the card is the one that f names for the line before it
  unfoldable pub Keeps : Bool → (List ℕ → ℕ) → List ℕ → Type 0
  Keeps ourside f [] = Unit {0}
  Keeps ourside f (c ∷ u) = (our_turn trump opening side (u ++ g) ≡ ourside → c ≡ f u) × Keeps ourside f u

module _ (trump opening : ℕ) (deal : List ℕ) (side : ℕ) (g : List ℕ) where
  -- a plan of declarer's side (true), or a defence of the other (false): for each legal line that is not done and after which that side is at turn, the card
  -- that is named may be played
  unfoldable pub Plays : Bool → (List ℕ → ℕ) → Type 0
  Plays ourside f =
      (u : List ℕ) → Legal trump opening deal g u → cards_played (u ++ g) < 52 → our_turn trump opening side (u ++ g) ≡ ourside
      → may_play trump opening deal (u ++ g) (f u) ≡ true

  abbrev pub Plan : (List ℕ → ℕ) → Type 0
  Plan f = Plays true f

  abbrev pub Defence : (List ℕ → ℕ) → Type 0
  Defence d = Plays false d

module _ (trump opening side : ℕ) (g : List ℕ) where
  -- the line that a plan and a defence make, so many cards on from a line
  unfoldable pub played_on : (List ℕ → ℕ) → (List ℕ → ℕ) → ℕ → List ℕ → List ℕ
  played_on f d zero u = u
  played_on f d (suc left) u = played_on f d left ((if our_turn trump opening side (u ++ g) then f u else d u) ∷ u)

  -- the line that they make from the ending to the last card
  unfoldable pub played_by : (List ℕ → ℕ) → (List ℕ → ℕ) → List ℕ
  played_by f d = played_on f d (52 - cards_played g) []
