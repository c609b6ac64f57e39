-- Portable Bridge Notation: Play lists each trick in columns from the seat of its tag. From there to the order of play, which follows each winner, and back.
-- Assumes nothing.
use Rattle.std.specs.Prelude.{ℕ, ◌+◌, ◌-◌, ◌%◌, List, [], ◌∷◌, ◌++◌, reverse, get_or}
use Rattle.laws.specs.Cards.{clockwise}
use Rattle.laws.specs.Law44.{winner}

-- how many places clockwise it is from a seat to another
abbrev pub places_to : ℕ → ℕ → ℕ
places_to from seat = (seat + 4 - from) % 4

-- the card of a seat in a trick that is listed from a seat on
abbrev pub card_of : ℕ → List ℕ → ℕ → ℕ
card_of from trick seat = get_or trick (places_to from seat) 0

-- a trick that is listed from one seat on, listed from another
unfoldable pub relisted : ℕ → ℕ → List ℕ → List ℕ
relisted from to trick =
    card_of from trick to
    ∷ card_of from trick (clockwise to 1)
    ∷ card_of from trick (clockwise to 2)
    ∷ card_of from trick (clockwise to 3)
    ∷ []

module _ (trump first : ℕ) where
  -- cards in columns from `first`, in their order of play where `leader` leads to the first trick listed: each trick is played from its leader on, and its
  -- winner leads to the next. Cards that make no whole trick stay as they are
  unfoldable pub order_from : ℕ → List ℕ → List ℕ
  order_from leader [] = []
  order_from leader (a ∷ []) = a ∷ []
  order_from leader (a ∷ b ∷ []) = a ∷ b ∷ []
  order_from leader (a ∷ b ∷ c ∷ []) = a ∷ b ∷ c ∷ []
  order_from leader (a ∷ b ∷ c ∷ d ∷ cards) =
      relisted first leader (a ∷ b ∷ c ∷ d ∷ [])
      ++ order_from (winner trump leader (reverse (relisted first leader (a ∷ b ∷ c ∷ d ∷ [])))) cards

  -- cards in their order of play, in columns from `first`
  unfoldable pub columns_from : ℕ → List ℕ → List ℕ
  columns_from leader [] = []
  columns_from leader (a ∷ []) = a ∷ []
  columns_from leader (a ∷ b ∷ []) = a ∷ b ∷ []
  columns_from leader (a ∷ b ∷ c ∷ []) = a ∷ b ∷ c ∷ []
  columns_from leader (a ∷ b ∷ c ∷ d ∷ cards) =
      relisted leader first (a ∷ b ∷ c ∷ d ∷ [])
      ++ columns_from (winner trump leader (d ∷ c ∷ b ∷ a ∷ [])) cards

  -- `first` leads to the first trick
  abbrev pub order_of_play : List ℕ → List ℕ
  order_of_play cards = order_from first cards

  abbrev pub columns_of : List ℕ → List ℕ
  columns_of cards = columns_from first cards
