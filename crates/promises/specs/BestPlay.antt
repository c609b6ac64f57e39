-- What best play would give: some plan of declarer's side reaches the number against every defence, and some defence holds every plan to it. Lines, plans
-- and defences are those of `laws/specs/Lines`, by Laws 44 and 61 alone; the number is `laws/specs/BestPlay`'s.
-- Assumes nothing.
use Rattle.std.specs.Prelude.{ℕ, ◌≤◌, ◌<◌, ◌≡◌, true, false, List, [], ◌∷◌, length}
use Rattle.laws.specs.Cards.{cards_dealt}
use Rattle.laws.specs.Law44.{playable}
use Rattle.laws.specs.BestPlay.{best_play}
use Rattle.laws.specs.Lines.{Legal, Done, ours, Keeps, Plan, Defence, played_by}

module _ (trump opening : ℕ) (deal : List ℕ) where
  -- each card was played from the hand of the seat at turn
  unfoldable pub InTurn : List ℕ → Type 0
  InTurn [] = Unit {0}
  InTurn (c ∷ g) = (playable trump opening deal g c ≡ true) × InTurn g

  -- an ending: thirteen cards were dealt to each seat, and the cards g were played from the hands at turn, revokes or not
  pub record Ending (g : List ℕ) : Type 0 where
    pub holders : length deal ≡ 52
    pub thirteen : (seat : ℕ) → seat < 4 → cards_dealt seat deal ≡ 13
    pub played : InTurn g

module _ (trump opening : ℕ) (deal : List ℕ) (side : ℕ) (g : List ℕ) where
  abbrev best : ℕ
  best = best_play trump opening deal side g

  abbrev taken : List ℕ → ℕ
  taken u = ours trump opening side g u

  -- the number is reached: by a plan that is given before any line
  pub record Reached (n : ℕ) : Type 0 where
    pub plan : List ℕ → ℕ
    pub plays : Plan trump opening deal side g plan
    pub reaches : (defence : List ℕ → ℕ) → Defence trump opening deal side g defence → n ≤ taken (played_by trump opening side g plan defence)

  -- the number is held: by a defence that is given before any line
  pub record Held (n : ℕ) : Type 0 where
    pub defence : List ℕ → ℕ
    pub plays : Defence trump opening deal side g defence
    pub holds : (plan : List ℕ → ℕ) → Plan trump opening deal side g plan → taken (played_by trump opening side g plan defence) ≤ n

  pub record BestPlay : Type 0 where
    -- there is a plan: every legal line to the last card that keeps it, whatever the others play, takes the number at least
    pub plan : List ℕ → ℕ
    pub is_plan : Plan trump opening deal side g plan
    pub reaches : (u : List ℕ) → Legal trump opening deal g u → Done g u → Keeps trump opening side g true plan u → best ≤ taken u
    -- there is a defence: every legal line to the last card that keeps it, whatever declarer's side plays, takes the number at most
    pub defence : List ℕ → ℕ
    pub is_defence : Defence trump opening deal side g defence
    pub holds : (u : List ℕ) → Legal trump opening deal g u → Done g u → Keeps trump opening side g false defence u → taken u ≤ best
    -- any plan and any defence make one line, which is legal, goes to the last card and keeps both
    pub line : (f d : List ℕ → ℕ) → Plan trump opening deal side g f → Defence trump opening deal side g d
        → (let u = played_by trump opening side g f d in
        Legal trump opening deal g u × Done g u × Keeps trump opening side g true f u × Keeps trump opening side g false d u)
    -- some plan reaches the number against every defence, and some defence holds every plan to it
    pub literal_plan : Reached best
    pub literal_defence : Held best
    -- no other number is both reached and held
    pub only : (n : ℕ) → Reached n → Held n → n ≡ best

-- for every ending, with either side as declarer's
abbrev pub BestPlays : Type 0
BestPlays = (trump opening : ℕ) (deal : List ℕ) (side : ℕ) (g : List ℕ) → Ending trump opening deal g → BestPlay trump opening deal side g
