-- Demand 2, the fifth slice: trick by trick the seat that won and the card that won, by Law 44 on the cards of that trick. Tricks are counted from 0.
-- Assumes nothing.
use Rattle.std.specs.Prelude.{ℕ, ◌+◌, ◌*◌, ◌≤◌, ◌<◌, ◌≡◌, true, List, [], ◌∷◌, reverse, length, get_or, take, drop}
use Rattle.laws.specs.Cards.{north, east}
use Rattle.laws.specs.Auction.{pass}
use Rattle.laws.specs.Law44.{tricks_complete, leader, winner, winning_card, is_played}
use Rattle.laws.specs.Events.{as_events, cards_of}
use Rattle.laws.specs.Law68.{agreed}
use Rattle.laws.specs.Record.{Parts}
use Rattle.laws.specs.Judgement.{play_of, trump_of, opening_of, winners_bytes}
use Rattle.laws.specs.Lawful.{Lawful}
use Rattle.promises.specs.Demand2.{one_suit_each, one_club}

module _ (p : Parts) where
  -- how many tricks have four cards
  abbrev pub complete : ℕ
  complete = tricks_complete (cards_of (play_of p))

  -- the cards in order of play
  abbrev pub in_order : List ℕ
  in_order = reverse (cards_of (play_of p))

  -- the cards before a trick, and those of the trick, latest first
  abbrev pub cards_before : ℕ → List ℕ
  cards_before k = reverse (take (4 * k) in_order)

  abbrev pub trick_at : ℕ → List ℕ
  trick_at k = reverse (take 4 (drop (4 * k) in_order))

  -- the two bytes of a trick
  abbrev pub winner_byte : ℕ → ℕ
  winner_byte k = get_or (winners_bytes p) (2 * k) 0

  abbrev pub card_byte : ℕ → ℕ
  card_byte k = get_or (winners_bytes p) (2 * k + 1) 0

  -- they are Law 44's winner and winning card of the trick: a seat, and a card of the trick
  pub record PairOf (k : ℕ) : Type 0 where
    pub four : length (trick_at k) ≡ 4
    pub winner_is : winner_byte k ≡ winner (trump_of p) (leader (trump_of p) (opening_of p) (cards_before k)) (trick_at k)
    pub card_is : card_byte k ≡ winning_card (trump_of p) (trick_at k)
    pub seat : winner_byte k < 4
    pub card : card_byte k < 52
    pub of_trick_lem : is_played (trick_at k) (card_byte k) ≡ true

-- the deal of `one_club`: North bids one notrump, East leads the two of diamonds, and nobody can follow
abbrev pub one_notrump : Parts
one_notrump =
    record {
      board = 1;
      table = 1;
      deal = one_suit_each;
      calls = 7 ∷ pass ∷ pass ∷ pass ∷ [];
      plays = as_events (13 ∷ 26 ∷ 39 ∷ 0 ∷ 14 ∷ []);
      claim = agreed 0;
    }

pub record Demand2Winners : Type 0 where
  -- two bytes for each trick that has four cards, and none for another; at most 26
  pub long : (p : Parts) → length (winners_bytes p) ≡ 2 * complete p
  pub at_most_26 : (p : Parts) → Lawful p → length (winners_bytes p) ≤ 26
  -- each pair is Law 44's of its trick
  pub pairs : (p : Parts) → Lawful p → (k : ℕ) → k < complete p → PairOf p k
  -- with clubs as trumps North's two of clubs wins the first trick; in notrump East's two of diamonds does, and the card led next is in no pair
  pub by_trump : winners_bytes (one_club 12) ≡ north ∷ 0 ∷ []
  pub by_suit_led : Lawful one_notrump × (winners_bytes one_notrump ≡ east ∷ 13 ∷ [])
