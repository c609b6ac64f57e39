-- Law 77: the score of a contract, item by item and as one number. Levels are 1 to 7, strains 0 to 4, doublings 0 to 2, tricks 0 to 13.
-- Beyond: a strain over 4 counts as hearts and spades do, a doubling over 2 as redoubled, level 0 as the first trick of level 1.
-- Assumes nothing.
use Rattle.std.specs.Prelude.{ℕ, zero, suc, ◌+◌, ◌-◌, ◌*◌, ◌%◌, Bool, ◌&&◌, eqb, ltb, leb, ℤ, pos, neg_ℤ, nat_abs, ◌-ℤ◌, if◌then◌else◌}
use Rattle.laws.specs.Cards.{notrump, side_of}

-- what a contract is played for: the bid's level and strain, its doubling, and whether declarer's side is vulnerable
pub record Stake : Type 0 where
  pub level : ℕ
  pub strain : ℕ
  pub doubling : ℕ
  pub vulnerable : Bool

-- the tricks that make the contract: six and the level
abbrev pub tricks_needed : Stake → ℕ
tricks_needed s = s.level + 6

-- the contract is made with these tricks
unfoldable pub is_made : Stake → ℕ → Bool
is_made s tricks = leb (tricks_needed s) tricks

-- one of two numbers, by the vulnerability
abbrev pub by_vulnerability : Stake → ℕ → ℕ → ℕ
by_vulnerability s whenNot when = if s.vulnerable then when else whenNot

-- one of three numbers, by the doubling
abbrev pub by_doubling : Stake → ℕ → ℕ → ℕ → ℕ
by_doubling s undoubled doubled redoubled =
    if eqb s.doubling 0 then undoubled
    else if eqb s.doubling 1 then doubled
    else redoubled

-- an odd trick: clubs and diamonds 20, hearts and spades 30, notrump 30 after the first
unfoldable pub trick_value : ℕ → ℕ
trick_value strain = if ltb strain 2 then 20 else 30

-- the first odd trick: notrump 40, else as every other
unfoldable pub first_trick_value : ℕ → ℕ
first_trick_value strain = if eqb strain notrump then 40 else trick_value strain

-- trick points: the odd tricks bid, times 2 doubled, times 4 redoubled
unfoldable pub trick_points : Stake → ℕ
trick_points s = (first_trick_value s.strain + (s.level - 1) * trick_value s.strain) * by_doubling s 1 2 4

-- each overtrick: its trick value; doubled 100, vulnerable 200; redoubled 200, vulnerable 400
unfoldable pub overtrick_value : Stake → ℕ
overtrick_value s = by_doubling s (trick_value s.strain) (by_vulnerability s 100 200) (by_vulnerability s 200 400)

unfoldable pub overtrick_points : Stake → ℕ → ℕ
overtrick_points s tricks = (tricks - tricks_needed s) * overtrick_value s

-- the k-th undertrick doubled, k from 1: 100, 200, 200, then 300; vulnerable 200, then 300
unfoldable pub doubled_undertrick : Stake → ℕ → ℕ
doubled_undertrick s k =
    by_vulnerability s
    (if eqb k 1 then 100 else if leb k 3 then 200 else 300)
    (if eqb k 1 then 200 else 300)

-- the k-th undertrick: undoubled 50, vulnerable 100; redoubled twice what it is doubled
unfoldable pub undertrick_value : Stake → ℕ → ℕ
undertrick_value s k = by_doubling s (by_vulnerability s 50 100) (doubled_undertrick s k) (2 * doubled_undertrick s k)

-- the first n undertricks
unfoldable pub undertricks : Stake → ℕ → ℕ
undertricks s zero = 0
undertricks s (suc n) = undertricks s n + undertrick_value s (suc n)

unfoldable pub undertrick_points : Stake → ℕ → ℕ
undertrick_points s tricks = undertricks s (tricks_needed s - tricks)

-- a game is 100 trick points or more
unfoldable pub is_game : Stake → Bool
is_game s = leb 100 (trick_points s)

-- premium for a part score
unfoldable pub part_score_points : Stake → ℕ
part_score_points s = if is_game s then 0 else 50

-- premium for a game: 300, vulnerable 500
unfoldable pub game_points : Stake → ℕ
game_points s = if is_game s then by_vulnerability s 300 500 else 0

-- premium for a slam: level six 500, vulnerable 750; level seven 1000, vulnerable 1500
unfoldable pub slam_points : Stake → ℕ
slam_points s =
    if eqb s.level 6 then by_vulnerability s 500 750
    else if eqb s.level 7 then by_vulnerability s 1000 1500
    else 0

-- premium for making a doubled contract 50, a redoubled one 100
unfoldable pub doubling_points : Stake → ℕ
doubling_points s = by_doubling s 0 50 100

-- the items that the Law grants with these tricks; undertricks count for the other side
pub record Items : Type 0 where
  pub tricks : ℕ
  pub overtricks : ℕ
  pub undertricks : ℕ
  pub part_score : ℕ
  pub game : ℕ
  pub slam : ℕ
  pub doubling : ℕ

-- points that are granted only where the contract is made
abbrev pub if_made : Stake → ℕ → ℕ → ℕ
if_made s tricks points = if is_made s tricks then points else 0

unfoldable pub items : Stake → ℕ → Items
items s tricks =
    record {
      tricks = if_made s tricks (trick_points s);
      overtricks = if_made s tricks (overtrick_points s tricks);
      undertricks = undertrick_points s tricks;
      part_score = if_made s tricks (part_score_points s);
      game = if_made s tricks (game_points s);
      slam = if_made s tricks (slam_points s);
      doubling = if_made s tricks (doubling_points s);
    }

-- the items together, for declarer's side
unfoldable pub sum_of_items : Items → ℤ
sum_of_items i = pos (i.tricks + i.overtricks + i.part_score + i.game + i.slam + i.doubling) -ℤ pos i.undertricks

-- the score of declarer's side: all premiums where the contract is made, else the undertricks to the other side
unfoldable pub declarer_score : Stake → ℕ → ℤ
declarer_score s tricks =
    if is_made s tricks
    then pos (trick_points s + overtrick_points s tricks + part_score_points s + game_points s + slam_points s + doubling_points s)
    else neg_ℤ (pos (undertrick_points s tricks))

-- the score as it stands from North-South, for a declarer's seat
unfoldable pub ns_score : ℕ → ℤ → ℤ
ns_score declarer score = if eqb (side_of declarer) 0 then score else neg_ℤ score

-- valid scores: the multiples of 10 from -7600 to 7600
unfoldable pub valid_score : ℤ → Bool
valid_score score = leb (nat_abs score) 7600 && eqb (nat_abs score % 10) 0
