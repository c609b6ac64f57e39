-- What is promised of the slip. `judge::explain` answers `explained_of (judge_of bytes least_rooms)`, and `slip_text::write` leaves `slip bytes` in the
-- bytes that it is lent, where they are enough.
-- Assumes nothing.
use Rattle.std.specs.Prelude.{ℕ, ◌≡◌, ◌↔◌, true, false, pos, take}
use mathlib.Core.List.{List, [], ◌∷◌, ◌++◌, map, Memᴰ}
use Rattle.laws.specs.Auction.{passed_out}
use Rattle.laws.specs.Law77.{items, ns_score}
use Rattle.laws.specs.Record.{Parts, encode}
use Rattle.laws.specs.Refusals.{refuses_record}
use Rattle.laws.specs.Judge.{Outcome.refused as declined, Rooms, least_rooms, Enough, judge_of}
use Rattle.laws.specs.Judgement.{calls_of, declarer_of, stake_of, after_of, score_of}
use Rattle.laws.specs.Lawful.{Lawful}
use Rattle.laws.specs.Lengths.{deciding_bytes}
use Rattle.laws.specs.Decimal.{decimal}
use Rattle.laws.specs.Sheet.{newline}
use Rattle.laws.specs.Slip.{Name, TRICKS, OVERTRICKS, UNDERTRICKS, PARTSCORE, GAME, SLAM, DOUBLING, Item, gain, items_of, sum_of, sum_word, line, lines, slip}
use Rattle.promises.specs.Demand2Revokes.{Rising}

-- the place of an item: TRICKS, then OVERTRICKS or UNDERTRICKS, then PARTSCORE or GAME, then SLAM, then DOUBLING
abbrev pub place : Name → ℕ
place TRICKS = 1
place OVERTRICKS = 2
place UNDERTRICKS = 2
place PARTSCORE = 3
place GAME = 3
place SLAM = 4
place DOUBLING = 5

-- an item that Law 77 grants the contract with its tricks after Law 64, signed for North-South, and that is not nothing
pub record GrantedTo (p : Parts) (i : Item) : Type 0 where
  pub contract : passed_out (calls_of p) ≡ false
  pub points : i.points ≡ ns_score (declarer_of p) (gain (items (stake_of p) (after_of p)) i.name)
  pub something : i.points ≡ pos 0 → ⊥

-- the slip of a lawful record
pub record OfRecord (p : Parts) : Type 0 where
  -- its text: the items' lines, and the sum's
  pub text : slip (encode p) ≡ lines (items_of p) ++ line sum_word (score_of p)
  -- the items are exactly those that the Law grants
  pub exactly : (i : Item) → Memᴰ i (items_of p) ↔ GrantedTo p i
  -- their places rise: each stands once, in order, one of OVERTRICKS and UNDERTRICKS, one of PARTSCORE and GAME
  pub in_order : Rising (map (λ (i : Item). place i.name) (items_of p))
  -- their points add up to the sum's, the judge's score
  pub adds_up : sum_of (items_of p) ≡ score_of p
  -- passed out, the sum stands alone: `SUM 0`
  pub passed_out_lem : passed_out (calls_of p) ≡ true → slip (encode p) ≡ 83 ∷ 85 ∷ 77 ∷ 32 ∷ 48 ∷ newline ∷ []

pub record Slip : Type 0 where
  pub of_record : (p : Parts) → Lawful p → OfRecord p
  -- a record that the judge refuses, given buffers that are long enough: the number, a space, the place and a newline, and nothing else
  pub refused : (bytes : List ℕ) (rooms : Rooms) → Enough rooms → (n at : ℕ) → judge_of bytes rooms ≡ declined n at
      → slip bytes ≡ (decimal n ++ (32 ∷ decimal at)) ++ (newline ∷ [])
  -- the number is one of a record's
  pub numbered : (bytes : List ℕ) (n at : ℕ) → judge_of bytes least_rooms ≡ declined n at → refuses_record n ≡ true
  -- the first bytes decide, however many follow: the judge says the same of them for any buffers, and the slip is the same
  pub judged_by_first : (bytes : List ℕ) (rooms : Rooms) → judge_of bytes rooms ≡ judge_of (take deciding_bytes bytes) rooms
  pub first_bytes : (bytes : List ℕ) → slip bytes ≡ slip (take deciding_bytes bytes)
