-- What the code says of a section's reading: a refusal with its place, or what was read, with positions for histories.
-- Assumes nothing.
use Rattle.std.specs.Prelude.{ℕ, zero, suc, ◌+◌, ◌-◌, ◌/◌, ◌≡◌, ◌≤◌, Bool, true, false, ◌&&◌, ◌||◌, None}
use Rattle.std.specs.Prelude.{List, [], ◌∷◌, ◌++◌, ltb, get_or, if◌then◌else◌}
use Rattle.std.specs.Result.{is_ok, result_err}
use Rattle.std.specs.Option.{option_map}
use Rattle.laws.specs.Refusals.{Placed, refused_at, given, too_many_cards, too_many_codes}
use Rattle.laws.specs.Refused.{number, placed_in}
use Rattle.laws.specs.declared.Refusal.{Refusal}
use Rattle.laws.specs.Events.{Event, begins_code, codes_of}
use Rattle.laws.specs.CodeRefusal.{most_codes, codes_full}
use Rattle.laws.specs.Plays.{play_place, read_code, read_plays}
use Rattle.laws.specs.Reading.{Reading, Reading.refused, Reading.found, Reader, ◌>>=◌, ◌>>◌, number_at, read, refuse}
use Rattle.laws.specs.Judge as Law
use Rattle.auction.specs.declared.Auction.{Auction}
use Rattle.auction.specs.Position as Calls
use Rattle.deal.specs.declared.given.Dealt.{Dealt}
use Rattle.deal.specs.Hands.{words_of}
use Rattle.play.specs.declared.Play.{Play}
use Rattle.play.specs.Position.{step, verdict_of}
use Rattle.position.specs.declared.table.Table.{Table}
use Rattle.position.specs.Table.{table_with}
use Rattle.position.specs.History.{OfEvents, position_of}
use Rattle.last_card.specs.declared.reading.Read.{Read}
use Rattle.last_card.specs.declared.reading.Heading.{Heading}
use Rattle.last_card.specs.declared.runs.Run.{Run}
use Rattle.last_card.specs.declared.runs.NotPlayed.{NotPlayed}

-- what is answered where a value is read, with the bit behind it
abbrev pub placed_read : {A B : Type 0} → (A → B) → Reading A → Placed (Read B)
placed_read f (refused n place) = refused_at n place
placed_read f (found a at) = given (record { value = f a; next = at })

-- ---- board and table
abbrev pub heading_of : Law.Heading → Heading
heading_of top = record { board = top.board; table = top.table }

-- ---- calls
abbrev pub calls_of : ℕ → Reading (List ℕ) → Placed (Read Auction)
calls_of dealer r = placed_read (Calls.position_of dealer) r

-- ---- deal
-- n fields of w bits from a bit on
unfoldable pub row_at : List ℕ → ℕ → ℕ → ℕ → List ℕ
row_at bytes at w zero = []
row_at bytes at w (suc n) = number_at bytes at w ∷ row_at bytes (at + w) w n

-- for each of n cards, the byte that has its holder: four to a byte, from the third on
unfoldable pub fours_of : List ℕ → ℕ → List ℕ
fours_of bytes zero = []
fours_of bytes (suc n) = fours_of bytes n ++ (get_or bytes (2 + n / 4) 0 ∷ [])

abbrev pub deal_of : Reading (List ℕ) → Placed Dealt
deal_of r = placed_in (λ (deal : List ℕ). record { holders = deal; hands = words_of deal }) r

-- ---- cards, and the codes before them
abbrev pub cards_of : List ℕ → ℕ → ℕ → Reading (List Event) → Placed (Read Table)
cards_of deal trump opening r = placed_read (position_of deal trump opening) r

-- a code was taken before a card: so many codes are given, and the bits of one at most are read
abbrev pub CodeTaken : Table → ℕ → ℕ → Read Table → Type 0
CodeTaken t at codes r = (r.value.penalty.codes ≡ codes) × (at ≤ r.next) × (r.next ≤ at + 7)

-- what follows a code, where there is room for it
unfoldable pub code_by : ℕ → ℕ → List ℕ → ℕ → List Event → Reader (List Event)
code_by trump opening deal code e = do
  refuse too_many_codes (play_place e) (codes_full e)
  read_code trump opening deal code e

-- the plays after the events e, up to so many cards in all
unfoldable pub plays_by : ℕ → ℕ → List ℕ → ℕ → List Event → Reader (List Event)
plays_by trump opening deal count e = read_plays trump opening deal (count - play_place e) (most_codes - codes_of e) e

-- a run of n cards from a bit and a place on: it stops at the first that is refused
unfoldable pub run_of : List ℕ → Play → ℕ → ℕ → ℕ → Run
run_of bytes p here i zero = record { play = p; place = i; next = here; stopped = None }
run_of bytes p here i (suc n) =
    if is_ok (verdict_of p (number_at bytes here 6)) then run_of bytes (step p (number_at bytes here 6)) (here + 6) (i + 1) n
    else record {
      play = p;
      place = i;
      next = here;
      stopped = option_map (λ (r : Refusal). record { code = number_at bytes here 6; refusal = r }) (result_err (verdict_of p (number_at bytes here 6)));
    }

-- the cards from where a run stopped on: with the codes among them where one stands there, and else the refusal of what stands there
pub record Stopping (bytes : List ℕ) (run : Run) (at : NotPlayed) (opening count : ℕ) (answer : Placed (Read Table)) : Type 0 where
  pub no_code : begins_code at.code ≡ false → answer ≡ refused_at (number at.refusal) run.place
  pub code : begins_code at.code ≡ true → (deal : List ℕ) (trump opens : ℕ) (e : List Event) → OfEvents deal trump opens e (table_with run.play opening) run.place
      → answer ≡ cards_of deal trump opens (plays_by trump opens deal count e bytes run.next)

-- the Laws' section by what it takes of the calls: whether they passed the board out, the trump and the opening leader
unfoldable pub cards_by : Bool → ℕ → ℕ → List ℕ → Reader (List Event)
cards_by out trump opening deal = do
  count ← read 6
  refuse too_many_cards count (ltb 52 count || (out && ltb 0 count))
  read_plays trump opening deal count most_codes []
