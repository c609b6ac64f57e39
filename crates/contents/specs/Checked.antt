-- What the code says of the checks of contents: a refusal with its place, or that there is none, with positions for histories.
-- Assumes nothing.
use Rattle.std.specs.Prelude.{ℕ, zero, suc, ◌+◌, ◌-◌, ◌/◌, ◌≡◌, min, Bool, true, false, not, ◌&&◌, ◌||◌, None, List, []}
use Rattle.std.specs.Prelude.{ltb, leb, eqb, get_or, drop, if◌then◌else◌}
use Rattle.std.specs.Result.{is_ok, result_err}
use Rattle.laws.specs.Refusals.{Answer, Placed, refused_at, given, too_many_cards, play_unfinished, no_claim_point, claim_too_many}
use Rattle.laws.specs.declared.Refusal.{Refusal}
use Rattle.laws.specs.Refused.{number, answer_by, placed_in, checked_in}
use Rattle.laws.specs.Events.{Event, begins_code, cards_of}
use Rattle.laws.specs.FlatPlay.{Item, items_of, cards_in, item_refusal, after_item}
use Rattle.laws.specs.Law68.{Claim, none, agreed}
use Rattle.laws.specs.Reading.{Reading, Reader, ◌>>=◌, ◌>>◌, refuse}
use Rattle.laws.specs.Judge.{Outcome, refused, accepted}
use Rattle.laws.specs.Contents.{take_items, take_cards, take_claim}
use Rattle.auction.specs.declared.Auction.{Auction}
use Rattle.auction.specs.Position.{position_of}
use Rattle.play.specs.declared.Play.{Play}
use Rattle.play.specs.Position.{step, verdict_of}
use Rattle.claims.specs.Claims.{point_at}
use Rattle.position.specs.declared.table.Table.{Table}
use Rattle.position.specs.Table.{table_with}
use Rattle.position.specs.History.{OfEvents, position_of as after_events}
use Rattle.contents.specs.declared.runs.Run.{Run}

-- what is said of contents: whether they are refused
abbrev pub checked : Outcome → Placed (Unit {0})
checked (refused n place) = refused_at n place
checked (accepted p) = given tt

-- ---- the calls
abbrev pub calls_by : ℕ → Reading (List ℕ) → Placed Auction
calls_by dealer r = placed_in (position_of dealer) r

-- ---- a run of n cards from a place of the list on: it stops at the first that is refused
unfoldable pub run_of : List ℕ → Play → ℕ → ℕ → Run
run_of plays p i zero = record { play = p; place = i; stopped = None }
run_of plays p i (suc n) =
    if is_ok (verdict_of p (get_or plays i 0)) then run_of plays (step p (get_or plays i 0)) (i + 1) n
    else record { play = p; place = i; stopped = result_err (verdict_of p (get_or plays i 0)) }

-- ---- a code after the events e: the position after it, or the number that it is refused with
abbrev pub coded_by : ℕ → ℕ → List ℕ → List Event → Item → List Item → Answer Table
coded_by trump opening deal e i rest = answer_by (item_refusal trump opening deal e i rest) (after_events deal trump opening (after_item i e))

-- ---- the plays where the cards stopped: what is checked from there on, where a code stands there, and else the refusal of what stands there
pub record Stopping (plays : List ℕ) (run : Run) (refusal : Refusal) (opening : ℕ) (answer : Placed (Unit {0})) : Type 0 where
  pub no_code : begins_code (get_or plays run.place 0) ≡ false → answer ≡ refused_at (number refusal) run.place
  pub code : begins_code (get_or plays run.place 0) ≡ true → (deal : List ℕ) (trump opens : ℕ) (e : List Event)
      → OfEvents deal trump opens e (table_with run.play opening) run.place
      → answer ≡ checked_in (take_items trump opens deal (items_of (drop run.place plays)) e [] 0)

-- ---- the plays, by what is taken of the calls: whether they passed the board out, the trump and the opening leader
unfoldable pub cards_by : Bool → ℕ → ℕ → List ℕ → List ℕ → Reader (List Event)
cards_by out trump opening deal plays = do
  refuse too_many_cards (min (cards_in plays) 63) (ltb 52 (cards_in plays) || (out && ltb 0 (cards_in plays)))
  take_items trump opening deal (items_of plays) []

-- ---- a claim, by whether the board was passed out and the number of cards played
unfoldable pub claim_by : Bool → ℕ → Claim → Placed (Unit {0})
claim_by out played none = checked_in (refuse play_unfinished played (not out && not (eqb played 52)) [] 0)
claim_by out played (agreed tricks) =
    checked_in
    ((do
      refuse no_claim_point played (out || not (point_at played))
      refuse claim_too_many (min tricks 15) (not (leb tricks (13 - played / 4)))) [] 0)

-- ---- plays and claim after the calls h
unfoldable pub after_calls : ℕ → List ℕ → List ℕ → List ℕ → Claim → Placed (Unit {0})
after_calls d deal h plays claim =
    checked_in
    ((do
      e ← take_cards d deal h plays
      take_claim h (cards_of e) claim) [] 0)
