-- The whole record: what follows the cards, what the code's answer says of a reading, and what the positions stand for.
-- Assumes nothing.
use Rattle.std.specs.Prelude.{ℕ, ◌≡◌, Bool, Option, unwrap_or, List, map, length, if◌then◌else◌}
use Rattle.std.specs.Option.{is_some}
use Rattle.laws.specs.Padded.{padded}
use Rattle.laws.specs.Refusals.{Placed}
use Rattle.laws.specs.Refused.{placed_in}
use Rattle.laws.specs.Law2.{dealer}
use Rattle.laws.specs.Auction as Law
use Rattle.laws.specs.Record.{Parts, Field, number}
use Rattle.laws.specs.Reading.{Reading, Reader}
use Rattle.laws.specs.LastCard.{read_behind}
use Rattle.laws.specs.Events.{Event}
use Rattle.laws.specs.LeadRevoke.{Counted}
use Rattle.laws.specs.Kept.{NoneRefused}
use Rattle.laws.specs.Judgement.{answer_fields, won_tricks_of, revokes_of, counted_of, revoke_bytes, failures_bytes}
use Rattle.auction.specs.declared.Contract.{Contract}
use Rattle.auction.specs.Asked.{as_law}
use Rattle.play.specs.declared.Tricks.{Tricks}
use Rattle.play.specs.Words.{bit_of}
use Rattle.play.specs.Told.{tricks_of}
use Rattle.play.specs.History.{told_of}
use Rattle.position.specs.declared.listed.Listed.{Listed}
use Rattle.position.specs.declared.table.Table.{Table}
use Rattle.position.specs.History.{position_of}
use Rattle.judgement.specs.declared.whole.Judged.{Judged}
use Rattle.position.specs.History.{ThirteenEach}
use Rattle.judgement.specs.Settled.{head_fields, settled_fields}

-- ---- what follows the cards
abbrev pub after_cards : ℕ → ℕ → List ℕ → List ℕ → List Event → Reader Parts
after_cards board table deal h e = read_behind (record { board = board; table = table; deal = deal; calls = h; plays = e })

-- ---- the code's answer
-- the revokes of accepted parts, a byte each, in 48 places, and 1 for each that is excused
unfoldable pub listed_in : Parts → Listed
listed_in p =
    record {
      count = length (revokes_of p);
      list = padded 0 48 (revoke_bytes p);
      excused = padded 0 48 (map (λ (r : Counted). bit_of r.excused) (counted_of p));
    }

-- the complete tricks of accepted parts
unfoldable pub tricks_told : Parts → Tricks
tricks_told p = tricks_of (map told_of (won_tricks_of p))

-- the judgement of accepted parts
abbrev pub judgement_of : Parts → Judged
judgement_of p = record { bits = number (answer_fields p); revokes = listed_in p; failures = failures_bytes p; tricks = tricks_told p }

abbrev pub judged_of : Reading Parts → Placed Judged
judged_of r = placed_in judgement_of r

-- the answer's fields, passed out or with a contract, with a claim or without one
unfoldable pub board_fields : ℕ → ℕ → Bool → Contract → Tricks → Listed → Option ℕ → ℕ → List Field
board_fields board table out k ts rs claimed left =
    if out then head_fields board table
    else settled_fields board table k ts rs (unwrap_or claimed 0) (if is_some claimed then left else 0)

-- ---- what the positions stand for
-- the contract and the play are those of the calls h and the events e
pub record OfCards (board : ℕ) (out : Bool) (k : Contract) (deal h : List ℕ) (e : List Event) (t : Table) : Type 0 where
  pub passed : out ≡ Law.passed_out h
  pub contract : as_law k ≡ Law.contract (dealer board) h
  pub deal_of_lem : ThirteenEach deal
  pub position : t ≡ position_of deal (Law.trump_after h) (Law.opening_after (dealer board) h) e
  pub played : NoneRefused (Law.trump_after h) (Law.opening_after (dealer board) h) deal e
