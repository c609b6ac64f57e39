-- The judgement of a record's parts: contract, tricks, revokes and score by the Laws, and the bytes that say so.
-- Assumes nothing.
use Rattle.std.specs.Prelude.{ℕ, suc, ◌+◌, ◌-◌, ◌*◌, ◌^◌, List, [], ◌∷◌, map, reverse, eqb, ℤ, pos, negsuc, length, if◌then◌else◌}
use Rattle.laws.specs.Cards.{partner_of, side_of}
use Rattle.laws.specs.Law2.{dealer, vulnerable}
use Rattle.laws.specs.Auction.{Contract, contract, passed_out, trump_after, opening_after}
use Rattle.laws.specs.Law44.{Won, won_tricks, winners, tricks_won, tricks_left}
use Rattle.laws.specs.Law61.{Revoke}
use Rattle.laws.specs.Padded.{padded}
use Rattle.laws.specs.Events.{Event, cards_of}
use Rattle.laws.specs.LeadRevoke.{Counted, all_revokes, counted_revokes}
use Rattle.laws.specs.Failures.{Failure, failures, failure_bytes}
use Rattle.laws.specs.Law64.{transferred_tricks, tricks_after}
use Rattle.laws.specs.Law68.{claimed_tricks}
use Rattle.laws.specs.Law77.{Stake, declarer_score, ns_score}
use Rattle.laws.specs.Record.{Parts, Field, field, packed}

module _ (p : Parts) where
  -- the calls and the events of the play as histories, latest first
  abbrev pub calls_of : List ℕ
  calls_of = reverse p.calls

  abbrev pub play_of : List Event
  play_of = reverse p.plays

  -- the contract; of a board that was passed out it is not asked
  unfoldable pub contract_of : Contract
  contract_of = contract (dealer p.board) calls_of

  abbrev pub declarer_of : ℕ
  declarer_of = contract_of.declarer

  abbrev pub trump_of : ℕ
  trump_of = trump_after calls_of

  abbrev pub opening_of : ℕ
  opening_of = opening_after (dealer p.board) calls_of

  -- the answers of the complete tricks and their winners, the revokes as they are listed and as Law 64 counts them, and the plays against 50C or 50D1, in
  -- order of play
  unfoldable pub won_tricks_of : List Won
  won_tricks_of = won_tricks trump_of opening_of (cards_of play_of)

  unfoldable pub winners_of : List ℕ
  winners_of = winners trump_of opening_of (cards_of play_of)

  unfoldable pub revokes_of : List Revoke
  revokes_of = all_revokes trump_of opening_of p.deal play_of

  unfoldable pub counted_of : List Counted
  counted_of = counted_revokes trump_of opening_of p.deal play_of

  unfoldable pub failures_of : List Failure
  failures_of = failures trump_of opening_of p.deal play_of

  -- the tricks that a side gets by the claim
  unfoldable pub claimed_of : ℕ → ℕ
  claimed_of side = claimed_tricks p.claim (tricks_left (cards_of play_of)) (eqb side (side_of declarer_of))

  -- tricks won by declarer's side, claimed ones included
  unfoldable pub won_of : ℕ
  won_of = tricks_won (side_of declarer_of) winners_of + claimed_of (side_of declarer_of)

  -- Law 64: the tricks that change sides, and declarer's tricks after that
  unfoldable pub transferred_of : ℕ
  transferred_of = transferred_tricks (partner_of declarer_of) winners_of claimed_of counted_of

  unfoldable pub after_of : ℕ
  after_of = tricks_after declarer_of counted_of won_of transferred_of

  -- Law 77: what the contract is played for, and the score from North-South; passed out it is 0
  unfoldable pub stake_of : Stake
  stake_of =
      record {
        level = contract_of.level;
        strain = contract_of.strain;
        doubling = contract_of.doubling;
        vulnerable = vulnerable p.board declarer_of;
      }

  unfoldable pub score_of : ℤ
  score_of = if passed_out calls_of then pos 0 else ns_score declarer_of (declarer_score stake_of after_of)

-- a score as 16 bits, two's complement
unfoldable pub twos_complement : ℤ → ℕ
twos_complement (pos n) = n
twos_complement (negsuc n) = 2 ^ 16 - suc n

module _ (p : Parts) where
  -- what follows board and table in the answer, where there is a contract
  unfoldable pub played_fields : List Field
  played_fields =
      field 3 (contract_of p).level
      ∷ field 3 (contract_of p).strain
      ∷ field 2 (contract_of p).doubling
      ∷ field 2 (declarer_of p)
      ∷ field 4 (won_of p)
      ∷ field 4 (after_of p)
      ∷ field 6 (length (revokes_of p))
      ∷ field 16 (twos_complement (score_of p))
      ∷ []

  -- the answer: board 7 bits, table 9, and the rest, which is zero on a board that was passed out
  unfoldable pub answer_fields : List Field
  answer_fields = field 7 p.board ∷ field 9 p.table ∷ (if passed_out (calls_of p) then (field 40 0 ∷ []) else played_fields)

  -- the seven bytes of the answer
  unfoldable pub answer_bytes : List ℕ
  answer_bytes = packed answer_fields

-- a revoke as a byte: trick 4 bits, seat 2, suit 2
unfoldable pub revoke_byte : Revoke → ℕ
revoke_byte r = r.trick * 16 + r.seat * 4 + r.suit

-- the bytes of the revoke list
unfoldable pub revoke_bytes : Parts → List ℕ
revoke_bytes p = map revoke_byte (revokes_of p)

-- the 52 bytes of the plays against 50C or 50D1: two for each, and zeros behind them
unfoldable pub failures_bytes : Parts → List ℕ
failures_bytes p = padded 0 52 (failure_bytes (failures_of p))

-- two bytes for each trick: the seat that won it, and the card that won
unfoldable pub won_bytes : List Won → List ℕ
won_bytes [] = []
won_bytes (w ∷ ws) = w.seat ∷ w.card ∷ won_bytes ws

-- the bytes of the complete tricks, trick by trick
unfoldable pub winners_bytes : Parts → List ℕ
winners_bytes p = won_bytes (won_tricks_of p)
