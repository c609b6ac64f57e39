-- Demand 1 of the judge: its number, and what it leaves in the four lent buffers, for every list of bytes.
-- `answer`, `list`, `failures` and `winners` are the buffers as they are lent; `judge_record` returns `number_of` and leaves `answer_left`, `list_left`,
-- `failures_left` and `winners_left` of what is said here.
-- Assumes nothing.
use Rattle.std.specs.Prelude.{ℕ, ◌*◌, ◌≤◌, ◌≡◌, ◌⊎◌, List, length, take, drop}
use Rattle.laws.specs.Record.{Parts}
use Rattle.laws.specs.Judge.{Outcome, Outcome.accepted, judge_of, number_of}
use Rattle.laws.specs.Judgement.{answer_bytes, won_tricks_of, revokes_of, revoke_bytes, failures_bytes, winners_bytes}
use Rattle.laws.specs.Lent.{rooms_of, answer_left, list_left, failures_left, winners_left}
use Rattle.promises.specs.Demand2.{Refusal}

module _ (bytes answer list failures winners : List ℕ) where
  -- what the judge says of the bytes, given these buffers
  abbrev pub said_of : Outcome
  said_of = judge_of bytes (rooms_of answer list failures winners)

  pub record Demand1 : Type 0 where
    -- the number is 0, or a refusal of a record, 1 to 16 or 23 to 27, × 1024 and a place below 1024
    pub number : (number_of said_of ≡ 0) ⊎ Refusal (number_of said_of)
    -- with any number but 0 the buffers are as they were
    pub refusal_leaves : (number_of said_of ≡ 0 → ⊥)
        → (answer_left said_of answer ≡ answer) × (list_left said_of list ≡ list) × (failures_left said_of failures ≡ failures)
        × (winners_left said_of winners ≡ winners)
    -- accepted: the seven bytes of the answer, and the bytes behind them as they were
    pub answer_front : (p : Parts) → said_of ≡ accepted p → take 7 (answer_left said_of answer) ≡ answer_bytes p
    pub answer_behind : (p : Parts) → said_of ≡ accepted p → drop 7 (answer_left said_of answer) ≡ drop 7 answer
    -- a byte for each revoke, at most 48, and the bytes behind them as they were
    pub list_front : (p : Parts) → said_of ≡ accepted p → take (length (revokes_of p)) (list_left said_of list) ≡ revoke_bytes p
    pub list_behind : (p : Parts) → said_of ≡ accepted p → drop (length (revokes_of p)) (list_left said_of list) ≡ drop (length (revokes_of p)) list
    pub at_most_48 : (p : Parts) → said_of ≡ accepted p → length (revokes_of p) ≤ 48
    -- the 52 bytes of the plays against 50C or 50D1, on every acceptance, and the bytes behind them as they were
    pub failures_front : (p : Parts) → said_of ≡ accepted p → take 52 (failures_left said_of failures) ≡ failures_bytes p
    pub failures_behind : (p : Parts) → said_of ≡ accepted p → drop 52 (failures_left said_of failures) ≡ drop 52 failures
    -- two bytes for each complete trick, of which there are at most 13, and the bytes behind them as they were
    pub winners_front : (p : Parts) → said_of ≡ accepted p → take (2 * length (won_tricks_of p)) (winners_left said_of winners) ≡ winners_bytes p
    pub winners_behind : (p : Parts) → said_of ≡ accepted p
        → drop (2 * length (won_tricks_of p)) (winners_left said_of winners) ≡ drop (2 * length (won_tricks_of p)) winners
    pub at_most_13 : (p : Parts) → said_of ≡ accepted p → length (won_tricks_of p) ≤ 13
    -- no buffer grows or shrinks
    pub same_lengths : (length (answer_left said_of answer) ≡ length answer) × (length (list_left said_of list) ≡ length list)
        × (length (failures_left said_of failures) ≡ length failures) × (length (winners_left said_of winners) ≡ length winners)
