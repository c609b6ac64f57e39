-- What the judge leaves in the four buffers that it is lent.
-- Assumes nothing.
use Rattle.std.specs.Prelude.{List, ◌++◌, ℕ, length, drop}
use Rattle.laws.specs.Judge.{Rooms, Outcome, Outcome.refused, Outcome.accepted}
use Rattle.laws.specs.Judgement.{answer_bytes, revoke_bytes, failures_bytes, winners_bytes}

-- the lengths of four buffers
abbrev pub rooms_of : List ℕ → List ℕ → List ℕ → List ℕ → Rooms
rooms_of answer list failures winners =
    record { answer = length answer; list = length list; failures = length failures; winners = length winners }

infixr 5 ◌over◌
-- bytes over the front of a buffer; the buffer's bytes behind them stay
unfoldable pub ◌over◌ : List ℕ → List ℕ → List ℕ
◌over◌ front old = front ++ drop (length front) old

-- the answer's buffer: as it was where the judge refuses, else the seven bytes of the answer over its front
unfoldable pub answer_left : Outcome → List ℕ → List ℕ
answer_left (refused n place) old = old
answer_left (accepted p) old = answer_bytes p over old

-- the revoke list's buffer: as it was where the judge refuses, else a byte for each revoke over its front
unfoldable pub list_left : Outcome → List ℕ → List ℕ
list_left (refused n place) old = old
list_left (accepted p) old = revoke_bytes p over old

-- the buffer of the plays against 50C or 50D1: as it was where the judge refuses, else their 52 bytes over its front
unfoldable pub failures_left : Outcome → List ℕ → List ℕ
failures_left (refused n place) old = old
failures_left (accepted p) old = failures_bytes p over old

-- the winners' buffer: as it was where the judge refuses, else two bytes for each complete trick over its front
unfoldable pub winners_left : Outcome → List ℕ → List ℕ
winners_left (refused n place) old = old
winners_left (accepted p) old = winners_bytes p over old
