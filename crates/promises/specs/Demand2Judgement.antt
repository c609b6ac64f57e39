-- Demand 2, what the judge answers: for lawful parts the answer, the revokes, the plays against 50C or 50D1 and the winners are the Laws' on those parts.
-- Assumes nothing.
use Rattle.std.specs.Prelude.{ℕ, ◌≡◌, ◌↔◌, ◌⊎◌, true, false, length}
use mathlib.Core.List.{List, ◌∷◌, ◌++◌, Memᴰ}
use Rattle.laws.specs.Law61.{Revoke}
use Rattle.laws.specs.Events.{Event, played}
use Rattle.laws.specs.LeadRevoke.{revoke_by, RevokedBy}
use Rattle.laws.specs.Failures.{Failure, failure_by, Against50C, Against50D1}
use Rattle.laws.specs.Record.{Parts, encode}
use Rattle.laws.specs.Judge.{Enough, number_of}
use Rattle.laws.specs.Auction.{passed_out}
use Rattle.laws.specs.Law77.{valid_score}
use Rattle.laws.specs.Reading.{number_at}
use Rattle.laws.specs.Judgement.{calls_of, play_of, contract_of, declarer_of, trump_of, opening_of, won_of, after_of, revokes_of, failures_of, score_of}
use Rattle.laws.specs.Judgement.{twos_complement, answer_bytes, revoke_bytes, failures_bytes, winners_bytes}
use Rattle.laws.specs.Lawful.{Lawful}
use Rattle.laws.specs.Lent.{rooms_of, ◌over◌, answer_left, list_left, failures_left, winners_left}
use Rattle.promises.specs.Demand1.{said_of}

-- x stands for a play of the parts: at some card, after the events before it, this held of the play, and x is its entry
pub record PlayOf {A : Type 0} (p : Parts) (Is : List Event → ℕ → Type 0) (entry : List Event → ℕ → A) (x : A) : Type 0 where
  pub later : List Event
  pub card : ℕ
  pub earlier : List Event
  pub play : play_of p ≡ later ++ (played card ∷ earlier)
  pub is : Is earlier card
  pub as_listed : x ≡ entry earlier card

-- the seat at turn held a card of the suit led and played another suit, or it led otherwise than declarer's choice asked for, and could have obeyed it
abbrev pub Revokes : Parts → List Event → ℕ → Type 0
Revokes p e c = RevokedBy (trump_of p) (opening_of p) p.deal e c

-- the play is against 50C or 50D1, on the hand of that moment
abbrev pub Fails : Parts → List Event → ℕ → Type 0
Fails p e c = Against50C (trump_of p) (opening_of p) p.deal e c ⊎ Against50D1 (trump_of p) (opening_of p) p.deal e c

-- a revoke, and a play against 50C or 50D1, as they are listed
abbrev pub revoke_entry : Parts → List Event → ℕ → Revoke
revoke_entry p e c = revoke_by (trump_of p) (opening_of p) e c

abbrev pub failure_entry : Parts → List Event → ℕ → Failure
failure_entry p e c = failure_by (trump_of p) (opening_of p) e c

-- r is a revoke of the parts, and f a play against 50C or 50D1
abbrev pub RevokeOf : Parts → Revoke → Type 0
RevokeOf p r = PlayOf p (Revokes p) (revoke_entry p) r

abbrev pub FailureOf : Parts → Failure → Type 0
FailureOf p f = PlayOf p (Fails p) (failure_entry p) f

pub record Demand2Judgement : Type 0 where
  -- lawful parts are accepted, and the buffers hold their answer, their revokes, their plays against 50C or 50D1 and their winners over what was there
  pub answers : (p : Parts) → Lawful p → (answer list failures winners : List ℕ) → Enough (rooms_of answer list failures winners)
      → (let said = said_of (encode p) answer list failures winners in
      (number_of said ≡ 0)
      × (answer_left said answer ≡ answer_bytes p over answer)
      × (list_left said list ≡ revoke_bytes p over list)
      × (failures_left said failures ≡ failures_bytes p over failures)
      × (winners_left said winners ≡ winners_bytes p over winners))
  -- a revoke is listed exactly when it is one
  pub revokes : (p : Parts) (r : Revoke) → Memᴰ r (revokes_of p) ↔ RevokeOf p r
  -- a play is in the fourth slice exactly when it is against 50C or 50D1
  pub failures : (p : Parts) (f : Failure) → Memᴰ f (failures_of p) ↔ FailureOf p f

-- the answer's bits behind board and table, read as numbers, where there is a contract
pub record ContractBits (p : Parts) : Type 0 where
  pub level : number_at (answer_bytes p) 16 3 ≡ (contract_of p).level
  pub strain : number_at (answer_bytes p) 19 3 ≡ (contract_of p).strain
  pub doubling : number_at (answer_bytes p) 22 2 ≡ (contract_of p).doubling
  pub declarer : number_at (answer_bytes p) 24 2 ≡ declarer_of p
  pub won : number_at (answer_bytes p) 26 4 ≡ won_of p
  pub after : number_at (answer_bytes p) 30 4 ≡ after_of p
  pub revokes : number_at (answer_bytes p) 34 6 ≡ length (revokes_of p)
  pub score : number_at (answer_bytes p) 40 16 ≡ twos_complement (score_of p)
  -- a valid score, so that its 16 bits tell it from every other
  pub valid : valid_score (score_of p) ≡ true

-- every bit of the answer
pub record AnswerBits (p : Parts) : Type 0 where
  pub board : number_at (answer_bytes p) 0 7 ≡ p.board
  pub table : number_at (answer_bytes p) 7 9 ≡ p.table
  pub passed_out_lem : passed_out (calls_of p) ≡ true → number_at (answer_bytes p) 16 40 ≡ 0
  pub contract : passed_out (calls_of p) ≡ false → ContractBits p

-- no field of the answer is cut: read back, each has its value
abbrev pub Demand2Bits : Type 0
Demand2Bits = (p : Parts) → Lawful p → AnswerBits p
