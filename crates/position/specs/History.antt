-- The position after a history of events, latest first, and what its words of entries are by the Laws.
-- `deal` has the holder of each card, `trump` is the contract's strain, `opening` leads to the first trick.
-- Assumes nothing.
use Rattle.std.specs.Prelude.{ℕ, zero, suc, ◌+◌, ◌*◌, ◌/◌, ◌%◌, ◌^◌, ◌<◌, ◌≡◌, ◌&&◌, List, [], ◌∷◌, length, if◌then◌else◌}
use Rattle.laws.specs.Cards.{cards_dealt}
use Rattle.laws.specs.Events.{Event, played, exposed, choice}
use Rattle.laws.specs.Law51.{required}
use Rattle.laws.specs.LeadRevoke.{leads, disobeys, is_excused}
use Rattle.laws.specs.Failures.{Failure, is_failure, failure_by}
use Rattle.laws.specs.Kept.{NoneRefused}
use Rattle.laws.specs.Plays.{play_place}
use Rattle.deal.specs.Hands.{words_of}
use Rattle.play.specs.Words.{bit_of}
use Rattle.position.specs.declared.table.Table.{Table}
use Rattle.found.specs.Found.{named_by}
use Rattle.position.specs.Table.{table_of, after_play, after_exposed, after_choice}

-- the position that the code keeps after the events
unfoldable pub position_of : List ℕ → ℕ → ℕ → List Event → Table
position_of deal trump opening [] = table_of deal (words_of deal) trump opening
position_of deal trump opening (played c ∷ e) = after_play (position_of deal trump opening e) c
position_of deal trump opening (exposed c deliberate ∷ e) = after_exposed (position_of deal trump opening e) c deliberate
position_of deal trump opening (choice kind suit ∷ e) = after_choice (position_of deal trump opening e) kind suit

-- thirteen cards each
pub record ThirteenEach (deal : List ℕ) : Type 0 where
  pub places : length deal ≡ 52
  pub thirteen : (seat : ℕ) → seat < 4 → cards_dealt seat deal ≡ 13

-- the position is that of the events e, none of which is refused, before the card at a place
pub record OfEvents (deal : List ℕ) (trump opening : ℕ) (e : List Event) (t : Table) (place : ℕ) : Type 0 where
  pub deal_of_lem : ThirteenEach deal
  pub seat : opening < 4
  pub position : t ≡ position_of deal trump opening e
  pub none_refused : NoneRefused trump opening deal e
  pub many : place ≡ play_place e

module _ (deal : List ℕ) (trump opening : ℕ) where
  -- a bit for each card, the last lowest: 1 for a lead that is a revoke
  unfoldable pub leads_of : List Event → ℕ
  leads_of [] = 0
  leads_of (played c ∷ e) = leads_of e * 2 + bit_of (leads e && disobeys trump opening deal e c)
  leads_of (exposed c deliberate ∷ e) = leads_of e
  leads_of (choice kind suit ∷ e) = leads_of e

  -- a bit for each card, the last lowest: 1 for a revoke
  unfoldable pub bits_of : List Event → ℕ
  bits_of [] = 0
  bits_of (played c ∷ e) = bits_of e * 2 + bit_of (disobeys trump opening deal e c)
  bits_of (exposed c deliberate ∷ e) = bits_of e
  bits_of (choice kind suit ∷ e) = bits_of e

  -- a bit for each card, the last lowest: 1 for a revoke that is excused
  unfoldable pub excused_of : List Event → ℕ
  excused_of [] = 0
  excused_of (played c ∷ e) = excused_of e * 2 + bit_of (disobeys trump opening deal e c && is_excused trump opening deal e)
  excused_of (exposed c deliberate ∷ e) = excused_of e
  excused_of (choice kind suit ∷ e) = excused_of e

  -- three bits for each lead, the last lowest: 4 + the suit required where that is a revoke, else 0
  unfoldable pub named_of : List Event → ℕ
  named_of [] = 0
  named_of (played c ∷ e) = if leads e then named_of e * 8 + named_by (disobeys trump opening deal e c) (required e) else named_of e
  named_of (exposed c deliberate ∷ e) = named_of e
  named_of (choice kind suit ∷ e) = named_of e

  -- a failure as twelve bits: trick 4, seat 2, card 6
  abbrev pub entry_of : Failure → ℕ
  entry_of f = f.trick * 256 + f.seat * 64 + f.card

  -- the failures, twelve bits each, the last lowest
  unfoldable pub failed_of : List Event → ℕ
  failed_of [] = 0
  failed_of (played c ∷ e) = if is_failure trump opening deal e c then failed_of e * 4096 + entry_of (failure_by trump opening e c) else failed_of e
  failed_of (exposed c deliberate ∷ e) = failed_of e
  failed_of (choice kind suit ∷ e) = failed_of e

-- a number as n words of sixty bits, the lowest first
unfoldable pub words_in : ℕ → ℕ → List ℕ
words_in zero x = []
words_in (suc n) x = x % 2 ^ 60 ∷ words_in n (x / 2 ^ 60)
