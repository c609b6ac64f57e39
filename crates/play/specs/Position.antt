-- The position of the play, on the struct that the code keeps, and one step: the lead, the card on the table, the trick's end.
-- Assumes nothing.
use Rattle.std.specs.Prelude.{ℕ, ◌+◌, ◌-◌, ◌*◌, ◌/◌, ◌%◌, ◌^◌, max, Result, Ok, Err, Bool, not, ◌&&◌, List, eqb, leb, get_or, set, if◌then◌else◌}
use Rattle.std.specs.Result.{result_and}
use Rattle.std.specs.Int.Bits.{bit_and, bit_or, bit_xor}
use Rattle.laws.specs.Cards.{suit_of, clockwise, dealt_to}
use Rattle.laws.specs.Refused.{number_or_none}
use Rattle.laws.specs.declared.Refusal.{Refusal}
use Rattle.laws.specs.declared.Refusal.TheVariants.{NoCard, CardNotHeld, CardAlreadyPlayed}
use Rattle.deal.specs.Hands.{has_suit}
use Rattle.play.specs.declared.Play.{Play}
use Rattle.play.specs.declared.Won.{Won}
use Rattle.play.specs.Words.{bit_of, worth, with_bit, with_four, with_entry}

-- the holders with one place changed: who held the card has played it, which the place shows as 4 more than the seat
unfoldable pub put_played : List ℕ → ℕ → List ℕ
put_played holders card = set holders card (bit_or (get_or holders card 0) 4)

-- before the first card
unfoldable pub start_of : List ℕ → List ℕ → ℕ → ℕ → Play
start_of holders dealt trump opening =
    record {
      holders = holders;
      dealt = dealt;
      left = 2 ^ 52 - 1;
      trump = trump;
      played = 0;
      leader = opening % 4;
      led = 0;
      best = 0;
      tricks = opening % 4 * 4;
      low = 0;
      high = 0;
      revoked = 0;
    }

-- the seat at turn
unfoldable pub turn_of : Play → ℕ
turn_of p = clockwise p.leader p.played

-- the hand of the seat at turn: what it was dealt, as far as nobody has played it
unfoldable pub hand_of : Play → ℕ
hand_of p = bit_and (get_or p.dealt (turn_of p) 0) p.left

-- the seat at turn holds a card of the suit led
unfoldable pub could_follow : Play → Bool
could_follow p = has_suit (hand_of p) (p.led % 4)

-- the seat at turn was dealt the card
unfoldable pub was_dealt : Play → ℕ → Bool
was_dealt p card = eqb (get_or p.dealt (turn_of p) 0 / 2 ^ card % 2) 1

-- the verdict on a card: a code that is no card, then one that the seat at turn does not hold, having played it already or not having been dealt it
unfoldable pub verdict_of : Play → ℕ → Result (Unit {0}) Refusal
verdict_of p card =
    if leb 52 card then Err NoCard
    else if eqb (dealt_to p.holders card) (turn_of p) then Ok tt
    else if was_dealt p card then Err CardAlreadyPlayed
    else Err CardNotHeld

-- the number that a card is refused with, 0 where it may be played
abbrev pub refusal_of : Play → ℕ → ℕ
refusal_of p card = number_or_none (verdict_of p card)

-- ---- one step
-- between tricks, so that the next card leads
abbrev pub leads : Play → Bool
leads p = eqb (p.played % 4) 0

-- the suit led, where the card is the first of its trick
unfoldable pub with_lead : Play → ℕ → Play
with_lead p card =
    record {
      holders = p.holders;
      dealt = p.dealt;
      left = p.left;
      trump = p.trump;
      played = p.played;
      leader = p.leader;
      led = if leads p then suit_of card else p.led;
      best = p.best;
      tricks = p.tricks;
      low = p.low;
      high = p.high;
      revoked = p.revoked;
    }

-- the worth of a card that the seat at turn plays
unfoldable pub worth_of : Play → ℕ → ℕ
worth_of p card = worth p.trump p.led card (turn_of p)

-- the card would be a revoke: it is not of the suit led, and the seat at turn has a card of that suit
unfoldable pub revokes_with : Play → ℕ → Bool
revokes_with p card = not (eqb (suit_of card) p.led) && could_follow p

-- the card on the table: out of its hand, a revoke or none, the best of the trick or not
unfoldable pub with_card : Play → ℕ → Play
with_card p card =
    record {
      holders = put_played p.holders card;
      dealt = p.dealt;
      left = bit_xor p.left (2 ^ card);
      trump = p.trump;
      played = p.played % 64 + 1;
      leader = p.leader;
      led = p.led;
      best = max p.best (worth_of p card);
      tricks = p.tricks;
      low = p.low;
      high = p.high;
      revoked = with_bit p.revoked (bit_of (revokes_with p card));
    }

-- the answer of a trick by its best worth
abbrev pub won_in : Play → Won
won_in p = record { seat = p.best % 4; card = p.best / 4 % 64 }

-- the trick counted, where it is complete: its answer is kept, and its winner leads to the next
unfoldable pub with_trick : Play → Play
with_trick p =
    record {
      holders = p.holders;
      dealt = p.dealt;
      left = p.left;
      trump = p.trump;
      played = p.played;
      leader = if leads p then (won_in p).seat else p.leader;
      led = p.led;
      best = if leads p then 0 else p.best;
      tricks = if leads p then with_entry p.tricks (won_in p).seat p.led else p.tricks;
      low = if leads p then with_four p.low (won_in p).card else p.low;
      high = if leads p then with_four p.high ((won_in p).card / 16) else p.high;
      revoked = p.revoked;
    }

-- the position with one card more, played by the seat at turn; a code that is no card changes nothing
unfoldable pub step : Play → ℕ → Play
step p card = if leb 52 card then p else with_trick (with_card (with_lead p card) card)

-- the position after a card that may be played, or its refusal
unfoldable pub taken_of : Play → ℕ → Result Play Refusal
taken_of p card = result_and (verdict_of p card) (Ok (step p card))
