-- The penalty cards and what binds the next lead, on the structs that the code keeps, and one step of each kind.
-- Assumes nothing.
use Rattle.std.specs.Prelude.{ℕ, ◌+◌, ◌-◌, ◌%◌, ◌^◌, Bool, not, ◌&&◌, ◌||◌, Option, Some, None, eqb, leb, if◌then◌else◌}
use Rattle.std.specs.Int.Bits.{bit_and, bit_or}
use Rattle.laws.specs.Cards.{suit_of}
use Rattle.laws.specs.Law50.{is_honour}
use Rattle.laws.specs.Law51.{no_suit}
use Rattle.laws.specs.Events.{require, forbid}
use Rattle.penalty.specs.declared.Penalty.{Penalty}
use Rattle.penalty.specs.declared.Turn.{Turn}
use Rattle.penalty.specs.Words.{card_word, suit_word, meets, without}

-- before the first event
unfoldable pub start_of : Penalty
start_of = record { faced = 0; major = 0; forbidden = 0; required = no_suit; codes = 0 }

-- the cards that do what is asked of a lead
unfoldable pub asked_of_lead : Penalty → ℕ
asked_of_lead p = if eqb p.required no_suit then without (2 ^ 52 - 1) p.forbidden else suit_word p.required

-- the cards that do what is asked of a lead, or those of the suit led
unfoldable pub asked_by : Penalty → Option ℕ → ℕ
asked_by p None = asked_of_lead p
asked_by p (Some suit) = suit_word suit

-- the cards that do what is asked
unfoldable pub asked_in : Penalty → Turn → ℕ
asked_in p t = asked_by p t.led

-- the cards of the hand whose play is no revoke
unfoldable pub obeying_in : Penalty → Turn → ℕ
obeying_in p t = if meets (asked_in p t) t.hand then bit_and (asked_in p t) t.hand else t.hand

-- the play of the card is no revoke
unfoldable pub obeys_in : Penalty → Turn → ℕ → Bool
obeys_in p t card = meets (obeying_in p t) (card_word card)

-- 64B3: a penalty card of the seat at turn is no revoke
unfoldable pub excused_in : Penalty → Turn → Bool
excused_in p t = meets (obeying_in p t) (bit_and p.faced t.hand)

-- 50C: the card is no honour, and another one of its suit is a minor penalty card of the seat
unfoldable pub against_50c : Penalty → Turn → ℕ → Bool
against_50c p t card =
    not (is_honour card)
    && meets (without (bit_and (without p.faced p.major) t.hand) (card_word card)) (suit_word (suit_of card))

-- 50D1: a major penalty card of the seat was due, and the card is not such a one
unfoldable pub against_50d1 : Penalty → Turn → ℕ → Bool
against_50d1 p t card = meets (obeying_in p t) p.major && not (meets (bit_and (obeying_in p t) p.major) (card_word card))

-- the play of the card is against 50C or 50D1
unfoldable pub fails_in : Penalty → Turn → ℕ → Bool
fails_in p t card = against_50c p t card || against_50d1 p t card

-- a card can be exposed that stands at its place with this holder
unfoldable pub exposable_in : Penalty → ℕ → ℕ → ℕ → Bool
exposable_in p side holder card = (not (leb 4 holder) && eqb (holder % 2) (side % 2)) && not (meets p.faced (card_word card))

-- the bans that run leave room for a choice
unfoldable pub unbarred_in : Penalty → ℕ → Bool
unbarred_in p kind = eqb kind forbid || eqb p.forbidden 0

-- a choice is open, where a defender is to lead whose partner was dealt these cards
unfoldable pub open_in : Penalty → ℕ → ℕ → ℕ → Bool
open_in p partner kind suit =
    leb kind forbid
    && (eqb p.required no_suit && (unbarred_in p kind && meets (bit_and p.major partner) (suit_word suit)))

-- ---- one step
-- after a card; `keeps` says that the leader keeps the lead
unfoldable pub after_card : Penalty → ℕ → Bool → Penalty
after_card p card keeps =
    record {
      faced = without p.faced (card_word card);
      major = without p.major (card_word card);
      forbidden = if keeps then p.forbidden else 0;
      required = no_suit;
      codes = p.codes;
    }

-- which cards are major once a card is exposed, whose owner was dealt the cards of `own`
unfoldable pub major_with : Penalty → ℕ → ℕ → Bool → ℕ
major_with p own card deliberate =
    if meets p.faced own then bit_or (bit_or p.major (bit_and p.faced own)) (card_word card)
    else if deliberate || is_honour card then bit_or p.major (card_word card)
    else p.major

-- with a card exposed
unfoldable pub with_exposed : Penalty → ℕ → ℕ → Bool → Penalty
with_exposed p own card deliberate =
    record {
      faced = bit_or p.faced (card_word card);
      major = major_with p own card deliberate;
      forbidden = p.forbidden;
      required = p.required;
      codes = p.codes % 64 + 1;
    }

-- with a suit required or forbidden
unfoldable pub with_kind : Penalty → ℕ → ℕ → Penalty
with_kind p kind suit =
    record {
      faced = p.faced;
      major = p.major;
      forbidden = if eqb kind require then p.forbidden else bit_or p.forbidden (suit_word suit);
      required = if eqb kind require then suit else p.required;
      codes = p.codes;
    }

-- with a choice made, before a lead by a defender whose partner was dealt the cards of `partner`
unfoldable pub with_choice : Penalty → ℕ → ℕ → ℕ → Penalty
with_choice p partner kind suit =
    with_kind
    (record {
      faced = without p.faced (bit_and partner (suit_word suit));
      major = without p.major (bit_and partner (suit_word suit));
      forbidden = p.forbidden;
      required = p.required;
      codes = p.codes % 64 + 1;
    })
    kind suit
