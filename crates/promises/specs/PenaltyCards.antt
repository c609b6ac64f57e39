-- The penalty cards and the lead choices after each event of the play: what holds of them before the first event, what each event that is not refused keeps,
-- and that the position which the judge steps through has them.
-- `deal` has the holder of each card, `trump` is the contract's strain, `opening` leads to the first trick; a history has the latest event first.
-- Assumes nothing.
use Rattle.std.specs.Prelude.{ℕ, ◌<◌, ◌≡◌, List, [], ◌∷◌, ◌++◌, length}
use Rattle.laws.specs.Refusals.{accepted}
use Rattle.laws.specs.Cards.{suit_of}
use Rattle.laws.specs.Events.{Event, codes_of}
use Rattle.laws.specs.Law50.{is_faced, is_major}
use Rattle.laws.specs.Law51.{required, is_forbidden}
use Rattle.laws.specs.CodeRefusal.{event_refusal}
use Rattle.laws.specs.Kept.{NoneRefused, KeptCards, KeptChoices}
use Rattle.laws.specs.Record.{Parts}
use Rattle.laws.specs.Judgement.{play_of, trump_of, opening_of}
use Rattle.laws.specs.Lawful.{Lawful}
use Rattle.penalty.specs.Words.{card_word, meets}
use Rattle.position.specs.History.{ThirteenEach, position_of}

-- what is kept of both
abbrev pub Kept : ℕ → ℕ → List ℕ → List Event → Type 0
Kept trump opening deal e = KeptCards trump opening deal e × KeptChoices trump opening deal e

-- the position's penalty cards are the Laws': the card is in the set of those that are faced, that are major, whose suit is forbidden; the suit required; how
-- many codes there were
pub record Position (trump opening : ℕ) (deal : List ℕ) (e : List Event) : Type 0 where
  pub faced : (k : ℕ) → k < 52 → meets (position_of deal trump opening e).penalty.faced (card_word k) ≡ is_faced trump opening deal e k
  pub major : (k : ℕ) → k < 52 → meets (position_of deal trump opening e).penalty.major (card_word k) ≡ is_major trump opening deal e k
  pub forbidden : (k : ℕ) → k < 52 → meets (position_of deal trump opening e).penalty.forbidden (card_word k) ≡ is_forbidden trump opening e (suit_of k)
  pub requires : (position_of deal trump opening e).penalty.required ≡ required e
  pub codes : (position_of deal trump opening e).penalty.codes ≡ codes_of e

pub record PenaltyCards : Type 0 where
  -- before the first event, and after each that is not refused
  pub start : (trump opening : ℕ) (deal : List ℕ) → length deal ≡ 52 → Kept trump opening deal []
  pub step : (trump opening : ℕ) (deal : List ℕ) → length deal ≡ 52 → (e : List Event) → NoneRefused trump opening deal e
      → (v : Event) → event_refusal trump opening deal e v ≡ accepted → Kept trump opening deal (v ∷ e)
  -- so after every part of the plays of lawful contents
  pub lawful : (p : Parts) → Lawful p → (later e : List Event) → play_of p ≡ later ++ e → Kept (trump_of p) (opening_of p) p.deal e
  -- and the judge's position has them
  pub position : (trump opening : ℕ) (deal : List ℕ) → ThirteenEach deal → opening < 4 → (e : List Event) → NoneRefused trump opening deal e
      → Position trump opening deal e
