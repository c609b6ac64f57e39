-- What the position says of the next event is the Law's: the number that a card, an exposure or a choice is refused with. Assumes nothing.
use Prim.Native.Nat.{ℕ, ◌≤◌, ◌<◌, ◌%◌}
use mathlib.Core.Path.{◌≡◌, ◌∙◌}
use mathlib.Core.Bool.{true, false}
use mathlib.Core.List.{List}
use native.Mathlib.Nat.{mod-eq_of_lt}
use native.Mathlib.Omega.{arith}
use borrow.Author.Tests.{lt-ltb, leb-true, leb-false}
use lib.Dec.{leb}
use lib.ListN.{length, get_or}
use Rattle.laws.specs.Cards.{no_seat, cards_dealt}
use Rattle.laws.specs.Law44.{leader}
use Rattle.laws.specs.Events.{Event, forbid, cards_of}
use Rattle.laws.specs.Law50.{is_exposable}
use Rattle.laws.specs.Law51.{defender_to_lead, is_open}
use Rattle.laws.specs.CardRefusal.{card_refusal}
use Rattle.laws.specs.CodeRefusal.{codes_full, exposure_refusal, choice_refusal}
use Rattle.laws.specs.Kept.{NoneRefused}
use Rattle.laws.proofs.Tests.{by_test}
use Rattle.laws.proofs.Counts.{any_default}
use Rattle.laws.proofs.KeptCards.{defenders-card, exposed_defender}
use Rattle.play.specs.Position.{refusal_of}
use Rattle.play.specs.History.{holders_of}
use Rattle.play.proofs.Holders.{holders_52}
use Rattle.play.proofs.Verdicts.{verdict_law}
use Rattle.play.proofs.Stands as PlayStands
use Rattle.penalty.specs.declared.Penalty.{Penalty}
use Rattle.position.specs.declared.table.Table.{Table}
use Rattle.penalty.specs.Position.{exposable_in}
use Rattle.position.specs.Table.{full_in, exposure_in, defender_leads, choice_in}
use Rattle.position.specs.History.{position_of}
use Rattle.position.proofs.AtMost.{cards-allowed}
use Rattle.penalty.proofs.Stepping.{exposable_is, open_is}
use Rattle.position.proofs.TableStands.{TableStands, play-is, leader-low, partner_is, table-stands}

-- a side that is told by its remainder
same_side_lem : (p : Penalty) (side holder card : ℕ) → exposable_in p (side % 2) holder card ≡ exposable_in p side holder card
unfolding exposable_in
same_side_lem p side holder card = let same : side % 2 % 2 ≡ side % 2 = omega arith in rw same

module _ (deal : List ℕ) (trump opening : ℕ) (all : length deal ≡ 52) (dealt : (seat : ℕ) → seat < 4 → cards_dealt seat deal ≡ 13) (low : opening < 4) where
  module _ (e : List Event) (w : NoneRefused trump opening deal e) where
    abbrev t : Table
    t = position_of deal trump opening e

    stands : TableStands deal trump opening all t e
    stands = table-stands deal trump opening all dealt low e w

    pub card_law : (card : ℕ) → refusal_of t.play card ≡ card_refusal trump opening deal (cards_of e) card
    card_law card = rw (play-is deal trump opening e w) (verdict_law deal trump opening all (cards_of e) (cards-allowed deal trump opening e w) card)

    pub full_law : full_in t ≡ codes_full e
    unfolding full_in codes_full
    full_law = rw stands.penalty.codes

    -- a number from 52 on is no card in a defender's hand
    no_card_lem : (card : ℕ) → 52 ≤ card → is_exposable trump opening deal e card ≡ false
    no_card_lem card h =
        by_test (is_exposable trump opening deal e card)
        (λ (x : is_exposable trump opening deal e card ≡ true).
        absurd (omega (arith, defenders-card opening deal card (exposed_defender trump opening deal e card x))))
        (λ (x : is_exposable trump opening deal e card ≡ false). x)

    pub exposure_law : (card : ℕ) → exposure_in t card ≡ exposure_refusal trump opening deal e card
    unfolding exposure_in exposure_refusal
    exposure_law card =
        let s = stands in
        let holders = holders_of deal trump opening (cards_of e) in
        by_test (leb 52 card)
        (λ (q : leb 52 card ≡ true). rw (q, no_card_lem card (leb-true 52 card q)))
        (λ (q : leb 52 card ≡ false).
        let code = leb-false 52 card q in
        let at : get_or t.play.holders card 0 ≡ get_or holders card no_seat =
        rw s.play.holders (any_default holders card 0 no_seat (omega (arith, holders_52 deal trump opening all (cards_of e)))) in
        let same : exposable_in t.penalty t.side (get_or t.play.holders card 0) card ≡ is_exposable trump opening deal e card =
        rw s.side (same_side_lem t.penalty opening (get_or t.play.holders card 0) card)
        ∙ exposable_is deal trump opening s.penalty all (cards-allowed deal trump opening e w) (get_or t.play.holders card 0) card code at in
        rw (q, same))

    leads_law : defender_leads t ≡ defender_to_lead trump opening e
    unfolding defender_leads defender_to_lead
    leads_law =
        let s = stands in
        let below = leader-low deal trump opening low (cards_of e) in
        let side : opening % 2 % 2 ≡ opening % 2 = omega arith in
        rw (
          PlayStands.lead_test deal trump opening all s.play,
          s.play.leads,
          mod-eq_of_lt below,
          s.side,
          side,
          lt-ltb (leader trump opening (cards_of e)) 4 below,
        )

    not_open : (kind suit : ℕ) → defender_to_lead trump opening e ≡ false → is_open trump opening deal e kind suit ≡ false
    unfolding is_open
    not_open kind suit q =
        rw q (by_test (leb kind forbid) (λ (k : leb kind forbid ≡ true). rw k) (λ (k : leb kind forbid ≡ false). rw k))

    pub choice_law : (kind suit : ℕ) → choice_in t kind suit ≡ choice_refusal trump opening deal e kind suit
    unfolding choice_in choice_refusal
    choice_law kind suit =
        let s = stands in
        rw leads_law (by_test (defender_to_lead trump opening e)
        (λ (q : defender_to_lead trump opening e ≡ true).
        rw (q, partner_is deal trump opening all dealt s w, open_is deal trump opening s.penalty w q kind suit))
        (λ (q : defender_to_lead trump opening e ≡ false). rw (q, not_open kind suit q)))
