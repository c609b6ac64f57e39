-- `pbn_deal::deal_line::deal_in` meets its contract. Assumes nothing.
use Prim.Native.Nat.{◌<◌}
use native.Mathlib.Omega.{arith}
use mathlib.Core.Path.{refl, sym, ap₂, ◌∙◌}
use lib.ListN.{replicate}
use Rattle.laws.specs.Cards.{no_seat, spades}
use Rattle.laws.specs.PbnReading.{held_by}
use Rattle.pbn_deal.proofs.DealLines.{too_short, no_seat_lem, not-held, not_line, is-line, hands_cut}
use Rattle.pbn_deal.proofs.deal_line.deal_in.Goals as goal

pub returns-then-line-lt11 : goal.returns-then-line-lt11
returns-then-line-lt11 c = too_short _ c.if-line-lt11.true

pub returns-then-first-eq4 : goal.returns-then-first-eq4
returns-then-first-eq4 c = no_seat_lem _ (sym (c.place_among-first.ensures.0) ∙ c.if-first-eq4.true)

pub returns-then-not-are_seats : goal.returns-then-not-are_seats
returns-then-not-are_seats c =
    let place = c.place_among-first.ensures in
    let low : c.place_among-first.result < 4 = omega (arith, place.1) in
    let hands = hands_cut c.args.line.now _ refl c.if-line-lt11.false in
    let held = c.held_by.ensures ∙ ap₂ (λ f hands. held_by (replicate 52 no_seat) f spades hands) place.0 hands in
    not-held _ _ _ place.0 held low
    (sym c.are_seats.ensures ∙ c.if-not-are_seats.true)

pub returns-then-not-is_deal_line : goal.returns-then-not-is_deal_line
returns-then-not-is_deal_line c =
    let place = c.place_among-first.ensures in
    let low : c.place_among-first.result < 4 = omega (arith, place.1) in
    let hands = hands_cut c.args.line.now _ refl c.if-line-lt11.false in
    let held = c.held_by.ensures ∙ ap₂ (λ f hands. held_by (replicate 52 no_seat) f spades hands) place.0 hands in
    not_line _ _ _ place.0 held low
    (sym c.are_seats.ensures ∙ c.if-not-are_seats.false)
    (sym c.is_deal_line.ensures ∙ c.if-not-is_deal_line.true)

pub returns : goal.returns
returns c =
    let place = c.place_among-first.ensures in
    let low : c.place_among-first.result < 4 = omega (arith, place.1) in
    let hands = hands_cut c.args.line.now _ refl c.if-line-lt11.false in
    let held = c.held_by.ensures ∙ ap₂ (λ f hands. held_by (replicate 52 no_seat) f spades hands) place.0 hands in
    is-line _ _ _ place.0 held low
    (sym c.are_seats.ensures ∙ c.if-not-are_seats.false)
    (sym c.is_deal_line.ensures ∙ c.if-not-is_deal_line.false)
