-- `read_each_card` meets its contract: the run of the cards, and then what it stopped at. Assumes nothing.
use Rattle.std.proofs.Common.{◌≡◌, ◌<◌, true, false, refl, sym, ap, ◌∙◌, length, arith}
use Rattle.laws.specs.Events.{begins_code}
use Rattle.laws.specs.Refused.{number_or_none}
use Rattle.laws.proofs.Tests.{by_test}
use Rattle.laws.proofs.Readings.{read_is}
use Rattle.laws.proofs.RefusalNumbers.{number_not_none}
use Rattle.last_card.proofs.SixBits.{whole_in, whole_out, code_short}
use Rattle.last_card.proofs.CardTurns.{card_ends, card-short, card_stops, of-cards, on_with_codes}
use Rattle.last_card.proofs.RunTurns.{ran}
use Rattle.last_card.proofs.cards.read_each_card.Goals as goal

pub read_stopped-requires-clause-to : goal.read_stopped-requires-clause-to
read_stopped-requires-clause-to c =
    let a = c.args in
    let s = a.start in
    let whole = c.whole_codes-whole.ensures in
    let r = ran a.bytes.now s.holders s.trump s.opening a.at a.count.cards s.thirteen.places s.thirteen s.words c.play.ensures
    c.whole_codes-whole.result (omega (arith, whole)) (omega (arith, whole)) c.read_run-run.ensures in
    omega (arith, r.there.along, r.there.few, a.count.few, c.requires.to)

pub read_stopped-requires-clause-place : goal.read_stopped-requires-clause-place
read_stopped-requires-clause-place c =
    let a = c.args in
    let s = a.start in
    let whole = c.whole_codes-whole.ensures in
    let r = ran a.bytes.now s.holders s.trump s.opening a.at a.count.cards s.thirteen.places s.thirteen s.words c.play.ensures
    c.whole_codes-whole.result (omega (arith, whole)) (omega (arith, whole)) c.read_run-run.ensures in
    omega (arith, r.there.few)

pub returns-in-Some : goal.returns-in-Some
returns-in-Some c =
    let a = c.args in
    let s = a.start in
    let whole = c.whole_codes-whole.ensures in
    let r = ran a.bytes.now s.holders s.trump s.opening a.at a.count.cards s.thirteen.places s.thirteen s.words c.play.ensures
    c.whole_codes-whole.result (omega (arith, whole)) (omega (arith, whole)) c.read_run-run.ensures in
    let stop = r.stopped c.in-Some.stop c.in-Some.is in
    let more : c.read_run-run.result.place < a.count.cards = omega (arith, stop.0, whole) in
    let number = sym (ap number_or_none stop.2) in
    let told = c.read_stopped.ensures in
    let code = c.in-Some.stop.code in
    by_test (begins_code code)
    (λ (q : begins_code code ≡ true).
    told.code q s.holders s.trump s.opening _ (of-cards _ _ _ _ _ _ r.there more s.thirteen s.seat _ refl)
    ∙ on_with_codes _ _ _ _ _ _ r.there more)
    (λ (q : begins_code code ≡ false).
    let inside = whole_in (length a.bytes.now) a.at a.count.cards whole c.read_run-run.result.place stop.0 in
    told.no_code q
    ∙ card_stops _ _ _ _ _ _ r.there more s.thirteen.places
    (read_is 6 _ _ (sym stop.1) (omega (arith, r.there.along, inside))) number q (number_not_none c.in-Some.stop.refusal))

pub returns-then-whole-count : goal.returns-then-whole-count
returns-then-whole-count c =
    let a = c.args in
    let s = a.start in
    let whole = c.whole_codes-whole.ensures in
    let r = ran a.bytes.now s.holders s.trump s.opening a.at a.count.cards s.thirteen.places s.thirteen s.words c.play.ensures
    c.whole_codes-whole.result (omega (arith, whole)) (omega (arith, whole)) c.read_run-run.ensures in
    let last = r.all-played c.in_default.is in
    rw c.at.ensures
    (card-short _ _ _ _ _ _ r.there (omega (arith, last, c.if-whole-count.true))
    (code_short _ _ (omega (arith, r.there.along, last, whole_out (length a.bytes.now) a.at a.count.cards whole c.if-whole-count.true))))

pub returns : goal.returns
returns c =
    let a = c.args in
    let s = a.start in
    let whole = c.whole_codes-whole.ensures in
    let r = ran a.bytes.now s.holders s.trump s.opening a.at a.count.cards s.thirteen.places s.thirteen s.words c.play.ensures
    c.whole_codes-whole.result (omega (arith, whole)) (omega (arith, whole)) c.read_run-run.ensures in
    card_ends _ _ _ _ _ _ r.there (omega (arith, r.all-played c.in_default.is, c.if-whole-count.false)) _ c.after_cards.ensures
