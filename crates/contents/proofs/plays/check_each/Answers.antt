-- `check_each` meets its contract: the run of the cards, and then what it stopped at. Assumes nothing.
use Rattle.std.proofs.Common.{◌≡◌, true, false, refl, sym, ap, ◌∙◌, get_or, arith}
use Rattle.laws.specs.Events.{begins_code}
use Rattle.laws.specs.Refused.{number_or_none}
use Rattle.laws.proofs.Tests.{by_test}
use Rattle.laws.proofs.RefusalNumbers.{number_not_none}
use Rattle.contents.proofs.CardTurns.{card_ends, card_stops, of-cards, on_with_codes}
use Rattle.contents.proofs.RunTurns.{ran}
use Rattle.contents.proofs.plays.check_each.Goals as goal

pub check_stopped-requires-clause-place : goal.check_stopped-requires-clause-place
check_stopped-requires-clause-place c =
    let a = c.args in
    let s = a.start in
    let r = ran a.plays.now s.holders s.trump s.opening s.thirteen s.words c.play.ensures c.take_run-run.ensures in
    (r.stopped c.in-Some.refusal c.in-Some.is).0

pub check_stopped-requires-clause-count : goal.check_stopped-requires-clause-count
check_stopped-requires-clause-count c =
    let a = c.args in
    let s = a.start in
    let r = ran a.plays.now s.holders s.trump s.opening s.thirteen s.words c.play.ensures c.take_run-run.ensures in
    r.there.count ∙ sym c.requires.count

pub returns-in-Some : goal.returns-in-Some
returns-in-Some c =
    let a = c.args in
    let s = a.start in
    let r = ran a.plays.now s.holders s.trump s.opening s.thirteen s.words c.play.ensures c.take_run-run.ensures in
    let stop = r.stopped c.in-Some.refusal c.in-Some.is in
    let number = sym (ap number_or_none stop.1) in
    let told = c.check_stopped.ensures in
    let here = get_or a.plays.now c.take_run-run.result.place 0 in
    by_test (begins_code here)
    (λ (q : begins_code here ≡ true).
    told.code q s.holders s.trump s.opening _ (of-cards _ _ _ _ r.there s.thirteen s.seat _ refl)
    ∙ on_with_codes _ _ _ _ r.there)
    (λ (q : begins_code here ≡ false).
    told.no_code q ∙ card_stops _ _ _ _ r.there stop.0 s.thirteen.places refl number q (number_not_none c.in-Some.refusal))

pub returns-in-None : goal.returns-in-None
returns-in-None c =
    let a = c.args in
    let s = a.start in
    let r = ran a.plays.now s.holders s.trump s.opening s.thirteen s.words c.play.ensures c.take_run-run.ensures in
    card_ends _ _ _ _ r.there (omega (arith, r.all-played c.in-None.is))
