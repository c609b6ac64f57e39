-- `check_coded` meets its contract: what the checks come to from a turn on is what they come to in all. Assumes nothing.
use Rattle.std.proofs.Common.{◌<◌, ◌+◌, refl, sym, ap, ◌∙◌, length, get_or, arith}
use Rattle.laws.specs.Refused.{number_or_none}
use Rattle.laws.proofs.RefusalNumbers.{number_not_none}
use Rattle.position.proofs.TableStands.{one_table}
use Rattle.play.proofs.Taken.{taken, not_taken}
use Rattle.contents.proofs.Items.{code_leaves, card_takes}
use Rattle.contents.proofs.PlayTurns.{turns_begin, turns_end, code_over, code_cut, code_last, room-is, card-behind, code_stops, code_goes, card_stops, card-goes}
use Rattle.contents.proofs.plays.check_coded.Goals as goal

pub loop-i-init : goal.loop-i-init
loop-i-init c = record {
  count = c.requires.count;
  place = omega arith;
  turned = λ deal trump opening e o. turns_begin deal trump opening _ e _ _ _ o;
}

pub returns-then-codes_full : goal.returns-then-codes_full
returns-then-codes_full c =
    let a = c.args in
    λ deal trump opening e o. rw c.at.ensures
    (code_over deal trump opening a.plays.now e a.at (c.loop-i.invariant.turned deal trump opening e o) c.loop-i-test.true _ refl
    (sym c.begins_code.ensures ∙ c.if-begins_code.true) (sym c.codes_full.ensures ∙ c.if-codes_full.true))

pub returns-then-plays-i-lt3 : goal.returns-then-plays-i-lt3
returns-then-plays-i-lt3 c =
    let a = c.args in
    λ deal trump opening e o. rw c.at-then-plays-i-lt3.ensures
    (code_cut deal trump opening a.plays.now e a.at (c.loop-i.invariant.turned deal trump opening e o) c.loop-i-test.true _ refl
    (sym c.begins_code.ensures ∙ c.if-begins_code.true) (sym c.codes_full.ensures ∙ c.if-codes_full.false)
    (omega (arith, c.if-plays-i-lt3.true, c.loop-i-test.true)))

pub returns-then-n-cards : goal.returns-then-n-cards
returns-then-n-cards c =
    let a = c.args in
    λ deal trump opening e o. rw c.at-then-n-cards.ensures
    (code_last deal trump opening a.plays.now e a.at (c.loop-i.invariant.turned deal trump opening e o) c.loop-i-test.true _ refl
    (sym c.begins_code.ensures ∙ c.if-begins_code.true) (sym c.codes_full.ensures ∙ c.if-codes_full.false)
    (omega (arith, c.if-plays-i-lt3.false)) a.cards c.loop-i.invariant.count c.if-n-cards.true)

pub returns-in-Err : goal.returns-in-Err
returns-in-Err c =
    let a = c.args in
    λ deal trump opening e o.
    let turned = c.loop-i.invariant.turned deal trump opening e o in
    let inside = c.loop-i-test.true in
    let code = sym c.begins_code.ensures ∙ c.if-begins_code.true in
    let full = sym c.codes_full.ensures ∙ c.if-codes_full.false in
    let long : c.loop-i.i + 2 < length a.plays.now = omega (arith, c.if-plays-i-lt3.false) in
    let room = room-is deal trump opening a.plays.now e a.at turned inside _ refl code full in
    let card = card-behind deal trump opening a.plays.now e a.at turned inside _ refl code full long a.cards c.loop-i.invariant.count c.if-n-cards.false in
    rw c.at-in-Err.ensures
    (code_stops deal trump opening a.plays.now e a.at turned inside _ refl code full long a.cards c.loop-i.invariant.count
    (c.in-Err.ensures deal trump opening turned.events _ _ turned.of_events room card))

pub loop-i-preserved-then-begins_code : goal.loop-i-preserved-then-begins_code
loop-i-preserved-then-begins_code c =
    let a = c.args in
    let inside = c.loop-i-test.true in
    let code = sym c.begins_code.ensures ∙ c.if-begins_code.true in
    let full = sym c.codes_full.ensures ∙ c.if-codes_full.false in
    let long : c.loop-i.i + 2 < length a.plays.now = omega (arith, c.if-plays-i-lt3.false) in record {
      count = omega (arith, c.loop-i.invariant.count, code_leaves a.plays.now c.loop-i.i inside code);
      place = omega (arith, inside);
      turned =
          λ deal trump opening e o.
          let turned = c.loop-i.invariant.turned deal trump opening e o in
          let room = room-is deal trump opening a.plays.now e a.at turned inside _ refl code full in
          let card = card-behind deal trump opening a.plays.now e a.at turned inside _ refl code full long a.cards c.loop-i.invariant.count c.if-n-cards.false in
          code_goes deal trump opening a.plays.now e a.at turned inside _ refl code full long a.cards c.loop-i.invariant.count
          (c.in-Ok.ensures deal trump opening turned.events _ _ turned.of_events room card);
    }

pub returns-in-Err-take : goal.returns-in-Err-take
returns-in-Err-take c =
    let a = c.args in
    let number = sym (ap number_or_none (not_taken c.loop-i.t.play (get_or a.plays.now c.loop-i.i 0) c.in-Err-take.ensures)) in
    λ deal trump opening e o. rw c.at-in-Err-take.ensures
    (card_stops deal trump opening a.plays.now e a.at (c.loop-i.invariant.turned deal trump opening e o) c.loop-i-test.true _ refl
    (sym c.begins_code.ensures ∙ c.if-begins_code.false) _ number (number_not_none c.in-Err-take.refusal))

pub overflow_add-n : goal.overflow_add-n
overflow_add-n c =
    let card = sym c.begins_code.ensures ∙ c.if-begins_code.false in
    omega (arith, c.loop-i.invariant.count, card_takes c.args.plays.now c.loop-i.i c.loop-i-test.true card, c.ranges.cards.fits)

pub loop-i-preserved : goal.loop-i-preserved
loop-i-preserved c =
    let a = c.args in
    let inside = c.loop-i-test.true in
    let card = sym c.begins_code.ensures ∙ c.if-begins_code.false in
    let took = taken c.loop-i.t.play (get_or a.plays.now c.loop-i.i 0) c.in-Ok-take.ensures in record {
      count = omega (arith, c.loop-i.invariant.count, card_takes a.plays.now c.loop-i.i inside card);
      place = omega (arith, inside);
      turned =
          λ deal trump opening e o. card-goes deal trump opening a.plays.now e a.at (c.loop-i.invariant.turned deal trump opening e o) inside _ refl card
          _ refl took.0 _ (one_table c.loop-i.t _ c.with_play-t.ensures took.1);
    }

pub returns : goal.returns
returns c =
    let a = c.args in
    λ deal trump opening e o. turns_end deal trump opening a.plays.now e a.at (c.loop-i.invariant.turned deal trump opening e o) (omega arith)
