-- `read_plays` meets its contract: what the reading comes to from a turn on is what it comes to in all. Assumes nothing.
use Rattle.std.proofs.Common.{refl, sym, ap, ◌∙◌, arith}
use Rattle.std.proofs.lemmas.Result.{err_from_is_err_and}
use Rattle.laws.specs.Refused.{number_or_none}
use Rattle.laws.proofs.RefusalNumbers.{number_not_none}
use Rattle.play.proofs.Taken.{taken, not_taken}
use Rattle.position.proofs.TableStands.{one_table}
use Rattle.field.proofs.ThreeBytes.{given_lt, given-reads, refused_stops}
use Rattle.last_card.proofs.PlayTurns.{turns_begin, turns_short, turns_end, code_stops, code_goes, card_stops, card-goes, same_codes}
use Rattle.last_card.proofs.plays.read_plays.Goals as goal

pub loop-i-init : goal.loop-i-init
loop-i-init c = record {
  place = c.requires.place;
  room = omega (arith, c.args.count.few);
  turned = λ deal trump opening e o. turns_begin deal trump opening _ _ e _ _ _ o;
}

pub returns-in_err-c : goal.returns-in_err-c
returns-in_err-c c =
    let a = c.args in
    let p = err_from_is_err_and c.from_residual.result c.from_residual.ensures.1 in
    λ deal trump opening e o. rw (p.1, p.2)
    (turns_short deal trump opening a.bytes.now a.count.cards e a.at (c.loop-i.invariant.turned deal trump opening e o) a.count.few c.loop-i-test.true
    (refused_stops a.bytes.now c.loop-i.next 6 (omega arith) c.in_err-c.ensures))

pub overflow_cast-c : goal.overflow_cast-c
overflow_cast-c c = omega (arith, given_lt c.args.bytes.now c.loop-i.next 6 c.in_ok-c.ensures)

pub returns-in_err-coded : goal.returns-in_err-coded
returns-in_err-coded c =
    let a = c.args in
    let p = err_from_is_err_and c.from_residual-in_err-coded.result c.from_residual-in_err-coded.ensures.1 in
    λ deal trump opening e o.
    let turned = c.loop-i.invariant.turned deal trump opening e o in
    rw (p.1, p.2)
    (code_stops deal trump opening a.bytes.now a.count.cards e a.at turned a.count.few c.loop-i-test.true _
    (given-reads _ c.loop-i.next 6 c.in_ok-c.ensures) (sym c.begins_code.ensures ∙ c.if-begins_code.true)
    (c.in_err-coded.ensures.law deal trump opening turned.events turned.of_events))

pub loop-i-preserved-then-begins_code : goal.loop-i-preserved-then-begins_code
loop-i-preserved-then-begins_code c =
    let a = c.args in
    let k = c.in_ok-coded.ensures in record {
      place = c.loop-i.invariant.place;
      room = omega (arith, c.loop-i.invariant.room, k.room, k.counted.0, k.counted.2);
      turned =
          λ deal trump opening e o.
          let turned = c.loop-i.invariant.turned deal trump opening e o in
          code_goes deal trump opening a.bytes.now a.count.cards e a.at turned a.count.few c.loop-i-test.true _
          (given-reads _ c.loop-i.next 6 c.in_ok-c.ensures) (sym c.begins_code.ensures ∙ c.if-begins_code.true)
          (k.law deal trump opening turned.events turned.of_events);
    }

pub returns-in-Err : goal.returns-in-Err
returns-in-Err c =
    let a = c.args in
    let number = sym (ap number_or_none (not_taken c.loop-i.t.play c.in_ok-c.field-0 c.in-Err.ensures)) in
    λ deal trump opening e o. rw c.at.ensures
    (card_stops deal trump opening a.bytes.now a.count.cards e a.at (c.loop-i.invariant.turned deal trump opening e o) a.count.few c.loop-i-test.true _
    (given-reads _ c.loop-i.next 6 c.in_ok-c.ensures) (sym c.begins_code.ensures ∙ c.if-begins_code.false) _ number (number_not_none c.in-Err.refusal))

pub loop-i-preserved : goal.loop-i-preserved
loop-i-preserved c =
    let a = c.args in
    let took = taken c.loop-i.t.play c.in_ok-c.field-0 c.in-Ok.ensures in
    let step = one_table c.loop-i.t _ c.with_play-t.ensures took.1 in record {
      place = omega (arith, c.loop-i-test.true);
      room = omega (arith, c.loop-i.invariant.room, same_codes _ _ step, c.loop-i-test.true);
      turned =
          λ deal trump opening e o. card-goes deal trump opening a.bytes.now a.count.cards e a.at (c.loop-i.invariant.turned deal trump opening e o)
          a.count.few c.loop-i-test.true _ (given-reads _ c.loop-i.next 6 c.in_ok-c.ensures)
          (sym c.begins_code.ensures ∙ c.if-begins_code.false) _ refl took.0 _ step;
    }

pub returns : goal.returns
returns c =
    let a = c.args in
    λ deal trump opening e o.
    turns_end deal trump opening a.bytes.now a.count.cards e a.at (c.loop-i.invariant.turned deal trump opening e o) (omega (arith, c.loop-i-test.false))
