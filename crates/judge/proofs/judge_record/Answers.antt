-- `judge_record` meets its contract: a law of Answering for each way out. Assumes nothing.
use Rattle.std.proofs.Common.{◌≡◌, ◌≤◌, sym, length, arith, rules}
use lib.Seq.{length-take-le}
use Rattle.judge.proofs.Answering.{enough-of, short_answer, short_list, short_failures, short_winners, judge_refuses, few-listed, judge_accepts}
use Rattle.judge.proofs.judge_record.Goals as goal

pub returns-then-answer-lt7 : goal.returns-then-answer-lt7
returns-then-answer-lt7 c =
    let a = c.args in
    let l = short_answer a.bytes.now a.answer.now a.list.now a.failures.now a.winners.now c.if-answer-lt7.true in
    record { number = rw (c.from.ensures, c.at.ensures) l.number; answered = l.answered; listed = l.listed; failed = l.failed; won = l.won }

pub returns-then-list-lt48 : goal.returns-then-list-lt48
returns-then-list-lt48 c =
    let a = c.args in
    let l = short_list a.bytes.now a.answer.now a.list.now a.failures.now a.winners.now (omega arith) c.if-list-lt48.true in
    record { number = rw (c.from-then-list-lt48.ensures, c.at-then-list-lt48.ensures) l.number; answered = l.answered; listed = l.listed; failed = l.failed; won = l.won }

pub returns-then-failures-lt52 : goal.returns-then-failures-lt52
returns-then-failures-lt52 c =
    let a = c.args in
    let l = short_failures a.bytes.now a.answer.now a.list.now a.failures.now a.winners.now (omega arith) (omega arith) c.if-failures-lt52.true in
    record { number = rw (c.from-then-failures-lt52.ensures, c.at-then-failures-lt52.ensures) l.number; answered = l.answered; listed = l.listed; failed = l.failed; won = l.won }

pub returns-then-winners-lt26 : goal.returns-then-winners-lt26
returns-then-winners-lt26 c =
    let a = c.args in
    let l = short_winners a.bytes.now a.answer.now a.list.now a.failures.now a.winners.now (omega arith) (omega arith) (omega arith) c.if-winners-lt26.true in
    record { number = rw (c.from-then-winners-lt26.ensures, c.at-then-winners-lt26.ensures) l.number; answered = l.answered; listed = l.listed; failed = l.failed; won = l.won }

pub returns-in-Err : goal.returns-in-Err
returns-in-Err c =
    let a = c.args in
    let enough = enough-of a.answer.now a.list.now a.failures.now a.winners.now (omega arith) (omega arith) (omega arith) (omega arith) in
    let l = judge_refuses a.bytes.now a.answer.now a.list.now a.failures.now a.winners.now enough c.in-Err.ensures in
    record { number = rw c.from-in-Err.ensures l.number; answered = l.answered; listed = l.listed; failed = l.failed; won = l.won }

pub slice_bounds-revokes-end : goal.slice_bounds-revokes-end
slice_bounds-revokes-end c =
    let a = c.args in
    let enough = enough-of a.answer.now a.list.now a.failures.now a.winners.now (omega arith) (omega arith) (omega arith) (omega arith) in
    let few = few-listed a.bytes.now a.answer.now a.list.now a.failures.now a.winners.now enough c.in-Ok.ensures in
    let all : length c.in-Ok.judged.revokes.list ≡ 48 = search rules in
    let inside : c.in-Ok.judged.revokes.count ≤ length c.in-Ok.judged.revokes.list = omega (arith, few.0) in
    inside

pub slice_bounds-put_list-end : goal.slice_bounds-put_list-end
slice_bounds-put_list-end c =
    let a = c.args in
    let enough = enough-of a.answer.now a.list.now a.failures.now a.winners.now (omega arith) (omega arith) (omega arith) (omega arith) in
    let few = few-listed a.bytes.now a.answer.now a.list.now a.failures.now a.winners.now enough c.in-Ok.ensures in
    let all : length c.in-Ok.judged.revokes.list ≡ 48 = search rules in
    let inside : c.in-Ok.judged.revokes.count ≤ length c.in-Ok.judged.revokes.list = omega (arith, few.0) in
    sym (length-take-le _ _ inside)

pub put_list-requires : goal.put_list-requires
put_list-requires c =
    let a = c.args in
    let enough = enough-of a.answer.now a.list.now a.failures.now a.winners.now (omega arith) (omega arith) (omega arith) (omega arith) in
    let few = few-listed a.bytes.now a.answer.now a.list.now a.failures.now a.winners.now enough c.in-Ok.ensures in
    let all : length c.in-Ok.judged.revokes.list ≡ 48 = search rules in
    let inside : c.in-Ok.judged.revokes.count ≤ length c.in-Ok.judged.revokes.list = omega (arith, few.0) in
    omega (arith, length-take-le _ _ inside, few.0)

pub put_winners-requires : goal.put_winners-requires
put_winners-requires c =
    let a = c.args in
    let enough = enough-of a.answer.now a.list.now a.failures.now a.winners.now (omega arith) (omega arith) (omega arith) (omega arith) in
    let few = few-listed a.bytes.now a.answer.now a.list.now a.failures.now a.winners.now enough c.in-Ok.ensures in
    record { few = few.1; room = omega arith }

pub returns-in-Ok : goal.returns-in-Ok
returns-in-Ok c =
    let a = c.args in
    let enough = enough-of a.answer.now a.list.now a.failures.now a.winners.now (omega arith) (omega arith) (omega arith) (omega arith) in
    let few = few-listed a.bytes.now a.answer.now a.list.now a.failures.now a.winners.now enough c.in-Ok.ensures in
    let all : length c.in-Ok.judged.revokes.list ≡ 48 = search rules in
    let inside : c.in-Ok.judged.revokes.count ≤ length c.in-Ok.judged.revokes.list = omega (arith, few.0) in
    let l = judge_accepts a.bytes.now a.answer.now a.list.now a.failures.now a.winners.now enough c.in-Ok.ensures
    (c.put7.ensures, rw (length-take-le _ _ inside) at c.put_list.ensures, c.put_failures.ensures, c.put_winners.ensures) in
    record { number = l.number; answered = l.answered; listed = l.listed; failed = l.failed; won = l.won }
