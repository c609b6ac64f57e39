-- `pbn_words::board::board_said` meets its contract. Assumes nothing.
use native.Mathlib.Omega.{arith}
use Rattle.pbn_words.proofs.BoardLines.{one-digit, two_digits, three_digits, no_digits}
use Rattle.pbn_words.proofs.board.board_said.Goals as goal

pub returns-then-line-eq11 : goal.returns-then-line-eq11
returns-then-line-eq11 c = one-digit _ _ c.if-line-eq11.true c.value_of.ensures.0

pub overflow_mul-result : goal.overflow_mul-result
overflow_mul-result c = omega (arith, c.value_of-then-line-eq12.ensures.1)

pub overflow_add-result : goal.overflow_add-result
overflow_add-result c = omega (arith, c.value_of-then-line-eq12.ensures.1, c.value_of-then-line-eq12-2.ensures.1)

pub returns-then-line-eq12 : goal.returns-then-line-eq12
returns-then-line-eq12 c = two_digits _ _ _ c.if-line-eq12.true c.value_of-then-line-eq12.ensures.0 c.value_of-then-line-eq12-2.ensures.0

pub overflow_mul-result-then-line-eq13 : goal.overflow_mul-result-then-line-eq13
overflow_mul-result-then-line-eq13 c = omega (arith, c.value_of-then-line-eq13.ensures.1)

pub overflow_mul-result-then-line-eq13-2 : goal.overflow_mul-result-then-line-eq13-2
overflow_mul-result-then-line-eq13-2 c = omega (arith, c.value_of-then-line-eq13-2.ensures.1)

pub overflow_add-result-then-line-eq13 : goal.overflow_add-result-then-line-eq13
overflow_add-result-then-line-eq13 c = omega (arith, c.value_of-then-line-eq13.ensures.1, c.value_of-then-line-eq13-2.ensures.1)

pub overflow_add-result-then-line-eq13-2 : goal.overflow_add-result-then-line-eq13-2
overflow_add-result-then-line-eq13-2 c = omega (arith, c.value_of-then-line-eq13.ensures.1, c.value_of-then-line-eq13-2.ensures.1, c.value_of-then-line-eq13-3.ensures.1)

pub returns-then-line-eq13 : goal.returns-then-line-eq13
returns-then-line-eq13 c = three_digits _ _ _ _ c.if-line-eq13.true c.value_of-then-line-eq13.ensures.0 c.value_of-then-line-eq13-2.ensures.0 c.value_of-then-line-eq13-3.ensures.0

pub returns : goal.returns
returns c = no_digits _ c.if-line-eq11.false c.if-line-eq12.false c.if-line-eq13.false
