-- `decimal::read_number` meets its contract. The loop's invariant: what is read, and the bytes left to read, say what the whole says.
-- Assumes nothing.
use Prim.Native.Nat.{◌<◌}
use native.Mathlib.Omega.{arith}
use mathlib.Core.Path.{sym, ◌∙◌}
use borrow.Author.Rules.{rules}
use borrow.Author.Tests.{tests}
use Rattle.decimal.proofs.Reading.{tens_zero, small, grows, begins, none, long, goes, ends, other}
use Rattle.decimal.proofs.read_number.Goals.{then-is_empty-via-then-is_empty, then-is_empty-via-else-is_empty+then-bytes-gt5}
use Rattle.decimal.proofs.read_number.Goals as goal

pub returns-then-is_empty : goal.returns-then-is_empty
returns-then-is_empty c =
    elim c.then-is_empty.branch [
      | then-is_empty-via-then-is_empty w ↦ none _ (search (rules, tests))
      | then-is_empty-via-else-is_empty+then-bytes-gt5 w ↦ long _ w.if-bytes-gt5.true
    ]

pub loop-b-init : goal.loop-b-init
loop-b-init c = (omega arith, tens_zero, begins _ (search (rules, tests)) c.if-bytes-gt5.false)

pub returns-then-not-is_ascii_digit : goal.returns-then-not-is_ascii_digit
returns-then-not-is_ascii_digit c =
    other _ c.loop-b.b-index c.loop-b.n c.loop-b-test.true c.if-not-is_ascii_digit.ensures.cases ∙ sym c.loop-b.invariant.2

pub overflow_mul-n : goal.overflow_mul-n
overflow_mul-n c =
    let l = c.loop-b in
    let n : l.n < 10000 = small l.n l.b-index l.invariant.1 (omega arith) in
    omega arith

pub overflow_add-n : goal.overflow_add-n
overflow_add-n c =
    let l = c.loop-b in
    let n : l.n < 10000 = small l.n l.b-index l.invariant.1 (omega arith) in
    omega (arith, c.from.ensures, c.if-not-is_ascii_digit.ensures.cases)

pub loop-b-preserved : goal.loop-b-preserved
loop-b-preserved c =
    let l = c.loop-b in
    let d = c.if-not-is_ascii_digit.ensures.cases in (
      omega arith,
      grows l.n l.b-index c.from.result l.invariant.1 (omega (arith, c.from.ensures)),
      l.invariant.2 ∙ rw c.from.ensures (goes _ l.b-index l.n c.loop-b-test.true d.0 d.1),
    )

pub returns : goal.returns
returns c = ends _ c.loop-b.b-index c.loop-b.n c.loop-b-test.false ∙ sym c.loop-b.invariant.2
