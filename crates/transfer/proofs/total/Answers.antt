-- `transfer::total` meets its contract. The loop goes from the last revoke to the first: the sum is the count from `i` on, at most two for each
-- revoke. Assumes nothing.
use Prim.Native.Nat.{◌≤◌}
use mathlib.Core.Path.{◌≡◌, sym, ◌∙◌}
use native.Mathlib.Omega.{arith}
use borrow.Author.Rules.{rules}
use lib.ListN.{length}
use Rattle.transfer.proofs.Counting.{total_end, total-before, due_bound, dummy_is}
use Rattle.transfer.proofs.total.Goals as goal

pub loop-i-init : goal.loop-i-init
loop-i-init c =
    let n : length c.args.rs.list ≡ 48 = search rules in
    let f : length c.args.rs.excused ≡ 48 = search rules in
    let e = c.min-i.ensures in
    let a = c.args in
    (omega arith, omega arith, sym (total_end a.rs a.ts a.declarer a.claim a.left n f c.min-i.result (omega arith)))

pub overflow_add-sum : goal.overflow_add-sum
overflow_add-sum c =
    let two : c.entitled-due.result ≤ 2 = due_bound _ _ _ _ _ c.entitled-due.ensures in
    omega arith

pub loop-i-preserved : goal.loop-i-preserved
loop-i-preserved c =
    let l = c.loop-i in
    let n : length c.args.rs.list ≡ 48 = search rules in
    let f : length c.args.rs.excused ≡ 48 = search rules in
    let two : c.entitled-due.result ≤ 2 = due_bound _ _ _ _ _ c.entitled-due.ensures in
    let sum = c.min-sum.ensures in (
      omega arith,
      omega arith,
      let a = c.args in
          let more = c.loop-i-test.true in
          sum ∙ total-before a.rs a.ts a.declarer a.claim a.left n f l.i _ _ _ more l.invariant.0
          l.invariant.2 (rw (dummy_is c.args.declarer) at c.entitled-due.ensures) c.available.ensures,
    )

pub returns : goal.returns
returns c =
    let z : c.loop-i.i ≡ 0 = omega arith in
    rw z at c.loop-i.invariant.2
