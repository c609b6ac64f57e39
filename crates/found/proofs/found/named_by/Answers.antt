-- `found::found::named_by` meets its contract. Assumes nothing.
use mathlib.Core.Path.{refl}
use native.Mathlib.Omega.{arith}
use borrow.Author.Tests.{lt-ltb, le-ltb}
use Rattle.found.specs.Found.{named_by}
use Rattle.found.proofs.found.named_by.Goals as goal

pub returns-then-required-lt4 : goal.returns-then-required-lt4
unfolding named_by
returns-then-required-lt4 c = rw (c.if-revoke.true, lt-ltb _ 4 c.if-required-lt4.true) (record { value = refl; bound = omega arith })

pub returns-then-revoke : goal.returns-then-revoke
unfolding named_by
returns-then-revoke c = rw (c.if-revoke.true, le-ltb _ 4 c.if-required-lt4.false) (record { value = refl; bound = omega arith })

pub returns : goal.returns
unfolding named_by
returns c = rw c.if-revoke.false (record { value = refl; bound = omega arith })
