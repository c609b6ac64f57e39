-- `position::table::Table::revokes` meets its contract: both lists are filled in from the last revoke on. The measure is the bits left. Assumes nothing.
use Prim.Native.Nat.{◌≤◌, ◌<◌, ◌^◌}
use mathlib.Core.Path.{refl}
use native.Mathlib.Omega.{arith}
use borrow.Author.Rules.{rules}
use lib.Bits.{or_lt}
use lib.Count.{ones, ones-le, trailing_le}
use Rattle.position.specs.Listed.{bits_in}
use Rattle.play.proofs.Filling.{list-begins, list-low, list-one, list-goes, list_ends}
use Rattle.position.proofs.Listing.{too_many, as_listed}
use Rattle.position.proofs.table.Table.revokes.Goals.{Start}
use Rattle.position.proofs.table.Table.revokes.Goals as goal

word : (c : Start) → bits_in c.args.self < 2 ^ 64
unfolding bits_in
word c =
    let p : c.args.self.play.revoked < 2 ^ 64 = search rules in
    let f : c.args.self.found.leads < 2 ^ 64 = search rules in
    or_lt 64 c.args.self.play.revoked c.args.self.found.leads p f

few : (c : Start) → ones (bits_in c.args.self) ≤ 64
few c = ones-le 64 _ (word c)

pub overflow_cast-n : goal.overflow_cast-n
unfolding bits_in
overflow_cast-n c = let s = few c.before.before.before.before.before in search rules

pub returns-then-n-gt48 : goal.returns-then-n-gt48
unfolding bits_in
returns-then-n-gt48 c = too_many _ (word c.before.before.before.before.before.before) c.if-n-gt48.true

pub loop-rest-init : goal.loop-rest-init
unfolding bits_in
loop-rest-init c = let w = word c.before.before.before.before.before.before in (list-begins w refl c.if-n-gt48.false, list-begins w refl c.if-n-gt48.false)

pub overflow_cast-low : goal.overflow_cast-low
overflow_cast-low c = let s = trailing_le 64 c.loop-rest.rest in search rules

pub overflow_shr-rest : goal.overflow_shr-rest
overflow_shr-rest c = omega (arith, (list-low c.loop-rest.invariant.0 c.loop-rest-test.true).below)

pub overflow_add-later : goal.overflow_add-later
overflow_add-later c = let s = (list-low c.loop-rest.invariant.0 c.loop-rest-test.true).below in search rules

pub overflow_add-later-in-loop-rest : goal.overflow_add-later-in-loop-rest
overflow_add-later-in-loop-rest c = let s = (list-low c.loop-rest.invariant.0 c.loop-rest-test.true).below in search rules

pub overflow_add-later-in-loop-rest-2 : goal.overflow_add-later-in-loop-rest-2
overflow_add-later-in-loop-rest-2 c = let s = (list-low c.loop-rest.invariant.0 c.loop-rest-test.true).below in search rules

pub overflow_add-later-in-loop-rest-3 : goal.overflow_add-later-in-loop-rest-3
overflow_add-later-in-loop-rest-3 c = let s = (list-low c.loop-rest.invariant.0 c.loop-rest-test.true).below in search rules

pub overflow_sub-n : goal.overflow_sub-n
overflow_sub-n c = list-one c.loop-rest.invariant.0 c.loop-rest-test.true

pub bounds-list-n : goal.bounds-list-n
bounds-list-n c = omega (arith, c.loop-rest.invariant.0.room)

pub bounds-excused-n : goal.bounds-excused-n
bounds-excused-n c = omega (arith, c.loop-rest.invariant.0.room)

pub loop-rest-smaller : goal.loop-rest-smaller
loop-rest-smaller c = omega (arith, (list-low c.loop-rest.invariant.0 c.loop-rest-test.true).below)

pub loop-rest-preserved : goal.loop-rest-preserved
loop-rest-preserved c = (
  list-goes c.loop-rest.invariant.0 c.loop-rest-test.true c.listed_byte-byte.ensures,
  list-goes c.loop-rest.invariant.1 c.loop-rest-test.true c.flag_at-flag.ensures,
)

pub returns : goal.returns
unfolding bits_in
returns c =
    as_listed _ (word c.before.before.before.before.before.before.before.before) c.if-n-gt48.false refl c.entries-entries.ensures (list_ends c.loop-rest.invariant.0 c.loop-rest-test.false)
    (list_ends c.loop-rest.invariant.1 c.loop-rest-test.false)
