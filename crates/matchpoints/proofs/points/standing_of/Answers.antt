-- `matchpoints::points::standing_of` meets its contract. The loop's invariant: what is counted, and what the places from `i` on hold, are together the whole.
-- Assumes nothing.
use Prim.Native.Nat.{◌≤◌, ◌+◌}
use native.Mathlib.Omega.{arith}
use mathlib.Core.Path.{◌≡◌, refl}
use borrow.Author.Rules.{rules}
use lib.IntN.{pos}
use lib.ListN.{get_or}
use mir.Syntax.{w16}
use mir.Val.{SFits, to_z, of_z}
use mir.Facts.{to_z-of_z}
use Rattle.matchpoints.proofs.Comparing.{Stood, begins, ends, full, goes, fits}
use Rattle.matchpoints.proofs.points.standing_of.Goals.{After-equal-same, After-s-1, Start}
use Rattle.matchpoints.proofs.points.standing_of.Goals as goal

-- the score, read back from its code, is the score
whole : (st : Start) → to_z w16 (of_z w16 st.args.score) ≡ st.args.score
whole st = to_z-of_z st.ranges.score

-- so is the score at a place
other : (c : After-s-1) →
    let x = get_or c.args.t.scores c.loop-i.i (pos 0) in
    to_z w16 (of_z w16 x) ≡ x
other c =
    let f : SFits w16 (get_or c.args.t.scores c.loop-i.i (pos 0)) =
    search rules in
    to_z-of_z f

pub loop-i-init : goal.loop-i-init
loop-i-init c = begins c.args.t _ (search rules) (search rules) c.requires

pub returns-then-c-eq0 : goal.returns-then-c-eq0
returns-then-c-eq0 c =
    let l = c.loop-i in
    rw (whole c.before.before.before.before) at (ends _ _ _ _ _ _ l.invariant c.loop-i-test.true c.if-c-eq0.true)

pub overflow_add-lower : goal.overflow_add-lower
overflow_add-lower c =
    let l = c.loop-i in
    let e = rw (other c.before) at c.below-lower.ensures in
    omega (arith, (fits _ _ _ _ _ _ l.invariant c.loop-i-test.true c.if-c-eq0.false c.below-lower.result _ e refl).0)

-- a turn's counts, and that they fit
turn : (c : After-equal-same) →
    let l = c.loop-i in
    let n = get_or c.args.t.counts l.i 0 in
    Stood c.args.t (to_z w16 (of_z w16 c.args.score)) (l.lower + c.below-lower.result) (l.same + c.equal-same.result) (l.results + n) (l.i + 1)
    × ((l.lower + c.below-lower.result ≤ 128) × (l.same + c.equal-same.result ≤ 128) × (l.results + n ≤ 128))
turn c =
    let l = c.loop-i in
    let b = rw (other c.before.before) at c.below-lower.ensures in
    let q = rw (other c.before.before) at c.equal-same.ensures in
    let h = c.loop-i-test.true in
    (goes _ _ _ _ _ _ l.invariant h c.if-c-eq0.false _ _ b q, fits _ _ _ _ _ _ l.invariant h c.if-c-eq0.false _ _ b q)

pub overflow_add-same : goal.overflow_add-same
overflow_add-same c = omega (arith, (turn c).1.1)

pub overflow_add-results : goal.overflow_add-results
overflow_add-results c = omega (arith, (turn c).1.2)

pub loop-i-preserved : goal.loop-i-preserved
loop-i-preserved c = (turn c).0

pub returns : goal.returns
returns c = rw (whole c.before.before) at (full _ _ _ _ _ _ c.loop-i.invariant c.loop-i-test.false)
