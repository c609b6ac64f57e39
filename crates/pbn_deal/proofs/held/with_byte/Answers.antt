-- `pbn_deal::held::with_byte` meets its contract. Assumes nothing.
use mathlib.Core.Path.{refl}
use native.Mathlib.Omega.{arith}
use Rattle.pbn_deal.proofs.HeldCards.{at_space, at_dot, at_rank, rank_bounds}
use Rattle.laws.specs.Cards.{clockwise}
use Rattle.pbn_deal.proofs.held.with_byte.Goals as goal

pub returns-then-b-eq32 : goal.returns-then-b-eq32
unfolding clockwise
returns-then-b-eq32 c = (at_space _ _ _ c.if-b-eq32.true refl, omega arith, omega arith)

pub returns-then-b-eq46 : goal.returns-then-b-eq46
returns-then-b-eq46 c =
    let p = c.requires in
    (at_dot _ _ _ c.if-b-eq32.false c.if-b-eq46.true c.saturating_sub.ensures, p.0, omega (arith, c.saturating_sub.ensures, p.1))

pub returns : goal.returns
returns c =
    let p = c.requires in
    let r = c.with_rank.ensures in
    let w = rank_bounds _ _ _ r in
    (at_rank _ _ _ c.if-b-eq32.false c.if-b-eq46.false r, omega (arith, w.0, p.0), omega (arith, w.1, p.1))
