-- `pbn_deal::held::held_by` meets its contract. The loop's invariant: the bytes from `i` on make of what is held what all of them make. Assumes nothing.
use Prim.Native.Nat.{◌+◌}
use native.Mathlib.Omega.{arith}
use mathlib.Core.Path.{refl, sym, ap, ◌∙◌}
use lib.ListN.{drop}
use Rattle.pbn_deal.proofs.HeldCards.{held_on, held_on_lem, held_all}
use Rattle.pbn_deal.proofs.held.held_by.Goals as goal

pub loop-b-init : goal.loop-b-init
loop-b-init c = (c.requires, omega arith, refl)

pub with_byte-held-requires : goal.with_byte-held-requires
with_byte-held-requires c = (c.loop-b.invariant.0, c.loop-b.invariant.1)

pub loop-b-preserved : goal.loop-b-preserved
loop-b-preserved c =
    let l = c.loop-b in
    let hands = c.args.hands.now in
    let e = c.with_byte-held.ensures in (
      e.1,
      e.2,
      l.invariant.2 ∙ held_on_lem hands l.held l.b-index c.loop-b-test.true ∙ ap (λ h. held_on h (drop (l.b-index + 1) hands)) (sym e.0),
    )

pub returns : goal.returns
returns c =
    let l = c.loop-b in
    held_all _ l.held l.b-index c.loop-b-test.false ∙ sym l.invariant.2
