-- `pbn_deal::walk::over_suit` meets its contract. The loop's invariant: what is left of the suit follows from here on where the whole suit does from the
-- front. Assumes nothing.
use native.Mathlib.Omega.{arith}
use mathlib.Core.Path.{refl, ap, ◌∙◌}
use mathlib.Core.List.{◌++◌}
use borrow.Author.Rules.{rules}
use Rattle.pbn_deal.specs.Walks.{follows}
use Rattle.pbn_deal.proofs.Walked.{held_rank, other_rank, no_rank}
use Rattle.pbn_deal.proofs.walk.over_suit.Goals as goal

pub loop-rank-init : goal.loop-rank-init
loop-rank-init c = (search rules, λ t. refl)

pub loop-rank-preserved-then-holders-suit : goal.loop-rank-preserved-then-holders-suit
loop-rank-preserved-then-holders-suit c =
    let l = c.loop-rank in
    let a = c.args in
    let held = held_rank a.holders l.invariant.0 a.seat a.suit c.requires l.rank _ (omega arith) (omega arith) c.if-holders-suit.true c.rank_letter.ensures in
    (l.invariant.0, λ t. l.invariant.1 t ∙ ap (λ s. follows a.line.now l.at (s ++ t)) held ∙ c.over_byte-at.ensures _)

pub loop-rank-preserved : goal.loop-rank-preserved
loop-rank-preserved c =
    let l = c.loop-rank in
    let a = c.args in
    let other = other_rank a.holders l.invariant.0 a.seat a.suit c.requires l.rank (omega arith) (omega arith) c.if-holders-suit.false in
    (l.invariant.0, λ t. l.invariant.1 t ∙ ap (λ s. follows a.line.now l.at (s ++ t)) other)

pub returns : goal.returns
returns c t =
    let l = c.loop-rank in
    let a = c.args in
    l.invariant.1 t ∙ ap (follows a.line.now l.at) (no_rank a.holders a.seat a.suit l.rank t (omega arith))
