-- `pbn_deal::held::with_rank` meets its contract. Assumes nothing.
use Rattle.std.proofs.Common.{◌≡◌, length, arith, rules}
use Rattle.pbn_deal.proofs.HeldCards.{ranked, ranked_past}
use Rattle.pbn_deal.proofs.held.with_rank.Goals as goal

pub returns-then-at-lt52 : goal.returns-then-at-lt52
returns-then-at-lt52 c = ranked c.args.held _ _ c.place_among.ensures.0

pub returns-else-at-lt52 : goal.returns-else-at-lt52
returns-else-at-lt52 c =
    let n : length c.args.held.holders ≡ 52 = search rules in
    ranked_past c.args.held _ _ c.place_among.ensures.0 (omega arith)
