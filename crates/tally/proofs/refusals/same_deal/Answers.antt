-- `tally::refusals::same_deal` meets its contract. The loop's invariant: no holder is counted and the cards from `i` on are the same exactly where all cards
-- are. Assumes nothing.
use Rattle.std.proofs.Common.{◌<◌, ◌≤◌, length, sym, ◌∙◌, rules, arith}
use Rattle.tally.proofs.Places.{and-true, one_if_not}
use Rattle.tally.proofs.Dealing.{one-card, card_turn, all-cards}
use Rattle.tally.proofs.refusals.same_deal.Goals as goal

pub loop-i-preserved : goal.loop-i-preserved
loop-i-preserved c =
    let a = c.args.holders in
    let b = c.args.holders2 in
    let i = c.loop-i.i in
    let m : i < length a = search rules in
    let n : i < length b = search rules in
    let e = one_if_not _ _ c.from-others.ensures in
    (omega (arith, one-card a b i _ m n e), c.loop-i.invariant.1 ∙ card_turn a b i _ m n e _)

pub returns : goal.returns
returns c =
    let a = c.args.holders in
    let b = c.args.holders2 in
    let m : length a ≤ c.loop-i.i = search rules in
    let n : length b ≤ c.loop-i.i = search rules in
    sym (c.loop-i.invariant.1 ∙ rw (all-cards a b c.loop-i.i m n) (and-true _))
