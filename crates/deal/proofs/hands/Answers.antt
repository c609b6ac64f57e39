-- `hands` meets its contract: a card more is in its holder's hand, or in nobody's. Assumes nothing.
use Rattle.std.proofs.Common.{arith, rules, refl, ◌≡◌, length}
use lib.Seq.{take_all}
use Rattle.deal.proofs.Words.{own_bit}
use Rattle.deal.proofs.Built.{none_built, all_built, skips, gains, gain-fits}
use Rattle.deal.proofs.hands.Goals.{In-loop-i, then-holder-lt4, else-holder-lt4}
use Rattle.deal.proofs.hands.Goals as goal

pub loop-i-init : goal.loop-i-init
loop-i-init c = none_built

pub overflow_add-words : goal.overflow_add-words
overflow_add-words c =
    let holders = c.args.holders in
    let long : length holders ≡ 52 = search rules in
    let fits = gain-fits c.loop-i.words holders c.loop-i.i _ (omega (arith, long)) refl c.loop-i.invariant c.if-holder-lt4.true (omega arith) in
    omega (arith, rw (← own_bit (omega (arith, long)) c.card_bit.ensures) at fits)

pub loop-i-preserved : goal.loop-i-preserved
loop-i-preserved c =
    let long : length c.args.holders ≡ 52 = search rules in
    elim c.if-holder-lt4.branch [
      | then-holder-lt4 w ↦ rw w.words-is (gains _ _ _ _ (omega (arith, long)) refl c.loop-i.invariant w.if-holder-lt4.true _
          (own_bit (omega (arith, long)) w.card_bit.ensures))
      | else-holder-lt4 w ↦ rw w.words-is (skips _ _ _ _ (omega (arith, long)) refl c.loop-i.invariant w.if-holder-lt4.false)
    ]

pub returns : goal.returns
returns c =
    let l = c.loop-i in
    let long : length c.args.holders ≡ 52 = search rules in
    let holders = c.args.holders in
    all_built l.words holders (rw (take_all l.i holders (omega (arith, long))) at l.invariant)
