-- `most` and `least` meet their contracts, by the cards left. Assumes nothing.
use Rattle.std.proofs.Common.{◌≡◌, ◌-◌, ◌∙◌, ℕ, ap, arith}
use Rattle.laws.specs.BestPlay.{greatest, smallest}
use Rattle.best_play.specs.Search.{within, may_in}
use Rattle.best_play.proofs.Search.{worth_in, our_turn_lem, their_turn, more_with, more-without, less_with, less_without, most-none, least-none}
use Rattle.best_play.proofs.Search.{most_starts, least_starts, most_stops, least_stops, most-all, least-all}
use Rattle.best_play.proofs.+search.Goals as goal

pub least-returns-then-left-eq0-clause-told : goal.least-returns-then-left-eq0-clause-told
least-returns-then-left-eq0-clause-told t c = least-none _ _ _ _ _ c.if-left-eq0.true c.args.window.order

pub least-loop-card-init : goal.least-loop-card-init
unfolding within
least-loop-card-init t c =
    record { told = rw (c.max-best.ensures, c.min.ensures) (least_starts _ _ _ _); from = omega (arith, c.max-best.ensures); to = omega (arith, c.max-best.ensures, c.min.ensures, c.args.window.order) }

pub least-returns-then-best-floor-clause-told : goal.least-returns-then-best-floor-clause-told
least-returns-then-best-floor-clause-told t c =
    let a = c.args in
    let l = c.loop-card in
    least_stops a.side a.left a.p a.window.floor a.window.ceiling l.best l.card c.if-left-eq0.false (omega arith) c.args.window.order l.invariant.told c.if-best-floor.true

pub least-loop-card-preserved-then-not-may_play : goal.least-loop-card-preserved-then-not-may_play
least-loop-card-preserved-then-not-may_play t c =
    let a = c.args in
    let l = c.loop-card in record {
      told = less_without a.side (a.left - 1) a.p l.card l.best a.window.floor a.window.ceiling l.invariant.told c.may_play.ensures c.if-not-may_play.true;
      from = l.invariant.from;
      to = l.invariant.to;
    }

pub least-loop-card-preserved-then-is_ours : goal.least-loop-card-preserved-then-is_ours
least-loop-card-preserved-then-is_ours t c =
    let a = c.args in
    let l = c.loop-card in
    let value =
    our_turn_lem a.side (a.left - 1) _ (l.best - c.gain-gained.result)
    c.is_ours.ensures c.if-is_ours.true c.saturating_sub-low.ensures c.most.ensures.told in
    record {
      told = less_with a.side (a.left - 1) a.p l.card l.best a.window.floor a.window.ceiling l.invariant.told c.may_play.ensures
          c.if-not-may_play.false c.play-after.ensures c.gain-gained.ensures.gain c.gain-gained.ensures.one (omega (arith, l.invariant.from, c.if-best-floor.false)) l.invariant.to value;
      from = omega (arith, c.most.ensures.from, c.saturating_sub-low.ensures, c.gain-gained.ensures.one, l.invariant.from, l.invariant.to);
      to = omega (arith, c.most.ensures.to, c.gain-gained.ensures.one, l.invariant.from, l.invariant.to);
    }

pub least-loop-card-preserved : goal.least-loop-card-preserved
least-loop-card-preserved t c =
    let a = c.args in
    let l = c.loop-card in
    let value =
    their_turn a.side (a.left - 1) _ (l.best - c.gain-gained.result)
    c.is_ours.ensures c.if-is_ours.false c.saturating_sub-low.ensures c.least.ensures.told in
    record {
      told = less_with a.side (a.left - 1) a.p l.card l.best a.window.floor a.window.ceiling l.invariant.told c.may_play.ensures
          c.if-not-may_play.false c.play-after.ensures c.gain-gained.ensures.gain c.gain-gained.ensures.one (omega (arith, l.invariant.from, c.if-best-floor.false)) l.invariant.to value;
      from = omega (arith, c.least.ensures.from, c.saturating_sub-low.ensures, c.gain-gained.ensures.one, l.invariant.from, l.invariant.to);
      to = omega (arith, c.least.ensures.to, c.gain-gained.ensures.one, l.invariant.from, l.invariant.to);
    }

pub least-returns-clause-told : goal.least-returns-clause-told
least-returns-clause-told t c =
    let a = c.args in
    let all = smallest (may_in a.p) (worth_in a.side (a.left - 1) a.p) in
    let e : c.loop-card.card ≡ 52 = omega (arith, c.loop-card.auto.card-end) in
    c.loop-card.invariant.told
    ∙ ap (λ (n : ℕ). within a.window.floor a.window.ceiling (all n)) e
    ∙ ap (within a.window.floor a.window.ceiling) (least-all a.side a.left a.p c.if-left-eq0.false)

pub most-returns-then-left-eq0-clause-told : goal.most-returns-then-left-eq0-clause-told
most-returns-then-left-eq0-clause-told t c = most-none _ _ _ _ _ c.if-left-eq0.true c.args.window.order

pub most-loop-card-init : goal.most-loop-card-init
most-loop-card-init t c = record { told = most_starts _ _ _ _ c.args.window.order; from = omega arith; to = c.args.window.order }

pub most-returns-then-best-ceiling-clause-told : goal.most-returns-then-best-ceiling-clause-told
most-returns-then-best-ceiling-clause-told t c =
    let a = c.args in
    let l = c.loop-card in
    most_stops a.side a.left a.p a.window.floor a.window.ceiling l.best l.card c.if-left-eq0.false (omega arith) c.args.window.order l.invariant.told c.if-best-ceiling.true

pub most-loop-card-preserved-then-not-may_play : goal.most-loop-card-preserved-then-not-may_play
most-loop-card-preserved-then-not-may_play t c =
    let a = c.args in
    let l = c.loop-card in record {
      told = more-without a.side (a.left - 1) a.p l.card l.best a.window.floor a.window.ceiling l.invariant.told c.may_play.ensures c.if-not-may_play.true;
      from = l.invariant.from;
      to = l.invariant.to;
    }

pub most-loop-card-preserved-then-is_ours : goal.most-loop-card-preserved-then-is_ours
most-loop-card-preserved-then-is_ours t c =
    let a = c.args in
    let l = c.loop-card in
    let value =
    our_turn_lem a.side (a.left - 1) _ (a.window.ceiling - c.gain-gained.result)
    c.is_ours.ensures c.if-is_ours.true c.saturating_sub-low.ensures c.most.ensures.told in
    record {
      told = more_with a.side (a.left - 1) a.p l.card l.best a.window.floor a.window.ceiling l.invariant.told c.may_play.ensures
          c.if-not-may_play.false c.play-after.ensures c.gain-gained.ensures.gain c.gain-gained.ensures.one (omega (arith, l.invariant.to, c.if-best-ceiling.false)) value;
      from = omega (arith, c.most.ensures.from, c.saturating_sub-low.ensures, c.gain-gained.ensures.one, l.invariant.from, l.invariant.to);
      to = omega (arith, c.most.ensures.to, c.gain-gained.ensures.one, l.invariant.from, l.invariant.to);
    }

pub most-loop-card-preserved : goal.most-loop-card-preserved
most-loop-card-preserved t c =
    let a = c.args in
    let l = c.loop-card in
    let value =
    their_turn a.side (a.left - 1) _ (a.window.ceiling - c.gain-gained.result)
    c.is_ours.ensures c.if-is_ours.false c.saturating_sub-low.ensures c.least.ensures.told in
    record {
      told = more_with a.side (a.left - 1) a.p l.card l.best a.window.floor a.window.ceiling l.invariant.told c.may_play.ensures
          c.if-not-may_play.false c.play-after.ensures c.gain-gained.ensures.gain c.gain-gained.ensures.one (omega (arith, l.invariant.to, c.if-best-ceiling.false)) value;
      from = omega (arith, c.least.ensures.from, c.saturating_sub-low.ensures, c.gain-gained.ensures.one, l.invariant.from, l.invariant.to);
      to = omega (arith, c.least.ensures.to, c.gain-gained.ensures.one, l.invariant.from, l.invariant.to);
    }

pub most-returns-clause-told : goal.most-returns-clause-told
most-returns-clause-told t c =
    let a = c.args in
    let all = greatest (may_in a.p) (worth_in a.side (a.left - 1) a.p) in
    let e : c.loop-card.card ≡ 52 = omega (arith, c.loop-card.auto.card-end) in
    c.loop-card.invariant.told
    ∙ ap (λ (n : ℕ). within a.window.floor a.window.ceiling (all n)) e
    ∙ ap (within a.window.floor a.window.ceiling) (most-all a.side a.left a.p c.if-left-eq0.false)
