-- `tags::take_tags` meets its contract: a law of Tagged for each way out. Assumes nothing.
use Rattle.std.proofs.lemmas.Result.{err_from_is_err_and}
use Rattle.pbn_record.proofs.Tagged.{board-low, heading-refused, dealer-refused, deal-refused, deal-taken, calls-told, seat-told}
use Rattle.pbn_record.proofs.tags.take_tags.Goals as goal

pub returns-in_err-check_heading : goal.returns-in_err-check_heading
returns-in_err-check_heading c =
    λ x ok eg.
    let p = err_from_is_err_and c.from_residual.result c.from_residual.ensures.1 in
    rw (p.1, p.2) (heading-refused _ x eg _ c.in_err-check_heading.ensures)

pub overflow_cast-g : goal.overflow_cast-g
overflow_cast-g c = record { fits = board-low _ _ c.in_ok-check_heading.ensures }

pub returns-then-g-dealer : goal.returns-then-g-dealer
returns-then-g-dealer c =
    λ x ok eg. rw c.at.ensures (dealer-refused _ x eg _ c.in_ok-check_heading.ensures _ c.dealer-dealer.ensures c.if-g-dealer.true)

pub returns-in_err-take : goal.returns-in_err-take
returns-in_err-take c =
    λ x ok eg.
    let p = err_from_is_err_and c.from_residual-in_err-take.result c.from_residual-in_err-take.ensures.1 in
    rw (p.1, p.2)
    (deal-refused _ x eg _ c.in_ok-check_heading.ensures _ c.dealer-dealer.ensures c.if-g-dealer.false c.in_err-take.ensures)

pub returns : goal.returns
returns c =
    λ x ok eg.
    deal-taken _ x eg _ c.in_ok-check_heading.ensures _ c.dealer-dealer.ensures c.if-g-dealer.false c.in_ok-take.ensures
    (c.take_auction.ensures _ _ (calls-told _ x eg) (seat-told _ x eg) ok.play)
