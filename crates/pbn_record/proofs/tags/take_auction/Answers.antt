-- `tags::take_auction` meets its contract: a law of Auctions for each way out. Assumes nothing.
use Rattle.std.proofs.Common.{◌≤◌, refl, arith}
use Rattle.std.proofs.lemmas.Result.{err_from_is_err_and}
use Rattle.pbn_record.proofs.Auctions.{too_many, calls-refused, play-refused, play-taken}
use Rattle.pbn_record.proofs.tags.take_auction.Goals.{Else-count-gt511}
use Rattle.pbn_record.proofs.tags.take_auction.Goals as goal

-- there is room for the calls that are counted
few : (c : Else-count-gt511) → c.args.calls.count ≤ 511
few c = omega (arith, c.if-count-gt511.false)

pub returns-then-count-gt511 : goal.returns-then-count-gt511
returns-then-count-gt511 c = λ l listed ec es ok. rw c.at.ensures (too_many _ l listed _ ec c.if-count-gt511.true)

pub returns-in_err-after : goal.returns-in_err-after
returns-in_err-after c =
    λ l listed ec es ok.
    let p = err_from_is_err_and c.from_residual.result c.from_residual.ensures.1 in
    rw (p.1, p.2) (calls-refused _ l listed _ ec (omega (arith, c.if-count-gt511.false)) _ refl c.in_err-after.ensures)

pub returns-then-not-play_stands : goal.returns-then-not-play_stands
returns-then-not-play_stands c =
    λ l listed ec es ok.
    rw c.at-then-not-play_stands.ensures
    (play-refused _ l listed _ ec (omega (arith, c.if-count-gt511.false)) _ refl c.in_ok-after.ensures _ es ok _ c.play_stands.ensures
    c.if-not-play_stands.true _ c.play_line.ensures)

pub returns : goal.returns
returns c =
    λ l listed ec es ok.
    play-taken _ l listed _ ec (omega (arith, c.if-count-gt511.false)) _ refl c.in_ok-after.ensures _ es ok _ c.play_stands.ensures
    c.if-not-play_stands.false _ c.contract.ensures
