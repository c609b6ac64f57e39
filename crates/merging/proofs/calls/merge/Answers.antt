-- `merging::calls::merge` meets its contract: one law of `Answers` for each way out. Assumes nothing.
use Rattle.std.proofs.lemmas.Result.{err_from_is_err_and}
use Rattle.tally.proofs.Refusing.{no_refusal}
use Rattle.merging.proofs.Answers.{merge_first_unchecked, merge_second_unchecked, merge_two_boards, merge_fouled, merge-full, merge-passes}
use Rattle.merging.proofs.Answers.{merge_joinable, merge-accepted}
use Rattle.merging.proofs.calls.merge.Goals as goal

pub returns-in_err-x : goal.returns-in_err-x
returns-in_err-x c =
    let p = err_from_is_err_and c.from_residual.result c.from_residual.ensures.1 in
    rw (p.1, p.2) (merge_first_unchecked _ _ _ c.in_err-x.ensures)

pub returns-in_err-y : goal.returns-in_err-y
returns-in_err-y c =
    let p = err_from_is_err_and c.from_residual-in_err-y.result c.from_residual-in_err-y.ensures.1 in
    rw (p.1, p.2) (merge_second_unchecked _ _ _ c.in_ok-x.ensures _ c.in_err-y.ensures)

pub returns-in_err-boards_refusal : goal.returns-in_err-boards_refusal
returns-in_err-boards_refusal c =
    let p = err_from_is_err_and c.from_residual-in_err-boards_refusal.result c.from_residual-in_err-boards_refusal.ensures.1 in
    rw (p.1, p.2) (merge_two_boards _ _ _ c.in_ok-x.ensures _ c.in_ok-y.ensures _ c.in_err-boards_refusal.ensures)

pub returns-in_err-fouled_refusal : goal.returns-in_err-fouled_refusal
returns-in_err-fouled_refusal c =
    let p = err_from_is_err_and c.from_residual-in_err-fouled_refusal.result c.from_residual-in_err-fouled_refusal.ensures.1 in
    rw (p.1, p.2)
    (merge_fouled _ _ _ c.in_ok-x.ensures _ c.in_ok-y.ensures (no_refusal _ c.in_ok-boards_refusal.ensures) _ c.in_err-fouled_refusal.ensures)

pub returns-in_err-room_refusal : goal.returns-in_err-room_refusal
returns-in_err-room_refusal c =
    let p = err_from_is_err_and c.from_residual-in_err-room_refusal.result c.from_residual-in_err-room_refusal.ensures.1 in
    rw (p.1, p.2)
    (merge-full _ _ _ c.in_ok-x.ensures _ c.in_ok-y.ensures (no_refusal _ c.in_ok-boards_refusal.ensures) (no_refusal _ c.in_ok-fouled_refusal.ensures) _
    c.in_err-room_refusal.ensures)

pub joined-both-requires : goal.joined-both-requires
joined-both-requires c =
    merge_joinable _ _ _ c.in_ok-x.ensures _ c.in_ok-y.ensures _ _ c.empty-none.ensures
    (merge-passes _ _ _ c.in_ok-x.ensures _ c.in_ok-y.ensures (no_refusal _ c.in_ok-boards_refusal.ensures) (no_refusal _ c.in_ok-fouled_refusal.ensures)
    (no_refusal _ c.in_ok-room_refusal.ensures))

pub returns : goal.returns
returns c =
    merge-accepted _ _ _ c.in_ok-x.ensures _ c.in_ok-y.ensures _ _ c.empty-none.ensures
    (merge-passes _ _ _ c.in_ok-x.ensures _ c.in_ok-y.ensures (no_refusal _ c.in_ok-boards_refusal.ensures) (no_refusal _ c.in_ok-fouled_refusal.ensures)
    (no_refusal _ c.in_ok-room_refusal.ensures)) c.kept_deal-kept.ensures _ c.joined-both.ensures
