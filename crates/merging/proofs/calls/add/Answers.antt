-- `merging::calls::add` meets its contract: one law of `Answers` for each way out. Assumes nothing.
use Rattle.std.proofs.lemmas.Result.{err_from_is_err_and}
use mir.Facts.{to_z-of_z}
use Rattle.tally.proofs.Refusing.{no_refusal, as-refused, as-given}
use Rattle.merging.proofs.Answers.{own_empty, add_unchecked, add_not_given, add-full, add-passes, add_joinable, add-accepted}
use Rattle.merging.proofs.calls.add.Goals as goal

pub returns-in_err-x : goal.returns-in_err-x
returns-in_err-x c =
    let p = err_from_is_err_and c.from_residual.result c.from_residual.ensures.1 in
    rw (p.1, p.2) (add_unchecked _ _ _ c.in_err-x.ensures)

pub returns-in_err-row : goal.returns-in_err-row
returns-in_err-row c =
    let p = err_from_is_err_and c.from_residual-in_err-row.result c.from_residual-in_err-row.ensures.1 in
    rw (p.1, p.2) (add_not_given _ _ _ c.in_ok-x.ensures _ (as-refused _ _ _ (rw (to_z-of_z c.ranges.score) at c.in_err-row.ensures)))

pub returns-in_err-room_refusal : goal.returns-in_err-room_refusal
returns-in_err-room_refusal c =
    let p = err_from_is_err_and c.from_residual-in_err-room_refusal.result c.from_residual-in_err-room_refusal.ensures.1 in
    let g = as-given _ _ _ (rw (to_z-of_z c.ranges.score) at c.in_ok-row.ensures) in
    rw (p.1, p.2) (add-full _ _ _ c.in_ok-x.ensures g.0 _ c.in_err-room_refusal.ensures)

pub single-one-requires : goal.single-one-requires
single-one-requires c = own_empty _ _ _ c.empty-none.ensures

pub joined-grown-requires : goal.joined-grown-requires
joined-grown-requires c =
    let g = as-given _ _ _ (rw (to_z-of_z c.ranges.score) at c.in_ok-row.ensures) in
    add_joinable _ _ _ c.in_ok-x.ensures _ _ _ c.empty-none.ensures (rw (to_z-of_z c.ranges.score) at c.single-one.ensures)
    (add-passes _ _ _ c.in_ok-x.ensures g.0 (no_refusal _ c.in_ok-room_refusal.ensures))

pub returns : goal.returns
returns c =
    let g = as-given _ _ _ (rw (to_z-of_z c.ranges.score) at c.in_ok-row.ensures) in
    add-accepted _ _ _ c.in_ok-x.ensures _ _ _ c.empty-none.ensures (rw (to_z-of_z c.ranges.score) at c.single-one.ensures)
    (add-passes _ _ _ c.in_ok-x.ensures g.0 (no_refusal _ c.in_ok-room_refusal.ensures)) g.1 _ c.joined-grown.ensures
