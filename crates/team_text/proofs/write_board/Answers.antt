-- `team_text::write_board` meets its contract. Assumes nothing.
use Rattle.text.proofs.Puts.{local_length, taken-length, taken}
use Rattle.team_text.proofs.write_board.Goals as goal

pub slice_bounds-text-end : goal.slice_bounds-text-end
slice_bounds-text-end c = local_length _ _ _ _ c.put_board-n.ensures.0 c.put_board-n.ensures.1

pub slice_bounds-lend-end : goal.slice_bounds-lend-end
slice_bounds-lend-end c = taken-length _ _ _ _ c.put_board-n.ensures.0 c.put_board-n.ensures.1

pub returns : goal.returns
returns c =
    let all = taken _ _ _ _ c.put_board-n.ensures.0 c.put_board-n.ensures.1 in
    record { answer = rw (← all) c.lend.ensures.answer; bytes = rw (← all) c.lend.ensures.bytes }
