-- `team_text::write_refused` meets its contract. Assumes nothing.
use Prim.Native.Nat.{◌<◌}
use borrow.Author.Rules.{rules}
use Rattle.text.proofs.Puts.{local_length, taken-length, taken}
use Rattle.team_text.specs.Team.{board_text}
use Rattle.team_text.proofs.Teams.{refused-short}
use Rattle.team_text.proofs.write_refused.Goals as goal

pub slice_bounds-text-end : goal.slice_bounds-text-end
slice_bounds-text-end c =
    let b : c.args.n < 256 = search rules in
    local_length _ _ _ _ c.put_refused-size.ensures (refused-short c.args.n b)

pub slice_bounds-lend-end : goal.slice_bounds-lend-end
slice_bounds-lend-end c =
    let b : c.args.n < 256 = search rules in
    taken-length _ _ _ _ c.put_refused-size.ensures (refused-short c.args.n b)

pub returns : goal.returns
unfolding board_text
returns c =
    let b : c.args.n < 256 = search rules in
    let all = taken _ _ _ _ c.put_refused-size.ensures (refused-short c.args.n b) in
    record { answer = rw (← all) c.lend.ensures.answer; bytes = rw (← all) c.lend.ensures.bytes }
