-- `answer_text::write_refused` meets its contract. Assumes nothing.
use Prim.Native.Nat.{◌<◌}
use borrow.Author.Rules.{rules}
use Rattle.text.proofs.Puts.{local_length, taken-length, taken}
use Rattle.answer_text.proofs.Answering.{refused_at_short}
use Rattle.answer_text.proofs.write_refused.Goals as goal

pub slice_bounds-text-end : goal.slice_bounds-text-end
slice_bounds-text-end c =
    let b : c.args.n < 256 = search rules in
    let m : c.args.place < 65536 = search rules in
    local_length _ _ _ _ c.put_refused_at-size.ensures (refused_at_short _ _ b m)

pub slice_bounds-lend-end : goal.slice_bounds-lend-end
slice_bounds-lend-end c =
    let b : c.args.n < 256 = search rules in
    let m : c.args.place < 65536 = search rules in
    taken-length _ _ _ _ c.put_refused_at-size.ensures (refused_at_short _ _ b m)

pub returns : goal.returns
returns c =
    let b : c.args.n < 256 = search rules in
    let m : c.args.place < 65536 = search rules in
    let all = taken _ _ _ _ c.put_refused_at-size.ensures (refused_at_short _ _ b m) in
    record { answer = rw (← all) c.lend.ensures.answer; bytes = rw (← all) c.lend.ensures.bytes }
