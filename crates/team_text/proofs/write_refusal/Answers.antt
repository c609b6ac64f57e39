-- `team_text::write_refusal` meets its contract. Assumes nothing.
use Rattle.text.proofs.Puts.{local_length, taken-length, taken}
use Rattle.text.proofs.RefusalLengths.{line-short}
use native.Mathlib.Omega.{arith}
use Rattle.team_text.proofs.write_refusal.Goals as goal

pub slice_bounds-text-end : goal.slice_bounds-text-end
slice_bounds-text-end c = local_length _ _ _ _ c.put_refusal-n.ensures (line-short c.args.line (omega (arith, c.ranges.line.fits)))

pub slice_bounds-lend-end : goal.slice_bounds-lend-end
slice_bounds-lend-end c = taken-length _ _ _ _ c.put_refusal-n.ensures (line-short c.args.line (omega (arith, c.ranges.line.fits)))

pub returns : goal.returns
returns c =
    let all = taken _ _ _ _ c.put_refusal-n.ensures (line-short c.args.line (omega (arith, c.ranges.line.fits))) in
    record { answer = rw (← all) c.lend.ensures.answer; bytes = rw (← all) c.lend.ensures.bytes }
