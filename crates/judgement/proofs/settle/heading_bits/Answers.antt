-- `heading_bits` meets its contract. Assumes nothing.
use Rattle.judgement.proofs.Settling.{head_number}
use native.Mathlib.Omega.{arith}
use Rattle.judgement.proofs.settle.heading_bits.Goals as goal

pub returns : goal.returns
returns c = (head_number c.args.board c.args.table, omega arith)
