-- `contract_bits` meets its contract. Assumes nothing.
use Rattle.judgement.proofs.Settling.{play-number}
use native.Mathlib.Omega.{arith}
use Rattle.judgement.proofs.settle.contract_bits.Goals as goal

pub returns : goal.returns
returns c = (play-number c.args.k c.args.won c.args.after c.args.revokes c.args.word, omega arith)
