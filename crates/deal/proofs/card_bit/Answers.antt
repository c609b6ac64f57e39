-- `deal::card_bit` meets its contract: nothing is shifted out. Assumes nothing.
use Prim.Native.Nat.{◌^◌, ◌<◌, ◌%◌}
use native.Mathlib.Nat.{mod-eq_of_lt, one-mul}
use native.Mathlib.Omega.{arith}
use lib.Pow.{pow-lt}
use Rattle.deal.proofs.card_bit.Goals as goal

pub returns : goal.returns
returns c =
    let below : c.args.card % 64 < 64 = omega arith in
    rw (one-mul (2 ^ (c.args.card % 64))) (mod-eq_of_lt (pow-lt below))
