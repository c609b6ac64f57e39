-- `code_ending` meets its contract. Assumes nothing.
use Rattle.std.proofs.Common.{◌≡◌, ℕ, ◌-◌, ◌/◌, arith}
use Rattle.last_card.proofs.SixBits.{code_ending_is}
use Rattle.last_card.proofs.codes.code_ending.Goals as goal

pub returns : goal.returns
returns c =
    let small = λ (i : ℕ). (c.type_inv.bytes i).fits in
    let before : c.saturating_sub.result ≡ c.args.last / 8 - 1 = omega (arith, c.saturating_sub.ensures) in
    code_ending_is _ _ c.requires.from (rw before at c.from.ensures, omega (arith, c.from.ensures, small c.saturating_sub.result)) (c.from-2.ensures, omega (arith, c.from-2.ensures, small (c.args.last / 8)))
