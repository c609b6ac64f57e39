-- `Play::revoke_bit` meets its contract. Assumes nothing.
use Rattle.std.proofs.Common.{rules, ap, ◌∙◌}
use Rattle.play.proofs.Steps.{off_and_could, product_bits, bit_is, cast_low}
use Rattle.play.specs.Words.{bit_of}
use Rattle.play.proofs.Play.revoke_bit.Goals as goal

pub overflow_mul-result : goal.overflow_mul-result
overflow_mul-result c =
    let s = product_bits _ _ (cast_low _ c.from-off.ensures) (cast_low _ c.from.ensures) in
    search rules

pub returns : goal.returns
returns c = off_and_could _ _ (c.from-off.ensures ∙ bit_is _) (c.from.ensures ∙ bit_is _ ∙ ap bit_of c.could_follow.ensures)
