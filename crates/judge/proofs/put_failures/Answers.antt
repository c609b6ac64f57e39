-- `put_failures` meets its contract: 52 bytes on each side of the copy. Assumes nothing.
use Rattle.std.proofs.Common.{rules, ◌≡◌, ◌∙◌, sym, length}
use Rattle.std.proofs.lemmas.List.{length-take-le}
use Rattle.judge.proofs.put_failures.Goals as goal

pub copy_from_slice-requires : goal.copy_from_slice-requires
copy_from_slice-requires c =
    let told : length c.args.told ≡ 52 = search rules in
    length-take-le 52 c.args.failures.now c.requires ∙ sym told
