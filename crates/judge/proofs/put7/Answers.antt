-- `put7` meets its contract: the last seven of the number's eight bytes. Assumes nothing.
use Rattle.std.proofs.Common.{◌≡◌, ◌++◌, List, ℕ, ap, refl, drop}
use Rattle.std.proofs.Math.Nat.{div-one}
use Rattle.std.specs.Int.{to_be_bytes, w64}
use Rattle.laws.specs.Record.{bytes_of}
use Rattle.judge.proofs.put7.Goals as goal

-- the bytes after the first of eight
seven : (x : ℕ) → drop 1 (to_be_bytes w64 x) ≡ bytes_of 7 x
unfolding bytes_of
seven x = rw (div-one x) refl

pub returns : goal.returns
returns c = rw c.copy_from_slice.ensures.after (rw c.to_be_bytes-bytes.ensures (ap (λ (l : List ℕ). l ++ drop 7 c.args.answer.now) (seven c.args.x)))
