-- `penalty::words::card_word` meets its contract: nothing is shifted out. Assumes nothing.
use Prim.Native.Nat.{◌^◌, ◌<◌}
use native.Mathlib.Nat.{mod-eq_of_lt, one-mul}
use native.Mathlib.Omega.{arith}
use lib.Pow.{pow-lt}
use borrow.Author.Tests.{le-leb, lt-leb}
use Rattle.penalty.specs.Words.{card_word}
use Rattle.penalty.proofs.words.card_word.Goals as goal

pub returns-then-card-ge52 : goal.returns-then-card-ge52
unfolding card_word
returns-then-card-ge52 c = simp (le-leb 52 _ c.if-card-ge52.true)

pub returns : goal.returns
unfolding card_word
returns c =
    let below : c.args.card < 64 = omega arith in
    rw (lt-leb 52 _ c.if-card-ge52.false, one-mul (2 ^ c.args.card)) (mod-eq_of_lt (pow-lt below))
