-- `put_scores` meets its contract: after i turns the bytes of the first i scores are stored. Assumes nothing.
use Prim.Native.Nat.{◌*◌}
use native.Mathlib.Omega.{arith}
use mathlib.Core.Path.{◌≡◌, sym}
use borrow.Author.Rules.{rules}
use lib.IntN.{pos}
use lib.ListN.{length, get_or, length-set}
use mir.Syntax.{w16}
use mir.Val.{SFits}
use mir.Facts.{to_z-of_z}
use Rattle.tally.proofs.InBytes.{length-score-bytes}
use Rattle.tally_bytes.proofs.Rows.{stored_two, all_stored}
use Rattle.tally_bytes.proofs.Places.{high_at, low_at}
use Rattle.tally_bytes.proofs.Words.{word_score}
use Rattle.tally_bytes.proofs.writing.put_scores.Goals as goal

pub loop-i-preserved : goal.loop-i-preserved
loop-i-preserved c =
    let l = c.loop-i in
    let a = c.args in
    let n : length a.scores ≡ 128 = search rules in
    let fits : SFits w16 (get_or a.scores l.i (pos 0)) = search rules in (
      stored_two a.out.now _ 14 l.i 0 l.invariant.0 (omega (arith, length-score-bytes a.scores))
          (rw (c.to_be_bytes.ensures, to_z-of_z fits, word_score _ fits) (sym (high_at a.scores l.i (omega arith))))
          (rw (c.to_be_bytes.ensures, to_z-of_z fits, word_score _ fits) (sym (low_at a.scores l.i (omega arith)))),
      simp length-set l.invariant.1,
    )

pub returns : goal.returns
returns c =
    let l = c.loop-i in
    let a = c.args in
    let n : length a.scores ≡ 128 = search rules in
    all_stored a.out.now _ 14 (2 * l.i) 0 l.invariant.0 (omega (arith, length-score-bytes a.scores))
