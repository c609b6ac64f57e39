-- `scores_in` meets its contract: the first i of the row are those of the bytes. Assumes nothing.
use Prim.Native.Nat.{ℕ}
use native.Mathlib.Omega.{arith}
use mathlib.Core.Path.{◌≡◌, sym, ◌∙◌}
use mathlib.Core.List.{List}
use borrow.Author.Rules.{rules}
use lib.IntN.{pos}
use lib.ListN.{length, length-set}
use lib.Seq.{slice, length-slice}
use mir.Syntax.{w16}
use mir.Val.{SFits}
use mir.Facts.{to_z-of_z}
use Rattle.tally.specs.InBytes.{scores_in_bytes}
use Rattle.tally.proofs.InBytes.{length_scores_in}
use Rattle.tally_bytes.proofs.Rows.{filled, all_filled}
use Rattle.tally_bytes.proofs.Places.{score_at}
use Rattle.tally_bytes.proofs.Words.{score_word}
use Rattle.tally_bytes.proofs.reading.scores_in.Goals as goal

many : (bytes : List ℕ) → length bytes ≡ 398 → length (scores_in_bytes (slice 14 270 bytes)) ≡ 128
many bytes n = length_scores_in 128 (slice 14 270 bytes) (length-slice 14 270 bytes (omega arith))

pub loop-i-preserved : goal.loop-i-preserved
loop-i-preserved c =
    let l = c.loop-i in
    let bytes = c.args.bytes.now in
    let n : length bytes ≡ 398 = search rules in
    let fits : SFits w16 c.from_be_bytes.result = search rules in
    let e = to_z-of_z fits ∙ c.from_be_bytes.ensures ∙ score_word _ ∙ sym (score_at bytes l.i n (omega arith)) in (
      length-set l.row l.i _ ∙ l.invariant.0,
      filled _ l.row l.i _ (pos 0) l.invariant.1 (omega (arith, l.invariant.0)) (omega (arith, many bytes n)) e,
    )

pub returns : goal.returns
returns c =
    let l = c.loop-i in
    let e : l.i ≡ 128 = omega arith in
    all_filled _ l.row 128 l.invariant.0 (many c.args.bytes.now (search rules)) (rw e at l.invariant.1)
