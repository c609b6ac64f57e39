-- `put_deal` meets its contract: after i turns the first i bytes are stored. Assumes nothing.
use native.Mathlib.Omega.{arith}
use mathlib.Core.Path.{◌≡◌, sym, ◌∙◌}
use borrow.Author.Rules.{rules}
use lib.ListN.{length}
use Rattle.tally.proofs.InBytes.{length-deal-bytes}
use Rattle.tally_bytes.proofs.Rows.{stored, all_stored}
use Rattle.tally_bytes.proofs.Places.{four_at}
use Rattle.tally_bytes.proofs.writing.put_deal.Goals as goal

pub loop-i-preserved : goal.loop-i-preserved
loop-i-preserved c =
    let l = c.loop-i in
    let a = c.args in
    let n : length a.holders ≡ 52 = search rules in
    let e = c.byte_of.ensures ∙ sym (four_at a.holders l.i (omega arith)) in (
      stored a.out.now _ 1 l.i 0 l.invariant.0 (omega (arith, length-deal-bytes 13 a.holders n)) e,
      search rules,
    )

pub returns : goal.returns
returns c =
    let l = c.loop-i in
    let a = c.args in
    let n : length a.holders ≡ 52 = search rules in
    all_stored a.out.now _ 1 l.i 0 l.invariant.0 (omega (arith, length-deal-bytes 13 a.holders n))
