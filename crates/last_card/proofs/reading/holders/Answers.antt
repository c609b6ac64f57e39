-- `holders` meets its contract: the first i of the row are those of the record. Assumes nothing.
use Rattle.std.proofs.Common.{◌≡◌, refl, sym, ◌∙◌, add-one, arith}
use lib.ListN.{length-set}
use lib.Seq.{take-suc-set, take-length}
use Rattle.last_card.specs.Sections.{row_at}
use Rattle.last_card.proofs.Dealing.{holder-is, four_at, row_last}
use Rattle.last_card.proofs.reading.holders.Goals as goal

pub loop-i-init : goal.loop-i-init
unfolding row_at
loop-i-init c = record { long = refl; first = refl }

pub loop-i-preserved : goal.loop-i-preserved
loop-i-preserved c =
    let l = c.loop-i in
    let bytes = c.args.bytes.now in
    let four = rw (← c.bytes_of_cards-fours.ensures) at (four_at bytes 52 l.i (omega arith)) in record {
      long = length-set l.row l.i _ ∙ l.invariant.long;
      first =
          rw add-one (take-suc-set l.row l.i _ (omega (arith, l.invariant.long))
          ∙ rw (l.invariant.first, four, holder-is bytes l.i) (sym (row_last bytes 2 l.i 16)));
    }

pub returns : goal.returns
returns c =
    let l = c.loop-i in
    let e : l.i ≡ 52 = omega arith in
    sym (take-length l.row) ∙ rw l.invariant.long (rw e at l.invariant.first)
