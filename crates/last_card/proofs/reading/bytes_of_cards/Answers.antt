-- `bytes_of_cards` meets its contract: the first i of the row are those of the record. Assumes nothing.
use Rattle.std.proofs.Common.{◌≡◌, refl, sym, ◌∙◌, add-one, arith}
use lib.ListN.{length-set}
use lib.Seq.{take-suc-set, take-length}
use Rattle.last_card.specs.Sections.{fours_of}
use Rattle.last_card.proofs.reading.bytes_of_cards.Goals as goal

pub loop-i-init : goal.loop-i-init
unfolding fours_of
loop-i-init c = record { long = refl; first = refl }

pub loop-i-preserved : goal.loop-i-preserved
unfolding fours_of
loop-i-preserved c =
    let l = c.loop-i in record {
      long = length-set l.row l.i _ ∙ l.invariant.long;
      first = rw add-one (take-suc-set l.row l.i _ (omega (arith, l.invariant.long)) ∙ rw l.invariant.first);
    }

pub returns : goal.returns
returns c =
    let l = c.loop-i in
    let e : l.i ≡ 52 = omega arith in
    sym (take-length l.row) ∙ rw l.invariant.long (rw e at l.invariant.first)
