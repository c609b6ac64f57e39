-- `bytes_of_cards` meets its contract: the first i of the row are those of the record. Assumes nothing.
use Rattle.std.proofs.Common.{◌≡◌, length, take}
use Rattle.last_card.specs.Sections.{fours_of}
use Rattle.last_card.proofs.reading.bytes_of_cards.Given as goal

abbrev pub invariant-loop-i : goal.invariant-loop-i
invariant-loop-i l = record { long : length l.row ≡ 52; first : take l.i l.row ≡ fours_of l.bytes l.i }
