-- Law 64's total is the best one, for the revokes and the winners of lawful parts. Assumes nothing.
use mathlib.Core.Path.{◌≡◌}
use mathlib.Core.Bool.{true}
use Rattle.laws.specs.Cards.{partner_of}
use Rattle.laws.specs.Allotment.{Greatest, one_side_revoked}
use Rattle.laws.specs.Record.{Parts}
use Rattle.laws.specs.Events.{cards_of}
use Rattle.laws.specs.Judgement.{declarer_of, play_of, trump_of, opening_of, winners_of, claimed_of, counted_of, transferred_of}
use Rattle.laws.proofs.BestTotal.{best-total}
use Rattle.play.proofs.Complete.{winners-count}
use Rattle.promises.specs.BestTotal.{BestTotal}

best : (p : Parts) → one_side_revoked (counted_of p) ≡ true
    → Greatest (partner_of (declarer_of p)) (winners_of p) (claimed_of p) (counted_of p) (transferred_of p)
unfolding winners_of counted_of transferred_of
best p one =
    best-total (trump_of p) (opening_of p) p.deal (play_of p) (partner_of (declarer_of p)) (winners_of p) (claimed_of p)
    (winners-count (trump_of p) (opening_of p) (cards_of (play_of p))) one

pub best-of-lawful : BestTotal
best-of-lawful = record { best = λ p ok one. best p one }
