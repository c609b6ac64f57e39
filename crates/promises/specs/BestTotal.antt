-- The tricks that Law 64's count gives are the most that can change sides, where exactly one side has revoked.
-- Assumes nothing.
use Rattle.std.specs.Prelude.{◌≡◌, true}
use Rattle.laws.specs.Cards.{partner_of}
use Rattle.laws.specs.Allotment.{Greatest, one_side_revoked}
use Rattle.laws.specs.Record.{Parts}
use Rattle.laws.specs.Judgement.{declarer_of, winners_of, claimed_of, counted_of, transferred_of}
use Rattle.laws.specs.Lawful.{Lawful}

pub record BestTotal : Type 0 where
  -- an allotment of as many pairs as tricks change sides is exhibited, and every allotment has at most so many
  pub best : (p : Parts) → Lawful p → one_side_revoked (counted_of p) ≡ true
      → Greatest (partner_of (declarer_of p)) (winners_of p) (claimed_of p) (counted_of p) (transferred_of p)
