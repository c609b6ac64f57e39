-- What the code's items are of a contract, and of what the judge says of a record.
-- Assumes nothing.
use Rattle.std.specs.Prelude.{ℕ, ◌≤◌, ◌/◌, ◌%◌, eqb, pos, if◌then◌else◌}
use Rattle.laws.specs.Law2.{vulnerable}
use Rattle.laws.specs.Law77.{Stake, items, declarer_score, ns_score}
use Rattle.laws.specs.Record.{Parts}
use Rattle.laws.specs.Refusals.{Placed, refused_at, given}
use Rattle.laws.specs.Judge.{Outcome, Outcome.refused, Outcome.accepted}
use Rattle.laws.specs.Judgement.{score_of}
use Rattle.laws.specs.Slip.{TRICKS, OVERTRICKS, UNDERTRICKS, PARTSCORE, GAME, SLAM, DOUBLING, gain, points_of}
use Rattle.explanation.specs.declared.slip.Items.{Items}

-- a contract and tricks that a board can have
pub record Possible (s : Stake) (tricks : ℕ) : Type 0 where
  pub level_from : 1 ≤ s.level
  pub level_to : s.level ≤ 7
  pub strain : s.strain ≤ 4
  pub doubling : s.doubling ≤ 2
  pub most : tricks ≤ 13

-- of a board that was passed out
abbrev pub no_items : Items
no_items =
    record {
      tricks = pos 0;
      overtricks = pos 0;
      undertricks = pos 0;
      partscore = pos 0;
      game = pos 0;
      slam = pos 0;
      doubling = pos 0;
      sum = pos 0;
    }

-- of a contract with these tricks, from North-South
unfoldable pub items_for : ℕ → Stake → ℕ → Items
items_for declarer s tricks =
    record {
      tricks = ns_score declarer (gain (items s tricks) TRICKS);
      overtricks = ns_score declarer (gain (items s tricks) OVERTRICKS);
      undertricks = ns_score declarer (gain (items s tricks) UNDERTRICKS);
      partscore = ns_score declarer (gain (items s tricks) PARTSCORE);
      game = ns_score declarer (gain (items s tricks) GAME);
      slam = ns_score declarer (gain (items s tricks) SLAM);
      doubling = ns_score declarer (gain (items s tricks) DOUBLING);
      sum = ns_score declarer (declarer_score s tricks);
    }

-- ---- the 56 bits of an answer, read back
abbrev pub level_in : ℕ → ℕ
level_in bits = bits / 137438953472 % 8

abbrev pub declarer_in : ℕ → ℕ
declarer_in bits = bits / 1073741824 % 4

abbrev pub tricks_in : ℕ → ℕ
tricks_in bits = bits / 4194304 % 16

abbrev pub board_in : ℕ → ℕ
board_in bits = bits / 562949953421312 % 128

abbrev pub stake_in : ℕ → Stake
stake_in bits =
    record {
      level = level_in bits;
      strain = bits / 17179869184 % 8;
      doubling = bits / 4294967296 % 4;
      vulnerable = vulnerable (board_in bits) (declarer_in bits);
    }

-- the items of an answer; level 0 stands where the board was passed out
unfoldable pub items_at : ℕ → Items
items_at bits = if eqb (level_in bits) 0 then no_items else items_for (declarer_in bits) (stake_in bits) (tricks_in bits)

-- ---- what is answered
-- the items of accepted parts
unfoldable pub items_in : Parts → Items
items_in p =
    record {
      tricks = points_of p TRICKS;
      overtricks = points_of p OVERTRICKS;
      undertricks = points_of p UNDERTRICKS;
      partscore = points_of p PARTSCORE;
      game = points_of p GAME;
      slam = points_of p SLAM;
      doubling = points_of p DOUBLING;
      sum = score_of p;
    }

-- what the answer is: the refusal with its place, or the items
unfoldable pub explained_of : Outcome → Placed Items
explained_of (refused n place) = refused_at n place
explained_of (accepted p) = given (items_in p)
