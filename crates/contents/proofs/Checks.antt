-- Board and table, deal and claim in the code are the Laws' sections of contents: a law for each way out. Assumes nothing.
use Prim.Native.Nat.{ℕ, ◌-◌, ◌/◌, ◌≤◌, ◌<◌, min}
use mathlib.Core.Path.{◌≡◌}
use mathlib.Core.Bool.{Bool, true, false}
use mathlib.Core.List.{[]}
use borrow.Author.Tests.{eq-eqb, ne_eqb, lt-ltb, le-ltb, lt-leb, le-leb}
use Rattle.laws.specs.Refusals.{refused_at, given, no_board_or_table, play_unfinished, no_claim_point, claim_too_many}
use Rattle.laws.specs.Law68.{none, agreed}
use Rattle.laws.specs.Reading.{refuse}
use Rattle.laws.specs.Contents.{take_heading}
use Rattle.claims.specs.Claims.{point_at, may_claim}
use Rattle.claims.proofs.ClaimPoints.{no_point}
use Rattle.laws.specs.Refused.{checked_in}
use Rattle.contents.specs.Checked.{claim_by}

-- ---- board and table
module _ (board table : ℕ) where
  pub board-over : 127 < board → refused_at no_board_or_table 0 ≡ checked_in (take_heading board table [] 0)
  unfolding take_heading refuse
  board-over o = rw (lt-ltb 127 board o)

  module _ (b : board ≤ 127) where
    pub board_0 : board ≡ 0 → refused_at no_board_or_table 0 ≡ checked_in (take_heading board table [] 0)
    unfolding take_heading refuse
    board_0 z = rw (le-ltb 127 board b, eq-eqb board 0 z)

    module _ (n : board ≡ 0 → ⊥) where
      pub table-over : 511 < table → refused_at no_board_or_table 1 ≡ checked_in (take_heading board table [] 0)
      unfolding take_heading refuse
      table-over o = rw (le-ltb 127 board b, ne_eqb board 0 n, lt-ltb 511 table o)

      pub table_0 : table ≤ 511 → table ≡ 0 → refused_at no_board_or_table 1 ≡ checked_in (take_heading board table [] 0)
      unfolding take_heading refuse
      table_0 t z = rw (le-ltb 127 board b, ne_eqb board 0 n, le-ltb 511 table t, eq-eqb table 0 z)

      pub heading_passes : table ≤ 511 → (table ≡ 0 → ⊥) → given tt ≡ checked_in (take_heading board table [] 0)
      unfolding take_heading refuse
      heading_passes t z = rw (le-ltb 127 board b, ne_eqb board 0 n, le-ltb 511 table t, ne_eqb table 0 z)

-- ---- the claim
module _ (out : Bool) (played : ℕ) where
  pub passed : out ≡ true → given tt ≡ claim_by out played none
  unfolding claim_by refuse
  passed e = rw e

  module _ (e : out ≡ false) where
    pub unfinished : (played ≡ 52 → ⊥) → refused_at play_unfinished played ≡ claim_by out played none
    unfolding claim_by refuse
    unfinished n = rw (e, ne_eqb played 52 n)

    pub complete : played ≡ 52 → given tt ≡ claim_by out played none
    unfolding claim_by refuse
    complete n = rw (e, eq-eqb played 52 n)

  module _ (tricks : ℕ) where
    pub elsewhere : may_claim out played ≡ false → refused_at no_claim_point played ≡ claim_by out played (agreed tricks)
    unfolding claim_by refuse may_claim
    elsewhere m = rw (no_point out (point_at played), m)

    pub too_many : may_claim out played ≡ true → 13 - played / 4 < tricks
        → refused_at claim_too_many (min tricks 15) ≡ claim_by out played (agreed tricks)
    unfolding claim_by refuse may_claim
    too_many m o = rw (no_point out (point_at played), m, lt-leb tricks (13 - played / 4) o)

    pub agreed-to : may_claim out played ≡ true → tricks ≤ 13 - played / 4 → given tt ≡ claim_by out played (agreed tricks)
    unfolding claim_by refuse may_claim
    agreed-to m o = rw (no_point out (point_at played), m, le-leb tricks (13 - played / 4) o)
