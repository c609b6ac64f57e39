-- The claim in the code is the Laws' section: a law for each way out, over what was read. Assumes nothing.
use Prim.Native.Nat.{ℕ, ◌≤◌, ◌<◌, ◌+◌, ◌-◌, ◌/◌}
use mathlib.Core.Path.{◌≡◌, refl}
use mathlib.Core.Bool.{Bool, true, false, not, ◌&&◌}
use mathlib.Core.List.{List, []}
use borrow.Author.Tests.{eq-eqb, ne_eqb, le-leb, lt-leb}
use Rattle.laws.specs.Reading.{Reading.refused, Reading.found, read, refuse}
use Rattle.std.specs.Prelude.{Option, None, Some}
use Rattle.laws.specs.Refusals.{Placed, refused_at, given, play_unfinished, no_claim_point, claim_too_many}
use Rattle.last_card.specs.declared.reading.Read.{Read}
use Rattle.judgement.specs.Claims.{claim_of, no_claim_by, marked_by, claim_by}
use Rattle.claims.specs.Claims.{point_at, may_claim}
use Rattle.claims.proofs.ClaimPoints.{no_point}

none_left : (b : Bool) → (not b && false) ≡ false
none_left true = refl
none_left false = refl

-- ---- no claim
module _ (out : Bool) (played : ℕ) (bytes : List ℕ) (at : ℕ) where
  abbrev unclaimed : Placed (Read (Option ℕ))
  unclaimed = given (record { value = None; next = at })

  pub unfinished : out ≡ false → (played ≡ 52 → ⊥) → refused_at play_unfinished played ≡ claim_of (no_claim_by out played bytes at)
  unfolding no_claim_by refuse
  unfinished e n = rw (e, ne_eqb played 52 n)

  pub complete : played ≡ 52 → unclaimed ≡ claim_of (no_claim_by out played bytes at)
  unfolding no_claim_by refuse
  complete e = rw (eq-eqb played 52 e, none_left out)

  pub passed : out ≡ true → unclaimed ≡ claim_of (no_claim_by out played bytes at)
  unfolding no_claim_by refuse
  passed e = rw e

  -- ---- a marked claim
  pub claim_elsewhere : may_claim out played ≡ false → refused_at no_claim_point played ≡ claim_of (marked_by out played bytes at)
  unfolding marked_by refuse may_claim
  claim_elsewhere p = rw (no_point out (point_at played), p)

  module _ (p : may_claim out played ≡ true) where
    pub claim-short : {n place : ℕ} → read 4 bytes at ≡ refused n place → refused_at n place ≡ claim_of (marked_by out played bytes at)
    unfolding marked_by refuse may_claim
    claim-short q = rw (no_point out (point_at played), p, q)

    module _ (tricks : ℕ) (q : read 4 bytes at ≡ found tricks (at + 4)) where
      pub claim_too_many_lem : 13 - played / 4 < tricks → refused_at claim_too_many tricks ≡ claim_of (marked_by out played bytes at)
      unfolding marked_by refuse may_claim
      claim_too_many_lem h = rw (no_point out (point_at played), p, q, lt-leb tricks (13 - played / 4) h)

      pub claim-agreed : tricks ≤ 13 - played / 4 → given (record { value = Some tricks; next = at + 4 })
          ≡ claim_of (marked_by out played bytes at)
      unfolding marked_by refuse may_claim
      claim-agreed h = rw (no_point out (point_at played), p, q, le-leb tricks (13 - played / 4) h)

  -- ---- the mark
  pub mark-short : {n place : ℕ} → read 1 bytes at ≡ refused n place → refused_at n place ≡ claim_of (claim_by out played bytes at)
  unfolding claim_by
  mark-short q = rw q

  module _ (mark : ℕ) (q : read 1 bytes at ≡ found mark (at + 1)) where
    pub unmarked : mark ≡ 0 → claim_of (no_claim_by out played bytes (at + 1)) ≡ claim_of (claim_by out played bytes at)
    unfolding claim_by
    unmarked z = rw (q, eq-eqb mark 0 z)

    pub marked : (mark ≡ 0 → ⊥) → claim_of (marked_by out played bytes (at + 1)) ≡ claim_of (claim_by out played bytes at)
    unfolding claim_by
    marked z = rw (q, ne_eqb mark 0 z)

-- where no claim is marked, nothing more is read
pub reads_none : (out : Bool) (played at : ℕ) (bytes : List ℕ) → no_claim_by out played [] at ≡ no_claim_by out played bytes at
unfolding no_claim_by refuse
reads_none out played at bytes = refl
