-- Theorems on the count of Law 64: its bound, and when it is nothing. Assumes nothing.
use Prim.Native.Nat.{ℕ, ◌≤◌}
use mathlib.Core.Path.{◌≡◌, refl}
use mathlib.Core.Bool.{true, false}
use mathlib.Core.List.{List, [], ◌∷◌}
use native.Mathlib.Omega.{arith}
use borrow.Author.Tests.{eqb-true}
use lib.Dec.{eqb}
use Rattle.laws.specs.LeadRevoke.{Counted}
use Rattle.laws.specs.Law64.{Due, entitlement, dues, total, both_revoked, transferred_tricks}
use Rattle.laws.proofs.Tests.{by_test}
use Rattle.transfer.specs.Limits.{won_from_first, AllExempt}

total-le : (ds : List Due) → total ds ≤ won_from_first ds
unfolding total won_from_first
total-le [] = omega arith
total-le (d ∷ ds) =
    by_test (eqb d.tricks 0)
    (λ (q : eqb d.tricks 0 ≡ true). rw q (omega (arith, eqb-true d.tricks 0 q, total-le ds)))
    (λ (q : eqb d.tricks 0 ≡ false). rw q (omega arith))

module _ (dummy : ℕ) (ws : List ℕ) (claimed : ℕ → ℕ) where
  -- 64B7: nothing where both sides have revoked
  pub none_if_both : (rs : List Counted) → both_revoked rs ≡ true → transferred_tricks dummy ws claimed rs ≡ 0
  unfolding transferred_tricks
  none_if_both rs e = rw e

  -- never more than the tricks that the offending side won from the first rectified revoke on
  pub at_most_won : (rs : List Counted) → transferred_tricks dummy ws claimed rs ≤ won_from_first (dues dummy ws claimed [] rs)
  unfolding transferred_tricks
  at_most_won rs =
      by_test (both_revoked rs)
      (λ (q : both_revoked rs ≡ true). rw q (omega arith))
      (λ (q : both_revoked rs ≡ false). rw q (total-le (dues dummy ws claimed [] rs)))

  none_exempt : (before rs : List Counted) → AllExempt dummy before rs → total (dues dummy ws claimed before rs) ≡ 0
  unfolding AllExempt dues total entitlement
  none_exempt before [] w = refl
  none_exempt before (r ∷ rs) w = rw (w.0, none_exempt (r ∷ before) rs w.1) (omega arith)

  -- nothing where every revoke is exempt
  pub none_if_exempt : (rs : List Counted) → AllExempt dummy [] rs → transferred_tricks dummy ws claimed rs ≡ 0
  unfolding transferred_tricks
  none_if_exempt rs w =
      by_test (both_revoked rs)
      (λ (q : both_revoked rs ≡ true). rw q)
      (λ (q : both_revoked rs ≡ false). rw q (none_exempt [] rs w))
