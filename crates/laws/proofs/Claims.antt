-- The claim's section is exact: without a mark a contract needs all cards, and a mark needs a contract, a point for it, and tricks that are left.
-- Assumes nothing.
use Prim.Native.Nat.{ℕ, ◌+◌}
use native.Mathlib.Omega.{arith}
use mathlib.Core.Path.{◌≡◌, refl, ap}
use mathlib.Core.Bool.{true, false}
use mathlib.Core.List.{List}
use borrow.Author.Tests.{not-false, eqb-true, eqb-false}
use lib.Dec.{eqb}
use Rattle.laws.specs.Refusals.{play_unfinished, no_claim_point, claim_too_many}
use Rattle.laws.specs.Auction.{passed_out}
use Rattle.laws.specs.Law44.{cards_played, all_played}
use Rattle.laws.specs.Law68.{Claim, none, agreed}
use Rattle.laws.specs.Reading.{number_at, Reading.found}
use Rattle.laws.specs.Record.{claim_fields}
use Rattle.laws.specs.Judge.{read_no_claim, read_marked_claim, read_claim}
use Rattle.laws.specs.Lawful.{Claimed}
use Rattle.laws.proofs.Tests.{by_test, or_left, or_right}
use Rattle.laws.proofs.Bits.{number_lt}
use Rattle.laws.proofs.Spelled.{Stands}
use Rattle.laws.proofs.Readings.{first_read, first_test, read_is, test_is}
use Rattle.laws.proofs.Exact.{Exact, landed, stands_cons, stands_here, stands-fits, stands-rest, stands_nil, stands_end}

module _ (h g : List ℕ) where
  claim-there : (bytes : List ℕ) (at : ℕ) (x : Claim) (end : ℕ) → Claimed h g x → Stands bytes at (claim_fields x) end → read_claim h g bytes at ≡ found x end
  unfolding claim_fields read_claim read_no_claim read_marked_claim
  claim-there bytes at none end ok k =
      let stop = ap (λ (y : ℕ). found none y) (stands_end (stands-rest k)) in
      by_test (passed_out h)
      (λ (t : passed_out h ≡ true). simp (read_is 1 bytes at (stands_here k) (stands-fits k), t, test_is) stop)
      (λ (f : passed_out h ≡ false). simp (read_is 1 bytes at (stands_here k) (stands-fits k), f, ok f, test_is) stop)
  claim-there bytes at (agreed tricks) end ok k =
      let r = stands-rest k in
      simp (
        read_is 1 bytes at (stands_here k) (stands-fits k),
        ok.0,
        ok.1,
        read_is 4 bytes (at + 1) (stands_here r) (stands-fits r),
        ok.2,
        test_is,
      ) (ap (λ (y : ℕ). found (agreed tricks) y) (stands_end (stands-rest r)))

  pub claim_exact : Exact (read_claim h g) (Claimed h g) claim_fields
  unfolding claim_fields read_claim read_no_claim read_marked_claim
  claim_exact =
      record {
        reads = λ bytes at x end l q.
            let mark : ℕ = number_at bytes at 1 in
            let m = first_read 1 bytes at _ q in
            by_test (eqb mark 0)
            (λ (z : eqb mark 0 ≡ true).
            let t = first_test play_unfinished (cards_played g) _ bytes (at + 1) _ (rw z at m.1) in
            let at_end = stands_cons (eqb-true mark 0 z) (stands_nil refl m.0) in
            landed (Claimed h g) claim_fields {a = none} t.1 (λ f. not-false (all_played g) (rw f at t.0), at_end))
            (λ (z : eqb mark 0 ≡ false).
            let one : mark ≡ 1 = omega (arith, eqb-false mark 0 z, number_lt bytes at 1) in
            let t = first_test no_claim_point (cards_played g) _ bytes (at + 1) _ (rw z at m.1) in
            let r = first_read 4 bytes (at + 1) _ t.1 in
            let tricks : ℕ = number_at bytes (at + 1) 4 in
            let u = first_test claim_too_many tricks _ bytes (at + 1 + 4) _ r.1 in
            landed (Claimed h g) claim_fields {a = agreed tricks} u.1 (
              (
                or_left (passed_out h) _ t.0,
                not-false _ (or_right (passed_out h) _ t.0),
                not-false _ u.0,
              ),
              stands_cons one (stands_cons refl (stands_nil refl r.0)),
            ));
        is = claim-there;
      }
