-- A code is refused with no number exactly when it is allowed; a number is one of a record's, and its place is at most the code's. Assumes nothing.
use Prim.Native.Nat.{ℕ, ◌≤◌, ◌<◌}
use native.Mathlib.Omega.{arith}
use mathlib.Core.Path.{◌≡◌, refl}
use mathlib.Core.Logic.{◌↔◌}
use mathlib.Core.Bool.{Bool, true, false, not, ◌&&◌}
use mathlib.Core.List.{List}
use borrow.Author.Tests.{leb-true, leb-false, lt-leb, eqb-false, ne_eqb, not-true}
use lib.Dec.{eqb, leb}
use lib.ListN.{length}
use Rattle.laws.specs.Refusals.{accepted, no_call, insufficient_bid, inadmissible_double, call_after_end, wrong_mark, refuses_record}
use Rattle.laws.specs.Auction.{is_bid, codes_before, is_marked, is_over, allowed}
use Rattle.laws.specs.CallRefusal.{is_code, call_refusal, place_of, call_place}
use Rattle.laws.proofs.Tests.{by_test, not_both}
use Rattle.laws.proofs.RecordNumbers.{not_none}

and_no : (b : Bool) → (b && false) ≡ false
and_no true = refl
and_no false = refl

module _ (d : ℕ) (h : List ℕ) (c : ℕ) where
  -- no Law allows what is neither a call nor a mark
  pub no_call_lem : is_code c ≡ false → allowed d h c ≡ false
  unfolding allowed
  no_call_lem q =
      let above : 38 < c = leb-false c 38 q in
      simp (
        lt-leb c 37 (omega arith),
        ne_eqb c 0 (λ e. omega arith),
        ne_eqb c 1 (λ e. omega arith),
        ne_eqb c 2 (λ e. omega arith),
        ne_eqb c 38 (λ e. omega arith),
        and_no (leb 3 c),
      )
      (by_test (is_over h) (λ (r : is_over h ≡ true). rw r) (λ (r : is_over h ≡ false). by_test (is_marked h)
      (λ (s : is_marked h ≡ true). rw (r, s))
      (λ (s : is_marked h ≡ false). rw (r, s))))

  -- nor a code after the end
  pub after_end : is_over h ≡ true → allowed d h c ≡ false
  unfolding allowed
  after_end q = rw q

  allowed-accepted : allowed d h c ≡ true → call_refusal d h c ≡ accepted
  unfolding call_refusal
  allowed-accepted e =
      by_test (is_code c)
      (λ (q : is_code c ≡ true). by_test (is_over h)
      (λ (r : is_over h ≡ true). not_both (allowed d h c) e (after_end r))
      (λ (r : is_over h ≡ false). rw (q, r, e)))
      (λ (q : is_code c ≡ false). not_both (allowed d h c) e (no_call_lem q))

  -- what is not allowed has one of five numbers, and so passes every test that they pass
  refused : (test : ℕ → Bool) → test no_call ≡ true → test insufficient_bid ≡ true → test inadmissible_double ≡ true → test call_after_end ≡ true
      → test wrong_mark ≡ true → allowed d h c ≡ false → test (call_refusal d h c) ≡ true
  unfolding call_refusal
  refused test t₅ t₆ t₇ t₈ t₂₄ e =
      by_test (is_code c)
      (λ (q : is_code c ≡ true). by_test (is_over h)
      (λ (r : is_over h ≡ true). rw (q, r) t₈)
      (λ (r : is_over h ≡ false). by_test (is_marked h)
      (λ (m : is_marked h ≡ true). rw (q, r, e, m) t₂₄)
      (λ (m : is_marked h ≡ false). by_test (is_bid c)
      (λ (s : is_bid c ≡ true). rw (s, q, r, e, m) t₆)
      (λ (s : is_bid c ≡ false). rw (s, q, r, e, m) t₇))))
      (λ (q : is_code c ≡ false). rw q t₅)

  accepted-allowed : call_refusal d h c ≡ accepted → allowed d h c ≡ true
  accepted-allowed e =
      by_test (allowed d h c)
      (λ (q : allowed d h c ≡ true). q)
      (λ (q : allowed d h c ≡ false). absurd (not_none (refused refuses_record refl refl refl refl refl q) e))

  pub numbered_by : (test : ℕ → Bool) → test no_call ≡ true → test insufficient_bid ≡ true → test inadmissible_double ≡ true → test call_after_end ≡ true
      → test wrong_mark ≡ true → not (eqb (call_refusal d h c) accepted) ≡ true → test (call_refusal d h c) ≡ true
  numbered_by test t₅ t₆ t₇ t₈ t₂₄ e =
      by_test (allowed d h c)
      (λ (q : allowed d h c ≡ true). absurd (eqb-false _ _ (not-true _ e) (allowed-accepted q)))
      (λ (q : allowed d h c ≡ false). refused test t₅ t₆ t₇ t₈ t₂₄ q)

  -- a call that is refused has a number of a record
  pub numbered : not (eqb (call_refusal d h c) accepted) ≡ true → refuses_record (call_refusal d h c) ≡ true
  numbered = numbered_by refuses_record refl refl refl refl refl

  pub accepted-is : (call_refusal d h c ≡ accepted) ↔ (allowed d h c ≡ true)
  accepted-is = (accepted-allowed, allowed-accepted)

-- the place is that of the code, or of the code before it
pub place-le : (n codes : ℕ) → place_of n codes ≤ codes
unfolding place_of
place-le n codes = by_test (eqb n wrong_mark) (λ (q : eqb n wrong_mark ≡ true). rw q (omega arith)) (λ (q : eqb n wrong_mark ≡ false). rw q (omega arith))

pub call-place-le : (d : ℕ) (h : List ℕ) (c : ℕ) → call_place d h c ≤ length h
unfolding call_place codes_before
call-place-le d h c = place-le (call_refusal d h c) (length h)

-- what is allowed is a call or a mark, and fits six bits
pub allowed_lt : (d : ℕ) (h : List ℕ) (c : ℕ) → allowed d h c ≡ true → c < 64
allowed_lt d h c e =
    by_test (is_code c)
    (λ (q : is_code c ≡ true). let l : c ≤ 38 = leb-true c 38 q in omega arith)
    (λ (q : is_code c ≡ false). not_both (allowed d h c) e (no_call_lem d h c q))
