-- The position and the Laws on its history, for every dealer and every history: the verdict on a code and the contract.
-- Assumes nothing.
use Rattle.std.specs.Prelude.{if◌then◌else◌}
use Prim.Native.Nat.{ℕ, ◌≤◌, ◌<◌}
use mathlib.Core.Path.{◌≡◌, refl, sym, ap, ◌∙◌}
use mathlib.Core.Logic.{◌↔◌}
use mathlib.Core.Bool.{Bool, true, false, ◌&&◌}
use mathlib.Core.List.{List}
use native.Mathlib.Omega.{arith}
use borrow.Author.Tests.{leb-true, leb-false, le-leb, lt-ltb, le-ltb, eqb-true, eqb-false, ne_eqb}
use lib.Dec.{eqb, ltb, leb}
use Rattle.laws.specs.Refusals.{accepted}
use Rattle.laws.specs.Auction.{pass, double, redouble, mark, is_bid, last_bid, has_bid, sufficient, at_or_below, may_double, may_redouble}
use Rattle.laws.specs.Auction.{is_marked, is_over, allowed, contract, trump_after, opening_after}
use Rattle.laws.specs.Auction as Law
use Rattle.laws.specs.Cards.{clockwise}
use Rattle.laws.specs.CallRefusal.{is_code, call_refusal}
use Rattle.laws.proofs.Tests.{by_test}
use Rattle.laws.proofs.CallRefusals.{accepted-is}
use Rattle.laws.proofs.Contracts.{last-bid-le}
use Rattle.std.specs.Prelude.{Ok, Err}
use Rattle.laws.specs.Refused.{number_or_none}
use Rattle.laws.specs.declared.Refusal.TheVariants.{InsufficientBid, InadmissibleDouble, WrongMark}
use Rattle.laws.proofs.RefusalNumbers.{number_not_none}
use Rattle.auction.specs.Asked.{Verdict, allow}
use Rattle.auction.specs.Position.{position_of}
use Rattle.auction.specs.Asked.{marked_verdict, verdict_of, refusal_of, contract_of, as_law}
use Rattle.auction.proofs.History.{last-is, doubling-is, over-is, marked_is}
use Rattle.auction.proofs.Doubles.{double-is, redouble-is}
use Rattle.auction.proofs.First.{declarer-is}

and_no : (b : Bool) → (b && false) ≡ false
and_no true = refl
and_no false = refl

and_no_no : (b c : Bool) → (b && (c && false)) ≡ false
and_no_no b c = ap (λ (x : Bool). b && x) (and_no c) ∙ and_no b

-- a verdict and a number, each chosen by one test
chosen : (b : Bool) (v w : Verdict) (m n : ℕ) → number_or_none v ≡ m → number_or_none w ≡ n → number_or_none (if b then v else w) ≡ (if b then m else n)
chosen true v w m n p q = p
chosen false v w m n p q = q

module _ (d : ℕ) (h : List ℕ) (c : ℕ) where
  bid-there : 0 < last_bid h → has_bid h ≡ true
  unfolding has_bid
  bid-there l = rw (ne_eqb (last_bid h) 0 (λ e. omega arith))

  -- after a mark: a bid at or below the last is at or below a last bid
  below-is : (leb 3 c && leb c (last_bid h)) ≡ (is_bid c && at_or_below h c)
  unfolding at_or_below
  below-is =
      by_test (leb c (last_bid h))
      (λ (q : leb c (last_bid h) ≡ true). by_test (leb 3 c)
      (λ (r : leb 3 c ≡ true).
      let l = leb-true 3 c r in
      let k = leb-true c (last_bid h) q in
      rw (q, r, le-leb c 37 (omega (arith, last-bid-le h)), bid-there (omega arith)))
      (λ (r : leb 3 c ≡ false). rw r))
      (λ (q : leb c (last_bid h) ≡ false). rw q (and_no (leb 3 c) ∙ sym (and_no_no (is_bid c) (has_bid h))))

  code_after_mark : is_code c ≡ true → is_over h ≡ false → is_marked h ≡ true → refusal_of (position_of d h) c ≡ call_refusal d h c
  unfolding refusal_of verdict_of marked_verdict call_refusal allowed
  code_after_mark q r m =
      simp (over-is d h, marked_is d h, last-is d h, r, m, q, le-ltb 38 c (leb-true c 38 q), below-is)
      (chosen (is_bid c && at_or_below h c) allow (Err WrongMark) 0 24 refl refl)

  -- a call of an auction that is not over, after no mark
  call_going : c ≤ 37 → is_over h ≡ false → is_marked h ≡ false → refusal_of (position_of d h) c ≡ call_refusal d h c
  unfolding refusal_of verdict_of call_refusal allowed sufficient
  call_going l r m =
      simp (
        over-is d h,
        double-is d h,
        redouble-is d h,
        last-is d h,
        marked_is d h,
        r,
        m,
        le-leb c 38 (omega arith),
        le-leb c 37 l,
        le-ltb 38 c (omega arith),
        ne_eqb c mark (λ e. omega arith),
      )
      (by_test (eqb c pass)
      (λ (s : eqb c pass ≡ true). rw s)
      (λ (s : eqb c pass ≡ false). by_test (eqb c double)
      (λ (t : eqb c double ≡ true). rw (eqb-true c double t) (chosen (may_double d h) allow (Err InadmissibleDouble) 0 7 refl refl))
      (λ (t : eqb c double ≡ false). by_test (eqb c redouble)
      (λ (u : eqb c redouble ≡ true). rw (eqb-true c redouble u) (chosen (may_redouble d h) allow (Err InadmissibleDouble) 0 7 refl refl))
      (λ (u : eqb c redouble ≡ false).
      let bid : 3 ≤ c = omega (arith, eqb-false c pass s, eqb-false c double t, eqb-false c redouble u) in
      rw (s, t, u, le-leb 3 c bid) (chosen (ltb (last_bid h) c) allow (Err InsufficientBid) 0 6 refl refl)))))

  -- a mark, which is above every bid
  mark_going : c ≡ mark → is_over h ≡ false → is_marked h ≡ false → refusal_of (position_of d h) c ≡ call_refusal d h c
  unfolding refusal_of verdict_of call_refusal allowed
  mark_going e r m = rw e (simp (over-is d h, last-is d h, marked_is d h, r, m, lt-ltb (last_bid h) 38 (omega (arith, last-bid-le h))))

  code_going : is_code c ≡ true → is_over h ≡ false → refusal_of (position_of d h) c ≡ call_refusal d h c
  code_going q r =
      by_test (is_marked h)
      (code_after_mark q r)
      (λ (m : is_marked h ≡ false). by_test (eqb c mark)
      (λ (e : eqb c mark ≡ true). mark_going (eqb-true c mark e) r m)
      (λ (e : eqb c mark ≡ false). call_going (omega (arith, leb-true c 38 q, eqb-false c mark e)) r m))

  -- the verdict's number is the Law's: 5, then 8, then 24, then 6 or 7, and 0 for a code that is allowed
  pub refusal_is : refusal_of (position_of d h) c ≡ call_refusal d h c
  unfolding refusal_of verdict_of call_refusal
  refusal_is =
      by_test (is_code c)
      (λ (q : is_code c ≡ true). by_test (is_over h)
      (λ (r : is_over h ≡ true). simp (over-is d h, q, r, le-ltb 38 c (leb-true c 38 q)))
      (λ (r : is_over h ≡ false). code_going q r))
      (λ (q : is_code c ≡ false). simp (q, lt-ltb 38 c (leb-false c 38 q)))

  -- the code is allowed exactly when the Law on the history allows the call
  pub allowed-is : (verdict_of (position_of d h) c ≡ allow) ↔ (allowed d h c ≡ true)
  unfolding refusal_of
  allowed-is = (
    λ e. (accepted-is d h c).0 (sym refusal_is ∙ ap number_or_none e),
    λ e. only-allowed (verdict_of (position_of d h) c) (refusal_is ∙ (accepted-is d h c).1 e),
  )
    where
      only-allowed : (v : Verdict) → number_or_none v ≡ accepted → v ≡ allow
      only-allowed (Ok u) e = refl
      only-allowed (Err refusal) e = absurd (number_not_none refusal e)

-- level, strain, doubling and declarer are the Law's on the history
pub contract-is : (d : ℕ) (h : List ℕ) → as_law (contract_of (position_of d h)) ≡ contract d h
unfolding contract_of contract
contract-is d h = rw (declarer-is d h, last-is d h, doubling-is d h)

-- the trump and the opening leader of the contract
pub trump_is : (d : ℕ) (h : List ℕ) → (contract_of (position_of d h)).strain ≡ trump_after h
unfolding contract trump_after
trump_is d h = ap (λ (k : Law.Contract). k.strain) (contract-is d h)

pub opening_is : (d : ℕ) (h : List ℕ) → clockwise (contract_of (position_of d h)).declarer 1 ≡ opening_after d h
unfolding contract opening_after
opening_is d h = ap (λ (k : Law.Contract). clockwise k.declarer 1) (contract-is d h)
