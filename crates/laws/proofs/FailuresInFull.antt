-- A play is against Law 50C or 50D1 exactly when the one or the other holds in full. Assumes nothing.
use Prim.Native.Nat.{ℕ}
use mathlib.Core.Path.{◌≡◌, refl}
use mathlib.Core.Logic.{◌↔◌, ◌⊎◌, inl, inr, ⊎_elim}
use mathlib.Core.Bool.{Bool, true, false, not, ◌&&◌, ◌||◌}
use mathlib.Core.List.{List}
use borrow.Author.Tests.{eqb-true, eqb-false, eq-eqb, ne_eqb, not-true}
use lib.Dec.{eqb}
use Rattle.laws.specs.Choice.{some_below}
use Rattle.laws.specs.Cards.{suit_of, dealt_to}
use Rattle.laws.specs.Law44.{is_of}
use Rattle.laws.specs.Events.{Event}
use Rattle.laws.specs.Law50.{is_honour, is_minor, is_major_of}
use Rattle.laws.specs.LeadRevoke.{seat_after, obeys}
use Rattle.laws.specs.Failures.{is_own_minor, is_against_50c, is_due, is_against_50d1, is_failure, Against50C, DueAt, Against50D1}
use Rattle.laws.proofs.Tests.{by_test, not_both, and_left, and_right, and_both}
use Rattle.laws.proofs.Counts.{below-some, some_below_lem}

module _ (trump opening : ℕ) (deal : List ℕ) (e : List Event) (c : ℕ) where
  abbrev before : ℕ → Bool
  before m = is_own_minor trump opening deal e m && (not (eqb m c) && is_of (suit_of m) c)

  tells_50c : is_against_50c trump opening deal e c ≡ true → Against50C trump opening deal e c
  unfolding is_against_50c is_own_minor
  tells_50c a =
      let low = not (is_honour c) in
      let m = below-some before 52 (and_right low (some_below 52 before) a) in
      let own = eqb (dealt_to deal m.0) (seat_after trump opening e) in
      let minor = and_left (is_minor trump opening deal e m.0 && own) (not (eqb m.0 c) && is_of (suit_of m.0) c) m.2 in
      let other = and_right (is_minor trump opening deal e m.0 && own) (not (eqb m.0 c) && is_of (suit_of m.0) c) m.2 in
      record {
        low = not-true (is_honour c) (and_left low (some_below 52 before) a);
        minor = m.0;
        minor_card = m.1;
        minor_faced = and_left (is_minor trump opening deal e m.0) own minor;
        minor_own = eqb-true (dealt_to deal m.0) (seat_after trump opening e) (and_right (is_minor trump opening deal e m.0) own minor);
        other = eqb-false m.0 c (not-true (eqb m.0 c) (and_left (not (eqb m.0 c)) (is_of (suit_of m.0) c) other));
        same_suit = eqb-true (suit_of c) (suit_of m.0) (and_right (not (eqb m.0 c)) (is_of (suit_of m.0) c) other);
      }

  is_50c : Against50C trump opening deal e c → is_against_50c trump opening deal e c ≡ true
  unfolding is_against_50c is_own_minor
  is_50c r =
      let m = r.minor in
      let passes : before m ≡ true =
      rw (
        r.minor_faced,
        eq-eqb (dealt_to deal m) (seat_after trump opening e) r.minor_own,
        ne_eqb m c r.other,
        eq-eqb (suit_of c) (suit_of m) r.same_suit,
      ) in
      rw (r.low, some_below_lem before 52 m r.minor_card passes)

  pub against_50c_lem : (is_against_50c trump opening deal e c ≡ true) ↔ Against50C trump opening deal e c
  against_50c_lem = (tells_50c, is_50c)

module _ (trump opening : ℕ) (deal : List ℕ) (e : List Event) where
  abbrev major_own : ℕ → Bool
  major_own k = is_major_of trump opening deal e (seat_after trump opening e) k

  due_tells : (k : ℕ) → is_due trump opening deal e k ≡ true → DueAt trump opening deal e k
  unfolding is_due
  due_tells k d =
      record {
        major = and_left (major_own k) (obeys trump opening deal e k) d;
        no_revoke = and_right (major_own k) (obeys trump opening deal e k) d;
      }

  is-due : (k : ℕ) → DueAt trump opening deal e k → is_due trump opening deal e k ≡ true
  unfolding is_due
  is-due k d = and_both (major_own k) (obeys trump opening deal e k) d.major d.no_revoke

  pub due-exactly : (k : ℕ) → (is_due trump opening deal e k ≡ true) ↔ DueAt trump opening deal e k
  due-exactly k = (due_tells k, is-due k)

  abbrev due : ℕ → Bool
  due k = is_due trump opening deal e k

  tells_50d1 : (c : ℕ) → is_against_50d1 trump opening deal e c ≡ true → Against50D1 trump opening deal e c
  unfolding is_against_50d1
  tells_50d1 c a =
      let k = below-some due 52 (and_left (some_below 52 due) (not (due c)) a) in
      record {
        due = k.0;
        due_card = k.1;
        due_at_lem = due_tells k.0 k.2;
        other = λ d. not_both (due c) (is-due c d) (not-true (due c) (and_right (some_below 52 due) (not (due c)) a));
      }

  is_50d1 : (c : ℕ) → Against50D1 trump opening deal e c → is_against_50d1 trump opening deal e c ≡ true
  unfolding is_against_50d1
  is_50d1 c r =
      let none : due c ≡ false = by_test (due c) (λ (q : due c ≡ true). absurd (r.other (due_tells c q))) (λ (q : due c ≡ false). q) in
      rw (some_below_lem due 52 r.due r.due_card (is-due r.due r.due_at_lem), none)

  pub against_50d1_lem : (c : ℕ) → (is_against_50d1 trump opening deal e c ≡ true) ↔ Against50D1 trump opening deal e c
  against_50d1_lem c = (tells_50d1 c, is_50d1 c)

  -- the theorem: the test of a failure is what the Law says of it
  pub failure_exactly : (c : ℕ) → (is_failure trump opening deal e c ≡ true) ↔ (Against50C trump opening deal e c ⊎ Against50D1 trump opening deal e c)
  unfolding is_failure
  failure_exactly c = (tells, is_so)
    where
      tells : is_failure trump opening deal e c ≡ true → Against50C trump opening deal e c ⊎ Against50D1 trump opening deal e c
      tells f =
          by_test (is_against_50c trump opening deal e c)
          (λ (q : is_against_50c trump opening deal e c ≡ true). inl (tells_50c trump opening deal e c q))
          (λ (q : is_against_50c trump opening deal e c ≡ false). inr (tells_50d1 c (rw q at f)))

      either : (a b : Bool) → b ≡ true → (a || b) ≡ true
      either true b e = refl
      either false b e = e

      is_so : Against50C trump opening deal e c ⊎ Against50D1 trump opening deal e c → is_failure trump opening deal e c ≡ true
      is_so =
          ⊎_elim
          (λ (r : Against50C trump opening deal e c). rw (is_50c trump opening deal e c r))
          (λ (r : Against50D1 trump opening deal e c). either (is_against_50c trump opening deal e c) (is_against_50d1 trump opening deal e c) (is_50d1 c r))
