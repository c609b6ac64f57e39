-- A seat with one card: its play is no revoke, and is not against Law 50. Assumes nothing.
use Prim.Native.Nat.{ℕ, ◌<◌}
use mathlib.Core.Path.{◌≡◌}
use mathlib.Core.Logic.{⊎_elim}
use mathlib.Core.Bool.{Bool, true, false, ◌&&◌, ◌||◌}
use mathlib.Core.List.{List}
use borrow.Author.Tests.{eqb-true}
use lib.Dec.{eqb}
use Rattle.laws.specs.Choice.{some_below}
use Rattle.laws.specs.Cards.{dealt_to}
use Rattle.laws.specs.Law44.{holds}
use Rattle.laws.specs.Events.{Event, cards_of}
use Rattle.laws.specs.Law50.{is_defender, is_faced, is_major, is_minor, is_major_of}
use Rattle.laws.specs.LeadRevoke.{seat_after, is_asked, is_able, obeys}
use Rattle.laws.specs.Failures.{is_failure, Against50C, Against50D1}
use Rattle.laws.specs.Kept.{NoneRefused}
use Rattle.laws.proofs.Tests.{by_test, and_left, and_right}
use Rattle.laws.proofs.Counts.{below-some}
use Rattle.laws.proofs.KeptCards.{faced_defender, faced-held, major-faced}
use Rattle.laws.proofs.FailuresInFull.{failure_exactly}

module _ (trump opening : ℕ) (deal : List ℕ) (e : List Event) where
  -- a penalty card of the seat at turn is in its hand
  pub own_held : NoneRefused trump opening deal e → (k : ℕ) → is_faced trump opening deal e k ≡ true → dealt_to deal k ≡ seat_after trump opening e
      → holds deal (cards_of e) (seat_after trump opening e) k ≡ true
  own_held w k f o = rw (← o) (faced-held trump opening deal e w k f)

  -- a failure is by a defender
  pub failure_defender : NoneRefused trump opening deal e → (c : ℕ) → is_failure trump opening deal e c ≡ true
      → is_defender opening (seat_after trump opening e) ≡ true
  unfolding is_minor is_major_of
  failure_defender w c f =
      ⊎_elim
      (λ (r : Against50C trump opening deal e c).
      rw (← r.minor_own) (faced_defender trump opening deal e w r.minor (and_left (is_faced trump opening deal e r.minor) _ r.minor_faced)))
      (λ (r : Against50D1 trump opening deal e c).
      let k = r.due in
      let own = eqb (dealt_to deal k) (seat_after trump opening e) in
      let m = and_left (is_major trump opening deal e k) own r.due_at_lem.major in
      rw (← eqb-true (dealt_to deal k) (seat_after trump opening e) (and_right (is_major trump opening deal e k) own r.due_at_lem.major))
      (faced_defender trump opening deal e w k (major-faced trump opening deal e k m)))
      ((failure_exactly trump opening deal e c).0 f)

  module _ (c : ℕ) (one : (k : ℕ) → k < 52 → holds deal (cards_of e) (seat_after trump opening e) k ≡ true → k ≡ c) where
    pub one-obeys : obeys trump opening deal e c ≡ true
    unfolding obeys is_able
    one-obeys =
        by_test (some_below 52 could)
        (λ (q : some_below 52 could ≡ true).
        let k = below-some could 52 q in
        let held = holds deal (cards_of e) (seat_after trump opening e) k.0 in
        let same = one k.0 k.1 (and_right (is_asked trump opening e k.0) held k.2) in
        rw (rw same at (and_left (is_asked trump opening e k.0) held k.2)))
        (λ (q : some_below 52 could ≡ false). rw q (either (is_asked trump opening e c)))
      where
        could : ℕ → Bool
        could k = is_asked trump opening e k && holds deal (cards_of e) (seat_after trump opening e) k

        either : (a : Bool) → (a || true) ≡ true
        either true = cc
        either false = cc

    pub one_no_failure : NoneRefused trump opening deal e → is_failure trump opening deal e c ≡ false
    unfolding is_minor is_major_of
    one_no_failure w =
        by_test (is_failure trump opening deal e c)
        (λ (f : is_failure trump opening deal e c ≡ true).
        ⊎_elim
        (λ (r : Against50C trump opening deal e c).
        absurd (r.other (one r.minor r.minor_card
        (own_held w r.minor (and_left (is_faced trump opening deal e r.minor) _ r.minor_faced) r.minor_own))))
        (λ (r : Against50D1 trump opening deal e c).
        let k = r.due in
        let own = eqb (dealt_to deal k) (seat_after trump opening e) in
        let m = and_left (is_major trump opening deal e k) own r.due_at_lem.major in
        let o = eqb-true (dealt_to deal k) (seat_after trump opening e) (and_right (is_major trump opening deal e k) own r.due_at_lem.major) in
        let same = one k r.due_card (own_held w k (major-faced trump opening deal e k m) o) in
        absurd (r.other (rw same at r.due_at_lem)))
        ((failure_exactly trump opening deal e c).0 f))
        (λ (f : is_failure trump opening deal e c ≡ false). f)
