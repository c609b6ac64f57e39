-- A play without codes: no card is faced, nothing is required or forbidden, no play is against Law 50, and what is listed is what Law 61 lists of the cards.
-- Assumes nothing.
use Prim.Native.Nat.{ℕ}
use mathlib.Core.Path.{◌≡◌, refl, sym, ap}
use mathlib.Core.Bool.{Bool, true, false, not, ◌&&◌, ◌||◌}
use mathlib.Core.List.{List, [], ◌∷◌, map, map-append, append-nil}
use native.Mathlib.Omega.{arith}
use borrow.Author.Tests.{not-true}
use lib.Dec.{eqb}
use Rattle.laws.specs.Choice.{some_below}
use Rattle.laws.specs.Cards.{suit_of}
use Rattle.laws.specs.Law44.{cards_in_trick, trick_under_way, suit_led, is_of}
use Rattle.laws.specs.Law61.{holds_suit, is_revoke, revoke_at, revokes}
use Rattle.laws.specs.CardRefusal.{card_refusal}
use Rattle.laws.specs.Events.{Event, played, exposed, choice, cards_of, codes_of, list_plays, as_events}
use Rattle.laws.specs.Law50.{is_honour, is_faced, is_faced_of, is_major, is_major_of, is_minor}
use Rattle.laws.specs.Law51.{no_suit, required, is_forbidden}
use Rattle.laws.specs.LeadRevoke.{is_asked, is_able, obeys, disobeys, is_excused, listed_suit, revoke_by, counted, counted_by, counted_revokes, all_revokes}
use Rattle.laws.specs.Failures.{is_own_minor, is_against_50c, is_due, is_against_50d1, is_failure, failures}
use Rattle.laws.specs.CodeRefusal.{event_refusal}
use Rattle.laws.proofs.Tests.{by_test, and_left}
use Rattle.laws.proofs.Counts.{some-none}

pub cards-alone : (g : List ℕ) → cards_of (as_events g) ≡ g
unfolding cards_of as_events
cards-alone [] = refl
cards-alone (c ∷ g) = rw (cards-alone g)

pub no_codes : (g : List ℕ) → codes_of (as_events g) ≡ 0
unfolding codes_of as_events
no_codes [] = refl
no_codes (c ∷ g) = no_codes g

-- a history without codes is its cards alone
pub without-codes : (e : List Event) → codes_of e ≡ 0 → e ≡ as_events (cards_of e)
unfolding codes_of cards_of as_events
without-codes [] n = refl
without-codes (played c ∷ e) n = ap (λ (l : List Event). played c ∷ l) (without-codes e n)
without-codes (exposed c deliberate ∷ e) n = absurd (omega arith)
without-codes (choice kind suit ∷ e) n = absurd (omega arith)

pub none_required : (g : List ℕ) → required (as_events g) ≡ no_suit
unfolding required as_events
none_required [] = refl
none_required (c ∷ g) = refl

module _ (trump opening : ℕ) where
  pub none-forbidden : (g : List ℕ) (s : ℕ) → is_forbidden trump opening (as_events g) s ≡ false
  unfolding is_forbidden as_events
  none-forbidden [] s = refl
  none-forbidden (c ∷ g) s = rw (none-forbidden g s)

module _ (trump opening : ℕ) (deal : List ℕ) where
  pub none-faced : (g : List ℕ) (k : ℕ) → is_faced trump opening deal (as_events g) k ≡ false
  unfolding is_faced as_events
  none-faced [] k = refl
  none-faced (c ∷ g) k = rw (none-faced g k)

  pub none-major : (g : List ℕ) (k : ℕ) → is_major trump opening deal (as_events g) k ≡ false
  unfolding is_major as_events
  none-major [] k = refl
  none-major (c ∷ g) k = rw (none-major g k)

  -- the first card of a trick is free, and any other is asked as Law 44 has it
  pub obeys-alone : (g : List ℕ) (c : ℕ) → obeys trump opening deal (as_events g) c ≡ not (is_revoke trump opening deal g c)
  unfolding obeys is_able is_asked is_revoke holds_suit
  obeys-alone g c =
      rw (cards-alone g, none_required g, none-forbidden trump opening g (suit_of c)) (by_test (eqb (cards_in_trick g) 0)
      (λ (q : eqb (cards_in_trick g) 0 ≡ true). rw q)
      (λ (q : eqb (cards_in_trick g) 0 ≡ false). rw q (not_both_fail (is_of (suit_led (trick_under_way g)) c) _)))
    where
      not_both_fail : (a b : Bool) → (a || not b) ≡ not (not a && b)
      not_both_fail true b = refl
      not_both_fail false b = refl

  pub none-excused : (g : List ℕ) → is_excused trump opening deal (as_events g) ≡ false
  unfolding is_excused is_faced_of
  none-excused g = some-none 52 _ (λ k h. rw (none-faced g k))

  none-due : (g : List ℕ) → some_below 52 (λ k. is_due trump opening deal (as_events g) k) ≡ false
  unfolding is_due is_major_of
  none-due g = some-none 52 _ (λ k h. rw (none-major g k))

  none_50c : (g : List ℕ) (c : ℕ) → is_against_50c trump opening deal (as_events g) c ≡ false
  unfolding is_against_50c is_own_minor is_minor
  none_50c g c =
      let before : ℕ → Bool = λ (m : ℕ). is_own_minor trump opening deal (as_events g) m && (not (eqb m c) && is_of (suit_of m) c) in
      rw (some-none 52 before (λ k h. rw (none-faced g k))) (none (not (is_honour c)))
    where
      none : (b : Bool) → (b && false) ≡ false
      none true = refl
      none false = refl

  pub no_failure : (g : List ℕ) (c : ℕ) → is_failure trump opening deal (as_events g) c ≡ false
  unfolding is_failure is_against_50d1
  no_failure g c = rw (none_50c g c, none-due g)

  pub failures-alone : (g : List ℕ) → failures trump opening deal (as_events g) ≡ []
  unfolding failures list_plays as_events
  failures-alone [] = refl
  failures-alone (c ∷ g) = rw (failures-alone g, no_failure g c)

  -- a revoke is listed with the suit led
  as_listed : (g : List ℕ) (c : ℕ) → is_revoke trump opening deal g c ≡ true → revoke_by trump opening (as_events g) c ≡ revoke_at trump opening g
  unfolding revoke_by revoke_at listed_suit is_revoke
  as_listed g c r =
      let follows = not-true (eqb (cards_in_trick g) 0) (and_left (not (eqb (cards_in_trick g) 0)) _ r) in
      rw (cards-alone g, follows)

  -- the theorem: what is listed of a play without codes is what Law 61 lists of its cards, and none of it is excused
  pub revokes-alone : (g : List ℕ) → all_revokes trump opening deal (as_events g) ≡ revokes trump opening deal g
  unfolding all_revokes list_plays disobeys revokes as_events
  revokes-alone [] = refl
  revokes-alone (c ∷ g) =
      rw (revokes-alone g, obeys-alone g c) (by_test (is_revoke trump opening deal g c)
      (λ (q : is_revoke trump opening deal g c ≡ true). rw (q, as_listed g c q))
      (λ (q : is_revoke trump opening deal g c ≡ false). rw q))

  pub counted-alone : (g : List ℕ)
      → counted_revokes trump opening deal (as_events g) ≡ map (λ r. counted r false) (revokes trump opening deal g)
  unfolding counted_revokes counted_by list_plays disobeys revokes as_events
  counted-alone [] = refl
  counted-alone (c ∷ g) =
      rw (counted-alone g, obeys-alone g c, none-excused g) (by_test (is_revoke trump opening deal g c)
      (λ (q : is_revoke trump opening deal g c ≡ true). rw (q, as_listed g c q)
      (sym (map-append _ (revokes trump opening deal g) (revoke_at trump opening g ∷ []))))
      (λ (q : is_revoke trump opening deal g c ≡ false). rw (q, append-nil (revokes trump opening deal g)) (append-nil _)))

  pub refused-alone : (g : List ℕ) (c : ℕ) → event_refusal trump opening deal (as_events g) (played c) ≡ card_refusal trump opening deal g c
  unfolding event_refusal
  refused-alone g c = rw (cards-alone g)
