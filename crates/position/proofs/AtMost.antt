-- At most 48 revokes are listed and at most 24 plays against Law 50: on the thirteenth trick a seat has one card. Assumes nothing.
use Rattle.std.specs.Prelude.{if◌then◌else◌}
use Prim.Native.Nat.{ℕ, ◌≤◌, ◌<◌, ◌+◌, ◌-◌, ◌%◌}
use mathlib.Core.Path.{◌≡◌, ◌∙◌}
use mathlib.Core.Logic.{◌⊎◌, inl, inr, ⊎_elim}
use mathlib.Core.Bool.{Bool, true, false}
use mathlib.Core.List.{List, [], ◌∷◌}
use native.Mathlib.Omega.{arith}
use borrow.Author.Tests.{eqb-true, eqb-false, eq-eqb, ltb-true, ltb-false}
use lib.Dec.{eqb, ltb}
use lib.ListN.{length, length-append}
use Rattle.laws.specs.Cards.{same_side, dealt_to, cards_dealt}
use Rattle.laws.specs.Law44.{cards_played, tricks_complete, cards_in_trick, leader, holds}
use Rattle.laws.specs.Law61.{Revoke}
use Rattle.laws.specs.Events.{Event, played, exposed, choice, cards_of, list_plays}
use Rattle.laws.specs.Law50.{is_defender}
use Rattle.laws.specs.LeadRevoke.{seat_after, disobeys, revoke_by, all_revokes}
use Rattle.laws.specs.Failures.{Failure, is_failure, failure_by, failures}
use Rattle.laws.specs.CodeRefusal.{event_refusal}
use Rattle.laws.specs.Kept.{NoneRefused}
use Rattle.laws.proofs.Tests.{by_test, not_both, and_left, and_right}
use Rattle.laws.proofs.OneCard.{one-obeys, one_no_failure, failure_defender}
use Rattle.play.specs.History.{AllPlayed, plays_of}
use Rattle.play.proofs.Cards.{fair}
use Rattle.play.proofs.Thirteen.{plays_law, turn_plays, two-held}

-- the cards of a history of which no event is refused are allowed, each after those before it
pub cards-allowed : (deal : List ℕ) (trump opening : ℕ) (e : List Event) → NoneRefused trump opening deal e → AllPlayed deal trump opening (cards_of e)
unfolding NoneRefused AllPlayed cards_of event_refusal
cards-allowed deal trump opening [] w = tt
cards-allowed deal trump opening (played c ∷ e) w = (w.0, cards-allowed deal trump opening e w.1)
cards-allowed deal trump opening (exposed c deliberate ∷ e) w = cards-allowed deal trump opening e w.1
cards-allowed deal trump opening (choice kind suit ∷ e) w = cards-allowed deal trump opening e w.1

-- a play makes one entry where it passes the test, and none where it does not
module _ {A : Type 0} (test : List Event → ℕ → Bool) (entry : List Event → ℕ → A) (c : ℕ) (e : List Event) where
  pub entry_more : test e c ≡ true → length (list_plays test entry (played c ∷ e)) ≡ length (list_plays test entry e) + 1
  unfolding list_plays
  entry_more q = rw q (length-append (list_plays test entry e) (entry e c ∷ []))

  pub entry-none : test e c ≡ false → length (list_plays test entry (played c ∷ e)) ≡ length (list_plays test entry e)
  unfolding list_plays
  entry-none q = rw q (length-append (list_plays test entry e) [] ∙ omega arith)

-- the card that is played from a hand
pub card-held : (deal : List ℕ) (trump opening c : ℕ) (e : List Event) → NoneRefused trump opening deal (played c ∷ e)
    → (c < 52) × (holds deal (cards_of e) (seat_after trump opening e) c ≡ true)
unfolding NoneRefused event_refusal holds
card-held deal trump opening c e w =
    let f = fair trump opening deal (cards_of e) c w.0 in
    (f.code, rw (eq-eqb (dealt_to deal c) (seat_after trump opening e) f.held, f.unplayed))

module _ (deal : List ℕ) (trump opening : ℕ) (all : length deal ≡ 52) (dealt : (seat : ℕ) → seat < 4 → cards_dealt seat deal ≡ 13) where
  -- after twelve tricks the seat at turn has one card
  one-card : (c : ℕ) (e : List Event) → NoneRefused trump opening deal (played c ∷ e) → 12 ≤ tricks_complete (cards_of e)
      → (k : ℕ) → k < 52 → holds deal (cards_of e) (seat_after trump opening e) k ≡ true → k ≡ c
  unfolding NoneRefused
  one-card c e w late k h held =
      let o = card-held deal trump opening c e w in
      by_test (eqb k c)
      (λ (q : eqb k c ≡ true). eqb-true k c q)
      (λ (q : eqb k c ≡ false).
      let allowed = cards-allowed deal trump opening e w.1 in
      absurd (omega (arith, two-held deal trump opening all dealt c k (cards_of e) allowed o.0 h (eqb-false k c q) o.1 held)))

  -- so what is no play of the last card is not on the thirteenth trick
  early : (test : List Event → ℕ → Bool) → ((c : ℕ) (e : List Event) → NoneRefused trump opening deal e
      → ((k : ℕ) → k < 52 → holds deal (cards_of e) (seat_after trump opening e) k ≡ true → k ≡ c) → test e c ≡ false)
      → (c : ℕ) (e : List Event) → NoneRefused trump opening deal (played c ∷ e) → test e c ≡ true → tricks_complete (cards_of e) < 12
  unfolding NoneRefused
  early test none c e w t =
      by_test (ltb (tricks_complete (cards_of e)) 12)
      (λ (q : ltb (tricks_complete (cards_of e)) 12 ≡ true). ltb-true (tricks_complete (cards_of e)) 12 q)
      (λ (q : ltb (tricks_complete (cards_of e)) 12 ≡ false).
      not_both (test e c) t (none c e w.1 (one-card c e w (ltb-false (tricks_complete (cards_of e)) 12 q))))

  revoke_early : (c : ℕ) (e : List Event) → NoneRefused trump opening deal (played c ∷ e) → disobeys trump opening deal e c ≡ true
      → tricks_complete (cards_of e) < 12
  unfolding disobeys
  revoke_early = early (λ e c. disobeys trump opening deal e c) (λ c e w one. rw (one-obeys trump opening deal e c one))

  pub failure_early : (c : ℕ) (e : List Event) → NoneRefused trump opening deal (played c ∷ e) → is_failure trump opening deal e c ≡ true
      → tricks_complete (cards_of e) < 12
  failure_early = early (λ e c. is_failure trump opening deal e c) (λ c e w one. one_no_failure trump opening deal e c one w)

  -- ---- revokes: one a card at the most, of the first twelve tricks
  record FewRevokes (e : List Event) : Type 0 where
    by_cards : length (all_revokes trump opening deal e) ≤ cards_played (cards_of e)
    by_tricks : length (all_revokes trump opening deal e) ≤ 48

  few-revokes : (e : List Event) → NoneRefused trump opening deal e → FewRevokes e
  unfolding all_revokes list_plays cards_of cards_played NoneRefused tricks_complete
  few-revokes [] w = record { by_cards = omega arith; by_tricks = omega arith }
  few-revokes (played c ∷ e) w =
      let test : List Event → ℕ → Bool = λ (d : List Event) (k : ℕ). disobeys trump opening deal d k in
      let entry : List Event → ℕ → Revoke = λ (d : List Event) (k : ℕ). revoke_by trump opening d k in
      let f = few-revokes e w.1 in
      by_test (test e c)
      (λ (q : test e c ≡ true).
      let n = entry_more test entry c e q in
      let t = revoke_early c e w q in
      record { by_cards = omega (arith, n, f.by_cards); by_tricks = omega (arith, n, t, f.by_cards) })
      (λ (q : test e c ≡ false).
      let n = entry-none test entry c e q in
      record { by_cards = omega (arith, n, f.by_cards); by_tricks = omega (arith, n, f.by_tricks) })
  few-revokes (exposed c deliberate ∷ e) w = let f = few-revokes e w.1 in record { by_cards = f.by_cards; by_tricks = f.by_tricks }
  few-revokes (choice kind suit ∷ e) w = let f = few-revokes e w.1 in record { by_cards = f.by_cards; by_tricks = f.by_tricks }

  -- the theorem: never more than 48 revokes
  pub at_most_48 : (e : List Event) → NoneRefused trump opening deal e → length (all_revokes trump opening deal e) ≤ 48
  at_most_48 e w = (few-revokes e w).by_tricks

  -- ---- failures: by the two defenders, one a trick each at the most, of the first twelve tricks
  abbrev plays : ℕ → List Event → ℕ
  plays seat e = plays_of trump opening seat (cards_of e)

  abbrev first : ℕ
  first = opening % 4

  abbrev second : ℕ
  second = (opening + 2) % 4

  -- a defender is one of two
  one_of_two : (seat : ℕ) → is_defender opening seat ≡ true → (seat ≡ first) ⊎ (seat ≡ second)
  one_of_two seat d =
      let low = ltb-true seat 4 (and_left (ltb seat 4) (same_side seat opening) d) in
      let side = eqb-true (seat % 2) (opening % 2) (and_right (ltb seat 4) (same_side seat opening) d) in
      by_test (eqb seat first)
      (λ (q : eqb seat first ≡ true). inl (eqb-true seat first q))
      (λ (q : eqb seat first ≡ false). inr (omega (arith, eqb-false seat first q)))

  -- a seat has played at most once to the trick under way
  plays-most : (seat : ℕ) (e : List Event) → seat < 4 → plays seat e ≤ tricks_complete (cards_of e) + 1
  plays-most seat e low =
      let past = ltb ((seat + 4 - leader trump opening (cards_of e) % 4) % 4) (cards_in_trick (cards_of e)) in
      rw (plays_law trump opening seat (cards_of e) low) (at_most_one (tricks_complete (cards_of e)) past)
    where
      at_most_one : (n : ℕ) (b : Bool) → n + (if b then 1 else 0) ≤ n + 1
      at_most_one n true = omega arith
      at_most_one n false = omega arith

  -- the seat at turn has played to each complete trick, and plays once more
  turn_more : (seat c : ℕ) (e : List Event) → seat_after trump opening e ≡ seat
      → (plays seat (played c ∷ e) ≡ plays seat e + 1) × (plays seat e ≡ tricks_complete (cards_of e))
  unfolding plays_of cards_of
  turn_more seat c e at = (
    rw (eq-eqb (seat_after trump opening e) seat at) (omega arith),
    rw (← at) (turn_plays deal trump opening all dealt (cards_of e)),
  )

  plays_grow : (seat c : ℕ) (e : List Event) → plays seat e ≤ plays seat (played c ∷ e)
  unfolding plays_of cards_of
  plays_grow seat c e = omega arith

  record FewFailures (e : List Event) : Type 0 where
    by_plays : length (failures trump opening deal e) ≤ plays first e + plays second e
    by_tricks : length (failures trump opening deal e) ≤ 24

  few-failures : (e : List Event) → NoneRefused trump opening deal e → FewFailures e
  unfolding failures list_plays cards_of NoneRefused
  few-failures [] w = record { by_plays = omega arith; by_tricks = omega arith }
  few-failures (played c ∷ e) w =
      let test : List Event → ℕ → Bool = λ (d : List Event) (k : ℕ). is_failure trump opening deal d k in
      let entry : List Event → ℕ → Failure = λ (d : List Event) (k : ℕ). failure_by trump opening d k in
      let f = few-failures e w.1 in
      by_test (test e c)
      (λ (q : test e c ≡ true).
      let n = entry_more test entry c e q in
      let t = failure_early c e w q in
      let a = plays-most first e (omega arith) in
      let b = plays-most second e (omega arith) in
      ⊎_elim
      (λ (i : seat_after trump opening e ≡ first).
      let m = turn_more first c e i in
      let g = plays_grow second c e in
      record { by_plays = omega (arith, n, m, g, f.by_plays); by_tricks = omega (arith, n, t, m, b, f.by_plays) })
      (λ (i : seat_after trump opening e ≡ second).
      let m = turn_more second c e i in
      let g = plays_grow first c e in
      record { by_plays = omega (arith, n, m, g, f.by_plays); by_tricks = omega (arith, n, t, m, a, f.by_plays) })
      (one_of_two (seat_after trump opening e) (failure_defender trump opening deal e w.1 c q)))
      (λ (q : test e c ≡ false).
      let n = entry-none test entry c e q in
      record { by_plays = omega (arith, n, plays_grow first c e, plays_grow second c e, f.by_plays); by_tricks = omega (arith, n, f.by_tricks) })
  few-failures (exposed c deliberate ∷ e) w = let f = few-failures e w.1 in record { by_plays = f.by_plays; by_tricks = f.by_tricks }
  few-failures (choice kind suit ∷ e) w = let f = few-failures e w.1 in record { by_plays = f.by_plays; by_tricks = f.by_tricks }

  -- the theorem: never more than 24 plays against Law 50
  pub at_most_24 : (e : List Event) → NoneRefused trump opening deal e → length (failures trump opening deal e) ≤ 24
  at_most_24 e w = (few-failures e w).by_tricks
