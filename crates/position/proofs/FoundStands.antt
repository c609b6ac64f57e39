-- What the code finds of the cards is what the Laws say of them after every history of which no event is refused: each word, a card at a time.
-- Assumes nothing.
use Rattle.std.specs.Prelude.{if◌then◌else◌}
use Prim.Native.Nat.{ℕ, suc, ◌≤◌, ◌<◌, ◌+◌, ◌*◌, ◌/◌, ◌%◌, ◌^◌}
use mathlib.Core.Path.{◌≡◌, refl, sym, ◌∙◌}
use mathlib.Core.Bool.{Bool, true, false, ◌&&◌}
use mathlib.Core.List.{List, [], ◌∷◌}
use native.Mathlib.Nat.{mod-eq_of_lt, pow-suc, pow-le-pow_right}
use native.Mathlib.Omega.{arith}
use borrow.Author.Tests.{eqb-true, eqb-false, ltb-true}
use lib.Dec.{eqb, ltb}
use lib.ListN.{length}
use lib.Pow.{pow_mono}
use Rattle.laws.specs.Law44.{cards_played, cards_in_trick}
use Rattle.laws.specs.Law61.{is_revoke}
use Rattle.laws.specs.Events.{Event, played, exposed, choice, cards_of, list_plays, as_events}
use Rattle.laws.specs.Law51.{required}
use Rattle.laws.specs.LeadRevoke.{leads, disobeys, is_excused}
use Rattle.laws.specs.Failures.{is_failure, failure_by, failures}
use Rattle.laws.proofs.Tests.{by_test}
use Rattle.laws.proofs.CardsAlone.{cards-alone, none_required, obeys-alone, none-excused, no_failure, failures-alone}
use Rattle.play.specs.Words.{bit_of, with_bit}
use Rattle.play.proofs.UnderWay.{bit-low}
use Rattle.found.specs.declared.found.Found.{Found}
use Rattle.found.specs.Found.{none_found, named_by, with_revoke, with_lead, with_failure}
use Rattle.position.specs.History.{leads_of, excused_of, named_of, entry_of, failed_of, words_in}
use Rattle.position.proofs.AtMost.{entry_more, entry-none}
use Rattle.position.proofs.FoundWords.{pushed-words}

-- what is told of a lead takes three bits
pub named_bits : (revoke : Bool) (required : ℕ) → named_by revoke required < 8
unfolding named_by
named_bits true required =
    by_test (ltb required 4)
    (λ (q : ltb required 4 ≡ true). rw q (omega (arith, ltb-true required 4 q)))
    (λ (q : ltb required 4 ≡ false). rw q (omega arith))
named_bits false required = omega arith

-- the tricks begun, with a lead more and with another card more
pub begun_leads : (n : ℕ) → n % 4 ≡ 0 → (suc n + 3) / 4 ≡ suc ((n + 3) / 4)
begun_leads n e = omega arith

pub begun_follows : (n : ℕ) → (n % 4 ≡ 0 → ⊥) → (suc n + 3) / 4 ≡ (n + 3) / 4
begun_follows n e = omega arith

module _ (deal : List ℕ) (trump opening : ℕ) where
  -- the words are what the Laws say after the events
  pub record FoundStands (f : Found) (e : List Event) : Type 0 where
    pub leads : f.leads ≡ leads_of deal trump opening e
    pub excused : f.excused ≡ excused_of deal trump opening e
    pub named : f.named ≡ named_of deal trump opening e
    pub count : f.failures ≡ length (failures trump opening deal e)
    pub failed : f.failed ≡ words_in 5 (failed_of deal trump opening e)

  pub found_starts : FoundStands none_found []
  unfolding none_found leads_of excused_of named_of failed_of failures list_plays words_in
  found_starts = record { leads = refl; excused = refl; named = refl; count = refl; failed = refl }

  -- a code is no card: nothing is found
  pub found-exposed : {f : Found} {e : List Event} (c : ℕ) (deliberate : Bool) → FoundStands f e → FoundStands f (exposed c deliberate ∷ e)
  unfolding leads_of excused_of named_of failed_of failures list_plays
  found-exposed c deliberate s = record { leads = s.leads; excused = s.excused; named = s.named; count = s.count; failed = s.failed }

  pub found-choice : {f : Found} {e : List Event} (kind suit : ℕ) → FoundStands f e → FoundStands f (choice kind suit ∷ e)
  unfolding leads_of excused_of named_of failed_of failures list_plays
  found-choice kind suit s = record { leads = s.leads; excused = s.excused; named = s.named; count = s.count; failed = s.failed }

  -- ---- words that do not run over
  leads-low : (e : List Event) → leads_of deal trump opening e < 2 ^ cards_played (cards_of e)
  unfolding leads_of cards_of cards_played
  leads-low [] = omega arith
  leads-low (played c ∷ e) = rw pow-suc (omega (arith, leads-low e, bit-low (leads e && disobeys trump opening deal e c)))
  leads-low (exposed c deliberate ∷ e) = leads-low e
  leads-low (choice kind suit ∷ e) = leads-low e

  excused-low : (e : List Event) → excused_of deal trump opening e < 2 ^ cards_played (cards_of e)
  unfolding excused_of cards_of cards_played
  excused-low [] = omega arith
  excused-low (played c ∷ e) =
      rw pow-suc (omega (arith, excused-low e, bit-low (disobeys trump opening deal e c && is_excused trump opening deal e)))
  excused-low (exposed c deliberate ∷ e) = excused-low e
  excused-low (choice kind suit ∷ e) = excused-low e

  named_low : (e : List Event) → named_of deal trump opening e < 8 ^ ((cards_played (cards_of e) + 3) / 4)
  unfolding named_of cards_of cards_played cards_in_trick
  named_low [] = omega arith
  named_low (played c ∷ e) =
      let n = length (cards_of e) in
      by_test (eqb (n % 4) 0)
      (λ (q : eqb (n % 4) 0 ≡ true).
      rw (q, begun_leads n (eqb-true (n % 4) 0 q), pow-suc) (omega (arith, named_low e, named_bits (disobeys trump opening deal e c) (required e))))
      (λ (q : eqb (n % 4) 0 ≡ false). rw (q, begun_follows n (eqb-false (n % 4) 0 q)) (named_low e))
  named_low (exposed c deliberate ∷ e) = named_low e
  named_low (choice kind suit ∷ e) = named_low e

  -- ---- a card more
  module _ {f : Found} {e : List Event} (c : ℕ) (s : FoundStands f e) (most : cards_played (cards_of e) ≤ 52) where
    abbrev revoke : Bool
    revoke = disobeys trump opening deal e c

    bits : (word : ℕ) (b : Bool) → word < 2 ^ cards_played (cards_of e) → with_bit word (bit_of b) ≡ word * 2 + bit_of b
    unfolding with_bit
    bits word b low =
        let small : word < 2 ^ 63 = omega (arith, pow_mono {i = cards_played (cards_of e)} {j = 52} most) in
        rw (mod-eq_of_lt small, mod-eq_of_lt (bit-low b))

    named_more : (if leads e then f.named % 2 ^ 60 * 8 + named_by revoke (required e) else f.named) ≡ named_of deal trump opening (played c ∷ e)
    unfolding named_of
    named_more =
        let few : (cards_played (cards_of e) + 3) / 4 ≤ 13 = omega arith in
        let small : named_of deal trump opening e < 2 ^ 60 = omega (arith, named_low e, pow-le-pow_right {n = 8} (omega arith) few) in
        rw (s.named, mod-eq_of_lt small)

    -- the card's revoke and lead are found; a play against Law 50 is not yet
    abbrev marked : Found
    marked = with_lead (with_revoke f (leads e) revoke (is_excused trump opening deal e)) (leads e) revoke (required e)

    found-card : length (failures trump opening deal e) ≤ 24 → (entry : ℕ) → entry ≡ entry_of deal trump opening (failure_by trump opening e c) → entry < 4096
        → FoundStands (if is_failure trump opening deal e c then with_failure marked entry else marked) (played c ∷ e)
    unfolding with_revoke with_lead with_failure leads_of excused_of failed_of failures list_plays
    found-card few entry ee low =
        let a : with_bit f.leads (bit_of (leads e && revoke)) ≡ leads_of deal trump opening e * 2 + bit_of (leads e && revoke) =
        rw s.leads (bits (leads_of deal trump opening e) (leads e && revoke) (leads-low e)) in
        let free = revoke && is_excused trump opening deal e in
        let b : with_bit f.excused (bit_of free) ≡ excused_of deal trump opening e * 2 + bit_of free =
        rw s.excused (bits (excused_of deal trump opening e) free (excused-low e)) in
        by_test (is_failure trump opening deal e c)
        (λ (q : is_failure trump opening deal e c ≡ true).
        let more = entry_more (is_failure trump opening deal) (failure_by trump opening) c e q in
        rw q (record {
          leads = a;
          excused = b;
          named = named_more;
          count = rw s.count (omega (arith, more));
          failed = rw (s.failed, q, ← ee) (pushed-words (failed_of deal trump opening e) entry low);
        }))
        (λ (q : is_failure trump opening deal e c ≡ false).
        let same = entry-none (is_failure trump opening deal) (failure_by trump opening) c e q in
        rw q (record {
          leads = a;
          excused = b;
          named = named_more;
          count = s.count ∙ sym same;
          failed = rw q s.failed;
        }))

    -- the same, for what the code tells of the card
    pub found_by : length (failures trump opening deal e) ≤ 24 → (lead revokes free fails : Bool) (suit entry : ℕ)
        → lead ≡ leads e → revokes ≡ revoke → free ≡ is_excused trump opening deal e → fails ≡ is_failure trump opening deal e c → suit ≡ required e
        → entry ≡ entry_of deal trump opening (failure_by trump opening e c) → entry < 4096
        → FoundStands
        (if fails then with_failure (with_lead (with_revoke f lead revokes free) lead revokes suit) entry
        else with_lead (with_revoke f lead revokes free) lead revokes suit)
        (played c ∷ e)
    found_by few lead revokes free fails suit entry el er ex ef es ee low = rw (el, er, ex, ef, es) (found-card few entry ee low)

  -- ---- cards alone
  pub lead_no_revoke : (g : List ℕ) (c : ℕ) → eqb (cards_in_trick g) 0 ≡ true → is_revoke trump opening deal g c ≡ false
  unfolding is_revoke
  lead_no_revoke g c q = rw q

  none-leads : (g : List ℕ) → leads_of deal trump opening (as_events g) ≡ 0
  unfolding leads_of as_events disobeys
  none-leads [] = refl
  none-leads (c ∷ g) =
      rw (none-leads g, obeys-alone trump opening deal g c, cards-alone g) (by_test (eqb (cards_in_trick g) 0)
      (λ (q : eqb (cards_in_trick g) 0 ≡ true). rw (q, lead_no_revoke g c q))
      (λ (q : eqb (cards_in_trick g) 0 ≡ false). rw q))

  no_excuse : (g : List ℕ) → excused_of deal trump opening (as_events g) ≡ 0
  unfolding excused_of as_events
  no_excuse [] = refl
  no_excuse (c ∷ g) =
      rw (no_excuse g, none-excused trump opening deal g) (by_test (disobeys trump opening deal (as_events g) c)
      (λ (q : disobeys trump opening deal (as_events g) c ≡ true). rw q)
      (λ (q : disobeys trump opening deal (as_events g) c ≡ false). rw q))

  none_named : (g : List ℕ) → named_of deal trump opening (as_events g) ≡ 0
  unfolding named_of as_events named_by
  none_named [] = refl
  none_named (c ∷ g) =
      rw (none_named g, none_required g) (by_test (leads (as_events g))
      (λ (q : leads (as_events g) ≡ true). rw q (by_test (disobeys trump opening deal (as_events g) c)
      (λ (r : disobeys trump opening deal (as_events g) c ≡ true). rw r)
      (λ (r : disobeys trump opening deal (as_events g) c ≡ false). rw r)))
      (λ (q : leads (as_events g) ≡ false). rw q))

  none_failed : (g : List ℕ) → failed_of deal trump opening (as_events g) ≡ 0
  unfolding failed_of as_events
  none_failed [] = refl
  none_failed (c ∷ g) = rw (no_failure trump opening deal g c) (none_failed g)

  -- a card more needs no step
  pub found-alone : {f : Found} (c : ℕ) (g : List ℕ) → FoundStands f (as_events g) → FoundStands f (as_events (c ∷ g))
  found-alone c g s =
      record {
        leads = s.leads ∙ none-leads g ∙ sym (none-leads (c ∷ g));
        excused = s.excused ∙ no_excuse g ∙ sym (no_excuse (c ∷ g));
        named = s.named ∙ none_named g ∙ sym (none_named (c ∷ g));
        count = s.count ∙ rw (failures-alone trump opening deal g, failures-alone trump opening deal (c ∷ g));
        failed = s.failed ∙ rw (none_failed g, none_failed (c ∷ g));
      }
