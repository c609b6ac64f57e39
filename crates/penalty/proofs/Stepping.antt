-- A step keeps the penalty cards as the Laws have them: after a card, with a card exposed, with a choice made; and whether a code is refused.
-- Assumes nothing.
use Rattle.std.specs.Prelude.{if◌then◌else◌}
use Prim.Native.Nat.{ℕ, ◌<◌, ◌*◌, ◌%◌}
use mathlib.Core.Path.{◌≡◌, refl, sym, ap, ◌∙◌}
use mathlib.Core.Bool.{Bool, true, false, not, ◌&&◌, ◌||◌}
use mathlib.Core.List.{List, ◌∷◌}
use native.Mathlib.Omega.{arith}
use borrow.Author.Tests.{eqb-true, eqb-false, eq-eqb, ne_eqb, lt-ltb, ltb-true, leb-true, leb-false}
use lib.Bits.{bit_and, bit_or}
use lib.Dec.{eqb, leb, ltb}
use lib.ListN.{length}
use Rattle.laws.specs.Choice.{some_below}
use Rattle.laws.specs.Cards.{suit_of, partner_of, same_side, dealt_to}
use Rattle.laws.specs.Law44.{is_of, leader, is_played, holds}
use Rattle.laws.specs.Events.{Event, played, exposed, choice, require, forbid, cards_of, codes_of}
use Rattle.laws.specs.Law50.{is_defender, is_honour, leader_after, is_picked_up, is_faced, is_faced_of, has_faced, is_major, is_major_of, is_exposable}
use Rattle.laws.specs.Law51.{no_suit, required, is_forbidden, ban_runs, defender_to_lead, partner_has_major, is_open}
use Rattle.laws.specs.Kept.{NoneRefused}
use Rattle.laws.proofs.Tests.{by_test, not_both, and_left, and_right, same_test}
use Rattle.laws.proofs.Counts.{some_same, some_below_lem, below-some}
use Rattle.laws.proofs.KeptCards.{major-faced}
use Rattle.laws.proofs.KeptChoices.{kept_choices}
use Rattle.play.specs.History.{AllPlayed, holders_of}
use Rattle.play.proofs.Masks.{word_by, word_same, word_and}
use Rattle.play.proofs.Holders.{holds_law}
use Rattle.penalty.specs.declared.Penalty.{Penalty}
use Rattle.penalty.specs.Words.{suit_word, meets, without}
use Rattle.penalty.specs.Position.{exposable_in, unbarred_in, open_in, after_card, major_with, with_exposed, with_kind, with_choice}
use Rattle.penalty.proofs.Tests.{eqb-sym, and_comm, or_comm, or_none}
use Rattle.penalty.proofs.Sets.{word_or, word_without, word_card, word_suit, word_meets, word_has, word_none, word_zero, none_below}
use Rattle.penalty.proofs.Stands.{Stands}

-- which cards are major once a card is exposed: all of its owner's; the card too; the card not
all-major : (this before deliberate honour : Bool) → (before || this) ≡ (if this then deliberate || (honour || true) else before)
all-major true true true honour = refl
all-major true true false true = refl
all-major true true false false = refl
all-major true false true honour = refl
all-major true false false true = refl
all-major true false false false = refl
all-major false before deliberate honour = or_none before

one-major : (this major deliberate honour other : Bool) → other ≡ false → (deliberate || honour) ≡ true
    → (major || this) ≡ (if this then deliberate || (honour || false) else (major || other))
one-major true major true honour other n d = or_comm major true
one-major true major false true other n d = or_comm major true
one-major true major false false other n d = not_both false d refl
one-major false major deliberate honour other n d = rw n

one-minor : (this major deliberate honour other : Bool) → other ≡ false → (deliberate || honour) ≡ false → (this ≡ true → major ≡ false)
    → major ≡ (if this then deliberate || (honour || false) else (major || other))
one-minor true major true honour other n d m = not_both true refl d
one-minor true major false true other n d m = not_both true refl d
one-minor true major false false other n d m = m refl
one-minor false major deliberate honour other n d m = rw n (sym (or_none major))

-- a choice's tests in the order of the Law
in_order : (kinds none room major : Bool) → (kinds && (none && (room && major))) ≡ (kinds && (true && (major && (none && room))))
in_order false none room major = refl
in_order true true true true = refl
in_order true true true false = refl
in_order true true false true = refl
in_order true true false false = refl
in_order true false room true = refl
in_order true false room false = refl

module _ (deal : List ℕ) (trump opening : ℕ) where
  abbrev faced : List Event → ℕ → Bool
  faced e k = is_faced trump opening deal e k

  abbrev major : List Event → ℕ → Bool
  major e k = is_major trump opening deal e k

  abbrev forbidden : List Event → ℕ → Bool
  forbidden e s = is_forbidden trump opening e s

  -- the cards dealt to a seat
  abbrev pub dealt_word : ℕ → ℕ
  dealt_word seat = word_by 52 (λ k. eqb (dealt_to deal k) seat)

  -- ---- after a card
  pub card-stands : {p : Penalty} {e : List Event} (c : ℕ) (keeps : Bool) → Stands deal trump opening p e → c < 52
      → keeps ≡ eqb (leader trump opening (c ∷ cards_of e)) (leader trump opening (cards_of e))
      → Stands deal trump opening (after_card p c keeps) (played c ∷ e)
  unfolding after_card is_faced is_major is_forbidden required codes_of
  card-stands {p} {e} c keeps s h k =
      record {
        faced = rw (s.faced, word_card c h) (word_without (λ i. faced e i) (λ i. eqb c i));
        major = rw (s.major, word_card c h) (word_without (λ i. major e i) (λ i. eqb c i));
        forbidden = rw (← k) (bans keeps);
        requires = refl;
        codes = s.codes;
      }
    where
      bans : (b : Bool) → (if b then p.forbidden else 0) ≡ word_by 52 (λ i. forbidden e (suit_of i) && b)
      bans true = s.forbidden ∙ word_same 52 _ _ (λ i q. and_comm true (forbidden e (suit_of i)))
      bans false = sym (word_same 52 (λ i. forbidden e (suit_of i) && false) (λ i. false) (λ i q. and_comm (forbidden e (suit_of i)) false) ∙ word_none 52)

  -- ---- with a card exposed
  module _ {p : Penalty} {e : List Event} (c : ℕ) (deliberate : Bool) (s : Stands deal trump opening p e) (h : c < 52) (unfaced : faced e c ≡ false) where
    abbrev owner : ℕ
    owner = dealt_to deal c

    -- a card that is not faced is not major
    not-major : major e c ≡ false
    not-major =
        by_test (major e c)
        (λ (m : major e c ≡ true). not_both (faced e c) (major-faced trump opening deal e c m) unfaced)
        (λ (m : major e c ≡ false). m)

    has-faced : meets p.faced (dealt_word owner) ≡ has_faced trump opening deal e owner
    unfolding has_faced is_faced_of
    has-faced = rw s.faced (word_meets (λ k. faced e k) (λ k. eqb (dealt_to deal k) owner))

    major-more : major_with p (dealt_word owner) c deliberate ≡ word_by 52 (λ k. major (exposed c deliberate ∷ e) k)
    unfolding major_with is_major is_faced_of has_faced
    major-more =
        rw has-faced (by_test hf
        (λ (q : hf ≡ true).
        rw (q, s.major, s.faced, word_card c h, word_and 52 (λ k. faced e k) (λ k. eqb (dealt_to deal k) owner))
        (rw (word_or 52 (λ k. major e k) (λ k. faced e k && eqb (dealt_to deal k) owner)) (word_or 52 _ (λ k. eqb c k)
        ∙ word_same 52 _ _ (λ k b. all-major (eqb c k) _ deliberate (is_honour c)))))
        (λ (q : hf ≡ false).
        let none : (k : ℕ) → k < 52 → of_owner k ≡ false = none_below of_owner q in
        rw (q, s.major, word_card c h) (by_test (deliberate || is_honour c)
        (λ (d : (deliberate || is_honour c) ≡ true).
        rw d (word_or 52 (λ k. major e k) (λ k. eqb c k)
        ∙ word_same 52 _ _ (λ k b. one-major (eqb c k) (major e k) deliberate (is_honour c) (of_owner k) (none k b) d)))
        (λ (d : (deliberate || is_honour c) ≡ false).
        rw d (word_same 52 _ _
        (λ k b. one-minor (eqb c k) (major e k) deliberate (is_honour c) (of_owner k) (none k b) d (λ z. rw (← eqb-true c k z) not-major)))))))
      where
        hf : Bool
        hf = has_faced trump opening deal e owner

        of_owner : ℕ → Bool
        of_owner k = is_faced_of trump opening deal e owner k

    pub exposed-stands : codes_of e < 40 → Stands deal trump opening (with_exposed p (dealt_word owner) c deliberate) (exposed c deliberate ∷ e)
    unfolding with_exposed is_faced is_forbidden required codes_of
    exposed-stands few =
        record {
          faced = rw (s.faced, word_card c h)
              (word_or 52 (λ i. faced e i) (λ i. eqb c i)
              ∙ word_same 52 (λ i. faced e i || eqb c i) (λ i. eqb c i || faced e i) (λ i q. or_comm (faced e i) (eqb c i)));
          major = major-more;
          forbidden = s.forbidden;
          requires = s.requires;
          codes = rw s.codes (omega arith);
        }

  -- ---- with a choice made
  module _ {p : Penalty} {e : List Event} (kind suit : ℕ) (s : Stands deal trump opening p e) where
    abbrev partner : ℕ
    partner = partner_of (leader_after trump opening e)

    picked_up : (f : ℕ → Bool) → without (word_by 52 f) (bit_and (dealt_word partner) (suit_word suit))
        ≡ word_by 52 (λ k. f k && not (is_picked_up trump opening deal e suit k))
    unfolding is_picked_up
    picked_up f =
        let own : ℕ → Bool = λ (k : ℕ). eqb (dealt_to deal k) partner in
        rw (word_suit suit, word_and 52 own (λ k. is_of suit k), word_without f (λ k. own k && is_of suit k))
        (word_same 52 _ _ (λ k q. ap (λ (b : Bool). f k && not b) (and_comm (eqb (dealt_to deal k) partner) (is_of suit k))))

    pub choice-stands : codes_of e < 40 → leb kind forbid ≡ true → Stands deal trump opening (with_choice p (dealt_word partner) kind suit) (choice kind suit ∷ e)
    unfolding with_choice with_kind is_faced is_major is_forbidden required codes_of
    choice-stands few kinds =
        record {
          faced = rw s.faced (picked_up (λ k. faced e k));
          major = rw s.major (picked_up (λ k. major e k));
          forbidden = bans;
          requires = rw s.requires;
          codes = rw s.codes (omega arith);
        }
      where
        bans : (if eqb kind require then p.forbidden else bit_or p.forbidden (suit_word suit))
            ≡ word_by 52 (λ k. forbidden e (suit_of k) || (eqb kind forbid && eqb suit (suit_of k)))
        bans =
            by_test (eqb kind require)
            (λ (q : eqb kind require ≡ true).
            let other = ne_eqb kind forbid (λ z. omega (arith, eqb-true kind require q)) in
            rw (q, s.forbidden) (word_same 52 _ _ (λ k b. rw other (sym (or_none (forbidden e (suit_of k)))))))
            (λ (q : eqb kind require ≡ false).
            let this = eq-eqb kind forbid (omega (arith, eqb-false kind require q, leb-true kind forbid kinds)) in
            rw (q, s.forbidden, word_suit suit) (word_or 52 (λ k. forbidden e (suit_of k)) (λ k. is_of suit k)
            ∙ word_same 52 _ _ (λ k b. rw (this, eqb-sym (suit_of k) suit))))

  -- ---- whether a code is refused
  -- a card stands at its place with a defender exactly when it was dealt to one and has not been played
  in_hand_is : length deal ≡ 52 → (g : List ℕ) → AllPlayed deal trump opening g → (holder card : ℕ)
      → holder ≡ dealt_to (holders_of deal trump opening g) card
      → (not (leb 4 holder) && eqb (holder % 2) (opening % 2)) ≡ (is_defender opening (dealt_to deal card) && not (is_played g card))
  unfolding holds
  in_hand_is all g w holder card at =
      by_test (leb 4 holder)
      (λ (q : leb 4 holder ≡ true). rw q (sym (none (is_defender opening (dealt_to deal card)) (is_played g card) (λ d n.
      let low = ltb-true (dealt_to deal card) 4 (and_left (ltb (dealt_to deal card) 4) (same_side (dealt_to deal card) opening) d) in
      let stands : eqb holder (dealt_to deal card) ≡ true =
      rw at (holds_law deal trump opening all g w (dealt_to deal card) card low ∙ rw (eq-eqb (dealt_to deal card) (dealt_to deal card) refl, n)) in
      absurd (omega (arith, leb-true 4 holder q, eqb-true holder (dealt_to deal card) stands))))))
      (λ (q : leb 4 holder ≡ false).
      let low = leb-false 4 holder q in
      let both : (eqb (dealt_to deal card) holder && not (is_played g card)) ≡ true =
      sym (holds_law deal trump opening all g w holder card low) ∙ eq-eqb (dealt_to (holders_of deal trump opening g) card) holder (sym at) in
      let owner = eqb-true (dealt_to deal card) holder (and_left (eqb (dealt_to deal card) holder) (not (is_played g card)) both) in
      rw (q, owner, and_right (eqb (dealt_to deal card) holder) (not (is_played g card)) both, lt-ltb holder 4 low)
      (and_comm true (eqb (holder % 2) (opening % 2))))
    where
      none : (a b : Bool) → (a ≡ true → b ≡ false → ◌≡◌ {A = Bool} (a && not b) false) → (a && not b) ≡ false
      none true true f = refl
      none true false f = f refl refl
      none false b f = refl

  -- some ban runs exactly when some card is of a forbidden suit
  runs_is : (e : List Event) → NoneRefused trump opening deal e → some_below 52 (λ k. forbidden e (suit_of k)) ≡ ban_runs trump opening e
  unfolding ban_runs
  runs_is e w =
      same_test (some_below 52 (λ k. forbidden e (suit_of k))) (some_below 4 (λ s. forbidden e s))
      (λ x. let k = below-some (λ k. forbidden e (suit_of k)) 52 x in
      some_below_lem (λ s. forbidden e s) 4 (suit_of k.0) ((kept_choices trump opening deal e w).forbidden_suit (suit_of k.0) k.2) k.2)
      (λ x. let s = below-some (λ s. forbidden e s) 4 x in
      let of : suit_of (13 * s.0) ≡ s.0 = omega arith in
      some_below_lem (λ k. forbidden e (suit_of k)) 52 (13 * s.0) (omega (arith, s.1)) (rw of s.2))

  module _ {p : Penalty} {e : List Event} (s : Stands deal trump opening p e) where
    pub exposable_is : length deal ≡ 52 → AllPlayed deal trump opening (cards_of e) → (holder card : ℕ) → card < 52
        → holder ≡ dealt_to (holders_of deal trump opening (cards_of e)) card → exposable_in p opening holder card ≡ is_exposable trump opening deal e card
    unfolding exposable_in is_exposable
    exposable_is all w holder card h at =
        rw (s.faced, word_has (λ k. faced e k) card h, in_hand_is all (cards_of e) w holder card at)

    has-major : (suit : ℕ) → meets (bit_and p.major (dealt_word (partner_of (leader_after trump opening e)))) (suit_word suit)
        ≡ partner_has_major trump opening deal e suit
    unfolding partner_has_major is_major_of
    has-major suit =
        let own : ℕ → Bool = λ (k : ℕ). eqb (dealt_to deal k) (partner_of (leader_after trump opening e)) in
        rw (s.major, word_and 52 (λ k. major e k) own, word_suit suit, word_meets (λ k. major e k && own k) (λ k. is_of suit k))
        (some_same 52 _ _ (λ k b. and_comm (major e k && own k) (is_of suit k)))

    pub open_is : NoneRefused trump opening deal e → defender_to_lead trump opening e ≡ true → (kind suit : ℕ)
        → open_in p (dealt_word (partner_of (leader_after trump opening e))) kind suit ≡ is_open trump opening deal e kind suit
    unfolding open_in is_open unbarred_in
    open_is w lead kind suit =
        rw (s.requires, s.forbidden, word_zero (λ k. forbidden e (suit_of k)), runs_is e w, lead, has-major suit)
        (in_order (leb kind forbid) (eqb (required e) no_suit) (eqb kind forbid || not (ban_runs trump opening e)) (partner_has_major trump opening deal e suit))
