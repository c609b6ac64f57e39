-- The plays of a record are read exactly: what is read stands there and may stand by the Laws, and what may stand and stands there is read. Assumes nothing.
use Rattle.std.specs.Prelude.{if◌then◌else◌}
use Prim.Native.Nat.{ℕ, zero, suc, ◌+◌, ◌*◌, ◌≤◌, ◌<◌}
use native.Mathlib.Omega.{arith}
use mathlib.Core.Path.{◌≡◌, refl, sym, ap, ◌∙◌}
use mathlib.Core.Bool.{true, false, not}
use mathlib.Core.List.{List, [], ◌∷◌, reverse, reverse_aux}
use borrow.Author.Tests.{eqb-true, eqb-false, eq-eqb, ne_eqb, not-false, lt-leb}
use lib.Dec.{eqb}
use lib.ListN.{length}
use Rattle.laws.specs.Refusals.{accepted, too_many_codes}
use Rattle.laws.specs.CardRefusal.{card_refusal}
use Rattle.laws.specs.CodeRefusal.{most_codes, codes_full, event_refusal}
use Rattle.laws.specs.Kept.{NoneRefused}
use Rattle.laws.specs.Events.{Event, played, exposed, choice, begins_code, cards_of, cards_among, codes_of}
use Rattle.laws.specs.Reading.{number_at, Reading, Reading.found}
use Rattle.laws.specs.Record.{event_fields, play_fields}
use Rattle.laws.specs.Plays.{play_place, read_exposed, read_choice, read_code, read_plays, MayStand, EachStands, CardsFollow}
use Rattle.laws.proofs.Tests.{by_test}
use Rattle.laws.proofs.Bits.{number_lt}
use Rattle.laws.proofs.Spelled.{Stands}
use Rattle.laws.proofs.Readings.{first-of, first_read, first_test, read_is, test_is}
use Rattle.laws.proofs.Exact.{stands_cons, stands_nil, stands_here, stands-fits, stands-rest, stands_end}
use Rattle.laws.proofs.CodesRead.{exposes, opens, exposed-read, choice-read, exposure-follows, choice-follows, code_turn, exposed-goes, choice-goes}
use Rattle.laws.proofs.CardRefusals.{accepted-is, playable-dealt}

-- a bit is the test of a bit
bit_is : (b : ℕ) → b < 2 → b ≡ (if eqb b 1 then 1 else 0)
bit_is b l =
    by_test (eqb b 1)
    (λ (q : eqb b 1 ≡ true). rw q (eqb-true b 1 q))
    (λ (q : eqb b 1 ≡ false). rw q (omega (arith, eqb-false b 1 q)))

-- the history of plays has as many cards
cards_onto : (plays e : List Event) → cards_among (reverse_aux plays e) ≡ cards_among plays + cards_among e
unfolding cards_among cards_of
cards_onto [] e = omega arith
cards_onto (played c ∷ plays) e = cards_onto plays (played c ∷ e) ∙ omega arith
cards_onto (exposed c deliberate ∷ plays) e = cards_onto plays (exposed c deliberate ∷ e)
cards_onto (choice kind suit ∷ plays) e = cards_onto plays (choice kind suit ∷ e)

pub cards-reverse : (plays : List Event) → cards_among (reverse plays) ≡ cards_among plays
unfolding cards_among cards_of
cards-reverse plays = cards_onto plays [] ∙ omega arith

-- a card is no code
pub card_no_code : (c : ℕ) → c < 52 → begins_code c ≡ false
card_no_code c l = rw (ne_eqb c 52 (λ e. omega arith), ne_eqb c 53 (λ e. omega arith))

module _ (trump opening : ℕ) (deal : List ℕ) where
  -- what was read of plays after the events e, in their order: n cards, and at most `left` codes
  pub record Taken (n left : ℕ) (e g : List Event) (bytes : List ℕ) (at end : ℕ) : Type 0 where
    pub plays : List Event
    pub history : g ≡ reverse_aux plays e
    pub cards : cards_among plays ≡ n
    pub codes : codes_of plays ≤ left
    pub follow : CardsFollow plays
    pub each : EachStands trump opening deal e plays
    pub stands : Stands bytes at (play_fields plays) end

  module _ (n left : ℕ) (e g : List Event) (bytes : List ℕ) (at end : ℕ) where
    with_card_lem : MayStand trump opening deal e (played (number_at bytes at 6)) → Taken n left (played (number_at bytes at 6) ∷ e) g bytes (at + 6) end
        → Taken (suc n) left e g bytes at end
    unfolding cards_among cards_of codes_of CardsFollow EachStands play_fields event_fields
    with_card_lem may r =
        record {
          plays = played (number_at bytes at 6) ∷ r.plays;
          history = r.history;
          cards = ap suc r.cards;
          codes = r.codes;
          follow = r.follow;
          each = (may, r.each);
          stands = stands_cons refl r.stands;
        }

    with_exposed_lem : (c b : ℕ) → number_at bytes at 6 ≡ 52 → number_at bytes (at + 6) 6 ≡ c → number_at bytes (at + 6 + 6) 1 ≡ b
        → MayStand trump opening deal e (exposed c (eqb b 1)) → Taken (suc n) left (exposed c (eqb b 1) ∷ e) g bytes (at + 6 + 6 + 1) end
        → Taken (suc n) (suc left) e g bytes at end
    unfolding cards_among cards_of codes_of CardsFollow EachStands play_fields event_fields
    with_exposed_lem c b is card bit may r =
        record {
          plays = exposed c (eqb b 1) ∷ r.plays;
          history = r.history;
          cards = r.cards;
          codes = omega (arith, r.codes);
          follow = (omega (arith, r.cards), r.follow);
          each = (may, r.each);
          stands = stands_cons is (stands_cons card (stands_cons (bit ∙ bit_is b (rw (← bit) (number_lt bytes (at + 6 + 6) 1))) r.stands));
        }

    with_choice_lem : (kind suit : ℕ) → number_at bytes at 6 ≡ 53 → number_at bytes (at + 6) 2 ≡ kind → number_at bytes (at + 6 + 2) 2 ≡ suit
        → MayStand trump opening deal e (choice kind suit) → Taken (suc n) left (choice kind suit ∷ e) g bytes (at + 6 + 2 + 2) end
        → Taken (suc n) (suc left) e g bytes at end
    unfolding cards_among cards_of codes_of CardsFollow EachStands play_fields event_fields
    with_choice_lem kind suit is k s may r =
        record {
          plays = choice kind suit ∷ r.plays;
          history = r.history;
          cards = r.cards;
          codes = omega (arith, r.codes);
          follow = (omega (arith, r.cards), r.follow);
          each = (may, r.each);
          stands = stands_cons is (stands_cons k (stands_cons s r.stands));
        }

-- ---- what is read
module _ (trump opening : ℕ) (deal : List ℕ) (all : length deal ≡ 52) where
  abbrev ruled : List Event → ℕ → ℕ
  ruled e code = card_refusal trump opening deal (cards_of e) code

  may_card : (e : List Event) (code : ℕ) → not (eqb (ruled e code) accepted) ≡ false → MayStand trump opening deal e (played code)
  unfolding MayStand
  may_card e code t = (accepted-is trump opening deal (cards_of e) code all).0 (eqb-true (ruled e code) accepted (not-false _ t))

  -- a code that is not an exposure's is a choice's
  other_code : (code : ℕ) → begins_code code ≡ true → eqb code 52 ≡ false → code ≡ 53
  other_code code i x = eqb-true code 53 (rw x at i)

  -- what is read on from a history and a bit that are found
  go_on : (n left : ℕ) (bytes : List ℕ) {after e : List Event} {m at : ℕ} {r : Reading (List Event)} → after ≡ e → m ≡ at
      → read_plays trump opening deal n left after bytes m ≡ r → read_plays trump opening deal n left e bytes at ≡ r
  go_on n left bytes h k q = rw (h, k) at q

  pub plays-read : (n left : ℕ) (e : List Event) (bytes : List ℕ) (at : ℕ) {g : List Event} {end : ℕ} → at ≤ 8 * length bytes
      → read_plays trump opening deal n left e bytes at ≡ found g end → Taken trump opening deal n left e g bytes at end
  unfolding read_plays cards_among cards_of codes_of CardsFollow EachStands play_fields read_exposed read_choice MayStand
  plays-read zero left e bytes at {g} {end} k q =
      let none : e ≡ g = cc in
      let stop : at ≡ end = cc in
      record { plays = []; history = sym none; cards = refl; codes = omega arith; follow = tt; each = tt; stands = stands_nil stop k }
  plays-read (suc n) zero e bytes at {g} {end} k q =
      let code : ℕ = number_at bytes at 6 in
      let a = first_read 6 bytes at _ q in
      let f = first_test too_many_codes (play_place e) (begins_code code) bytes (at + 6) _ a.1 in
      let t = first_test (ruled e code) (play_place e) (not (eqb (ruled e code) accepted)) bytes (at + 6) _ f.1 in
      with_card_lem trump opening deal n zero e g bytes at end (may_card e code t.0) (plays-read n zero (played code ∷ e) bytes (at + 6) a.0 t.1)
  plays-read (suc n) (suc left) e bytes at {g} {end} k q =
      let code : ℕ = number_at bytes at 6 in
      let a = first_read 6 bytes at _ q in
      by_test (begins_code code)
      (λ (i : begins_code code ≡ true).
      let b = first-of (read_code trump opening deal code e bytes (at + 6)) _ (rw i at a.1) in
      by_test (eqb code 52)
      (λ (x : eqb code 52 ≡ true).
      let r = exposed-read trump opening deal e bytes (at + 6) (exposure-follows trump opening deal code e bytes (at + 6) x b.2) in
      with_exposed_lem trump opening deal n left e g bytes at end (number_at bytes (at + 6) 6) (number_at bytes (at + 6 + 6) 1) (eqb-true code 52 x) refl refl r.3
      (plays-read (suc n) left _ bytes (at + 6 + 6 + 1) r.0 (go_on (suc n) left bytes r.1 r.2 b.3)))
      (λ (x : eqb code 52 ≡ false).
      let r = choice-read trump opening deal e bytes (at + 6) (choice-follows trump opening deal code e bytes (at + 6) x b.2) in
      with_choice_lem trump opening deal n left e g bytes at end (number_at bytes (at + 6) 2) (number_at bytes (at + 6 + 2) 2) (other_code code i x) refl refl r.3
      (plays-read (suc n) left _ bytes (at + 6 + 2 + 2) r.0 (go_on (suc n) left bytes r.1 r.2 b.3))))
      (λ (i : begins_code code ≡ false).
      let t = first_test (ruled e code) (play_place e) (not (eqb (ruled e code) accepted)) bytes (at + 6) _ (rw i at a.1) in
      with_card_lem trump opening deal n (suc left) e g bytes at end (may_card e code t.0)
      (plays-read n (suc left) (played code ∷ e) bytes (at + 6) a.0 t.1))

  -- ---- and what stands there is read
  card_passes : (e : List Event) (c : ℕ) → MayStand trump opening deal e (played c) → not (eqb (ruled e c) accepted) ≡ false
  unfolding MayStand
  card_passes e c may = rw (eq-eqb (ruled e c) accepted ((accepted-is trump opening deal (cards_of e) c all).1 may))

  card-low : (e : List Event) (c : ℕ) → MayStand trump opening deal e (played c) → c < 52
  unfolding MayStand
  card-low e c may = omega (arith, playable-dealt trump opening deal (cards_of e) c may, all)

  pub plays_go : (plays e : List Event) (left : ℕ) (bytes : List ℕ) (at : ℕ) {end : ℕ} → EachStands trump opening deal e plays → CardsFollow plays
      → codes_of plays ≤ left → Stands bytes at (play_fields plays) end
      → read_plays trump opening deal (cards_among plays) left e bytes at ≡ found (reverse_aux plays e) end
  unfolding read_plays cards_among cards_of codes_of CardsFollow EachStands play_fields event_fields
  plays_go [] e left bytes at each follow few k = ap (λ (x : ℕ). found e x) (stands_end k)
  plays_go (played c ∷ plays) e zero bytes at each follow few k =
      let read_code_lem = read_is 6 bytes at (stands_here k) (stands-fits k) in
      let no_code = card_no_code c (card-low e c each.0) in
      simp (
        read_code_lem,
        test_is too_many_codes (play_place e) bytes (at + 6) no_code,
        test_is (ruled e c) (play_place e) bytes (at + 6) (card_passes e c each.0),
      )
      (plays_go plays (played c ∷ e) zero bytes (at + 6) each.1 follow few (stands-rest k))
  plays_go (played c ∷ plays) e (suc left) bytes at each follow few k =
      let read_code_lem = read_is 6 bytes at (stands_here k) (stands-fits k) in
      let no_code = card_no_code c (card-low e c each.0) in
      simp (read_code_lem, no_code, test_is (ruled e c) (play_place e) bytes (at + 6) (card_passes e c each.0))
      (plays_go plays (played c ∷ e) (suc left) bytes (at + 6) each.1 follow few (stands-rest k))
  plays_go (exposed c d ∷ plays) e zero bytes at each follow few k = absurd (omega arith)
  plays_go (exposed c d ∷ plays) e (suc left) bytes at each follow few k =
      let k₂ = stands-rest k in
      let k₃ = stands-rest k₂ in
      let is = exposed-goes trump opening deal e c d bytes (at + 6) each.0
      (read_is 6 bytes (at + 6) (stands_here k₂) (stands-fits k₂)) (read_is 1 bytes (at + 6 + 6) (stands_here k₃) (stands-fits k₃)) in
      code_turn trump opening deal (cards_among plays) left 52 e bytes at follow.0 refl (read_is 6 bytes at (stands_here k) (stands-fits k))
      ∙ rw is (plays_go plays (exposed c d ∷ e) left bytes (at + 6 + 6 + 1) each.1 follow.1 (omega arith) (stands-rest k₃))
  plays_go (choice kind suit ∷ plays) e zero bytes at each follow few k = absurd (omega arith)
  plays_go (choice kind suit ∷ plays) e (suc left) bytes at each follow few k =
      let k₂ = stands-rest k in
      let k₃ = stands-rest k₂ in
      let is = choice-goes trump opening deal e kind suit bytes (at + 6) each.0
      (read_is 2 bytes (at + 6) (stands_here k₂) (stands-fits k₂)) (read_is 2 bytes (at + 6 + 2) (stands_here k₃) (stands-fits k₃)) in
      code_turn trump opening deal (cards_among plays) left 53 e bytes at follow.0 refl (read_is 6 bytes at (stands_here k) (stands-fits k))
      ∙ rw is (plays_go plays (choice kind suit ∷ e) left bytes (at + 6 + 2 + 2) each.1 follow.1 (omega arith) (stands-rest k₃))

  -- ---- plays that may stand, with room for their codes: none is refused
  stands-accepted : (e : List Event) (v : Event) → MayStand trump opening deal e v → codes_of (v ∷ e) ≤ most_codes
      → event_refusal trump opening deal e v ≡ accepted
  unfolding MayStand event_refusal codes_of codes_full
  stands-accepted e (played c) a l = (accepted-is trump opening deal (cards_of e) c all).1 a
  stands-accepted e (exposed c d) a l = rw (lt-leb most_codes (codes_of e) (omega arith)) (exposes trump opening deal e c a)
  stands-accepted e (choice kind suit) a l = rw (lt-leb most_codes (codes_of e) (omega arith)) (opens trump opening deal e kind suit a)

  fewer_codes : (v : Event) (plays e : List Event) → codes_of (v ∷ plays) + codes_of e ≤ most_codes
      → (codes_of (v ∷ e) ≤ most_codes) × (codes_of plays + codes_of (v ∷ e) ≤ most_codes)
  unfolding codes_of
  fewer_codes (played c) plays e l = (omega arith, l)
  fewer_codes (exposed c d) plays e l = (omega arith, omega arith)
  fewer_codes (choice kind suit) plays e l = (omega arith, omega arith)

  none_refused_onto : (plays e : List Event) → EachStands trump opening deal e plays → codes_of plays + codes_of e ≤ most_codes
      → NoneRefused trump opening deal e → NoneRefused trump opening deal (reverse_aux plays e)
  unfolding EachStands NoneRefused
  none_refused_onto [] e a l w = w
  none_refused_onto (v ∷ plays) e a l w =
      let fewer = fewer_codes v plays e l in
      none_refused_onto plays (v ∷ e) a.1 fewer.1 (stands-accepted e v a.0 fewer.0, w)

  pub none_refused : (plays : List Event) → EachStands trump opening deal [] plays → codes_of plays ≤ most_codes → NoneRefused trump opening deal (reverse plays)
  unfolding codes_of NoneRefused
  none_refused plays a l = none_refused_onto plays [] a (omega arith) tt
