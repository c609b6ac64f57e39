-- The revokes that a position lists are the Laws', in order of play, each with whether it is excused. Assumes nothing.
use Rattle.std.specs.Prelude.{if◌then◌else◌}
use Prim.Native.Nat.{ℕ, zero, suc, ◌≤◌, ◌<◌, ◌+◌, ◌-◌, ◌*◌, ◌/◌, ◌%◌, ◌^◌}
use mathlib.Core.Path.{◌≡◌, refl, sym, ◌∙◌}
use mathlib.Core.Bool.{Bool, true, false, ◌&&◌, ◌||◌}
use mathlib.Core.List.{List, [], ◌∷◌, map, map-append, append-nil}
use native.Mathlib.Nat.{pow-suc, div-one, div-div-eq-div-mul}
use native.Mathlib.Omega.{arith}
use borrow.Author.Tests.{eqb-true, eqb-false, le-leb, le-ltb, lt-ltb}
use lib.Bits.{bit_or, or_step}
use lib.Dec.{eqb, leb}
use lib.ListN.{length, drop, length-map}
use lib.Pow.{pow-add}
use Rattle.laws.specs.Cards.{suit_of, cards_dealt}
use Rattle.laws.specs.Law44.{cards_played, tricks_complete, cards_in_trick, to_play}
use Rattle.laws.specs.Law61.{is_revoke, revoke_at}
use Rattle.laws.specs.Events.{Event, played, exposed, choice, cards_of, list_plays}
use Rattle.laws.specs.Law51.{no_suit, required}
use Rattle.laws.specs.LeadRevoke.{leads, disobeys, is_excused, listed_suit, revoke_by, Counted, counted_by, counted_revokes, all_revokes}
use Rattle.laws.specs.Kept.{NoneRefused}
use Rattle.laws.proofs.Tests.{by_test}
use Rattle.laws.proofs.KeptChoices.{kept_choices}
use Rattle.laws.proofs.LeadRevokes.{following}
use Rattle.play.specs.Words.{bit_of}
use Rattle.play.specs.Told.{revoke_byte, card_before, bytes_in}
use Rattle.play.specs.History.{revoked_of, byte_of}
use Rattle.play.proofs.Masks.{half, lowest}
use Rattle.play.proofs.Filling.{none_in}
use Rattle.play.proofs.Entries.{all_entries, all-entries, byte_is, lead_byte_is, drop-next}
use Rattle.play.proofs.Thirteen.{at_most_52}
use Rattle.found.specs.Found.{named_by}
use Rattle.position.specs.Listed.{told_of, listed_byte, flag_at, bits_in, listed_in, free_in, listed_of, revokes_in}
use Rattle.position.specs.declared.table.Table.{Table}
use Rattle.position.specs.History.{leads_of, bits_of, excused_of, named_of}
use Rattle.penalty.proofs.Tests.{or_none}
use Rattle.penalty.proofs.Sets.{either-bit}
use Rattle.position.proofs.AtMost.{cards-allowed, at_most_48}
use Rattle.position.proofs.TableStands.{TableStands}
use Rattle.position.proofs.FoundStands.{named_bits, begun_leads, begun_follows, lead_no_revoke}

-- the tricks begun
abbrev begun : List Event → ℕ
begun e = (cards_played (cards_of e) + 3) / 4

eight : (m : ℕ) → 2 ^ (3 * m) ≡ 8 ^ m
eight zero = refl
eight (suc m) = let three : 3 * suc m ≡ 3 * m + 3 = omega arith in rw (three, pow-add 2 (3 * m) 3, eight m, pow-suc 8 m)

-- one division more
shift_more : (x b m : ℕ) → x / b ^ suc m ≡ x / b ^ m / b
shift_more x b m = rw pow-suc (sym (div-div-eq-div-mul x (b ^ m) b))

-- the last card's bit
last_bit : (deal : List ℕ) (trump opening c : ℕ) (e : List Event)
    → excused_of deal trump opening (played c ∷ e) % 2 ≡ bit_of (disobeys trump opening deal e c && is_excused trump opening deal e)
unfolding excused_of
last_bit deal trump opening c e = lowest (excused_of deal trump opening e) (disobeys trump opening deal e c && is_excused trump opening deal e)

-- a lead's byte has the suit required, where one is
lead_case : (suit byte trick seat own : ℕ) → ((suit ≡ no_suit → ⊥) → suit < 4) → byte ≡ revoke_byte trick seat own
    → (if leb 4 (named_by true suit) then byte / 4 * 4 + named_by true suit % 4 else byte) ≡ revoke_byte trick seat (if eqb suit no_suit then own else suit)
unfolding named_by revoke_byte
lead_case suit byte trick seat own low e =
    by_test (eqb suit no_suit)
    (λ (q : eqb suit no_suit ≡ true). rw (q, le-ltb suit 4 (omega (arith, eqb-true suit no_suit q))) e)
    (λ (q : eqb suit no_suit ≡ false).
    let small = low (eqb-false suit no_suit q) in
    rw (q, lt-ltb suit 4 small, le-leb 4 (4 + suit) (omega arith), e) (omega arith))

module _ (deal : List ℕ) (trump opening : ℕ) where
  -- the bits of both words are those of the revokes
  pub bits_is : (e : List Event) → bit_or (revoked_of deal trump opening (cards_of e)) (leads_of deal trump opening e) ≡ bits_of deal trump opening e
  unfolding revoked_of leads_of bits_of cards_of
  bits_is [] = refl
  bits_is (played c ∷ e) =
      let a = revoked_of deal trump opening (cards_of e) in
      let b = leads_of deal trump opening e in
      let x = is_revoke trump opening deal (cards_of e) c in
      let y = leads e && disobeys trump opening deal e c in
      let one : (x || y) ≡ disobeys trump opening deal e c =
      by_test (leads e)
      (λ (q : leads e ≡ true). rw (lead_no_revoke deal trump opening (cards_of e) c q, q))
      (λ (q : leads e ≡ false). rw (q, following trump opening deal e c q) (or_none x)) in
      or_step (a * 2 + bit_of x) (b * 2 + bit_of y)
      ∙ rw (half a x, half b y, lowest a x, lowest b y, either-bit x y, one, bits_is e)
  bits_is (exposed c deliberate ∷ e) = bits_is e
  bits_is (choice kind suit ∷ e) = bits_is e

  -- the events of e, with k cards of `full` after them
  record Behind (full e : List Event) (k : ℕ) : Type 0 where
    cards : cards_of e ≡ drop k (cards_of full)
    count : cards_played (cards_of full) ≡ k + cards_played (cards_of e)
    excused : excused_of deal trump opening full / 2 ^ k ≡ excused_of deal trump opening e
    order : begun e ≤ begun full
    named : named_of deal trump opening full / 8 ^ (begun full - begun e) ≡ named_of deal trump opening e

  behind-none : (full : List Event) → Behind full full 0
  behind-none full =
      let none : begun full - begun full ≡ 0 = omega arith in
      record {
        cards = refl;
        count = omega arith;
        excused = div-one (excused_of deal trump opening full);
        order = omega arith;
        named = rw none (div-one (named_of deal trump opening full));
      }

  behind-exposed : {full e : List Event} {k : ℕ} (c : ℕ) (deliberate : Bool) → Behind full (exposed c deliberate ∷ e) k → Behind full e k
  unfolding cards_of excused_of named_of
  behind-exposed c deliberate b = record { cards = b.cards; count = b.count; excused = b.excused; order = b.order; named = b.named }

  behind-choice : {full e : List Event} {k : ℕ} (kind suit : ℕ) → Behind full (choice kind suit ∷ e) k → Behind full e k
  unfolding cards_of excused_of named_of
  behind-choice kind suit b = record { cards = b.cards; count = b.count; excused = b.excused; order = b.order; named = b.named }

  behind-card : {full e : List Event} {k : ℕ} (c : ℕ) → Behind full (played c ∷ e) k → Behind full e (suc k)
  unfolding cards_of cards_played excused_of named_of cards_in_trick
  behind-card {full} {e} {k} c b =
      let n = length (cards_of e) in
      record {
        cards = drop-next k (cards_of full) (cards_of e) c b.cards;
        count = omega (arith, b.count);
        excused = shift_more (excused_of deal trump opening full) 2 k
            ∙ rw b.excused (half (excused_of deal trump opening e) (disobeys trump opening deal e c && is_excused trump opening deal e));
        order = omega (arith, b.count);
        named = by_test (eqb (n % 4) 0)
            (λ (q : eqb (n % 4) 0 ≡ true).
            let more = begun_leads n (eqb-true (n % 4) 0 q) in
            let back : begun full - begun e ≡ suc (begun full - suc (begun e)) = omega (arith, b.order, more) in
            let before = rw (more, q) at b.named in
            let told = named_bits (disobeys trump opening deal e c) (required e) in
            rw back (shift_more (named_of deal trump opening full) 8 (begun full - suc (begun e)) ∙ rw before (omega (arith, told))))
            (λ (q : eqb (n % 4) 0 ≡ false). rw (begun_follows n (eqb-false (n % 4) 0 q), q) at b.named);
      }

  card-drop : {full e : List Event} {k c : ℕ} → Behind full (played c ∷ e) k → c ∷ cards_of e ≡ drop k (cards_of full)
  unfolding cards_of
  card-drop b = b.cards

  -- ---- what is told of a card
  module _ {full e : List Event} {k c : ℕ} (b : Behind full (played c ∷ e) k) (most : cards_played (cards_of full) ≤ 52) where
    card-place : card_before (cards_played (cards_of full)) k ≡ cards_played (cards_of e)
    unfolding cards_of cards_played
    card-place = omega (arith, b.count)

    lead_place : ((cards_played (cards_of full) % 64 + 3) / 4 + 15 - cards_played (cards_of e) / 4) % 16 ≡ begun full - begun (played c ∷ e)
    unfolding cards_of cards_played
    lead_place = omega (arith, b.count, b.order)

    told_is : told_of (cards_played (cards_of full)) (named_of deal trump opening full) (card_before (cards_played (cards_of full)) k)
        ≡ named_of deal trump opening (played c ∷ e) % 8
    unfolding told_of
    told_is = rw (card-place, lead_place, eight (begun full - begun (played c ∷ e)), b.named)

    lead_told : leads e ≡ true → named_of deal trump opening (played c ∷ e) % 8 ≡ named_by (disobeys trump opening deal e c) (required e)
    unfolding named_of
    lead_told q = rw q (omega (arith, named_bits (disobeys trump opening deal e c) (required e)))

    flag_is : flag_at (excused_of deal trump opening full) k ≡ bit_of (disobeys trump opening deal e c && is_excused trump opening deal e)
    unfolding flag_at cards_of cards_played
    flag_is =
        let small : k % 64 ≡ k = omega (arith, b.count) in
        rw (small, b.excused) (last_bit deal trump opening c e)

  -- ---- the byte of a revoke
  module _ {full e : List Event} {k c : ℕ} (b : Behind full (played c ∷ e) k) (most : cards_played (cards_of full) ≤ 52)
      (w : NoneRefused trump opening deal e) (d : disobeys trump opening deal e c ≡ true) where
    abbrev byte : ℕ
    byte = listed_byte (all_entries trump opening (cards_of full)) (cards_played (cards_of full)) (named_of deal trump opening full) k

    follow_byte : leads e ≡ false → byte ≡ byte_of (revoke_by trump opening e c)
    unfolding listed_byte revoke_by listed_suit revoke_at cards_in_trick
    follow_byte q =
        rw (card-place b most, q) (byte_is trump opening (cards_of full) most k c (cards_of e) (card-drop b) (eqb-false (cards_in_trick (cards_of e)) 0 q))

    lead_byte : leads e ≡ true → byte ≡ byte_of (revoke_by trump opening e c)
    unfolding listed_byte revoke_by listed_suit cards_in_trick
    lead_byte q =
        let led = lead_byte_is trump opening (cards_of full) most k c (cards_of e) (card-drop b) (eqb-true (cards_in_trick (cards_of e)) 0 q) in
        rw (told_is b most, lead_told b most q, card-place b most, q, d)
        (lead_case (required e) _ (tricks_complete (cards_of e) + 1) (to_play trump opening (cards_of e)) (suit_of c)
        (kept_choices trump opening deal e w).required_suit led)

    byte_law : byte ≡ byte_of (revoke_by trump opening e c)
    byte_law = by_test (leads e) lead_byte follow_byte

  -- ---- the lists, from the last card to the first
  module _ (full : List Event) (most : cards_played (cards_of full) ≤ 52) where
    abbrev byte_from : ℕ → ℕ
    byte_from k = listed_byte (all_entries trump opening (cards_of full)) (cards_played (cards_of full)) (named_of deal trump opening full) k

    -- a list of the revokes, by what is told of each
    list_law : {A : Type 0} (told : ℕ → ℕ) (entry : List Event → ℕ → A) (f : A → ℕ)
        → ((k c : ℕ) (e : List Event) → Behind full (played c ∷ e) k → NoneRefused trump opening deal e → disobeys trump opening deal e c ≡ true
        → told k ≡ f (entry e c))
        → (k : ℕ) (e : List Event) → Behind full e k → NoneRefused trump opening deal e
        → bytes_in told (64 - k) (bits_of deal trump opening e) k ≡ map f (list_plays (disobeys trump opening deal) entry e)
    unfolding bytes_in bits_of list_plays NoneRefused
    list_law told entry f one k [] b w = none_in told (64 - k) k
    list_law told entry f one k (played c ∷ e) b w =
        let fuel : 64 - k ≡ suc (64 - suc k) = omega (arith, b.count) in
        let d = disobeys trump opening deal e c in
        let bits = bits_of deal trump opening e in
        let rest = list_plays (disobeys trump opening deal) entry e in
        rw (fuel, half bits d, lowest bits d, list_law told entry f one (suc k) e (behind-card c b) w.1) (by_test d
        (λ (q : d ≡ true). rw (q, one k c e b w.1 q) (sym (map-append f rest (entry e c ∷ []))))
        (λ (q : d ≡ false). rw (q, append-nil rest) (append-nil (map f rest))))
    list_law told entry f one k (exposed c deliberate ∷ e) b w = list_law told entry f one k e (behind-exposed c deliberate b) w.1
    list_law told entry f one k (choice kind suit ∷ e) b w = list_law told entry f one k e (behind-choice kind suit b) w.1

    bytes_law : NoneRefused trump opening deal full → bytes_in byte_from 64 (bits_of deal trump opening full) 0 ≡ map byte_of (all_revokes trump opening deal full)
    unfolding all_revokes
    bytes_law w = list_law byte_from (revoke_by trump opening) byte_of (λ k c e b v d. byte_law b most v d) 0 full (behind-none full) w

    flags_law : NoneRefused trump opening deal full
        → bytes_in (flag_at (excused_of deal trump opening full)) 64 (bits_of deal trump opening full) 0
        ≡ map (λ (r : Counted). bit_of r.excused) (counted_revokes trump opening deal full)
    unfolding counted_revokes counted_by
    flags_law w =
        list_law (flag_at (excused_of deal trump opening full)) (counted_by trump opening deal) (λ (r : Counted). bit_of r.excused)
        (λ k c e b v d. flag_is b most ∙ rw d) 0 full (behind-none full) w

-- ---- a position that stands
module _ (deal : List ℕ) (trump opening : ℕ) (all : length deal ≡ 52) (dealt : (seat : ℕ) → seat < 4 → cards_dealt seat deal ≡ 13) where
  module _ {t : Table} (e : List Event) (s : TableStands deal trump opening all t e) (w : NoneRefused trump opening deal e) where
    most : cards_played (cards_of e) ≤ 52
    most = at_most_52 deal trump opening all (cards_of e) (cards-allowed deal trump opening e w)

    bits_stand : bits_in t ≡ bits_of deal trump opening e
    unfolding bits_in
    bits_stand = rw (s.play.revoked, s.found.leads) (bits_is deal trump opening e)

    listed-is : listed_in t ≡ map byte_of (all_revokes trump opening deal e)
    unfolding listed_in
    listed-is = rw (bits_stand, all-entries deal trump opening all s.play most, s.play.played, s.found.named) (bytes_law deal trump opening e most w)

    free_is : free_in t ≡ map (λ (r : Counted). bit_of r.excused) (counted_revokes trump opening deal e)
    unfolding free_in
    free_is = rw (bits_stand, s.found.excused) (flags_law deal trump opening e most w)

    -- the theorem: what is listed is what the Laws list, and what is excused is what 64B3 excuses
    pub revokes_law : revokes_in t
        ≡ listed_of (map byte_of (all_revokes trump opening deal e)) (map (λ (r : Counted). bit_of r.excused) (counted_revokes trump opening deal e))
    unfolding revokes_in
    revokes_law =
        let many = length-map (all_revokes trump opening deal e) byte_of in
        rw (listed-is, free_is, many, le-ltb 48 (length (all_revokes trump opening deal e)) (at_most_48 deal trump opening all dealt e w))
