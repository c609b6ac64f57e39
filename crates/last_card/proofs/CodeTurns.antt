-- What follows a code among the cards: the position's refusal is the Law's, and its step that of the history. Assumes nothing.
use Prim.Native.Nat.{ℕ, ◌+◌, ◌%◌, ◌<◌}
use mathlib.Core.Path.{◌≡◌, sym, ap, ◌∙◌}
use mathlib.Core.Bool.{Bool, true, false}
use mathlib.Core.List.{List}
use native.Mathlib.Omega.{arith}
use borrow.Author.Tests.{eq-eqb, ne_eqb, leb-false}
use lib.Dec.{eqb}
use Rattle.laws.specs.Refusals.{refused, answered, Placed, refused_at, given, too_many_codes}
use Rattle.laws.proofs.Answered.{answer-taken, answer-refused}
use Rattle.laws.specs.Events.{Event}
use Rattle.laws.specs.CodeRefusal.{codes_full, exposure_refusal, choice_refusal}
use Rattle.laws.specs.Reading.{Reading.refused as stopped, Reading.found, read, refuse}
use Rattle.laws.specs.Plays.{read_exposed, read_choice}
use Rattle.position.specs.declared.table.Table.{Table}
use Rattle.penalty.specs.Position.{with_exposed, with_kind, with_choice}
use Rattle.position.specs.Table.{full_in, exposure_in, choice_in, after_exposed, after_choice, exposed_by, chosen_by}
use Rattle.position.specs.History.{position_of}
use Rattle.position.proofs.Refusing.{full_law, exposure_law, choice_law}
use Rattle.last_card.specs.declared.reading.Read.{Read}
use Rattle.position.specs.History.{OfEvents}
use Rattle.std.specs.Prelude.{Result, Ok, Err, IfOk}
use Rattle.laws.specs.declared.Refused.{Refused}
use Rattle.last_card.specs.Sections.{cards_of, code_by, CodeTaken}

-- a code counts
pub exposed-counts : {after : Table} (t : Table) (card : ℕ) (deliberate : Bool) → answered after ≡ exposed_by t card deliberate
    → after.penalty.codes ≡ t.penalty.codes % 64 + 1
unfolding exposed_by after_exposed with_exposed
exposed-counts t card deliberate e = ap (λ (x : Table). x.penalty.codes) (answer-taken (exposure_in t card) e).1

pub choice-counts : {after : Table} (t : Table) (kind suit : ℕ) → answered after ≡ chosen_by t kind suit → after.penalty.codes ≡ t.penalty.codes % 64 + 1
unfolding chosen_by after_choice with_choice with_kind
choice-counts t kind suit e = ap (λ (x : Table). x.penalty.codes) (answer-taken (choice_in t kind suit) e).1

-- a position with room for a code
pub room_in : (t : Table) → full_in t ≡ false → t.penalty.codes < 40
unfolding full_in
room_in t q = leb-false 40 t.penalty.codes q

-- where there was room for it, a code that was taken is one more
pub room_taken : (t : Table) → full_in t ≡ false → (r : Result (Read Table) Refused) (at : ℕ) → IfOk r (λ read. CodeTaken t at (t.penalty.codes % 64 + 1) read)
    → IfOk r (λ _. t.penalty.codes < 40)
room_taken t q (Ok x) at k = room_in t q
room_taken t q (Err e) at k = k

pub one_taken : (t : Table) → full_in t ≡ false → (r : Result (Read Table) Refused) (at : ℕ) → IfOk r (λ read. CodeTaken t at (t.penalty.codes % 64 + 1) read)
    → IfOk r (λ read. CodeTaken t at (t.penalty.codes + 1) read)
one_taken t q (Ok x) at k = (omega (arith, k.0, room_in t q), k.1, k.2)
one_taken t q (Err e) at k = k

module _ (deal : List ℕ) (trump opening : ℕ) (e : List Event) (t : Table) (place : ℕ) (o : OfEvents deal trump opening e t place)
    (bytes : List ℕ) (at : ℕ) where
  -- ---- an exposure
  abbrev exposes : Placed (Read Table)
  exposes = cards_of deal trump opening (read_exposed trump opening deal e bytes at)

  pub card-short : {m p : ℕ} → read 6 bytes at ≡ stopped m p → refused_at m p ≡ exposes
  unfolding read_exposed
  card-short q = rw q

  module _ (card : ℕ) (q : read 6 bytes at ≡ found card (at + 6)) where
    pub bit-short : {m p : ℕ} → read 1 bytes (at + 6) ≡ stopped m p → refused_at m p ≡ exposes
    unfolding read_exposed
    bit-short r = rw (q, r)

    module _ (bit : ℕ) (r : read 1 bytes (at + 6) ≡ found bit (at + 6 + 1)) where
      exposed_law : exposure_refusal trump opening deal e card ≡ exposure_in t card
      exposed_law =
          sym (ap (λ (x : Table). exposure_in x card) o.position
          ∙ exposure_law deal trump opening o.deal_of_lem.places o.deal_of_lem.thirteen o.seat e o.none_refused card)

      pub exposed_stops : {m : ℕ} → refused m ≡ exposed_by t card (eqb bit 1) → refused_at m place ≡ exposes
      unfolding read_exposed refuse exposed_by
      exposed_stops d =
          let f = answer-refused (exposure_in t card) (after_exposed t card (eqb bit 1)) d in
          rw (q, r, exposed_law, ne_eqb (exposure_in t card) 0 f.0, f.1, o.many)

      pub exposed-goes : {after : Table} → answered after ≡ exposed_by t card (eqb bit 1) → given (record { value = after; next = at + 7 }) ≡ exposes
      unfolding read_exposed refuse position_of exposed_by
      exposed-goes d =
          let f = answer-taken (exposure_in t card) d in
          let n : at + 6 + 1 ≡ at + 7 = omega arith in
          rw (q, r, exposed_law, eq-eqb (exposure_in t card) 0 f.0, f.1, o.position, n)

  -- ---- a choice
  abbrev chooses : Placed (Read Table)
  chooses = cards_of deal trump opening (read_choice trump opening deal e bytes at)

  pub kind_short : {m p : ℕ} → read 2 bytes at ≡ stopped m p → refused_at m p ≡ chooses
  unfolding read_choice
  kind_short q = rw q

  module _ (kind : ℕ) (q : read 2 bytes at ≡ found kind (at + 2)) where
    pub suit-short : {m p : ℕ} → read 2 bytes (at + 2) ≡ stopped m p → refused_at m p ≡ chooses
    unfolding read_choice
    suit-short r = rw (q, r)

    module _ (suit : ℕ) (r : read 2 bytes (at + 2) ≡ found suit (at + 2 + 2)) where
      chosen_law : choice_refusal trump opening deal e kind suit ≡ choice_in t kind suit
      chosen_law =
          sym (ap (λ (x : Table). choice_in x kind suit) o.position
          ∙ choice_law deal trump opening o.deal_of_lem.places o.deal_of_lem.thirteen o.seat e o.none_refused kind suit)

      pub choice_stops : {m : ℕ} → refused m ≡ chosen_by t kind suit → refused_at m place ≡ chooses
      unfolding read_choice refuse chosen_by
      choice_stops d =
          let f = answer-refused (choice_in t kind suit) (after_choice t kind suit) d in
          rw (q, r, chosen_law, ne_eqb (choice_in t kind suit) 0 f.0, f.1, o.many)

      pub choice-goes : {after : Table} → answered after ≡ chosen_by t kind suit → given (record { value = after; next = at + 4 }) ≡ chooses
      unfolding read_choice refuse position_of chosen_by
      choice-goes d =
          let f = answer-taken (choice_in t kind suit) d in
          let n : at + 2 + 2 ≡ at + 4 = omega arith in
          rw (q, r, chosen_law, eq-eqb (choice_in t kind suit) 0 f.0, f.1, o.position, n)

  -- ---- either
  full_is : full_in t ≡ codes_full e
  full_is = ap full_in o.position ∙ full_law deal trump opening o.deal_of_lem.places o.deal_of_lem.thirteen o.seat e o.none_refused

  module _ (code : ℕ) where
    abbrev coded : Placed (Read Table)
    coded = cards_of deal trump opening (code_by trump opening deal code e bytes at)

    pub code_over : full_in t ≡ true → refused_at too_many_codes place ≡ coded
    unfolding code_by refuse
    code_over q = rw (sym full_is ∙ q, o.many)

    pub code_exposes : full_in t ≡ false → code ≡ 52 → exposes ≡ coded
    unfolding code_by refuse
    code_exposes q i = rw (sym full_is ∙ q, eq-eqb code 52 i)

    pub code_chooses : full_in t ≡ false → (code ≡ 52 → ⊥) → chooses ≡ coded
    unfolding code_by refuse
    code_chooses q i = rw (sym full_is ∙ q, ne_eqb code 52 i)
