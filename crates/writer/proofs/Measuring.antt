-- The fields of a flat list of plays from a place on, and the loop that counts their bits. Assumes nothing.
use Rattle.std.specs.Prelude.{if◌then◌else◌}
use Prim.Native.Nat.{ℕ, ◌≤◌, ◌<◌, ◌+◌, ◌*◌}
use native.Mathlib.Omega.{arith}
use mathlib.Core.Path.{◌≡◌, refl, sym, ap}
use mathlib.Core.Bool.{true, false}
use mathlib.Core.List.{List, ◌∷◌, ◌++◌}
use borrow.Author.Tests.{eqb-true, eqb-false, ltb-false}
use lib.Dec.{eqb, ltb}
use lib.ListN.{length, get_or}
use Rattle.laws.specs.Choice.{some}
use Rattle.laws.specs.Events.{exposure_code, choice_code, begins_code}
use Rattle.laws.specs.FlatPlay.{Item, code_item, items_of, is_broken, events_among}
use Rattle.laws.specs.Record.{field, bits, event_fields, play_fields}
use Rattle.laws.proofs.Tests.{by_test, not_both}
use Rattle.laws.proofs.Written.{bits_append}
use Rattle.contents.proofs.Items.{items_at, none_at, card_at_lem, code_at, whole_code, whole-card, whole-behind}
use Rattle.writer.specs.Fields.{code_fields, fields_of}

-- a code that is not broken has its own fields
pub code_event : (x y z : ℕ) → begins_code x ≡ true → is_broken (code_item x y z) ≡ false → (items : List Item)
    → play_fields (events_among (code_item x y z ∷ items)) ≡ code_fields x y z ++ play_fields (events_among items)
unfolding code_item is_broken events_among play_fields event_fields code_fields
code_event x y z c n items =
    by_test (eqb x exposure_code)
    (λ (q : eqb x exposure_code ≡ true).
    by_test (ltb 1 z)
    (λ (r : ltb 1 z ≡ true). not_both true refl (rw (q, r) at n))
    (λ (r : ltb 1 z ≡ false). rw (q, r, eqb-true x exposure_code q)
    (ap (λ (b : ℕ). field 6 exposure_code ∷ field 6 y ∷ field 1 b ∷ play_fields (events_among items)) (bit_is z (ltb-false 1 z r)))))
    (λ (q : eqb x exposure_code ≡ false).
    let this = eqb-true x choice_code (rw q at c) in
    rw (q, this))
  where
    bit_is : (z : ℕ) → z ≤ 1 → (if eqb z 1 then 1 else 0) ≡ z
    bit_is z h =
        by_test (eqb z 1)
        (λ (q : eqb z 1 ≡ true). rw q (sym (eqb-true z 1 q)))
        (λ (q : eqb z 1 ≡ false). rw q (omega (arith, eqb-false z 1 q)))

module _ (plays : List ℕ) (i : ℕ) (h : i < length plays) (c : ℕ) (ec : c ≡ get_or plays i 0) (whole : some is_broken (items_at plays i) ≡ false) where
  -- the fields of a card, and of a code, before those behind
  pub fields-card : begins_code c ≡ false → play_fields (events_among (items_at plays i)) ≡ field 6 c ∷ play_fields (events_among (items_at plays (i + 1)))
  unfolding events_among play_fields event_fields
  fields-card n = rw (card_at_lem plays i h c ec n)

  pub fields_code : begins_code c ≡ true → play_fields (events_among (items_at plays i))
      ≡ code_fields c (get_or plays (i + 1) 0) (get_or plays (i + 2) 0) ++ play_fields (events_among (items_at plays (i + 3)))
  fields_code b =
      rw (code_at plays i h c ec b (whole_code plays i h c ec whole b))
      (code_event c (get_or plays (i + 1) 0) (get_or plays (i + 2) 0) b (whole-behind plays i h c ec whole b).0 (items_at plays (i + 3)))

pub bits_code : (x y z : ℕ) → bits (code_fields x y z) ≡ (if eqb x 52 then 13 else 10)
unfolding bits code_fields
bits_code x y z =
    by_test (eqb x 52) (λ (q : eqb x 52 ≡ true). rw q) (λ (q : eqb x 52 ≡ false). rw q)

module _ (plays : List ℕ) where
  -- after i numbers of a list without a broken code: the bits so far, and those to come
  pub record Measured (sum i : ℕ) : Type 0 where
    pub whole : some is_broken (items_at plays i) ≡ false
    pub same : sum + bits (play_fields (events_among (items_at plays i))) ≡ bits (fields_of plays)
    pub few : sum ≤ 13 * i

  pub measure_begins : some is_broken (items_of plays) ≡ false → Measured 0 0
  unfolding fields_of
  measure_begins w = record { whole = w; same = omega arith; few = omega arith }

  pub measure_ends : {sum i : ℕ} → Measured sum i → length plays ≤ i → sum ≡ bits (fields_of plays)
  unfolding bits play_fields events_among
  measure_ends {sum} {i} r h = let e = rw (none_at plays i h) at r.same in omega (arith, e)

  module _ {sum i : ℕ} (r : Measured sum i) (h : i < length plays) where
    abbrev here : ℕ
    here = get_or plays i 0

    pub measure_card : begins_code here ≡ false → Measured (sum + 6) (i + 1)
    unfolding bits
    measure_card b =
        let e = rw (fields-card plays i h here refl r.whole b) at r.same in
        record { whole = whole-card plays i h here refl r.whole b; same = omega (arith, e); few = omega (arith, r.few) }

    pub measure_code : (n : ℕ) → n ≡ (if eqb here 52 then 13 else 10) → n ≤ 13 → begins_code here ≡ true → Measured (sum + n) (i + 3)
    measure_code n en low b =
        let y = get_or plays (i + 1) 0 in
        let z = get_or plays (i + 2) 0 in
        let rest = play_fields (events_among (items_at plays (i + 3))) in
        let e = rw (fields_code plays i h here refl r.whole b) at r.same in
        record {
          whole = (whole-behind plays i h here refl r.whole b).1;
          same = omega (arith, e, bits_append (code_fields here y z) rest, bits_code here y z, en);
          few = omega (arith, r.few);
        }
