-- The items of a flat list from a place on: a card, a code with its two numbers, or a code that is cut short. Assumes nothing.
use Prim.Native.Nat.{ℕ, suc, ◌≤◌, ◌<◌, ◌+◌}
use native.Mathlib.Omega.{arith}
use mathlib.Core.Path.{◌≡◌, refl, ap, ◌∙◌}
use mathlib.Core.Bool.{true, false, ◌||◌}
use mathlib.Core.List.{List, [], ◌∷◌}
use borrow.Author.Tests.{ltb-true, ltb-false}
use lib.Dec.{eqb, ltb}
use lib.ListN.{length, get_or, drop, length-drop, drop_of_length-le}
use lib.Seq.{drop-cons}
use Rattle.laws.specs.Choice.{some, how_many}
use Rattle.laws.specs.Events.{played, exposure_code, begins_code}
use Rattle.laws.specs.FlatPlay.{Item, event, broken, code_item, last_item, items_of, is_card, cards_in, is_broken}
use Rattle.laws.proofs.Tests.{by_test, not_both, or_left, or_right}
use Rattle.laws.proofs.FlatPlay.{card-first, code_first}

-- a code is no card
pub code_no_card : (x y z : ℕ) → is_card (code_item x y z) ≡ false
unfolding code_item is_card
code_no_card x y z =
    by_test (eqb x exposure_code)
    (λ (q : eqb x exposure_code ≡ true). rw q (by_test (ltb 1 z) (λ (r : ltb 1 z ≡ true). rw r) (λ (r : ltb 1 z ≡ false). rw r)))
    (λ (q : eqb x exposure_code ≡ false). rw q)

module _ (plays : List ℕ) where
  -- the items from a place on
  abbrev pub items_at : ℕ → List Item
  items_at i = items_of (drop i plays)

  pub none_at : (i : ℕ) → length plays ≤ i → items_at i ≡ []
  unfolding items_of
  none_at i h = rw (drop_of_length-le plays h)

  next : (i : ℕ) → i < length plays → drop i plays ≡ get_or plays i 0 ∷ drop (i + 1) plays
  next i h = let e : i + 1 ≡ suc i = omega arith in rw e (drop-cons plays i 0 h)

  module _ (i : ℕ) (h : i < length plays) (c : ℕ) (ec : c ≡ get_or plays i 0) where
    pub card_at_lem : begins_code c ≡ false → items_at i ≡ event (played c) ∷ items_at (i + 1)
    card_at_lem n = ap items_of (next i h) ∙ rw (← ec) (card-first c (drop (i + 1) plays) n)

    pub code_at : begins_code c ≡ true → i + 2 < length plays → items_at i ≡ code_item c (get_or plays (i + 1) 0) (get_or plays (i + 2) 0) ∷ items_at (i + 3)
    code_at b l =
        let e₁ : i + 1 + 1 ≡ i + 2 = omega arith in
        let e₂ : i + 2 + 1 ≡ i + 3 = omega arith in
        let second = rw e₁ at (next (i + 1) (omega arith)) in
        let third = rw e₂ at (next (i + 2) l) in
        ap items_of (next i h) ∙ rw (← ec, second, third) (code_first c (get_or plays (i + 1) 0) (get_or plays (i + 2) 0) (drop (i + 3) plays) b)

    -- fewer than two numbers follow a code
    cut : (l : List ℕ) → length l ≤ 1 → begins_code c ≡ true → items_of (c ∷ l) ≡ broken ∷ []
    unfolding items_of last_item
    cut [] s b = rw b
    cut (y ∷ []) s b = rw b
    cut (y ∷ z ∷ l) s b = absurd (omega arith)

    pub cut_at : begins_code c ≡ true → length plays ≤ i + 2 → items_at i ≡ broken ∷ []
    cut_at b l =
        ap items_of (next i h) ∙ rw (← ec) (cut (drop (i + 1) plays) (rw (length-drop (i + 1) plays) (omega arith)) b)

    -- nothing comes after a code that is cut short
    pub none_after : length plays ≤ i + 2 → items_at (i + 3) ≡ []
    none_after l = none_at (i + 3) (omega arith)

    -- ---- in a list without a broken code
    module _ (whole : some is_broken (items_at i) ≡ false) where
      pub whole_code : begins_code c ≡ true → i + 2 < length plays
      unfolding some is_broken
      whole_code b =
          by_test (ltb (i + 2) (length plays))
          (λ (q : ltb (i + 2) (length plays) ≡ true). ltb-true (i + 2) (length plays) q)
          (λ (q : ltb (i + 2) (length plays) ≡ false). not_both true refl (rw (cut_at b (ltb-false (i + 2) (length plays) q)) at whole))

      pub whole-card : begins_code c ≡ false → some is_broken (items_at (i + 1)) ≡ false
      unfolding some is_broken
      whole-card n = rw (card_at_lem n) at whole

      pub whole-behind : (b : begins_code c ≡ true) → (is_broken (code_item c (get_or plays (i + 1) 0) (get_or plays (i + 2) 0)) ≡ false)
          × (some is_broken (items_at (i + 3)) ≡ false)
      unfolding some
      whole-behind b =
          let item = code_item c (get_or plays (i + 1) 0) (get_or plays (i + 2) 0) in
          let w : (is_broken item || some is_broken (items_at (i + 3))) ≡ false = rw (code_at b (whole_code b)) at whole in
          (or_left (is_broken item) (some is_broken (items_at (i + 3))) w, or_right (is_broken item) (some is_broken (items_at (i + 3))) w)

-- ---- the loop that counts cards
module _ (plays : List ℕ) where
  -- after i numbers: the cards so far, and those to come
  pub record Counted (n i : ℕ) : Type 0 where
    pub same : n + how_many is_card (items_at plays i) ≡ cards_in plays
    pub few : n ≤ i

  pub count-begins : Counted 0 0
  unfolding cards_in
  count-begins = record { same = omega arith; few = omega arith }

  pub count_ends : {n i : ℕ} → Counted n i → length plays ≤ i → n ≡ cards_in plays
  unfolding how_many
  count_ends {n} {i} r h = let e = rw (none_at plays i h) at r.same in omega (arith, e)

  -- a code leaves the cards to come, and a card takes one of them
  module _ (i : ℕ) (h : i < length plays) where
    pub code_leaves : begins_code (get_or plays i 0) ≡ true → how_many is_card (items_at plays i) ≡ how_many is_card (items_at plays (i + 3))
    unfolding how_many is_card
    code_leaves b =
        let c = get_or plays i 0 in
        by_test (ltb (i + 2) (length plays))
        (λ (q : ltb (i + 2) (length plays) ≡ true).
        rw (code_at plays i h c refl b (ltb-true (i + 2) (length plays) q), code_no_card c (get_or plays (i + 1) 0) (get_or plays (i + 2) 0)) (omega arith))
        (λ (q : ltb (i + 2) (length plays) ≡ false).
        let short = ltb-false (i + 2) (length plays) q in
        rw (cut_at plays i h c refl b short, none_after plays i h c refl short) (omega arith))

    pub card_takes : begins_code (get_or plays i 0) ≡ false → how_many is_card (items_at plays i) ≡ 1 + how_many is_card (items_at plays (i + 1))
    unfolding how_many is_card
    card_takes b = rw (card_at_lem plays i h (get_or plays i 0) refl b)

  module _ {n i : ℕ} (r : Counted n i) (h : i < length plays) where
    pub count-card : begins_code (get_or plays i 0) ≡ false → Counted (n + 1) (i + 1)
    count-card b = record { same = omega (arith, card_takes i h b, r.same); few = omega (arith, r.few) }

    pub count_code : begins_code (get_or plays i 0) ≡ true → Counted n (i + 3)
    count_code b = record { same = omega (arith, code_leaves i h b, r.same); few = omega (arith, r.few) }
