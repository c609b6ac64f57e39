-- Cards in columns brought into their order of play, a trick at a turn. Assumes nothing.
use Prim.Native.Nat.{ℕ, suc, ◌+◌, ◌%◌, ◌≤◌, ◌<◌}
use native.Mathlib.Omega.{arith}
use mathlib.Core.Path.{◌≡◌, refl, sym, ap, ap₂, ◌∙◌}
use mathlib.Core.List.{List, [], ◌∷◌, ◌++◌, append_assoc, append-nil, reverse}
use lib.ListN.{length, get_or, take, drop, set, replicate, length-set, length-append, length-take, drop_of_length-le}
use lib.Seq.{drop-cons, take_all, take_at, sets-eq}
use Rattle.laws.specs.Cards.{clockwise}
use Rattle.laws.specs.Law44.{winner}
use Rattle.laws.specs.PbnOrder.{places_to, relisted, order_from, order_of_play}
use Rattle.laws.proofs.PbnOrder.{of-seat}

-- so many cards are in order, and the others follow from the trick's leader on
pub record InPlay (cards : List ℕ) (trump first : ℕ) (order : List ℕ) (leader at : ℕ) : Type 0 where
  pub within : at ≤ 52
  pub fours : at % 4 ≡ 0
  pub low : leader < 4
  pub all : length cards ≡ 52
  pub room : length order ≡ 52
  pub same : order_of_play trump first cards ≡ take at order ++ order_from trump first leader (drop at cards)

pub begins : (cards : List ℕ) (trump first : ℕ) → first < 4 → length cards ≡ 52 → InPlay cards trump first (replicate 52 0) first 0
begins cards trump first h n = record { within = omega arith; fours = refl; low = h; all = n; room = refl; same = refl }

-- four cards from a place on
four-cards : (cards : List ℕ) (at : ℕ) → at + 4 ≤ length cards
    → drop at cards ≡ get_or cards at 0 ∷ get_or cards (at + 1) 0 ∷ get_or cards (at + 2) 0 ∷ get_or cards (at + 3) 0 ∷ drop (at + 4) cards
four-cards cards at h =
    let a : at + 1 ≡ suc at = omega arith in
    let b : at + 2 ≡ suc (suc at) = omega arith in
    let c : at + 3 ≡ suc (suc (suc at)) = omega arith in
    let d : at + 4 ≡ suc (suc (suc (suc at))) = omega arith in
    let p : at < length cards = omega arith in
    let q : suc at < length cards = omega arith in
    let r : suc (suc at) < length cards = omega arith in
    let s : suc (suc (suc at)) < length cards = omega arith in
    rw (a, b, c, d)
    (drop-cons cards at 0 p
    ∙ ap (λ l. get_or cards at 0 ∷ l)
    (drop-cons cards (suc at) 0 q
    ∙ ap (λ l. get_or cards (suc at) 0 ∷ l)
    (drop-cons cards (suc (suc at)) 0 r
    ∙ ap (λ l. get_or cards (suc (suc at)) 0 ∷ l) (drop-cons cards (suc (suc (suc at))) 0 s))))

module _ (cards : List ℕ) (trump first : ℕ) (order : List ℕ) (leader at : ℕ) (r : InPlay cards trump first order leader at) (more : at < 52) where
  abbrev row : List ℕ
  row = get_or cards at 0 ∷ get_or cards (at + 1) 0 ∷ get_or cards (at + 2) 0 ∷ get_or cards (at + 3) 0 ∷ []

  whole : at + 4 ≤ 52
  whole = omega (arith, r.fours)

  in_row : (p q : ℕ) → p < 4 → q ≡ p → get_or row q 0 ≡ get_or cards (at + p) 0
  in_row p q h e =
      let first_one : at + 0 ≡ at = omega arith in
      rw e (of-seat (λ p. get_or row p 0 ≡ get_or cards (at + p) 0) (rw first_one) refl refl refl p h)

  module _ (pa pb pc pd : ℕ) (a : (pa ≡ places_to first leader) × (pa < 4)) (b : (pb ≡ places_to first (clockwise leader 1)) × (pb < 4))
      (c : (pc ≡ places_to first (clockwise leader 2)) × (pc < 4)) (d : (pd ≡ places_to first (clockwise leader 3)) × (pd < 4)) where
    abbrev trick : List ℕ
    trick = get_or cards (at + pa) 0 ∷ get_or cards (at + pb) 0 ∷ get_or cards (at + pc) 0 ∷ get_or cards (at + pd) 0 ∷ []

    in_order : relisted first leader row ≡ trick
    unfolding relisted
    in_order =
        ap₂ ◌∷◌ (in_row pa _ a.1 (sym a.0))
        (ap₂ ◌∷◌ (in_row pb _ b.1 (sym b.0))
        (ap₂ ◌∷◌ (in_row pc _ c.1 (sym c.0))
        (ap₂ ◌∷◌ (in_row pd _ d.1 (sym d.0)) refl)))

    abbrev next : List ℕ
    next =
        set (set (set (set order at (get_or cards (at + pa) 0)) (at + 1) (get_or cards (at + pb) 0)) (at + 2) (get_or cards (at + pc) 0)) (at + 3)
        (get_or cards (at + pd) 0)

    put : take (at + 4) next ≡ take at order ++ trick
    put =
        let p : at + 1 ≡ suc at = omega arith in
        let q : at + 2 ≡ suc (suc at) = omega arith in
        let s : at + 3 ≡ suc (suc (suc at)) = omega arith in
        let front : length (take at order ++ trick) ≡ at + 4
        = omega (arith, length-append (take at order) trick, length-take at order, r.room, whole) in
        let run : next ≡ take at order ++ trick ++ drop (at + 4) order = rw (p, q, s) (sets-eq trick order at (omega (arith, r.room, whole))) in
        ap (take (at + 4)) run ∙ take_at (take at order ++ trick) (drop (at + 4) order) (at + 4) front

    onward : order_from trump first leader (drop at cards)
        ≡ trick ++ order_from trump first (winner trump leader (reverse trick)) (drop (at + 4) cards)
    unfolding order_from
    onward =
        ap (order_from trump first leader) (four-cards cards at (omega (arith, r.all, whole)))
        ∙ ap (λ l. l ++ order_from trump first (winner trump leader (reverse l)) (drop (at + 4) cards)) in_order

    pub turn : (w : ℕ) → w ≡ winner trump leader (reverse trick) → w < 4 → InPlay cards trump first next w (at + 4)
    turn w e low =
        record {
          within = whole;
          fours = omega (arith, r.fours);
          low = low;
          all = r.all;
          room = simp length-set r.room;
          same =
              r.same
              ∙ ap (λ l. take at order ++ l) onward
              ∙ sym (append_assoc (take at order) trick _)
              ∙ ap₂ (λ f v. f ++ order_from trump first v (drop (at + 4) cards)) (sym put) (sym e);
        }

pub ends : (cards : List ℕ) (trump first : ℕ) (order : List ℕ) (leader at : ℕ) → InPlay cards trump first order leader at → (at < 52 → ⊥)
    → order ≡ order_of_play trump first cards
unfolding order_from
ends cards trump first order leader at r over =
    let none : length cards ≤ at = omega (arith, r.all, r.within) in
    let full : take at order ≡ order = take_all at order (omega (arith, r.room, r.within)) in
    sym
    (r.same
    ∙ ap₂ (λ l m. l ++ order_from trump first leader m) full (drop_of_length-le cards none)
    ∙ append-nil order)
