-- The plays that pass a test, listed in order of play, by their places among all plays, codes counted too: the places rise, and entries that tell the trick
-- and the seat stand once. Assumes nothing.
use Rattle.std.specs.Prelude.{if◌then◌else◌}
use Prim.Native.Nat.{ℕ, zero, suc, ◌+◌, ◌-◌, ◌/◌, ◌%◌, ◌≤◌, ◌<◌}
use native.Mathlib.Omega.{arith}
use mathlib.Core.Path.{◌≡◌, refl, sym, ap, subst, ◌∙◌}
use mathlib.Core.Logic.{◌↔◌, ◌⊎◌, ⊎_elim}
use mathlib.Core.Bool.{Bool, true, false}
use mathlib.Core.List.{List, [], ◌∷◌, ◌++◌, map, map-append, append-nil, append_assoc, reverse, reverse-append}
use mathlib.Core.List.{Memᴰ}
use lib.Dec.{eqb}
use borrow.Author.Tests.{eqb-true, eqb-false, ne_eqb}
use lib.ListN.{length, get_or, take, drop, length-append}
use lib.Seq.{take-length}
use Rattle.laws.specs.Cards.{clockwise}
use Rattle.laws.specs.Law44.{cards_played, tricks_complete, cards_in_trick, leader, to_play}
use Rattle.laws.specs.Events.{Event, played, exposed, choice, cards_of, list_plays}
use Rattle.laws.proofs.Tests.{by_test}
use Rattle.laws.specs.Record.{Parts}
use Rattle.laws.specs.Judgement.{play_of}
use Rattle.promises.specs.Demand2Revokes.{Rising, first_card, InOrder}
use Rattle.promises.proofs.UnfinishedTrick.{cards_append}

-- ---- a place of the plays
-- the event at a place, and the plays before it with that event
record Place (plays : List Event) (k : ℕ) : Type 0 where
  pub at : Event
  pub there : drop k plays ≡ at ∷ drop (suc k) plays
  pub next : take (suc k) plays ≡ take k plays ++ (at ∷ [])

place : (plays : List Event) (k : ℕ) → k < length plays → Place plays k
place [] k h = absurd (omega arith)
place (v ∷ plays) zero h = record { at = v; there = refl; next = refl }
place (v ∷ plays) (suc k) h =
    let p = place plays k (omega arith) in
    record { at = p.at; there = p.there; next = ap (λ (l : List Event). v ∷ l) p.next }

history_next : (plays : List Event) (k : ℕ) (p : Place plays k) → reverse (take (suc k) plays) ≡ p.at ∷ reverse (take k plays)
history_next plays k p = ap reverse p.next ∙ reverse-append (take k plays) (p.at ∷ [])

within : (plays : List Event) (k : ℕ) {v : Event} {rest : List Event} → drop k plays ≡ v ∷ rest → k < length plays
within [] zero e = absurd (let z = ap length e in omega (arith, z))
within [] (suc k) e = absurd (let z = ap length e in omega (arith, z))
within (v ∷ plays) zero e = omega arith
within (v ∷ plays) (suc k) e = omega (arith, within plays k e)

-- events from a place on that begin with a card pass the test
passes : (List Event → ℕ → Bool) → List Event → List Event → Bool
passes test before [] = false
passes test before (played c ∷ rest) = test before c
passes test before (exposed c deliberate ∷ rest) = false
passes test before (choice kind suit ∷ rest) = false

rising-behind : (ks : List ℕ) (n : ℕ) → Rising ks → ((k : ℕ) → Memᴰ k ks → k < n) → Rising (ks ++ (n ∷ []))
unfolding Rising
rising-behind [] n r below = (λ m i. absurd (mathlib.Core.List.Memᴰ.not-nil i), tt)
rising-behind (k ∷ ks) n r below = (
  λ m i. ⊎_elim
      (λ (j : Memᴰ m ks). r.0 m j)
      (λ (j : Memᴰ m (n ∷ [])). rw (mathlib.Core.List.Memᴰ.eq_of_singleton j) (below k (mathlib.Core.List.Memᴰ.head refl)))
      (mathlib.Core.List.Memᴰ.append_cases ks i),
  rising-behind ks n r.1 (λ m i. below m (mathlib.Core.List.Memᴰ.tail i)),
)

module _ {A : Type 0} (test : List Event → ℕ → Bool) (entry : List Event → ℕ → A) (plays : List Event) where
  abbrev before : ℕ → List Event
  before k = reverse (take k plays)

  abbrev is_at : ℕ → Bool
  is_at k = passes test (before k) (drop k plays)

  abbrev entry_at : ℕ → A
  entry_at k = entry (before k) (first_card (drop k plays))

  places_to : ℕ → List ℕ
  places_to zero = []
  places_to (suc n) = places_to n ++ (if is_at n then (n ∷ []) else [])

  abbrev last_of : ℕ → List ℕ
  last_of n = if is_at n then (n ∷ []) else []

  step : (n : ℕ) (v : Event) → drop n plays ≡ v ∷ drop (suc n) plays → list_plays test entry (before n) ≡ map entry_at (places_to n)
      → list_plays test entry (v ∷ before n) ≡ map entry_at (places_to n) ++ map entry_at (last_of n)
  unfolding list_plays passes first_card
  step n (played c) e l =
      rw l
      (by_test (test (before n) c)
      (λ (q : test (before n) c ≡ true). simp (q, e, q))
      (λ (q : test (before n) c ≡ false). simp (q, e, q)))
  step n (exposed c deliberate) e l = l ∙ rw e (sym (append-nil (map entry_at (places_to n))))
  step n (choice kind suit) e l = l ∙ rw e (sym (append-nil (map entry_at (places_to n))))

  list-to : (n : ℕ) → n ≤ length plays → list_plays test entry (before n) ≡ map entry_at (places_to n)
  unfolding list_plays places_to
  list-to zero h = refl
  list-to (suc n) h =
      let p = place plays n (omega arith) in
      ap (list_plays test entry) (history_next plays n p)
      ∙ step n p.at p.there (list-to n (omega arith))
      ∙ sym (map-append entry_at (places_to n) (last_of n))

  placed : (n k : ℕ) → Memᴰ k (places_to n) → (k < n) × (is_at k ≡ true)
  unfolding places_to
  placed zero k m = absurd (mathlib.Core.List.Memᴰ.not-nil m)
  placed (suc n) k m =
      ⊎_elim
      (λ (i : Memᴰ k (places_to n)). let r = placed n k i in (omega (arith, r.0), r.1))
      (λ (i : Memᴰ k (last_of n)). by_test (is_at n)
      (λ (q : is_at n ≡ true). let e : k ≡ n = mathlib.Core.List.Memᴰ.eq_of_singleton (rw q at i) in (omega (arith, e), rw e q))
      (λ (q : is_at n ≡ false). absurd (mathlib.Core.List.Memᴰ.not-nil (rw q at i))))
      (mathlib.Core.List.Memᴰ.append_cases (places_to n) m)

  has-place : (n k : ℕ) → k < n → is_at k ≡ true → Memᴰ k (places_to n)
  unfolding places_to
  has-place zero k h q = absurd (omega arith)
  has-place (suc n) k h q =
      by_test (eqb k n)
      (λ (e : eqb k n ≡ true). let f = eqb-true k n e in mathlib.Core.List.Memᴰ.append_right (places_to n) (rw (← f, q) (mathlib.Core.List.Memᴰ.head refl)))
      (λ (e : eqb k n ≡ false). let f = eqb-false k n e in mathlib.Core.List.Memᴰ.append_left _ (has-place n k (omega (arith, f)) q))

  places_rise : (n : ℕ) → Rising (places_to n)
  unfolding places_to Rising
  places_rise zero = tt
  places_rise (suc n) =
      by_test (is_at n)
      (λ (q : is_at n ≡ true). rw q (rising-behind (places_to n) n (places_rise n) (λ k i. (placed n k i).0)))
      (λ (q : is_at n ≡ false). rw (q, append-nil (places_to n)) (places_rise n))

  -- the card at a place, where it passes
  pub record Passing (k : ℕ) : Type 0 where
    pub card : ℕ
    pub there : drop k plays ≡ played card ∷ drop (suc k) plays
    pub passing : test (before k) card ≡ true

  -- ---- the places of all plays that pass
  pub places : List ℕ
  places = places_to (length plays)

  pub as_listed : list_plays test entry (reverse plays) ≡ map entry_at places
  unfolding places
  as_listed = ap (λ (l : List Event). list_plays test entry (reverse l)) (sym (take-length plays)) ∙ list-to (length plays) (omega arith)

  passing_at : (k : ℕ) (v : Event) → drop k plays ≡ v ∷ drop (suc k) plays → is_at k ≡ true → Passing k
  unfolding passes
  passing_at k (played c) e q = record { card = c; there = e; passing = rw e at q }
  passing_at k (exposed c deliberate) e q = absurd (let z : ◌≡◌ {A = Bool} false true = rw e at q in let y : ◌≡◌ {A = ℕ} 1 0 = cc in omega arith)
  passing_at k (choice kind suit) e q = absurd (let z : ◌≡◌ {A = Bool} false true = rw e at q in let y : ◌≡◌ {A = ℕ} 1 0 = cc in omega arith)

  pub exactly : (k : ℕ) → Memᴰ k places ↔ Passing k
  unfolding places passes
  exactly k = (
    λ m. let i = placed (length plays) k m in let p = place plays k i.0 in passing_at k p.at p.there i.1,
    λ i. has-place (length plays) k (within plays k i.there) (rw i.there i.passing),
  )

  pub rising : Rising places
  unfolding places
  rising = places_rise (length plays)

-- ---- the list of the plays of parts that pass a test, in order of play
pub in_order_by : {A : Type 0} (p : Parts) (test : List Event → ℕ → Bool) (entry : List Event → ℕ → A) (Is : List Event → ℕ → Type 0)
    → ((e : List Event) (c : ℕ) → (test e c ≡ true) ↔ Is e c) → InOrder p Is entry (list_plays test entry (play_of p))
in_order_by p test entry Is tells =
    record {
      places = places test entry p.plays;
      exactly = λ k.
          let e = exactly test entry p.plays k in (
            λ m. let i = e.0 m in record { card = i.card; there = i.there; is = (tells _ i.card).0 i.passing },
            λ r. e.1 (record { card = r.card; there = r.there; passing = (tells _ r.card).1 r.is }),
          );
      rising = rising test entry p.plays;
      listed = as_listed test entry p.plays;
    }

-- ---- a place has a trick and a seat of its own
-- the history at a later place
record Later (plays : List Event) (k j : ℕ) (v : Event) : Type 0 where
  pub between : List Event
  pub is : reverse (take j plays) ≡ between ++ (v ∷ reverse (take k plays))

later : (plays : List Event) (k j : ℕ) (v : Event) → drop k plays ≡ v ∷ drop (suc k) plays → k < j → j ≤ length plays → Later plays k j v
later plays k zero v e h n = absurd (omega arith)
later plays k (suc j) v e h n =
    let p = place plays j (omega arith) in
    by_test (eqb k j)
    (λ (q : eqb k j ≡ true).
    let same = eqb-true k j q in
    let both : p.at ∷ drop (suc j) plays ≡ v ∷ drop (suc j) plays = sym p.there ∙ (rw same at e) in
    let at : p.at ≡ v = ap (λ (l : List Event). get_or l 0 v) both in
    record { between = []; is = history_next plays j p ∙ rw (at, same) })
    (λ (q : eqb k j ≡ false).
    let i = later plays k j v e (omega (arith, eqb-false k j q)) (omega arith) in
    record { between = p.at ∷ i.between; is = history_next plays j p ∙ ap (λ (l : List Event). p.at ∷ l) i.is })

module _ (trump opening : ℕ) where
  -- one seat leads to all cards of a trick
  same-leader : (x g : List ℕ) → length (x ++ g) / 4 ≡ length g / 4 → leader trump opening (x ++ g) ≡ leader trump opening g
  unfolding leader cards_in_trick cards_played
  same-leader [] g e = refl
  same-leader (y ∷ x) g e =
      let n = length-append x g in
      let off : eqb (suc (length (x ++ g)) % 4) 0 ≡ false = ne_eqb (suc (length (x ++ g)) % 4) 0 (λ z. omega (arith, n, e, z)) in
      rw off (same-leader x g (omega (arith, n, e)))

  seats-differ : (l a b : ℕ) → a < b → b < 4 → (l + a) % 4 ≡ (l + b) % 4 → ⊥
  seats-differ l a b h k e = omega (arith, e)

  -- two cards of one seat are of two tricks
  apart : (x : List ℕ) (c : ℕ) (g : List ℕ) → tricks_complete g ≡ tricks_complete (x ++ (c ∷ g))
      → to_play trump opening g ≡ to_play trump opening (x ++ (c ∷ g)) → ⊥
  unfolding to_play clockwise tricks_complete cards_in_trick cards_played
  apart x c g trick seat =
      let n = length-append x (c ∷ g) in
      let all : List ℕ = x ++ (c ∷ g) in
      let on : (x ++ (c ∷ [])) ++ g ≡ x ++ (c ∷ g) = append_assoc x (c ∷ []) g in
      let l : leader trump opening all ≡ leader trump opening g = rw on at (same-leader (x ++ (c ∷ [])) g (rw on (sym trick))) in
      let s : (leader trump opening g + length g % 4) % 4 ≡ (leader trump opening g + length all % 4) % 4 = rw l at seat in
      seats-differ (leader trump opening g) (length g % 4) (length all % 4) (omega (arith, n, trick)) (omega arith) s

-- ---- entries that tell the trick and the seat stand once
module _ {A : Type 0} (trump opening : ℕ) (test : List Event → ℕ → Bool) (entry : List Event → ℕ → A) (trickOf seat_of : A → ℕ)
    (tells-trick : (e : List Event) (c : ℕ) → trickOf (entry e c) ≡ tricks_complete (cards_of e) + 1)
    (tells-seat : (e : List Event) (c : ℕ) → seat_of (entry e c) ≡ to_play trump opening (cards_of e)) (plays : List Event) where
  abbrev shown : ℕ → A
  shown k = entry_at test entry plays k

  abbrev cards_before : ℕ → List ℕ
  cards_before k = cards_of (reverse (take k plays))

  differ : (k j : ℕ) → Passing test entry plays k → Passing test entry plays j → k < j → shown k ≡ shown j → ⊥
  unfolding cards_of
  differ k j a b h e =
      let i = later plays k j (played a.card) a.there h (omega (arith, within plays j b.there)) in
      let is : cards_before j ≡ cards_of i.between ++ (a.card ∷ cards_before k)
      = ap cards_of i.is ∙ cards_append i.between (played a.card ∷ reverse (take k plays)) in
      let t : tricks_complete (cards_before k) + 1 ≡ tricks_complete (cards_before j) + 1
      = sym (tells-trick _ _) ∙ ap trickOf e ∙ tells-trick _ _ in
      let s : to_play trump opening (cards_before k) ≡ to_play trump opening (cards_before j) = sym (tells-seat _ _) ∙ ap seat_of e ∙ tells-seat _ _ in
      let u : tricks_complete (cards_before k) ≡ tricks_complete (cards_before j) = omega (arith, t) in
      apart trump opening (cards_of i.between) a.card (cards_before k) (rw is at u) (rw is at s)

  none_among : (r : A) (ks : List ℕ) → ((k : ℕ) → Memᴰ k ks → r ≡ shown k → ⊥) → Memᴰ r (map shown ks) → ⊥
  none_among r [] not m = mathlib.Core.List.Memᴰ.not-nil m
  none_among r (k ∷ ks) not m =
      ⊎_elim
      (λ (e : r ≡ shown k). not k (mathlib.Core.List.Memᴰ.head refl) e)
      (λ (i : Memᴰ r (map shown ks)). none_among r ks (λ j a. not j (mathlib.Core.List.Memᴰ.tail a)) i)
      (mathlib.Core.List.Memᴰ.cases_cons m)

  stands-once : (ks : List ℕ) → Rising ks → ((k : ℕ) → Memᴰ k ks → Passing test entry plays k)
      → (before : List A) (r : A) (behind : List A) → map shown ks ≡ before ++ (r ∷ behind) → Memᴰ r behind → ⊥
  unfolding Rising
  stands-once [] up each before r behind e m = let z = ap length e ∙ length-append before (r ∷ behind) in omega (arith, z)
  stands-once (k ∷ ks) up each [] r behind e m =
      let first : shown k ≡ r = ap (λ (l : List A). get_or l 0 r) e in
      let rest : map shown ks ≡ behind = ap (λ (l : List A). drop 1 l) e in
      none_among r ks
      (λ j i q. differ k j (each k (mathlib.Core.List.Memᴰ.head refl)) (each j (mathlib.Core.List.Memᴰ.tail i)) (up.0 j i) (first ∙ q))
      (subst (λ (l : List A). Memᴰ r l) (sym rest) m)
  stands-once (k ∷ ks) up each (b ∷ before) r behind e m =
      stands-once ks up.1 (λ j i. each j (mathlib.Core.List.Memᴰ.tail i)) before r behind (ap (λ (l : List A). drop 1 l) e) m

  pub once : (before : List A) (r : A) (behind : List A) → list_plays test entry (reverse plays) ≡ before ++ (r ∷ behind) → Memᴰ r behind → ⊥
  once before r behind e m =
      stands-once (places test entry plays) (rising test entry plays) (λ k i. (exactly test entry plays k).0 i) before r behind
      (sym (as_listed test entry plays) ∙ e) m
