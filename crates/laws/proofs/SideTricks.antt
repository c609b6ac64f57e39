-- The tricks of a side by their numbers, the latest first: those it gets by the claim, then those it won. From a trick on, they are the first ones
-- of this list, as many as Law 64 says are available. Assumes nothing.
use Rattle.std.specs.Prelude.{if◌then◌else◌}
use Prim.Native.Nat.{ℕ, zero, suc, ◌+◌, ◌-◌, ◌≤◌, ◌<◌}
use native.Mathlib.Omega.{arith}
use mathlib.Core.Path.{◌≡◌, refl, sym, ap, ◌∙◌}
use mathlib.Core.Logic.{◌⊎◌, inl, inr, ⊎_elim}
use mathlib.Core.Bool.{true, false}
use mathlib.Core.List.{List, [], ◌∷◌, ◌++◌, append_assoc, append-nil, Memᴰ}
use borrow.Author.Tests.{eqb-true, eqb-false, eq-eqb, ne_eqb, leb-true, leb-false}
use lib.Dec.{eqb, leb}
use lib.ListN.{length, get_or, take, drop, length-append, length-drop}
use lib.Seq.{get_or-drop, take_at}
use Rattle.laws.specs.Choice.{how_many}
use Rattle.laws.specs.Cards.{no_seat, side_of}
use Rattle.laws.specs.Law44.{tricks_won}
use Rattle.laws.specs.Law64.{won_from}
use Rattle.laws.specs.Allotment.{Has}
use Rattle.laws.proofs.Tests.{by_test}
use Rattle.laws.proofs.Counts.{many_append, many-le}
use Rattle.laws.proofs.Allotments.{none_pass}

-- ---- claimed tricks: c of them, numbered on from m
unfoldable claimed_down : ℕ → ℕ → List ℕ
claimed_down m zero = []
claimed_down m (suc c) = (m + suc c) ∷ claimed_down m c

claimed_length : (m c : ℕ) → length (claimed_down m c) ≡ c
unfolding claimed_down
claimed_length m zero = refl
claimed_length m (suc c) = ap suc (claimed_length m c)

in_claimed : (m c : ℕ) {t : ℕ} → Memᴰ t (claimed_down m c) → (m < t) × (t ≤ m + c)
unfolding claimed_down
in_claimed m zero i = absurd (mathlib.Core.List.Memᴰ.not-nil i)
in_claimed m (suc c) i =
    let more = in_claimed m c in
    ⊎_elim (λ e. (omega arith, omega arith)) (λ j. let r = more j in (omega arith, omega arith)) (mathlib.Core.List.Memᴰ.cases_cons i)

claimed_in : (m c t : ℕ) → m < t → t ≤ m + c → Memᴰ t (claimed_down m c)
unfolding claimed_down
claimed_in m zero t h k = absurd (omega arith)
claimed_in m (suc c) t h k =
    by_test (eqb t (m + suc c))
    (λ (e : eqb t (m + suc c) ≡ true). mathlib.Core.List.Memᴰ.head (eqb-true t (m + suc c) e))
    (λ (e : eqb t (m + suc c) ≡ false). mathlib.Core.List.Memᴰ.tail (claimed_in m c t h (omega (arith, eqb-false t (m + suc c) e))))

claimed_once : (m c t : ℕ) → how_many (λ (x : ℕ). eqb x t) (claimed_down m c) ≤ 1
unfolding claimed_down how_many
claimed_once m zero t = omega arith
claimed_once m (suc c) t =
    by_test (eqb (m + suc c) t)
    (λ (e : eqb (m + suc c) t ≡ true).
    let is : m + suc c ≡ t = eqb-true (m + suc c) t e in
    rw e (omega (arith, none_pass (λ (x : ℕ). eqb x t) (claimed_down m c) (λ x i. ne_eqb x t (λ s. omega (arith, (in_claimed m c i).1))))))
    (λ (e : eqb (m + suc c) t ≡ false). rw e (omega (arith, claimed_once m c t)))

-- ---- tricks that the side won, of those with these winners, the first of them with number n
module _ (side : ℕ) where
  unfoldable won_down : ℕ → List ℕ → List ℕ
  won_down n [] = []
  won_down n (w ∷ l) = won_down (suc n) l ++ (if eqb (side_of w) side then (n ∷ []) else [])

  won-length : (n : ℕ) (l : List ℕ) → length (won_down n l) ≡ tricks_won side l
  unfolding won_down tricks_won how_many
  won-length n [] = refl
  won-length n (w ∷ l) =
      let more = won-length (suc n) l in
      by_test (eqb (side_of w) side)
      (λ (q : eqb (side_of w) side ≡ true). rw q (omega (arith, more, length-append (won_down (suc n) l) (n ∷ []))))
      (λ (q : eqb (side_of w) side ≡ false). rw q (omega (arith, more, length-append (won_down (suc n) l) [])))

  in_won : (n : ℕ) (l : List ℕ) {t : ℕ} → Memᴰ t (won_down n l) → (i : ℕ) × (t ≡ n + i) × (i < length l) × (side_of (get_or l i no_seat) ≡ side)
  unfolding won_down
  in_won n [] m = absurd (mathlib.Core.List.Memᴰ.not-nil m)
  in_won n (w ∷ l) {t} m =
      let more = in_won (suc n) l in
      ⊎_elim
      (λ (i : Memᴰ t (won_down (suc n) l)). let r = more i in (suc r.0, omega (arith, r.1), omega (arith, r.2), r.3))
      (λ (i : Memᴰ t (if eqb (side_of w) side then (n ∷ []) else [])). by_test (eqb (side_of w) side)
      (λ (q : eqb (side_of w) side ≡ true).
      (0, omega (arith, mathlib.Core.List.Memᴰ.eq_of_singleton (rw q at i)), omega arith, eqb-true (side_of w) side q))
      (λ (q : eqb (side_of w) side ≡ false). absurd (mathlib.Core.List.Memᴰ.not-nil (rw q at i))))
      (mathlib.Core.List.Memᴰ.append_cases (won_down (suc n) l) m)

  won_in_lem : (n i : ℕ) (l : List ℕ) → i < length l → side_of (get_or l i no_seat) ≡ side → Memᴰ (n + i) (won_down n l)
  unfolding won_down
  won_in_lem n i [] h e = absurd (omega arith)
  won_in_lem n zero (w ∷ l) h e =
      let z : n + 0 ≡ n = omega arith in
      mathlib.Core.List.Memᴰ.append_right (won_down (suc n) l) (rw (eq-eqb (side_of w) side e) (mathlib.Core.List.Memᴰ.head z))
  won_in_lem n (suc i) (w ∷ l) h e = mathlib.Core.List.Memᴰ.append_left _ (mathlib.Core.List.Memᴰ.cast (omega arith) (won_in_lem (suc n) i l (omega arith) e))

  won-once : (n : ℕ) (l : List ℕ) (t : ℕ) → how_many (λ (x : ℕ). eqb x t) (won_down n l) ≤ 1
  unfolding won_down how_many
  won-once n [] t = omega arith
  won-once n (w ∷ l) t =
      let last = if eqb (side_of w) side then (n ∷ []) else [] in
      let both = many_append (λ (x : ℕ). eqb x t) (won_down (suc n) l) last in
      let one : length last ≤ 1 = short (eqb (side_of w) side) in
      by_test (eqb n t)
      (λ (e : eqb n t ≡ true).
      let is : n ≡ t = eqb-true n t e in
      let others = none_pass (λ (x : ℕ). eqb x t) (won_down (suc n) l) (λ x i. ne_eqb x t (λ s. omega (arith, (in_won (suc n) l i).1))) in
      omega (arith, both, others, many-le (λ (x : ℕ). eqb x t) last))
      (λ (e : eqb n t ≡ false).
      let none = none_pass (λ (x : ℕ). eqb x t) last (λ x i. ne_eqb x t (λ s. eqb-false n t e (sym (only (eqb (side_of w) side) i) ∙ s))) in
      omega (arith, both, won-once (suc n) l t, none))
    where
      short : (b : _) → length (if b then (n ∷ []) else []) ≤ 1
      short true = omega arith
      short false = omega arith

      only : (b : _) {x : ℕ} → Memᴰ x (if b then (n ∷ []) else []) → x ≡ n
      only true i = mathlib.Core.List.Memᴰ.eq_of_singleton i
      only false i = absurd (mathlib.Core.List.Memᴰ.not-nil i)

  -- those from a later trick on stand in front
  won-front : (n k : ℕ) (l : List ℕ) → k ≤ length l → (rest : List ℕ) × (won_down n l ≡ won_down (n + k) (drop k l) ++ rest)
  unfolding won_down
  won-front n zero l h = ([], let z : n + 0 ≡ n = omega arith in rw (z, append-nil))
  won-front n (suc k) [] h = absurd (omega arith)
  won-front n (suc k) (w ∷ l) h =
      let last = if eqb (side_of w) side then (n ∷ []) else [] in
      let r = won-front (suc n) k l (omega arith) in
      let e : suc n + k ≡ n + suc k = omega arith in
      (r.0 ++ last, rw (r.1, e, append_assoc))

-- ---- the tricks of a side
module _ (ws : List ℕ) (claimed : ℕ → ℕ) (side : ℕ) where
  -- from a trick on
  pub tricks_down : ℕ → List ℕ
  tricks_down from = claimed_down (length ws) (claimed side) ++ won_down side from (drop (from - 1) ws)

  -- as many as are available
  pub down-length : (from : ℕ) → length (tricks_down from) ≡ won_from ws claimed side from
  unfolding tricks_down won_from
  down-length from =
      omega (
        arith,
        length-append (claimed_down (length ws) (claimed side)) (won_down side from (drop (from - 1) ws)),
        claimed_length (length ws) (claimed side),
        won-length side from (drop (from - 1) ws),
      )

  -- each once
  pub down-once : (t : ℕ) → how_many (λ (x : ℕ). eqb x t) (tricks_down 1) ≤ 1
  unfolding tricks_down
  down-once t =
      let m = length ws in
      let c = claimed_down m (claimed side) in
      let w = won_down side 1 ws in
      let both = many_append (λ (x : ℕ). eqb x t) c w in
      by_test (leb t m)
      (λ (e : leb t m ≡ true).
      omega (
        arith,
        both,
        won-once side 1 ws t,
        none_pass (λ (x : ℕ). eqb x t) c (λ x i. ne_eqb x t (λ s. omega (arith, leb-true t m e, (in_claimed m (claimed side) i).0))),
      ))
      (λ (e : leb t m ≡ false).
      omega (
        arith,
        both,
        claimed_once m (claimed side) t,
        none_pass (λ (x : ℕ). eqb x t) w (λ x i. let r = in_won side 1 ws i in ne_eqb x t (λ s. omega (arith, leb-false t m e, r.1, r.2))),
      ))

  module _ (from : ℕ) (low : 1 ≤ from) (high : from ≤ length ws + 1) where
    -- in front of all of them
    pub down-front : take (won_from ws claimed side from) (tricks_down 1) ≡ tricks_down from
    unfolding tricks_down
    down-front =
        let c = claimed_down (length ws) (claimed side) in
        let r = won-front side 1 (from - 1) ws (omega arith) in
        let e : 1 + (from - 1) ≡ from = omega arith in
        let all : won_down side 1 ws ≡ won_down side from (drop (from - 1) ws) ++ r.0 = rw e at r.1 in
        rw (all, ← append_assoc c (won_down side from (drop (from - 1) ws)) r.0)
        (take_at (c ++ won_down side from (drop (from - 1) ws)) r.0 (won_from ws claimed side from) (down-length from))

    -- and exactly those that the side has from there on
    pub down-has : {t : ℕ} → Memᴰ t (tricks_down from) → Has ws claimed side t × (from ≤ t)
    unfolding tricks_down
    down-has {t} m = go (mathlib.Core.List.Memᴰ.append_cases (claimed_down (length ws) (claimed side)) m)
      where
        go : Memᴰ t (claimed_down (length ws) (claimed side)) ⊎ Memᴰ t (won_down side from (drop (from - 1) ws))
            → Has ws claimed side t × (from ≤ t)
        go (inl i) = let r = in_claimed (length ws) (claimed side) i in (inr (record { later = r.0; as_many = r.1 }), omega arith)
        go (inr i) =
            let r = in_won side from (drop (from - 1) ws) i in
            let e : from - 1 + r.0 ≡ t - 1 = omega (arith, r.1) in
            let by = rw (get_or-drop (from - 1) ws r.0 no_seat, e) at r.3 in
            (inl (record { from_1 = omega (arith, r.1); complete = omega (arith, r.1, r.2, length-drop (from - 1) ws); by_side = by }), omega (arith, r.1))

    pub has-down : {t : ℕ} → Has ws claimed side t → from ≤ t → Memᴰ t (tricks_down from)
    unfolding tricks_down
    has-down {t} (inr g) h = mathlib.Core.List.Memᴰ.append_left _ (claimed_in (length ws) (claimed side) t g.later g.as_many)
    has-down {t} (inl w) h =
        let e : from - 1 + (t - from) ≡ t - 1 = omega arith in
        let by = rw (← e, ← get_or-drop (from - 1) ws (t - from) no_seat) at w.by_side in
        let is : t ≡ from + (t - from) = omega arith in
        mathlib.Core.List.Memᴰ.append_right (claimed_down (length ws) (claimed side))
        (mathlib.Core.List.Memᴰ.cast is (won_in_lem side from (t - from) (drop (from - 1) ws) (omega (arith, w.complete, length-drop (from - 1) ws)) by))
