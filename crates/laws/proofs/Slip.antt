-- The items of a slip: which there are, that they add up to the score, and how large each is. Assumes nothing.
use Rattle.std.specs.Prelude.{if◌then◌else◌}
use Prim.Native.Nat.{ℕ, suc, ◌+◌, ◌≤◌}
use native.Mathlib.Omega.{arith}
use mathlib.Core.Path.{◌≡◌, refl, sym, ap, ◌∙◌}
use mathlib.Core.Logic.{◌↔◌, ⊎_elim}
use mathlib.Core.Bool.{Bool, true, false}
use mathlib.Core.List.{List, [], ◌∷◌, Memᴰ}
use borrow.Author.Tests.{eqb-true, leb-true}
use lib.Dec.{eqb, leb}
use lib.IntN.{ℤ, pos, negsuc, neg_ℤ, nat_abs, ◌+ℤ◌, +ℤ_idl, +ℤ_assoc, +ℤ_comm, neg_ℤ-+ℤ}
use Rattle.laws.specs.Cards.{side_of}
use Rattle.laws.specs.Auction.{passed_out}
use Rattle.laws.specs.Law77.{Stake, Items, items, sum_of_items, is_made, undertrick_points, declarer_score, ns_score, valid_score}
use Rattle.laws.specs.Record.{Parts}
use Rattle.laws.specs.Judgement.{calls_of, declarer_of, stake_of, after_of, score_of}
use Rattle.laws.specs.Slip.{Name, TRICKS, OVERTRICKS, UNDERTRICKS, PARTSCORE, GAME, SLAM, DOUBLING, in_order, gain, points_of, Item, is_nothing, items_among}
use Rattle.laws.specs.Slip.{items_of, sum_of}
use Rattle.laws.proofs.Tests.{by_test, not_both, and_left}
use Rattle.laws.proofs.Integers.{size_neg}
use Rattle.laws.proofs.Score.{no_undertricks, sum_of_items_lem}

-- ---- which items there are
pub nothing_0 : (z : ℤ) → is_nothing z ≡ true → z ≡ pos 0
nothing_0 (pos n) e = ap pos (eqb-true n 0 e)
nothing_0 (negsuc n) e = absurd (omega (arith, eqb-true (suc n) 0 e))

some-points : (z : ℤ) → is_nothing z ≡ false → z ≡ pos 0 → ⊥
some-points z e q = not_both (is_nothing z) (rw q) e

module _ (points : Name → ℤ) where
  abbrev item_of : Name → Item
  item_of name = record { name = name; points = points name }

  -- an item among those of some names has one of these names, its points, and they are not nothing
  pub among : (names : List Name) (i : Item) → Memᴰ i (items_among points names)
      → Memᴰ i.name names × (i.points ≡ points i.name) × (is_nothing (points i.name) ≡ false)
  unfolding items_among
  among [] i m = absurd (mathlib.Core.List.Memᴰ.not-nil m)
  among (name ∷ names) i m =
      let more = among names i in
      by_test (is_nothing (points name))
      (λ (q : is_nothing (points name) ≡ true). let r = more (rw q at m) in (mathlib.Core.List.Memᴰ.tail r.0, r.1, r.2))
      (λ (q : is_nothing (points name) ≡ false).
      ⊎_elim
      (λ (e : i ≡ item_of name). rw e (mathlib.Core.List.Memᴰ.head refl, refl, q))
      (λ (n : Memᴰ i (items_among points names)). let r = more n in (mathlib.Core.List.Memᴰ.tail r.0, r.1, r.2))
      (mathlib.Core.List.Memᴰ.cases_cons (rw q at m)))

  -- each name's item is among them, unless it is nothing
  pub there : (names : List Name) (name : Name) → Memᴰ name names → is_nothing (points name) ≡ false
      → Memᴰ (item_of name) (items_among points names)
  unfolding items_among
  there [] name m f = absurd (mathlib.Core.List.Memᴰ.not-nil m)
  there (n ∷ names) name m f =
      let more = there names name in
      ⊎_elim
      (λ (e : name ≡ n). rw (sym e, f) (mathlib.Core.List.Memᴰ.head refl))
      (λ (t : Memᴰ name names). by_test (is_nothing (points n))
      (λ (q : is_nothing (points n) ≡ true). rw q (more t f))
      (λ (q : is_nothing (points n) ≡ false). rw q (mathlib.Core.List.Memᴰ.tail (more t f))))
      (mathlib.Core.List.Memᴰ.cases_cons m)

-- every name is in the order
every_name : (name : Name) → Memᴰ name in_order
every_name TRICKS = mathlib.Core.List.Memᴰ.head refl
every_name OVERTRICKS = mathlib.Core.List.Memᴰ.tail (mathlib.Core.List.Memᴰ.head refl)
every_name UNDERTRICKS = mathlib.Core.List.Memᴰ.tail (mathlib.Core.List.Memᴰ.tail (mathlib.Core.List.Memᴰ.head refl))
every_name PARTSCORE = mathlib.Core.List.Memᴰ.tail (mathlib.Core.List.Memᴰ.tail (mathlib.Core.List.Memᴰ.tail (mathlib.Core.List.Memᴰ.head refl)))
every_name GAME = mathlib.Core.List.Memᴰ.tail (mathlib.Core.List.Memᴰ.tail (mathlib.Core.List.Memᴰ.tail (mathlib.Core.List.Memᴰ.tail (mathlib.Core.List.Memᴰ.head refl))))
every_name SLAM = mathlib.Core.List.Memᴰ.tail (mathlib.Core.List.Memᴰ.tail (mathlib.Core.List.Memᴰ.tail (mathlib.Core.List.Memᴰ.tail (mathlib.Core.List.Memᴰ.tail (mathlib.Core.List.Memᴰ.head refl)))))
every_name DOUBLING = mathlib.Core.List.Memᴰ.tail (mathlib.Core.List.Memᴰ.tail (mathlib.Core.List.Memᴰ.tail (mathlib.Core.List.Memᴰ.tail (mathlib.Core.List.Memᴰ.tail (mathlib.Core.List.Memᴰ.tail (mathlib.Core.List.Memᴰ.head refl))))))

-- an item is on the slip exactly when its points are its name's and not 0
pub on_slip : (p : Parts) (i : Item) → Memᴰ i (items_of p) ↔ ((i.points ≡ points_of p i.name) × (i.points ≡ pos 0 → ⊥))
unfolding items_of
on_slip p i = (
  λ m. let r = among (points_of p) in_order i m in (r.1, λ z. some-points (points_of p i.name) r.2 (sym r.1 ∙ z)),
  λ w. is-there w,
)
  where
    is-there : (i.points ≡ points_of p i.name) × (i.points ≡ pos 0 → ⊥) → Memᴰ i (items_of p)
    is-there w =
        by_test (is_nothing (points_of p i.name))
        (λ (q : is_nothing (points_of p i.name) ≡ true). absurd (w.1 (w.0 ∙ nothing_0 _ q)))
        (λ (q : is_nothing (points_of p i.name) ≡ false).
        mathlib.Core.List.Memᴰ.cast (ap (λ (z : ℤ). record { name = i.name; points = z }) w.0) (there (points_of p) in_order i.name (every_name i.name) q))

-- ---- their sum
-- some names' points together
abbrev among_all : (Name → ℤ) → List Name → ℤ
among_all points [] = pos 0
among_all points (name ∷ names) = points name +ℤ among_all points names

-- those of nothing add nothing
sum_among : (points : Name → ℤ) (names : List Name) → sum_of (items_among points names) ≡ among_all points names
unfolding items_among sum_of
sum_among points [] = refl
sum_among points (name ∷ names) =
    by_test (is_nothing (points name))
    (λ (q : is_nothing (points name) ≡ true).
    rw (q, nothing_0 (points name) q) (sum_among points names ∙ sym (+ℤ_idl (among_all points names))))
    (λ (q : is_nothing (points name) ≡ false). rw (q, sum_among points names))

-- from North-South, a sum is the sum of its parts
ns_sum : (d : ℕ) (a b : ℤ) → ns_score d (a +ℤ b) ≡ ns_score d a +ℤ ns_score d b
unfolding ns_score
ns_sum d a b =
    by_test (eqb (side_of d) 0)
    (λ (q : eqb (side_of d) 0 ≡ true). rw q)
    (λ (q : eqb (side_of d) 0 ≡ false). rw q (neg_ℤ-+ℤ a b))

pub ns_0 : (d : ℕ) → ns_score d (pos 0) ≡ pos 0
unfolding ns_score
ns_0 d =
    by_test (eqb (side_of d) 0)
    (λ (q : eqb (side_of d) 0 ≡ true). rw q)
    (λ (q : eqb (side_of d) 0 ≡ false). rw q)

ns-all : (d : ℕ) (f : Name → ℤ) (names : List Name) → among_all (λ (n : Name). ns_score d (f n)) names ≡ ns_score d (among_all f names)
ns-all d f [] = sym (ns_0 d)
ns-all d f (name ∷ names) = rw (ns-all d f names) (sym (ns_sum d (f name) (among_all f names)))

-- what declarer's side gains in all
gains : (i : Items) → among_all (gain i) in_order ≡ sum_of_items i
unfolding sum_of_items
gains i =
    let u : ℤ = neg_ℤ (pos i.undertricks) in
    let rest : ℕ = i.part_score + (i.game + (i.slam + (i.doubling + 0))) in
    let turned : u +ℤ pos rest ≡ pos rest +ℤ u = +ℤ_comm u (pos rest) in
    rw turned (rw (← +ℤ_assoc (pos i.overtricks) (pos rest) u, ← +ℤ_assoc (pos i.tricks) (pos (i.overtricks + rest)) u)
    (ap (λ (n : ℕ). pos n +ℤ u) (omega arith)))

-- passed out or not, of any declarer, stake and tricks
either_sum : (d : ℕ) (s : Stake) (tricks : ℕ) (out : Bool)
    → among_all (λ (n : Name). if out then pos 0 else ns_score d (gain (items s tricks) n)) in_order ≡ (if out then pos 0 else ns_score d (declarer_score s tricks))
either_sum d s tricks true = refl
either_sum d s tricks false = ns-all d (gain (items s tricks)) in_order ∙ ap (ns_score d) (gains (items s tricks) ∙ sum_of_items_lem s tricks)

pub adds_up : (p : Parts) → sum_of (items_of p) ≡ score_of p
unfolding items_of score_of points_of
adds_up p = sum_among (points_of p) in_order ∙ either_sum (declarer_of p) (stake_of p) (after_of p) (passed_out (calls_of p))

-- ---- their sizes
abbrev in_all : Items → ℕ
in_all i = i.tricks + i.overtricks + i.undertricks + i.part_score + i.game + i.slam + i.doubling

gain-le : (i : Items) (name : Name) → nat_abs (gain i name) ≤ in_all i
gain-le i TRICKS = omega arith
gain-le i OVERTRICKS = omega arith
gain-le i UNDERTRICKS = omega (arith, size_neg (pos i.undertricks))
gain-le i PARTSCORE = omega arith
gain-le i GAME = omega arith
gain-le i SLAM = omega arith
gain-le i DOUBLING = omega arith

-- the items have one sign, so together they are as large as the score of declarer's side
in_all_is : (s : Stake) (tricks : ℕ) → in_all (items s tricks) ≡ nat_abs (declarer_score s tricks)
unfolding items declarer_score
in_all_is s tricks =
    by_test (is_made s tricks)
    (λ (q : is_made s tricks ≡ true). rw (q, no_undertricks s tricks q) (omega arith))
    (λ (q : is_made s tricks ≡ false). rw (q, size_neg (pos (undertrick_points s tricks))) (omega arith))

pub size-ns : (d : ℕ) (z : ℤ) → nat_abs (ns_score d z) ≡ nat_abs z
unfolding ns_score
size-ns d z =
    by_test (eqb (side_of d) 0)
    (λ (q : eqb (side_of d) 0 ≡ true). rw q)
    (λ (q : eqb (side_of d) 0 ≡ false). rw q (size_neg z))

-- where the score is valid no item is larger than 7600
module _ (s : Stake) (tricks d : ℕ) (ok : valid_score (ns_score d (declarer_score s tricks)) ≡ true) where
  pub valid-le : nat_abs (declarer_score s tricks) ≤ 7600
  unfolding valid_score
  valid-le =
      let whole = ns_score d (declarer_score s tricks) in
      omega (arith, size-ns d (declarer_score s tricks), leb-true (nat_abs whole) 7600 (and_left (leb (nat_abs whole) 7600) _ ok))

  pub item_le : (name : Name) → nat_abs (gain (items s tricks) name) ≤ 7600
  item_le name = omega (arith, gain-le (items s tricks) name, in_all_is s tricks, valid-le)
