-- The law under Law 64's total, over pairs of what is due and what is available, where what is available falls: as many can be allotted as the count from the
-- back gives, and no more. `tricks` are those that can be had, the latest first; a revoke can have the first ones, as many as are available to it.
-- Assumes nothing.
use Prim.Native.Nat.{ℕ, suc, ◌+◌, ◌-◌, ◌≤◌, ◌<◌}
use native.Mathlib.Omega.{arith}
use mathlib.Core.Path.{◌≡◌, refl, sym, ap, ◌∙◌}
use mathlib.Core.Logic.{◌⊎◌, inl, inr, ⊎_elim}
use mathlib.Core.Bool.{Bool, true, false, not, ◌&&◌}
use mathlib.Core.List.Memᴰ
use mathlib.Core.List.{List, [], ◌∷◌, ◌++◌, map, append_assoc, Memᴰ}
use borrow.Author.Tests.{eqb-true, eqb-false, eq-eqb, ne_eqb, leb-true, le-leb, lt-leb, not-true}
use lib.Dec.{eqb, leb}
use lib.ListN.{length, take, drop, length-take, length-drop, length-map, length-append, take-append-drop}
use lib.Seq.{take-add}
use Rattle.laws.specs.Choice.{how_many}
use Rattle.laws.specs.Law64.{Due, total}
use Rattle.laws.specs.Allotment.{Pair}
use Rattle.laws.proofs.Tests.{by_test, not_both, and_left, and_right}
use Rattle.laws.proofs.Counts.{many_append, many-le}

-- ---- counting members of a list
module _ {A : Type 0} where
  -- nobody passes a test that fails for each
  pub none_pass : (test : A → Bool) (l : List A) → ((x : A) → Memᴰ x l → test x ≡ false) → how_many test l ≡ 0
  unfolding how_many
  none_pass test [] f = refl
  none_pass test (x ∷ l) f = rw (f x (Memᴰ.head refl)) (omega (arith, none_pass test l (λ y m. f y (Memᴰ.tail m))))

  -- who passes a test passes one of two others
  pub many-split : (test one two : A → Bool) → ((x : A) → test x ≡ true → one x ≡ false → two x ≡ true) → (l : List A)
      → how_many test l ≤ how_many one l + how_many two l
  unfolding how_many
  many-split test one two f [] = omega arith
  many-split test one two f (x ∷ l) =
      let more = many-split test one two f l in
      by_test (test x)
      (λ (q : test x ≡ true). by_test (one x)
      (λ (r : one x ≡ true). rw (q, r) (omega arith))
      (λ (r : one x ≡ false). rw (q, r, f x q r) (omega arith)))
      (λ (q : test x ≡ false). rw q (omega arith))

  pub many-map : {B : Type 0} (test : B → Bool) (f : A → B) (l : List A) → how_many test (map f l) ≡ how_many (λ x. test (f x)) l
  unfolding how_many
  many-map test f [] = refl
  many-map test f (x ∷ l) = rw (many-map test f l)

  -- counted in two parts
  pub many-parts : (test : A → Bool) (n : ℕ) (l : List A) → how_many test (take n l) + how_many test (drop n l) ≡ how_many test l
  many-parts test n l = sym (many_append test (take n l) (drop n l)) ∙ ap (how_many test) (take-append-drop n l)

  -- a member of a longer front, and of a part of it
  pub in_front : {x : A} (a b : ℕ) (l : List A) → a ≤ b → Memᴰ x (take a l) → Memᴰ x (take b l)
  in_front a b l h m =
      let e : a + (b - a) ≡ b = omega arith in
      rw (← e) (rw (take-add a (b - a) l) (Memᴰ.append_left _ m))

  pub in_part : {x : A} (a n b : ℕ) (l : List A) → a + n ≤ b → Memᴰ x (take n (drop a l)) → Memᴰ x (take b l)
  in_part a n b l h m = in_front (a + n) b l h (rw (take-add a n l) (Memᴰ.append_right (take a l) m))

  pub in_map : {B : Type 0} {y : B} (f : A → B) (l : List A) → Memᴰ y (map f l) → (x : A) × Memᴰ x l × (y ≡ f x)
  in_map f [] m = absurd (Memᴰ.not-nil m)
  in_map f (x ∷ l) m =
      let more = in_map f l in
      ⊎_elim
      (λ e. (x, Memᴰ.head refl, e))
      (λ k. let r = more k in (r.0, Memᴰ.tail r.1, r.2))
      (Memᴰ.cases_cons m)

-- pairs whose tricks are all of a list, no trick twice, are no more than the list has
pub pigeonhole : (l : List ℕ) (pairs : List Pair) (test : Pair → Bool)
    → ((t : ℕ) → how_many (λ (q : Pair). eqb q.trick t) pairs ≤ 1)
    → ((q : Pair) → Memᴰ q pairs → test q ≡ true → Memᴰ q.trick l)
    → how_many test pairs ≤ length l
pigeonhole [] pairs test once f =
    omega (arith, none_pass test pairs (λ q m. by_test (test q) (λ (e : test q ≡ true). absurd (Memᴰ.not-nil (f q m e))) (λ (e : test q ≡ false). e)))
pigeonhole (x ∷ l) pairs test once f =
    let others : Pair → Bool = λ q. test q && not (eqb q.trick x) in
    let more = pigeonhole l pairs others once (λ q m e. rest q (f q m (and_left (test q) _ e)) (and_right (test q) _ e)) in
    omega (arith, more, once x, many-split test (λ q. eqb q.trick x) others (λ q e n. rw (e, n)) pairs)
  where
    rest : (q : Pair) → Memᴰ q.trick (x ∷ l) → not (eqb q.trick x) ≡ true → Memᴰ q.trick l
    rest q m e =
        ⊎_elim
        (λ (s : q.trick ≡ x). not_both (eqb q.trick x) (eq-eqb q.trick x s) (not-true (eqb q.trick x) e))
        (λ (k : Memᴰ q.trick l). k)
        (Memᴰ.cases_cons m)

-- ---- what is due and what is available
-- what is available falls, and is at most n at first
unfoldable pub Falling : ℕ → List Due → Type 0
Falling n [] = Unit {0}
Falling n (d ∷ ds) = (d.available ≤ n) × Falling d.available ds

total-le : (n : ℕ) (ds : List Due) → Falling n ds → total ds ≤ n
unfolding Falling total
total-le n [] f = omega arith
total-le n (d ∷ ds) f = omega (arith, f.0)

-- the total grows from revoke to revoke, by no more than is due
total-up : (n : ℕ) (d : Due) (ds : List Due) → Falling n (d ∷ ds) → (total ds ≤ total (d ∷ ds)) × (total (d ∷ ds) ≤ total ds + d.tricks)
unfolding Falling total
total-up n d ds f = (omega (arith, total-le d.available ds f.1), omega arith)

total-cut : (d : Due) (ds : List Due) → total (d ∷ ds) ≤ d.available
unfolding total
total-cut d ds = omega arith

-- with what is due to it a revoke has no more than is available
room : (n : ℕ) (d : Due) (ds : List Due) → Falling n (d ∷ ds) → total ds + (total (d ∷ ds) - total ds) ≤ d.available
room n d ds f = omega (arith, total-up n d ds f, total-cut d ds)

total-none : 0 ≡ total []
unfolding total
total-none = refl

-- a trick that serves the revoke at place k
abbrev serving : ℕ → ℕ → Pair
serving k t = record { trick = t; revoke = k }

abbrev pub of_revoke : ℕ → Pair → Bool
of_revoke k q = eqb q.revoke k

abbrev pub of_trick : ℕ → Pair → Bool
of_trick t q = eqb q.trick t

none-taken : (t : ℕ) (l : List ℕ) → how_many (of_trick t) [] ≡ how_many (λ (x : ℕ). eqb x t) (take 0 l)
unfolding how_many
none-taken t l = refl

module _ (tricks : List ℕ) where
  -- the pairs of the revokes from place k on: for each no more than its due, from those available; and no pair of a later place
  unfoldable pub Serves : ℕ → List Due → List Pair → Type 0
  Serves k [] pairs = (q : Pair) → Memᴰ q pairs → q.revoke < k
  Serves k (d ∷ ds) pairs =
      (how_many (of_revoke k) pairs ≤ d.tricks)
      × ((q : Pair) → Memᴰ q pairs → q.revoke ≡ k → Memᴰ q.trick (take d.available tricks))
      × Serves (suc k) ds pairs

  -- ---- no more than the total
  in_all_lem : (k n : ℕ) (ds : List Due) (pairs : List Pair) → Falling n ds → Serves k ds pairs
      → (q : Pair) → Memᴰ q pairs → k ≤ q.revoke → Memᴰ q.trick (take n tricks)
  unfolding Falling Serves
  in_all_lem k n [] pairs f s q m h = absurd (omega (arith, s q m))
  in_all_lem k n (d ∷ ds) pairs f s q m h =
      in_front d.available n tricks f.0
      (by_test (eqb q.revoke k)
      (λ (e : eqb q.revoke k ≡ true). s.1 q m (eqb-true q.revoke k e))
      (λ (e : eqb q.revoke k ≡ false). in_all_lem (suc k) d.available ds pairs f.1 s.2 q m (omega (arith, eqb-false q.revoke k e))))

  pub at_most_total : (k n : ℕ) (ds : List Due) (pairs : List Pair) → Falling n ds → Serves k ds pairs
      → ((t : ℕ) → how_many (of_trick t) pairs ≤ 1)
      → how_many (λ (q : Pair). leb k q.revoke) pairs ≤ total ds
  unfolding Falling Serves total
  at_most_total k n [] pairs f s once = omega (arith, none_pass (λ (q : Pair). leb k q.revoke) pairs (λ q m. lt-leb k q.revoke (s q m)))
  at_most_total k n (d ∷ ds) pairs f s once =
      let later = at_most_total (suc k) d.available ds pairs f.1 s.2 once in
      let here = many-split (λ (q : Pair). leb k q.revoke) (of_revoke k) (λ (q : Pair). leb (suc k) q.revoke)
      (λ q e o. le-leb (suc k) q.revoke (omega (arith, leb-true k q.revoke e, eqb-false q.revoke k o))) pairs in
      let all = pigeonhole (take d.available tricks) pairs (λ (q : Pair). leb k q.revoke) once
      (λ q m e. in_all_lem k d.available (d ∷ ds) pairs (omega arith, f.1) s q m (leb-true k q.revoke e)) in
      omega (arith, later, here, all, s.0, length-take d.available tricks)

  -- ---- as many as the total
  -- the tricks for one revoke: the latest ones that those behind it leave, as many as the total grows by
  abbrev grown : Due → List Due → List ℕ
  grown d ds = take (total (d ∷ ds) - total ds) (drop (total ds) tricks)

  -- from the last revoke to the first
  unfoldable pub allot : ℕ → List Due → List Pair
  allot k [] = []
  allot k (d ∷ ds) = map (serving k) (grown d ds) ++ allot (suc k) ds

  pub allot_length : (k n : ℕ) (ds : List Due) → Falling n ds → n ≤ length tricks → length (allot k ds) ≡ total ds
  unfolding Falling allot
  allot_length k n [] f h = total-none
  allot_length k n (d ∷ ds) f h =
      omega (
        arith,
        allot_length (suc k) d.available ds f.1 (omega (arith, f.0)),
        length-append (map (serving k) (grown d ds)) (allot (suc k) ds),
        length-map (grown d ds) (serving k),
        length-take (total (d ∷ ds) - total ds) (drop (total ds) tricks),
        length-drop (total ds) tricks,
        total-up n d ds f,
        total-le n (d ∷ ds) f,
      )

  -- each trick as often as it stands in front
  allot_tricks : (k n : ℕ) (ds : List Due) → Falling n ds → (t : ℕ)
      → how_many (of_trick t) (allot k ds) ≡ how_many (λ (x : ℕ). eqb x t) (take (total ds) tricks)
  unfolding Falling allot
  allot_tricks k n [] f t = rw (← total-none) (none-taken t tricks)
  allot_tricks k n (d ∷ ds) f t =
      let a = total ds in
      let grows = total (d ∷ ds) - a in
      let sum : a + grows ≡ total (d ∷ ds) = omega (arith, total-up n d ds f) in
      let front = rw sum at (ap (how_many (λ (x : ℕ). eqb x t)) (take-add a grows tricks)) in
      omega (
        arith,
        front,
        many_append (λ (x : ℕ). eqb x t) (take a tricks) (grown d ds),
        many_append (of_trick t) (map (serving k) (grown d ds)) (allot (suc k) ds),
        many-map (of_trick t) (serving k) (grown d ds),
        allot_tricks (suc k) d.available ds f.1 t,
      )

  pub allot_once : (k n : ℕ) (ds : List Due) → Falling n ds → ((t : ℕ) → how_many (λ (x : ℕ). eqb x t) tricks ≤ 1)
      → (t : ℕ) → how_many (of_trick t) (allot k ds) ≤ 1
  allot_once k n ds f once t = omega (arith, allot_tricks k n ds f t, many-parts (λ (x : ℕ). eqb x t) (total ds) tricks, once t)

  -- whose pairs they are
  of-place : (k : ℕ) (l : List ℕ) (q : Pair) → Memᴰ q (map (serving k) l) → (q.revoke ≡ k) × Memᴰ q.trick l
  of-place k l q m = let e = in_map (serving k) l m in (ap (λ (x : Pair). x.revoke) e.2, Memᴰ.cast (ap (λ (x : Pair). x.trick) e.2) e.1)

  allot_from : (k : ℕ) (ds : List Due) (q : Pair) → Memᴰ q (allot k ds) → k ≤ q.revoke
  unfolding allot
  allot_from k [] q m = absurd (Memᴰ.not-nil m)
  allot_from k (d ∷ ds) q m =
      let more = allot_from (suc k) ds q in
      ⊎_elim
      (λ (i : Memᴰ q (map (serving k) (grown d ds))). omega (arith, (of-place k (grown d ds) q i).0))
      (λ (i : Memᴰ q (allot (suc k) ds)). omega (arith, more i))
      (Memᴰ.append_cases (map (serving k) (grown d ds)) m)

  -- behind pairs of earlier places they serve the revokes
  pub allot_serves : (k n : ℕ) (ds : List Due) (before : List Pair) → Falling n ds → ((q : Pair) → Memᴰ q before → q.revoke < k)
      → Serves k ds (before ++ allot k ds)
  unfolding Falling Serves allot
  allot_serves k n [] before f b =
      λ q m. ⊎_elim (λ (i : Memᴰ q before). b q i) (λ (i : Memᴰ q []). absurd (Memᴰ.not-nil i)) (Memᴰ.append_cases before m)
  allot_serves k n (d ∷ ds) before f b =
      let mine = map (serving k) (grown d ds) in
      let rest = allot (suc k) ds in
      let more = allot_serves (suc k) d.available ds (before ++ mine) f.1 (λ q m. earlier q (Memᴰ.append_cases before m)) in
      (few, λ q m e. place q m e, rw append_assoc at more)
    where
      earlier : (q : Pair) → Memᴰ q before ⊎ Memᴰ q (map (serving k) (grown d ds)) → q.revoke < suc k
      earlier q (inl m) = omega (arith, b q m)
      earlier q (inr m) = omega (arith, (of-place k (grown d ds) q m).0)

      few : how_many (of_revoke k) (before ++ (map (serving k) (grown d ds) ++ allot (suc k) ds)) ≤ d.tricks
      few =
          let mine = map (serving k) (grown d ds) in
          let rest = allot (suc k) ds in
          omega (
            arith,
            many_append (of_revoke k) before (mine ++ rest),
            many_append (of_revoke k) mine rest,
            none_pass (of_revoke k) before (λ q m. ne_eqb q.revoke k (λ e. omega (arith, b q m))),
            none_pass (of_revoke k) rest (λ q m. ne_eqb q.revoke k (λ e. omega (arith, allot_from (suc k) ds q m))),
            many-le (of_revoke k) mine,
            length-map (grown d ds) (serving k),
            length-take (total (d ∷ ds) - total ds) (drop (total ds) tricks),
            total-up n d ds f,
          )

      place : (q : Pair) → Memᴰ q (before ++ (map (serving k) (grown d ds) ++ allot (suc k) ds)) → q.revoke ≡ k
          → Memᴰ q.trick (take d.available tricks)
      place q m e =
          ⊎_elim
          (λ (i : Memᴰ q before). absurd (omega (arith, b q i)))
          (λ (i : Memᴰ q (map (serving k) (grown d ds) ++ allot (suc k) ds)). ⊎_elim
          (λ (j : Memᴰ q (map (serving k) (grown d ds))).
          in_part (total ds) (total (d ∷ ds) - total ds) d.available tricks (room n d ds f) (of-place k (grown d ds) q j).1)
          (λ (j : Memᴰ q (allot (suc k) ds)). absurd (omega (arith, allot_from (suc k) ds q j)))
          (Memᴰ.append_cases (map (serving k) (grown d ds)) i))
          (Memᴰ.append_cases before m)
