-- The boards of a state: how many, and which, by the places that hold. Assumes nothing.
use Prim.Native.Nat.{ℕ, zero, suc, ◌≤◌, ◌<◌, ◌+◌}
use native.Mathlib.Nat.{add-zero, zero-add}
use native.Mathlib.Numerals.{add-one}
use native.Mathlib.Omega.{arith}
use mathlib.Core.Path.{◌≡◌, refl, sym, ap, ◌∙◌, subst}
use mathlib.Core.Bool.{Bool, true, false, ◌||◌}
use mathlib.Core.List.{List, [], ◌∷◌}
use borrow.Author.Tests.{eq-eqb, ne_eqb, eqb-true, eqb-false}
use lib.Dec.{eqb}
use lib.ListN.{length, get_or, drop, set, replicate}
use lib.Seq.{drop-cons, get_or-set_same, get_or-set_other}
use mir.Val.{bool_byte}
use Rattle.laws.specs.Choice.{some}
use Rattle.laws.specs.TeamMatch.{is_used}
use Rattle.laws.proofs.Tests.{by_test}
use Rattle.team_match.specs.Matches.{places_from}

-- how many places hold from a place on
abbrev pub count_from : List Bool → ℕ → ℕ
count_from l i = length (places_from i (drop i l))

pub count_held : (l : List Bool) (i : ℕ) → i < length l → get_or l i false ≡ true → count_from l i ≡ suc (count_from l (i + 1))
unfolding places_from
count_held l i h e = rw (add-one, drop-cons l i false h, e)

pub count-not : (l : List Bool) (i : ℕ) → i < length l → get_or l i false ≡ false → count_from l i ≡ count_from l (i + 1)
unfolding places_from
count-not l i h e = rw (add-one, drop-cons l i false h, e)

none-behind : (l : List Bool) (i k : ℕ) → length l ≤ i → length (places_from k (drop i l)) ≡ 0
unfolding places_from
none-behind [] zero k h = refl
none-behind [] (suc i) k h = refl
none-behind (b ∷ l) zero k h = absurd (omega arith)
none-behind (b ∷ l) (suc i) k h = none-behind l i k (omega arith)

pub count_end : (l : List Bool) (i : ℕ) → length l ≤ i → count_from l i ≡ 0
count_end l i h = none-behind l i i h

-- one place more: a place that holds counts as 1, and another as 0
pub count_next : (l : List Bool) (i n b : ℕ) → i < length l → b ≡ bool_byte (get_or l i false) → n ≤ i → count_from l 0 ≡ n + count_from l i
    → (n + b ≤ i + 1) × (count_from l 0 ≡ (n + b) + count_from l (i + 1))
count_next l i n b h e m q =
    by_test (get_or l i false)
    (λ (t : get_or l i false ≡ true). let one : b ≡ 1 = rw t at e in (omega arith, omega (arith, q, count_held l i h t)))
    (λ (t : get_or l i false ≡ false). let none : b ≡ 0 = rw t at e in (omega arith, omega (arith, q, count-not l i h t)))

-- ---- which boards
pub none_before : (b i : ℕ) (l : List Bool) → b < i → is_used b (places_from i l) ≡ false
unfolding places_from is_used some
none_before b i [] h = refl
none_before b i (true ∷ l) h = rw (ne_eqb b i (λ e. omega arith), none_before b (suc i) l (omega arith))
none_before b i (false ∷ l) h = none_before b (suc i) l (omega arith)

later : (i k : ℕ) → i + suc k ≡ suc i + k
later i k = omega arith

used-from : (l : List Bool) (i k : ℕ) → some (eqb (i + k)) (places_from i l) ≡ get_or l k false
unfolding places_from is_used some
used-from [] i k = refl
used-from (true ∷ l) i zero = rw (add-zero, eq-eqb i i refl)
used-from (true ∷ l) i (suc k) =
    ap (λ (t : Bool). t || some (eqb (i + suc k)) (places_from (suc i) l)) (ne_eqb (i + suc k) i (λ (e : i + suc k ≡ i). omega arith))
    ∙ subst (λ (n : ℕ). some (eqb n) (places_from (suc i) l) ≡ get_or l k false) (sym (later i k)) (used-from l (suc i) k)
used-from (false ∷ l) i zero = rw add-zero (none_before i (suc i) l (omega arith))
used-from (false ∷ l) i (suc k) = rw (later i k) (used-from l (suc i) k)

-- a board is used exactly where its place holds
pub used-place : (l : List Bool) (board : ℕ) → is_used board (places_from 0 l) ≡ get_or l board false
unfolding is_used
used-place l board = ap (λ (b : ℕ). some (eqb b) (places_from 0 l)) (sym (zero-add board)) ∙ used-from l 0 board

-- ---- a board more
more-from : (i k : ℕ) (l : List Bool) → k < length l → get_or l k false ≡ false → length (places_from i (set l k true)) ≡ suc (length (places_from i l))
unfolding places_from
more-from i k [] h e = absurd (omega arith)
more-from i zero (true ∷ l) h e = cc
more-from i zero (false ∷ l) h e = refl
more-from i (suc k) (true ∷ l) h e = ap suc (more-from (suc i) k l (omega arith) e)
more-from i (suc k) (false ∷ l) h e = more-from (suc i) k l (omega arith) e

pub one_more : (l : List Bool) (board : ℕ) → board < length l → get_or l board false ≡ false
    → length (places_from 0 (set l board true)) ≡ suc (length (places_from 0 l))
one_more l board h e = more-from 0 board l h e

-- the place of a board more holds, and the others are as they were
pub one_place : (l : List Bool) (board b : ℕ) → board < length l → get_or (set l board true) b false ≡ (eqb b board || get_or l b false)
one_place l board b h =
    by_test (eqb b board)
    (λ (q : eqb b board ≡ true). rw (q, eqb-true b board q) (get_or-set_same l board true false h))
    (λ (q : eqb b board ≡ false). rw q (get_or-set_other l board b true false (eqb-false b board q)))

-- no board before the first
pub none-used : (l : List Bool) (n b : ℕ) → l ≡ replicate n false → (get_or l b false ≡ false) × (length (places_from 0 l) ≡ 0)
unfolding places_from
none-used l n b e = rw e (none_at n b, none_from 0 n)
  where
    none_at : (n b : ℕ) → get_or (replicate n false) b false ≡ false
    none_at zero b = refl
    none_at (suc n) zero = refl
    none_at (suc n) (suc b) = none_at n b

    none_from : (i n : ℕ) → length (places_from i (replicate n false)) ≡ 0
    none_from i zero = refl
    none_from i (suc n) = none_from (suc i) n
