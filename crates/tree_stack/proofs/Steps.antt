-- The calls on a stack, by the tests that the code makes. Assumes nothing.
use Prim.Native.Nat.{ℕ, ◌-◌, ◌≤◌, ◌<◌}
use Rattle.std.specs.Prelude.{Option, None, Some}
use mathlib.Core.Path.{◌≡◌, refl, sym, ◌∙◌}
use mathlib.Core.Bool.{Bool, true, false, ◌||◌}
use borrow.Author.Tests.{lt-ltb, le-ltb, ltb-false}
use lib.Dec.{ltb}
use Rattle.laws.proofs.Tests.{by_test, or_left, or_right}
use Rattle.tally.specs.declared.Tally.{Tally}
use Rattle.percentages.specs.Cells.{cell_of_tally}
use Rattle.tally.specs.Tallies.{add_of, merge_of}
use Rattle.tally.specs.Points.{matchpoints_of}
use Rattle.tree_script.specs.declared.Given.{Given}
use Rattle.tree_stack.specs.declared.Stack.{Stack}
use Rattle.tree_stack.specs.Stacks.{top_of, tally_at, stopped, landed, lacks, lowered, said_of, result_of, add_step, merge_step, matchpoints_step, said_cell, cell_step}

-- too few tallies, too many, or enough
pub few : (s : Stack) (n : ℕ) → s.used < n → lacks s n ≡ true
few s n h = rw (lt-ltb s.used n h)

pub many : (s : Stack) (n : ℕ) → 16 < s.used → lacks s n ≡ true
many s n h = rw (lt-ltb 16 s.used h) (or_true (ltb s.used n))
  where
    or_true : (b : Bool) → (b || true) ≡ true
    or_true true = refl
    or_true false = refl

pub enough : (s : Stack) (n : ℕ) → n ≤ s.used → s.used ≤ 16 → lacks s n ≡ false
enough s n h k = rw (le-ltb s.used n h, le-ltb 16 s.used k)

-- a stack with no top, or with one
module _ (s : Stack) {t : Option Tally} (e : t ≡ top_of s) where
  pub no_top : t ≡ None → lacks s 1 ≡ true
  unfolding top_of
  no_top n =
      by_test (lacks s 1)
      (λ (q : lacks s 1 ≡ true). q)
      (λ (q : lacks s 1 ≡ false). absurd (let f = rw q at (sym n ∙ e) in cc))

  pub has_top : {x : Tally} → t ≡ Some x → (lacks s 1 ≡ false) × (x ≡ tally_at s (s.used - 1))
  unfolding top_of
  has_top {x} k =
      by_test (lacks s 1)
      (λ (q : lacks s 1 ≡ true). absurd (let f = rw q at (sym k ∙ e) in cc))
      (λ (q : lacks s 1 ≡ false). (q, (let f = rw q at (sym k ∙ e) in cc)))

-- how many tallies there are
pub some_used : (s : Stack) → lacks s 1 ≡ false → (1 ≤ s.used) × (s.used ≤ 16)
some_used s q = (ltb-false s.used 1 (or_left (ltb s.used 1) (ltb 16 s.used) q), ltb-false 16 s.used (or_right (ltb s.used 1) (ltb 16 s.used) q))

module _ (s : Stack) (g : Given) where
  module _ (z : lacks s 1 ≡ true) where
    pub no-add : stopped s ≡ add_step s g
    unfolding add_step
    no-add = rw z

    pub no-points : stopped s ≡ matchpoints_step s g
    unfolding matchpoints_step
    no-points = rw z

    pub no-cell : stopped s ≡ cell_step s g
    unfolding cell_step
    no-cell = rw z

  module _ (z : lacks s 1 ≡ false) where
    pub add_lands : landed s (s.used - 1) s.used (add_of (tally_at s (s.used - 1)) (result_of g)) ≡ add_step s g
    unfolding add_step
    add_lands = rw z

    pub points-said : record { stack = s; said = said_of (matchpoints_of (tally_at s (s.used - 1)) (result_of g)) } ≡ matchpoints_step s g
    unfolding matchpoints_step
    points-said = rw z

    pub cell-said : record { stack = s; said = said_cell (cell_of_tally (tally_at s (s.used - 1)) (result_of g)) } ≡ cell_step s g
    unfolding cell_step
    cell-said = rw z

module _ (s : Stack) where
  pub merge-short : s.used < 2 → stopped s ≡ merge_step s
  unfolding merge_step
  merge-short h = rw (few s 2 h)

  pub merge-long : 16 < s.used → stopped s ≡ merge_step s
  unfolding merge_step
  merge-long h = rw (many s 2 h)

  pub merge_lands : 2 ≤ s.used → s.used ≤ 16
      → landed (lowered s) (s.used - 2) (s.used - 1) (merge_of (tally_at s (s.used - 2)) (tally_at s (s.used - 1))) ≡ merge_step s
  unfolding merge_step
  merge_lands h k = rw (enough s 2 h k)
