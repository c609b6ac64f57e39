-- Numbers that are boards fit a byte, and what is asked of them is answered. Assumes nothing.
use Prim.Native.Nat.{ℕ, ◌≤◌}
use native.Mathlib.Omega.{arith}
use mathlib.Core.Path.{◌≡◌}
use mathlib.Core.Bool.{true, false}
use borrow.Author.Tests.{eqb-true, leb-true}
use lib.Dec.{eqb}
use Rattle.laws.proofs.Tests.{by_test}
use Rattle.laws.specs.Refusals.{refusal_number, no_board_or_table}
use Rattle.board_call.specs.Asked.{is_board, of_board}

pub at_most : (board : ℕ) → is_board board ≡ true → board ≤ 127
unfolding is_board
at_most board h =
    by_test (eqb board 0)
    (λ (e : eqb board 0 ≡ true). omega (arith, eqb-true board 0 e))
    (λ (e : eqb board 0 ≡ false). leb-true board 127 (rw e at h))

pub answered : (number : ℕ → ℕ) (board : ℕ) → is_board board ≡ true → number board ≡ of_board number board
unfolding of_board
answered number board h = rw h

pub refused : (number : ℕ → ℕ) (board : ℕ) → is_board board ≡ false → refusal_number no_board_or_table 0 ≡ of_board number board
unfolding of_board
refused number board h = rw h
