-- A narrowed board or score gets the answers of the one that was given. Assumes nothing.
use Rattle.std.specs.Prelude.{if◌then◌else◌}
use Prim.Native.Nat.{ℕ}
use native.Mathlib.Omega.{arith}
use mathlib.Core.Path.{◌≡◌, sym, ap, ◌∙◌}
use mathlib.Core.Logic.{◌⊎◌, inl, inr, ⊎_elim}
use mathlib.Core.Bool.{true, false}
use mathlib.Core.List.{List}
use borrow.Author.Tests.{ltb-true, ltb-false, ne_eqb}
use lib.Dec.{ltb}
use lib.IntN.{ℤ, pos, negsuc}
use lib.Signed.{lt_z}
use mir.Syntax.{w16}
use mir.Val.{SFits}
use Rattle.laws.specs.Law77.{valid_score}
use Rattle.laws.specs.Law78.{matchpoints}
use Rattle.laws.specs.Percentages.{cell_asked}
use Rattle.laws.specs.Refusals.{Answer, refused_at}
use Rattle.laws.specs.Tally.{Result, ◌or_else◌, Refusal, refusal, fresh_refusal, score_refusal, given_refusal, add_refusal, asked, leaves}
use Rattle.laws.proofs.Tests.{by_test}
use Rattle.score.proofs.Validity.{too_low, too_high}
use Rattle.tally.specs.declared.Tally.{Tally}
use Rattle.tally.specs.Points.{matchpoints_of}
use Rattle.tally.specs.Tallies.{results_in, well_formed, refused_with, answer_of, fresh_of, add_of}
use Rattle.percentages.specs.Cells.{cell_of_tally}
use Rattle.hundredths.specs.Shares.{shares_asked, shares_of_tally}
use Rattle.tally_calls.specs.Calls.{result_of}
use Rattle.tally_calls.specs.Narrowed.{narrow_board, narrow_score}

-- ---- boards
over : (board : ℕ) → ltb 127 board ≡ true → (narrow_board board ≡ 0) × (fresh_of board ≡ fresh_of 0)
unfolding narrow_board fresh_of fresh_refusal answer_of leaves
over board q = (rw q, rw (q, ne_eqb board 0 (λ e. omega (arith, ltb-true 127 board q))))

within : (board : ℕ) → ltb 127 board ≡ false → narrow_board board ≡ board
unfolding narrow_board
within board q = rw q

pub fresh_narrowed : (board : ℕ) → fresh_of (narrow_board board) ≡ fresh_of board
fresh_narrowed board =
    by_test (ltb 127 board)
    (λ (q : ltb 127 board ≡ true). ap fresh_of (over board q).0 ∙ sym (over board q).1)
    (λ (q : ltb 127 board ≡ false). ap fresh_of (within board q))

-- ---- scores
-- a score that no test of the range sends out is narrowed to itself, and 16 bits hold it
pub score-within : (s : ℤ) → lt_z s (negsuc 7599) ≡ false → lt_z (pos 7600) s ≡ false → (narrow_score s ≡ s) × SFits w16 s
unfolding narrow_score
score-within (pos n) l h = (rw h, record { sfits = omega (arith, ltb-false 7600 n h) })
score-within (negsuc n) l h = (rw l, record { sfits = omega (arith, ltb-false 7599 n l) })

-- a narrowed score is the one given, or neither is valid
record Out (s : ℤ) : Type 0 where
  narrowed : valid_score (narrow_score s) ≡ false
  given : valid_score s ≡ false

out_low : (s : ℤ) → lt_z s (negsuc 7599) ≡ true → Out s
unfolding narrow_score valid_score
out_low s q = record { narrowed = rw q; given = sym (too_low s q) }

out_high : (s : ℤ) → lt_z s (negsuc 7599) ≡ false → lt_z (pos 7600) s ≡ true → Out s
unfolding narrow_score valid_score
out_high s l q = record { narrowed = rw (l, q); given = sym (too_high s 7600 (omega arith) q) }

score_narrowed : (s : ℤ) → (narrow_score s ≡ s) ⊎ Out s
score_narrowed s =
    by_test (lt_z s (negsuc 7599))
    (λ (l : lt_z s (negsuc 7599) ≡ true). inr (out_low s l))
    (λ (l : lt_z s (negsuc 7599) ≡ false).
    by_test (lt_z (pos 7600) s)
    (λ (h : lt_z (pos 7600) s ≡ true). inr (out_high s l h))
    (λ (h : lt_z (pos 7600) s ≡ false). inl (score-within s l h).0))

-- a question gets one answer for both scores where it gets one for all that are not valid
by_score : {A : Type 0} (ask : ℤ → A) (refused : A) → ((s : ℤ) → valid_score s ≡ false → ask s ≡ refused) → (s : ℤ) → ask (narrow_score s) ≡ ask s
by_score ask refused h s =
    ⊎_elim
    (λ (e : narrow_score s ≡ s). ap ask e)
    (λ (o : Out s). h (narrow_score s) o.narrowed ∙ sym (h s o.given))
    (score_narrowed s)

-- a result whose score isn't valid is refused with 20
invalid : (l : List Result) (s : ℤ) (deal : List ℕ) → valid_score s ≡ false → given_refusal l (result_of s deal) ≡ refusal 20
unfolding given_refusal score_refusal ◌or_else◌
invalid l s deal e = rw e

-- the refusal of a score that isn't valid, after that of the tally
invalid_in : Tally → Refusal
invalid_in t = if well_formed t then refusal 20 else refusal 17

module _ (t : Tally) (deal : List ℕ) where
  add_invalid : (s : ℤ) → valid_score s ≡ false → add_of t (result_of s deal) ≡ refused_with (invalid_in t)
  unfolding add_of add_refusal answer_of leaves ◌or_else◌ invalid_in
  add_invalid s e =
      by_test (well_formed t)
      (λ (w : well_formed t ≡ true). rw (w, invalid (results_in t) s deal e))
      (λ (w : well_formed t ≡ false). rw w)

  asked_invalid : {A : Type 0} (question : List ℤ → ℤ → Answer A) (s : ℤ) → valid_score s ≡ false
      → asked question (results_in t) (result_of s deal) ≡ refused_at 20 0
  unfolding asked
  asked_invalid question s e = rw (invalid (results_in t) s deal e)

  points_invalid : (s : ℤ) → valid_score s ≡ false → matchpoints_of t (result_of s deal) ≡ (if well_formed t then refused_at 20 0 else refused_at 17 0)
  unfolding matchpoints_of
  points_invalid s e = rw (asked_invalid matchpoints s e)

  cell_invalid : (s : ℤ) → valid_score s ≡ false → cell_of_tally t (result_of s deal) ≡ (if well_formed t then refused_at 20 0 else refused_at 17 0)
  unfolding cell_of_tally
  cell_invalid s e = rw (asked_invalid cell_asked s e)

  shares_invalid : (s : ℤ) → valid_score s ≡ false → shares_of_tally t (result_of s deal) ≡ (if well_formed t then refused_at 20 0 else refused_at 17 0)
  unfolding shares_of_tally
  shares_invalid s e = rw (asked_invalid shares_asked s e)

  pub add_narrowed : (s : ℤ) → add_of t (result_of (narrow_score s) deal) ≡ add_of t (result_of s deal)
  add_narrowed = by_score (λ (s : ℤ). add_of t (result_of s deal)) _ add_invalid

  pub points_narrowed : (s : ℤ) → matchpoints_of t (result_of (narrow_score s) deal) ≡ matchpoints_of t (result_of s deal)
  points_narrowed = by_score (λ (s : ℤ). matchpoints_of t (result_of s deal)) _ points_invalid

  pub cell_narrowed : (s : ℤ) → cell_of_tally t (result_of (narrow_score s) deal) ≡ cell_of_tally t (result_of s deal)
  cell_narrowed = by_score (λ (s : ℤ). cell_of_tally t (result_of s deal)) _ cell_invalid

  pub shares_narrowed : (s : ℤ) → shares_of_tally t (result_of (narrow_score s) deal) ≡ shares_of_tally t (result_of s deal)
  shares_narrowed = by_score (λ (s : ℤ). shares_of_tally t (result_of s deal)) _ shares_invalid
