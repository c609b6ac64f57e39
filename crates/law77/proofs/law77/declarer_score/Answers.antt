-- `declarer_score` meets its contract: made, or so many down; its size is far below what 64 bits hold. Assumes nothing.
use Prim.Native.Nat.{ℕ, ◌<◌, ◌+◌, ◌-◌, ◌^◌}
use mathlib.Core.Path.{ap, ◌∙◌}
use native.Mathlib.Omega.{arith}
use lib.IntN.{pos, neg_ℤ, +ℤ_idl}
use mir.Syntax.{w64}
use mir.Val.{SFits}
use mir.Facts.{to_z-of_z, to_z_pos}
use Rattle.laws.proofs.Integers.{size_neg, mag-le-size}
use Rattle.law77.proofs.Points.{undertricks-le, made_score, down-score, made_le}
use Rattle.law77.specs.Scoring.{stake_of}
use borrow.Author.Rules.{rules}
use Rattle.law77.proofs.law77.declarer_score.Goals as goal

small : (n : ℕ) → n < 10000000000000 → n < 2 ^ 63
small n h = omega arith

negative : (n : ℕ) → n < 10000000000000 → SFits w64 (neg_ℤ (pos n))
negative n h = record { sfits = omega (arith, mag-le-size (neg_ℤ (pos n)), size_neg (pos n)) }

pub overflow_cast-result : goal.overflow_cast-result
overflow_cast-result c = let st =
    c in
    let s = stake_of st.args.s in
    let l : st.args.s.level < 256 = search rules in
    let t : st.args.tricks < 4294967296 = search rules in
    let n : c.made.result < 10000000000000 = omega (arith, c.made.ensures, made_le s (st.args.tricks - (s.level + 6)) l (omega (arith, t))) in
    record { sfits = omega arith }

pub returns-then-needed-tricks : goal.returns-then-needed-tricks
returns-then-needed-tricks c = let st =
    c in
    let s = stake_of st.args.s in
    let l : st.args.s.level < 256 = search rules in
    let t : st.args.tricks < 4294967296 = search rules in
    let n : c.made.result < 10000000000000 = omega (arith, c.made.ensures, made_le s (st.args.tricks - (s.level + 6)) l (omega (arith, t))) in
    rw (to_z_pos w64 (small c.made.result n)) (ap pos c.made.ensures ∙ made_score s st.args.tricks c.if-needed-tricks.true, n)

pub overflow_cast-result-2 : goal.overflow_cast-result-2
overflow_cast-result-2 c = let st =
    c in
    let s = stake_of st.args.s in
    let l : st.args.s.level < 256 = search rules in
    let n : c.undertricks.result < 10000000000000 = omega (arith, c.undertricks.ensures, undertricks-le s (s.level + 6 - st.args.tricks)) in
    record { sfits = omega arith }

pub overflow_sub-result : goal.overflow_sub-result
overflow_sub-result c = let st =
    c in
    let s = stake_of st.args.s in
    let l : st.args.s.level < 256 = search rules in
    let n : c.undertricks.result < 10000000000000 = omega (arith, c.undertricks.ensures, undertricks-le s (s.level + 6 - st.args.tricks)) in
    rw (to_z_pos w64 (small c.undertricks.result n), +ℤ_idl) (negative c.undertricks.result n)

pub returns : goal.returns
returns c = let st =
    c in
    let s = stake_of st.args.s in
    let l : st.args.s.level < 256 = search rules in
    let n : c.undertricks.result < 10000000000000 = omega (arith, c.undertricks.ensures, undertricks-le s (s.level + 6 - st.args.tricks)) in
    rw (to_z_pos w64 (small c.undertricks.result n), +ℤ_idl, to_z-of_z (negative c.undertricks.result n)) (
      ap (λ (k : ℕ). neg_ℤ (pos k)) c.undertricks.ensures
          ∙ down-score s st.args.tricks c.if-needed-tricks.false,
      rw (size_neg (pos c.undertricks.result)) n,
    )
