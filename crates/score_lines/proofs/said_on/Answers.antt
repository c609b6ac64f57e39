-- `score_lines::said_on` meets its contract. Assumes nothing.
use Prim.Native.Nat.{◌-◌}
use native.Mathlib.Omega.{arith}
use mathlib.Core.Path.{◌≡◌, ap, ◌∙◌}
use lib.ListN.{length, take, drop, length-drop}
use lib.Seq.{take_all}
use Rattle.score_lines.specs.Reading.{size_on, positive_of, negative_of}
use Rattle.score_lines.proofs.Saying.{said-none, said-minus, said-long, said-digit, said-zero}
use Rattle.score_lines.proofs.said_on.Goals as goal

pub returns-then-line-eq0 : goal.returns-then-line-eq0
returns-then-line-eq0 c = said-none _ c.if-line-eq0.true

pub returns-then-line-eq45 : goal.returns-then-line-eq45
returns-then-line-eq45 c =
    let s = c.args.line.now in
    let e : take (length s - 1) (drop 1 s) ≡ drop 1 s = take_all (length s - 1) (drop 1 s) (rw length-drop (omega arith)) in
    c.signed.ensures ∙ ap negative_of (c.size_on.ensures ∙ ap size_on e) ∙ said-minus _ c.if-line-eq0.false
    c.if-line-eq45.true

pub returns-then-line-gt1 : goal.returns-then-line-gt1
returns-then-line-gt1 c =
    c.signed-then-line-gt1.ensures ∙ ap positive_of c.size_on-then-line-gt1.ensures ∙ said-long _ c.if-line-eq0.false
    c.if-line-eq45.false c.if-line-gt1.true

pub returns-then-line-eq48 : goal.returns-then-line-eq48
returns-then-line-eq48 c = said-zero _ c.if-line-eq0.false c.if-line-eq45.false c.if-line-gt1.false c.if-line-eq48.true

pub returns : goal.returns
returns c =
    c.signed-2.ensures ∙ ap positive_of c.size_on-2.ensures ∙ said-digit _
    c.if-line-eq0.false c.if-line-eq45.false
    c.if-line-eq48.false
