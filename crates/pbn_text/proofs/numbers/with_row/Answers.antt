-- `pbn_text::numbers::with_row` meets its contract. The loop's invariant: the first numbers of the row stand behind those that were kept. Assumes nothing.
use Rattle.std.proofs.Common.{◌++◌, take, sym, ap, ◌∙◌}
use mathlib.Core.List.{append-nil}
use lib.Seq.{take_all}
use Rattle.pbn_text.specs.Kept.{kept_of}
use Rattle.pbn_text.proofs.KeptNumbers.{next-number}
use Rattle.pbn_text.proofs.numbers.with_row.Goals as goal

pub loop-number-init : goal.loop-number-init
loop-number-init c = λ l e. e ∙ ap kept_of (sym (append-nil l))

pub loop-number-preserved : goal.loop-number-preserved
loop-number-preserved c =
    let i = c.loop-number.number-index in
    let row = take c.args.row.count c.args.row.numbers in
    λ l e. c.with_number-all.ensures (l ++ take i row) (c.loop-number.invariant l e) ∙ ap kept_of (next-number l row i c.loop-number-test.true)

pub returns : goal.returns
returns c l e =
    let i = c.loop-number.number-index in
    let row = take c.args.row.count c.args.row.numbers in
    c.loop-number.invariant l e ∙ ap (λ m. kept_of (l ++ m)) (take_all i row c.loop-number-test.false)
