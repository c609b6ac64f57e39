-- `decimal::read_score` meets its contract. Assumes nothing.
use Rattle.std.proofs.Common.{ap, ◌∙◌, sym}
use Rattle.decimal.specs.Numbers.{number_on}
use Rattle.decimal.proofs.Scores.{rest-is, begins, minus_none, minus_some, plus_none, plus_some}
use Rattle.decimal.proofs.read_score.Goals as goal

pub returns-in_err-read_number : goal.returns-in_err-read_number
returns-in_err-read_number c =
    let s = c.args.bytes.now in
    let read = sym (c.read_number.ensures ∙ ap number_on (rest-is 1 s)) in
    c.from_residual.ensures ∙ minus_none s (sym (c.if-starts_with.ensures.value ∙ begins s)) (read ∙ c.in_err-read_number.was)

pub returns-then-starts_with : goal.returns-then-starts_with
returns-then-starts_with c =
    let s = c.args.bytes.now in
    let read = sym (c.read_number.ensures ∙ ap number_on (rest-is 1 s)) in
    minus_some s (sym (c.if-starts_with.ensures.value ∙ begins s)) _ _ (read ∙ c.in_ok-read_number.was) c.minus_in.ensures

pub returns-in_err-read_number-2 : goal.returns-in_err-read_number-2
returns-in_err-read_number-2 c =
    let s = c.args.bytes.now in
    c.from_residual-in_err-read_number-2.ensures
    ∙ plus_none s (sym (c.if-starts_with.ensures.value ∙ begins s)) (sym c.read_number-2.ensures ∙ c.in_err-read_number-2.was)

pub returns : goal.returns
returns c =
    let s = c.args.bytes.now in
    plus_some s (sym (c.if-starts_with.ensures.value ∙ begins s)) _ _ (sym c.read_number-2.ensures ∙ c.in_ok-read_number-2.was) c.plus_in.ensures
