-- `tree_script::read_call` meets its contract. Assumes nothing.
use mathlib.Core.Path.{ap, ◌∙◌}
use Rattle.tree_script.specs.declared.Call.TheVariants.{Cell}
use Rattle.tree_script.specs.Calls.{given_on, with_given, award_on, call_on, cell_word, award_word}
use Rattle.decimal.proofs.Scores.{rest-is}
use Rattle.tree_script.proofs.Lines.{begun, prefix-length}
use Rattle.tree_script.proofs.read_call.Goals as goal

pub slice_bounds-given_on-count : goal.slice_bounds-given_on-count
slice_bounds-given_on-count c = prefix-length cell_word _ (begun cell_word c.args.line.now c.if-starts_with.ensures.value)

pub slice_bounds-given_on-start : goal.slice_bounds-given_on-start
slice_bounds-given_on-start c = prefix-length cell_word _ (begun cell_word c.args.line.now c.if-starts_with.ensures.value)

pub returns-in_err-given : goal.returns-in_err-given
unfolding call_on
returns-in_err-given c =
    let s = c.args.line.now in
    c.from_residual.ensures
    ∙ (ap (with_given Cell) (c.in_err-given.ensures ∙ ap given_on (rest-is 5 s)) ∙ rw (begun cell_word c.args.line.now c.if-starts_with.ensures.value))

pub returns-then-starts_with : goal.returns-then-starts_with
unfolding call_on
returns-then-starts_with c =
    let s = c.args.line.now in
    ap (with_given Cell) (c.in_ok-given.ensures ∙ ap given_on (rest-is 5 s)) ∙ rw (begun cell_word c.args.line.now c.if-starts_with.ensures.value)

pub slice_bounds-award_on-count : goal.slice_bounds-award_on-count
slice_bounds-award_on-count c = prefix-length award_word _ (begun award_word c.args.line.now c.if-starts_with-2.ensures.value)

pub slice_bounds-award_on-start : goal.slice_bounds-award_on-start
slice_bounds-award_on-start c = prefix-length award_word _ (begun award_word c.args.line.now c.if-starts_with-2.ensures.value)

pub returns-then-starts_with-2 : goal.returns-then-starts_with-2
unfolding call_on
returns-then-starts_with-2 c =
    let s = c.args.line.now in
    let no_cell = begun cell_word c.args.line.now c.if-starts_with.ensures.value in
    c.award_on.ensures ∙ ap award_on (rest-is 6 s) ∙ rw (no_cell, begun award_word c.args.line.now c.if-starts_with-2.ensures.value)

pub returns : goal.returns
unfolding call_on
returns c =
    let no_cell = begun cell_word c.args.line.now c.if-starts_with.ensures.value in
    c.tally_call.ensures ∙ rw (no_cell, begun award_word c.args.line.now c.if-starts_with-2.ensures.value)
