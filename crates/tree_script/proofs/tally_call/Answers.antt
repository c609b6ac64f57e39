-- `tree_script::tally_call` meets its contract. Assumes nothing.
use mathlib.Core.Path.{ap, ◌∙◌}
use Rattle.tree_script.specs.declared.Call.TheVariants.{Add, Matchpoints}
use Rattle.tree_script.specs.Calls.{fresh_on, given_on, with_given, fresh_word, add_word, matchpoints_word, merge_word}
use Rattle.decimal.proofs.Scores.{rest-is}
use Rattle.tree_script.proofs.Lines.{begun, prefix-length, to-fresh, to-add, to-matchpoints, other_length, to-merge, to_nothing}
use Rattle.tree_script.proofs.tally_call.Goals as goal

pub slice_bounds-fresh_on-count : goal.slice_bounds-fresh_on-count
slice_bounds-fresh_on-count c = prefix-length fresh_word _ (begun fresh_word c.args.line.now c.if-starts_with.ensures.value)

pub slice_bounds-fresh_on-start : goal.slice_bounds-fresh_on-start
slice_bounds-fresh_on-start c = prefix-length fresh_word _ (begun fresh_word c.args.line.now c.if-starts_with.ensures.value)

pub returns-then-starts_with : goal.returns-then-starts_with
returns-then-starts_with c =
    let s = c.args.line.now in
    c.fresh_on.ensures ∙ ap fresh_on (rest-is 6 s) ∙ to-fresh s (begun fresh_word c.args.line.now c.if-starts_with.ensures.value)

pub slice_bounds-given_on-count : goal.slice_bounds-given_on-count
slice_bounds-given_on-count c = prefix-length add_word _ (begun add_word c.args.line.now c.if-starts_with-2.ensures.value)

pub slice_bounds-given_on-start : goal.slice_bounds-given_on-start
slice_bounds-given_on-start c = prefix-length add_word _ (begun add_word c.args.line.now c.if-starts_with-2.ensures.value)

pub returns-in_err-given : goal.returns-in_err-given
returns-in_err-given c =
    let s = c.args.line.now in
    c.from_residual.ensures
    ∙ (ap (with_given Add) (c.in_err-given.ensures ∙ ap given_on (rest-is 4 s))
    ∙ to-add s (begun fresh_word c.args.line.now c.if-starts_with.ensures.value) (begun add_word c.args.line.now c.if-starts_with-2.ensures.value))

pub returns-then-starts_with-2 : goal.returns-then-starts_with-2
returns-then-starts_with-2 c =
    let s = c.args.line.now in
    ap (with_given Add) (c.in_ok-given.ensures ∙ ap given_on (rest-is 4 s))
    ∙ to-add s (begun fresh_word c.args.line.now c.if-starts_with.ensures.value) (begun add_word c.args.line.now c.if-starts_with-2.ensures.value)

pub slice_bounds-given_on-count-then-starts_with-3 : goal.slice_bounds-given_on-count-then-starts_with-3
slice_bounds-given_on-count-then-starts_with-3 c = prefix-length matchpoints_word _ (begun matchpoints_word c.args.line.now c.if-starts_with-3.ensures.value)

pub slice_bounds-given_on-start-then-starts_with-3 : goal.slice_bounds-given_on-start-then-starts_with-3
slice_bounds-given_on-start-then-starts_with-3 c = prefix-length matchpoints_word _ (begun matchpoints_word c.args.line.now c.if-starts_with-3.ensures.value)

pub returns-in_err-given-2 : goal.returns-in_err-given-2
returns-in_err-given-2 c =
    let s = c.args.line.now in
    c.from_residual-in_err-given-2.ensures
    ∙ (ap (with_given Matchpoints) (c.in_err-given-2.ensures ∙ ap given_on (rest-is 12 s))
    ∙ to-matchpoints s (begun fresh_word c.args.line.now c.if-starts_with.ensures.value) (begun add_word c.args.line.now c.if-starts_with-2.ensures.value)
    (begun matchpoints_word c.args.line.now c.if-starts_with-3.ensures.value))

pub returns-then-starts_with-3 : goal.returns-then-starts_with-3
returns-then-starts_with-3 c =
    let s = c.args.line.now in
    ap (with_given Matchpoints) (c.in_ok-given-2.ensures ∙ ap given_on (rest-is 12 s))
    ∙ to-matchpoints s (begun fresh_word c.args.line.now c.if-starts_with.ensures.value) (begun add_word c.args.line.now c.if-starts_with-2.ensures.value)
    (begun matchpoints_word c.args.line.now c.if-starts_with-3.ensures.value)

pub returns-then-line-ne5 : goal.returns-then-line-ne5
returns-then-line-ne5 c =
    other_length _ (begun fresh_word c.args.line.now c.if-starts_with.ensures.value)
    (begun add_word c.args.line.now c.if-starts_with-2.ensures.value)
    (begun matchpoints_word c.args.line.now c.if-starts_with-3.ensures.value) c.if-line-ne5.true

pub returns-then-starts_with-4 : goal.returns-then-starts_with-4
returns-then-starts_with-4 c =
    to-merge _ (begun fresh_word c.args.line.now c.if-starts_with.ensures.value)
    (begun add_word c.args.line.now c.if-starts_with-2.ensures.value)
    (begun matchpoints_word c.args.line.now c.if-starts_with-3.ensures.value) c.if-line-ne5.false
    (begun merge_word c.args.line.now c.if-starts_with-4.ensures.value)

pub returns : goal.returns
returns c =
    to_nothing _ (begun fresh_word c.args.line.now c.if-starts_with.ensures.value)
    (begun add_word c.args.line.now c.if-starts_with-2.ensures.value)
    (begun matchpoints_word c.args.line.now c.if-starts_with-3.ensures.value) c.if-line-ne5.false
    (begun merge_word c.args.line.now c.if-starts_with-4.ensures.value)
