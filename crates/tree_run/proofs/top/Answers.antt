-- `tree_run::top` meets its contract, with a top and without one. Assumes nothing.
use Rattle.std.proofs.Common.{◌≡◌, true, false, ◌∙◌}
use Rattle.std.specs.Option.{unwrap_or}
use Rattle.laws.proofs.Tests.{by_test}
use Rattle.tally.specs.Tallies.{tally_of, no_tally}
use Rattle.tree_stack.specs.declared.Stack.{Stack}
use Rattle.tree_stack.specs.Stacks.{lacks, top_of as top_in}
use Rattle.tree_run.specs.Runs.{top_of}
use Rattle.tree_run.proofs.top.Goals as goal

-- where there is no top, the all-zero tally
or_none : (s : Stack) → unwrap_or (top_in s) no_tally ≡ top_of s
unfolding top_in top_of
or_none s = by_test (lacks s 1) (λ (q : lacks s 1 ≡ true). rw q) (λ (q : lacks s 1 ≡ false). rw q)

pub returns : goal.returns
unfolding tally_of
returns c = c.unwrap_or.ensures ∙ rw (c.top.ensures, c.empty.ensures) (or_none c.args.s)
