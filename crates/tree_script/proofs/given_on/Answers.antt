-- `tree_script::given_on` meets its contract: a law of Lines for each way out. Assumes nothing.
use native.Mathlib.Omega.{arith}
use mathlib.Core.Path.{◌∙◌}
use lib.ListN.{length-take}
use Rattle.tree_script.proofs.Lines.{too_few, no_space, below_0, above_5, named}
use Rattle.tree_script.proofs.given_on.Goals as goal

pub returns-then-n-lt2 : goal.returns-then-n-lt2
returns-then-n-lt2 c = c.score_of.ensures ∙ too_few _ c.if-n-lt2.true

pub returns-then-bytes-n-ne32 : goal.returns-then-bytes-n-ne32
returns-then-bytes-n-ne32 c = c.score_of-then-bytes-n-ne32.ensures ∙ no_space _ c.if-n-lt2.false c.if-bytes-n-ne32.true

pub returns-then-digit-lt48 : goal.returns-then-digit-lt48
returns-then-digit-lt48 c = below_0 _ c.if-n-lt2.false c.if-bytes-n-ne32.false c.if-digit-lt48.true

pub returns-then-digit-gt53 : goal.returns-then-digit-gt53
returns-then-digit-gt53 c = above_5 _ c.if-n-lt2.false c.if-bytes-n-ne32.false c.if-digit-lt48.false c.if-digit-gt53.true

pub slice_bounds-score_of-length : goal.slice_bounds-score_of-length
slice_bounds-score_of-length c = simp length-take (omega arith)

pub returns : goal.returns
returns c = c.score_of-2.ensures ∙ named _ c.if-n-lt2.false c.if-bytes-n-ne32.false c.if-digit-lt48.false c.if-digit-gt53.false
