-- `team_match::is_match` meets its contract: the tests of a state, in order. Assumes nothing.
use Rattle.std.proofs.Common.{◌∙◌}
use borrow.Author.Rules.{rules}
use borrow.Author.Tests.{lt-leb}
use Rattle.team_match.proofs.States.{zero-used, too_many, by_size}
use Rattle.team_match.proofs.is_match.Goals as goal

pub returns-then-m-offset0 : goal.returns-then-m-offset0
returns-then-m-offset0 c = zero-used c.args.m (search rules) c.if-m-offset0.true

pub returns-then-n-le32 : goal.returns-then-n-le32
returns-then-n-le32 c =
    by_size c.args.m (search rules) _ _ c.boards_used-n.ensures c.imps_size.ensures c.if-m-offset0.false c.if-n-le32.true

pub returns-else-n-le32 : goal.returns-else-n-le32
returns-else-n-le32 c =
    lt-leb _ _ c.if-n-le32.false ∙ too_many c.args.m (search rules) _ c.boards_used-n.ensures c.if-m-offset0.false c.if-n-le32.false
