-- `read_code` meets its contract: a law of CodeTurns for each way out. Assumes nothing.
use Rattle.std.proofs.Common.{sym, ◌∙◌}
use Rattle.last_card.proofs.CodeTurns.{room_taken, one_taken, code_over, code_exposes, code_chooses}
use Rattle.last_card.proofs.plays.read_code.Goals as goal

pub returns-then-codes_full-clause-law : goal.returns-then-codes_full-clause-law
returns-then-codes_full-clause-law c =
    λ deal trump opening e o. rw c.at.ensures
    (code_over deal trump opening e _ _ o _ _ _ (sym c.codes_full.ensures ∙ c.if-codes_full.true))

pub returns-then-code-eq52-clause-room : goal.returns-then-code-eq52-clause-room
returns-then-code-eq52-clause-room c =
    room_taken _ (sym c.codes_full.ensures ∙ c.if-codes_full.false) c.read_exposed.result c.args.at c.read_exposed.ensures.counted

pub returns-then-code-eq52-clause-counted : goal.returns-then-code-eq52-clause-counted
returns-then-code-eq52-clause-counted c =
    one_taken _ (sym c.codes_full.ensures ∙ c.if-codes_full.false) c.read_exposed.result c.args.at c.read_exposed.ensures.counted

pub returns-then-code-eq52-clause-law : goal.returns-then-code-eq52-clause-law
returns-then-code-eq52-clause-law c =
    let room = sym c.codes_full.ensures ∙ c.if-codes_full.false in
    λ deal trump opening e o. c.read_exposed.ensures.law deal trump opening e o
    ∙ code_exposes deal trump opening e _ _ o _ _ _ room c.if-code-eq52.true

pub returns-clause-room : goal.returns-clause-room
returns-clause-room c = room_taken _ (sym c.codes_full.ensures ∙ c.if-codes_full.false) c.read_choice.result c.args.at c.read_choice.ensures.counted

pub returns-clause-counted : goal.returns-clause-counted
returns-clause-counted c = one_taken _ (sym c.codes_full.ensures ∙ c.if-codes_full.false) c.read_choice.result c.args.at c.read_choice.ensures.counted

pub returns-clause-law : goal.returns-clause-law
returns-clause-law c =
    let room = sym c.codes_full.ensures ∙ c.if-codes_full.false in
    λ deal trump opening e o. c.read_choice.ensures.law deal trump opening e o
    ∙ code_chooses deal trump opening e _ _ o _ _ _ room c.if-code-eq52.false
