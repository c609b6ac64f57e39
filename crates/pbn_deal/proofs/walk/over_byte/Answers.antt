-- `pbn_deal::walk::over_byte` meets its contract. Assumes nothing.
use Rattle.std.proofs.Common.{◌∙◌, ◌∷◌, ap, sym}
use Rattle.pbn_deal.specs.Walks.{follows}
use Rattle.pbn_deal.proofs.Walked.{at_end, other_byte, same_byte, nowhere}
use Rattle.pbn_deal.proofs.walk.over_byte.Goals.{else-at-line-via-then-at-line+else-line-at, else-at-line-via-else-at-line}
use Rattle.pbn_deal.proofs.walk.over_byte.Goals as goal

pub returns-in_err-at : goal.returns-in_err-at
returns-in_err-at c t =
    let line = c.args.line.now in
    rw (c.in_err-at.was, c.from_residual.ensures) (nowhere line _ ∙ sym (nowhere line t))

pub returns-then-line-at : goal.returns-then-line-at
returns-then-line-at c t =
    let line = c.args.line.now in
    ap (λ p. follows line p (c.args.byte ∷ t)) c.in_ok-at.was ∙ same_byte line c.in_ok-at.at c.args.byte t c.if-at-line.true c.if-line-at.true

pub returns : goal.returns
returns c t =
    let line = c.args.line.now in
    ap (λ p. follows line p (c.args.byte ∷ t)) c.in_ok-at.was
    ∙ (elim c.else-at-line.branch [
      | else-at-line-via-then-at-line+else-line-at w ↦ other_byte line c.in_ok-at.at c.args.byte t w.if-at-line.true w.if-line-at.false
      | else-at-line-via-else-at-line w ↦ at_end line c.in_ok-at.at c.args.byte t w.if-at-line.false
    ])
    ∙ sym (nowhere line t)
