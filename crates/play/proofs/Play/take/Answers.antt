-- `Play::take` meets its contract: by what is said of the card. Assumes nothing.
use Rattle.std.proofs.Common.{sym}
use Rattle.std.proofs.lemmas.Result.{err_from_is_err_and}
use Rattle.play.specs.Position.{taken_of}
use Rattle.play.proofs.Play.take.Goals as goal

pub returns-in_err-verdict : goal.returns-in_err-verdict
unfolding taken_of
returns-in_err-verdict c =
    let p = err_from_is_err_and c.from_residual.result c.from_residual.ensures.1 in
    rw (p.1, p.2, sym c.in_err-verdict.ensures)

pub returns : goal.returns
unfolding taken_of
returns c = rw (c.play.ensures, sym c.in_ok-verdict.ensures)
