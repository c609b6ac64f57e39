-- `write_tricks` meets its contract. Assumes nothing.
use Rattle.best_text.proofs.Lines.{tricks-line}
use Rattle.best_text.proofs.write_tricks.Goals as goal

pub returns : goal.returns
returns c = record { answer = rw (← tricks-line c.args.tricks c.requires) c.lend.ensures.answer; bytes = rw (← tricks-line c.args.tricks c.requires) c.lend.ensures.bytes }
