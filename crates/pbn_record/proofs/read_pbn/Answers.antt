-- `read_pbn` meets its contract: a law of Written for each way out. Assumes nothing.
use Rattle.std.proofs.Common.{◌∙◌, sym, ap, length}
use Rattle.std.proofs.lemmas.Result.{err_from_is_err_and}
use Rattle.laws.specs.Writing.{record_left}
use Rattle.writer.specs.Answer.{written_by}
use Rattle.pbn_record.proofs.Written.{line_low, outside_told, stood, tags_refused, trump_is, written_as, count_low}
use Rattle.pbn_record.proofs.read_pbn.Goals as goal

pub overflow_cast-line : goal.overflow_cast-line
overflow_cast-line c = record { fits = line_low _ c.read_game.ensures _ c.in-Err.is }

pub returns-in-Err : goal.returns-in-Err
returns-in-Err c =
    let s = outside_told _ c.read_game.ensures c.args.table (length c.args.out.now) c.args.out.now _ c.in-Err.is in
    record { answer = rw c.at.ensures s.0; most = tt; left = s.1 }

pub returns-in_err-trump-in-Ok : goal.returns-in_err-trump-in-Ok
returns-in_err-trump-in-Ok c =
    let a = c.args in
    let s = stood a.text.now c.read_game.ensures _ c.in-Ok.is in
    let p = err_from_is_err_and c.from_residual.result c.from_residual.ensures.1 in
    let tags = tags_refused a.text.now a.table (length a.out.now) s.said s.read (c.in_err-trump-in-Ok.ensures _ s.sayable s.told) a.out.now in
    record { answer = rw (p.1, p.2) tags.0; most = rw p.1 tt; left = tags.1 }

pub write_game-requires : goal.write_game-requires
write_game-requires c =
    let s = stood c.args.text.now c.read_game.ensures _ c.in-Ok.is in
    count_low c.args.text.now _ 0 s.said s.read (c.in_ok-trump-in-Ok.ensures _ s.sayable s.told) _ s.told

pub returns-in_ok-trump-in-Ok : goal.returns-in_ok-trump-in-Ok
returns-in_ok-trump-in-Ok c =
    let a = c.args in
    let s = stood a.text.now c.read_game.ensures _ c.in-Ok.is in
    let tags = c.in_ok-trump-in-Ok.ensures _ s.sayable s.told in
    let trump = trump_is a.text.now _ 0 s.said s.read tags in
    let said = written_as a.text.now a.table (length a.out.now) s.said s.read tags in record {
      answer = c.write_game.ensures.answer _ s.sayable s.told trump ∙ ap written_by (sym said);
      most = c.write_game.ensures.most;
      left = c.write_game.ensures.left _ s.sayable s.told trump ∙ ap (λ k. record_left k a.out.now) (sym said);
    }
