-- `pbn_text::game::read_game` meets its contract. Assumes nothing.
use Rattle.std.proofs.lemmas.Result.{err_from_is_err_and}
use Rattle.laws.specs.PbnReading.{parse}
use Rattle.pbn_text.proofs.Told.{line-told, all_told}
use Rattle.pbn_text.proofs.game.read_game.Goals as goal

pub returns-in_err-t : goal.returns-in_err-t
returns-in_err-t c =
    let p = err_from_is_err_and c.from_residual.result c.from_residual.ensures.1 in
    rw (p.1, p.2) (line-told (parse c.args.text.now) c.read_text.ensures _ c.in_err-t.was)

pub returns : goal.returns
returns c = all_told (parse c.args.text.now) c.read_text.ensures _ c.in_ok-t.was _ c.first_cards-cards.ensures
