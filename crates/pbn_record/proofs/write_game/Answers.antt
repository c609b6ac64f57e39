-- `write_game` meets its contract: what is given to the writer is what stands in the text. Assumes nothing.
use Rattle.std.specs.Prelude.{None, Ok}
use native.Mathlib.Omega.{arith}
use mathlib.Core.Path.{◌≡◌, refl, ap, ◌∙◌}
use mathlib.Core.List.{reverse}
use borrow.Author.Rules.{rules}
use lib.ListN.{length, take}
use Rattle.laws.specs.Auction.{trump_after}
use Rattle.laws.specs.PbnText.{Game, Sayable}
use Rattle.laws.specs.PbnReading.{game}
use Rattle.laws.specs.Writing.{write_of, record_left}
use Rattle.laws.specs.Pbn.{contents_in}
use Rattle.contents.specs.Given.{given_with}
use Rattle.writer.specs.Answer.{written_by}
use Rattle.pbn_text.specs.GameIn.{game_in}
use Rattle.pbn_record.proofs.Written.{given_is}
use Rattle.pbn_record.proofs.write_game.Goals.{After-write_record}
use Rattle.pbn_record.proofs.write_game.Goals as goal

pub slice_bounds-numbers-end : goal.slice_bounds-numbers-end
slice_bounds-numbers-end c =
    let n : length c.args.g.calls.numbers ≡ 511 = search rules in
    omega (arith, c.requires)

pub slice_bounds-cards-end : goal.slice_bounds-cards-end
slice_bounds-cards-end c =
    let long : length c.order_of_play-cards.result ≡ 52 = search rules in
    omega (arith, c.cards_listed-n.ensures.1)

same : (w : After-write_record) (x : Game) → let a = w.args in
    Sayable x → Ok a.g ≡ game_in (game x) → a.trump ≡ trump_after (reverse x.calls)
    → given_with a.g.board a.table a.g.holders (take a.g.calls.count a.g.calls.numbers)
    (take w.cards_listed-n.result w.order_of_play-cards.result) None
    ≡ contents_in x a.table
same w x ok eg et =
    let long : length w.order_of_play-cards.result ≡ 52 = search rules in
    given_is x ok _ eg _ _ et w.requires _ _ _ _ refl refl (rw w.unwrap_or.ensures at w.order_of_play-cards.ensures) long
    (ap (λ k. take k w.order_of_play-cards.result) w.cards_listed-n.ensures.0)

pub returns : goal.returns
returns c =
    let out = c.args.out.now in
    record { answer = λ x ok eg et. c.write_record.ensures.answer ∙ ap (λ k. written_by (write_of k (length out))) (same c.before.before.before x ok eg et); most = c.write_record.ensures.most; left = λ x ok eg et. c.write_record.ensures.left ∙ ap (λ k. record_left (write_of k (length out)) out) (same c.before.before.before x ok eg et) }
