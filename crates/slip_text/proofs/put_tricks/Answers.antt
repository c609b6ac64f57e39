-- `put_tricks` meets its contract. Assumes nothing.
use borrow.Author.Rules.{rules}
use Rattle.laws.specs.Slip.{TRICKS, OVERTRICKS, UNDERTRICKS, word_of}
use Rattle.text.proofs.Puts.{then}
use Rattle.slip_text.proofs.Placing.{item_put}
use Rattle.slip_text.proofs.put_tricks.Goals as goal

pub returns : goal.returns
returns c =
    let i = c.args.items in
    let p1 = item_put (word_of TRICKS) i.tricks (search rules) c.put_item-a.ensures in
    let p2 = item_put (word_of OVERTRICKS) i.overtricks (search rules) c.put_item-b.ensures in
    let p3 = item_put (word_of UNDERTRICKS) i.undertricks (search rules) c.put_item.ensures in
    then (then p1 p2) p3
