-- `put_premiums` meets its contract. Assumes nothing.
use borrow.Author.Rules.{rules}
use Rattle.laws.specs.Slip.{PARTSCORE, GAME, SLAM, DOUBLING, word_of}
use Rattle.text.proofs.Puts.{then}
use Rattle.slip_text.proofs.Placing.{item_put}
use Rattle.slip_text.proofs.put_premiums.Goals as goal

pub returns : goal.returns
returns c =
    let i = c.args.items in
    let p1 = item_put (word_of PARTSCORE) i.partscore (search rules) c.put_item-a.ensures in
    let p2 = item_put (word_of GAME) i.game (search rules) c.put_item-b.ensures in
    let p3 = item_put (word_of SLAM) i.slam (search rules) c.put_item-c.ensures in
    let p4 = item_put (word_of DOUBLING) i.doubling (search rules) c.put_item.ensures in
    then (then (then p1 p2) p3) p4
