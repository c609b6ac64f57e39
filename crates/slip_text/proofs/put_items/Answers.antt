-- `put_items` meets its contract. Assumes nothing.
use borrow.Author.Rules.{rules}
use mir.Syntax.{w16}
use mir.Val.{SFits}
use mir.Facts.{to_z-of_z}
use Rattle.text.proofs.Puts.{then}
use Rattle.slip_text.proofs.put_items.Goals as goal

pub returns : goal.returns
returns c =
    let i = c.args.items in
    let fits : SFits w16 i.sum = search rules in
    then (then c.put_tricks-a.ensures c.put_premiums-b.ensures) (rw (to_z-of_z fits) at c.put_named.ensures)
