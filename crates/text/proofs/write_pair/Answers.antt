-- `write_pair` meets its contract. Assumes nothing.
use Rattle.text.proofs.Puts.{local_length, taken-length, taken}
use Rattle.text.proofs.SingleLines.{pair_short}
use borrow.Author.Rules.{rules}
use Rattle.text.proofs.write_pair.Goals as goal

pub slice_bounds-text-end : goal.slice_bounds-text-end
slice_bounds-text-end c =
    let a = c.args in
    local_length _ _ _ _ c.put_pair-n.ensures (pair_short a.a a.b (search rules) (search rules))

pub slice_bounds-lend-end : goal.slice_bounds-lend-end
slice_bounds-lend-end c =
    let a = c.args in
    taken-length _ _ _ _ c.put_pair-n.ensures (pair_short a.a a.b (search rules) (search rules))

pub returns : goal.returns
returns c =
    let a = c.args in
    let short = pair_short a.a a.b (search rules) (search rules) in
    record {
      answer = rw (← taken _ _ _ _ c.put_pair-n.ensures short) c.lend.ensures.answer;
      bytes = rw (← taken _ _ _ _ c.put_pair-n.ensures short) c.lend.ensures.bytes;
    }
