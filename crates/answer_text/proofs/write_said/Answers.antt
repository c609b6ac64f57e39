-- `answer_text::write_said` meets its contract. Assumes nothing.
use Rattle.text.proofs.Puts.{local_length, taken-length, taken}
use Rattle.answer_text.proofs.write_said.Goals as goal

pub slice_bounds-text-end : goal.slice_bounds-text-end
slice_bounds-text-end c = local_length _ _ _ _ c.put_said-n.ensures.0 c.put_said-n.ensures.1

pub slice_bounds-lend-end : goal.slice_bounds-lend-end
slice_bounds-lend-end c = taken-length _ _ _ _ c.put_said-n.ensures.0 c.put_said-n.ensures.1

pub returns : goal.returns
returns c =
    let p = c.put_said-n.ensures in
    record { answer = rw (← taken _ _ _ _ p.0 p.1) c.lend.ensures.answer; bytes = rw (← taken _ _ _ _ p.0 p.1) c.lend.ensures.bytes }
