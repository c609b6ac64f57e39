-- `penalty::Penalty::excused` meets its contract. Assumes nothing.
use Rattle.penalty.proofs.Marking.{excused_by}
use Rattle.penalty.proofs.Penalty.excused.Goals as goal

pub returns : goal.returns
returns c = excused_by _ _ c.obeying-obeying.ensures c.meets.ensures
