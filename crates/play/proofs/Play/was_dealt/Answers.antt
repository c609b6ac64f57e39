-- `play::Play::was_dealt` meets its contract. Assumes nothing.
use Rattle.play.proofs.Steps.{seat-low}
use Rattle.play.specs.Position.{was_dealt}
use borrow.Author.Rules.{rules}
use Rattle.play.proofs.Play.was_dealt.Goals as goal

pub offset_bounds-dealt-own : goal.offset_bounds-dealt-own
offset_bounds-dealt-own c = let s = seat-low c.args.self c.turn-own.ensures in search rules

pub bounds-dealt-own : goal.bounds-dealt-own
bounds-dealt-own c = seat-low c.args.self c.turn-own.ensures

pub returns : goal.returns
unfolding was_dealt
returns c = rw c.turn-own.ensures
