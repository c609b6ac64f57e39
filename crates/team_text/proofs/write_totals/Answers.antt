-- `team_text::write_totals` meets its contract. Assumes nothing.
use Rattle.text.proofs.Puts.{local_length, taken-length, taken}
use mir.Syntax.{w32}
use mir.Val.{SFits}
use Rattle.team_text.proofs.Teams.{totals-short}
use borrow.Author.Rules.{rules}
use Rattle.team_text.proofs.write_totals.Goals as goal

pub slice_bounds-text-end : goal.slice_bounds-text-end
slice_bounds-text-end c =
    local_length _ _ _ _ c.put_totals-n.ensures (let f : SFits w32 c.args.first.0 = search rules in
    let g : SFits w32 c.args.second.0 = search rules in
    totals-short c.args.first.0 c.args.second.0 f g)

pub slice_bounds-lend-end : goal.slice_bounds-lend-end
slice_bounds-lend-end c =
    taken-length _ _ _ _ c.put_totals-n.ensures (let f : SFits w32 c.args.first.0 = search rules in
    let g : SFits w32 c.args.second.0 = search rules in
    totals-short c.args.first.0 c.args.second.0 f g)

pub returns : goal.returns
returns c =
    let f : SFits w32 c.args.first.0 = search rules in
    let g : SFits w32 c.args.second.0 = search rules in
    let all = taken _ _ _ _ c.put_totals-n.ensures (totals-short c.args.first.0 c.args.second.0 f g) in
    record { answer = rw (← all) c.lend.ensures.answer; bytes = rw (← all) c.lend.ensures.bytes }
