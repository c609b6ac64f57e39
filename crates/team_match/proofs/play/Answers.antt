-- `team_match::play` meets its contract: the state goes by what is answered. Assumes nothing.
use Rattle.std.proofs.Common.{◌∙◌}
use mir.Facts.{to_z-of_z}
use Rattle.laws.proofs.Scale.{at_most_24_imps}
use Rattle.team_match.proofs.Answers.{after_refusal, after_board, answered_parts}
use Rattle.team_match.proofs.play.Goals as goal

pub with_imps-state-requires : goal.with_imps-state-requires
with_imps-state-requires c =
    let p = answered_parts _ _ _ (rw (to_z-of_z c.ranges.first, to_z-of_z c.ranges.second) at c.in-Ok.ensures) in
    (p.0, p.1.to, rw p.1.worth (at_most_24_imps _))

pub returns-in-Ok-clause-state : goal.returns-in-Ok-clause-state
returns-in-Ok-clause-state c =
    let e = rw (to_z-of_z c.ranges.first, to_z-of_z c.ranges.second) at c.in-Ok.ensures in
    c.with_imps-state.ensures ∙ after_board _ _ _ e (answered_parts _ _ _ e).1.worth

pub returns-in-Err-clause-state : goal.returns-in-Err-clause-state
returns-in-Err-clause-state c = after_refusal _ _ _ (rw (to_z-of_z c.ranges.first, to_z-of_z c.ranges.second) at c.in-Err.ensures)
