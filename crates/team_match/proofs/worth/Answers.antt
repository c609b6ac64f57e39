-- `team_match::worth` meets its contract: its tests are those of the rules, in their order. Assumes nothing.
use Rattle.std.proofs.Common.{◌≡◌, true, sym, ◌∙◌, arith}
use mir.Facts.{to_z-of_z}
use Rattle.laws.specs.TeamMatch.{Call}
use Rattle.team_match.proofs.Answers.{both_valid, no_match, no_score, not_free, full, played}
use Rattle.team_match.proofs.worth.Goals.{Else-not-both_valid, Start}
use Rattle.team_match.proofs.worth.Goals as goal

pub returns-then-not-is_match : goal.returns-then-not-is_match
returns-then-not-is_match c = sym (no_match _ _ (sym c.if-not-is_match.ensures))

pub returns-then-not-both_valid : goal.returns-then-not-both_valid
returns-then-not-both_valid c =
    sym (no_score _ _ (sym c.if-not-is_match.ensures) (sym (rw (to_z-of_z c.ranges.first, to_z-of_z c.ranges.second) at c.if-not-both_valid.ensures)))

-- the call that is made
abbrev made : Start → Call
made c = record { board = c.args.board; first = c.args.first; second = c.args.second }

-- both scores are valid
valid : (c : Else-not-both_valid) → both_valid (made c.before.before.before.before) ≡ true
valid c = sym (rw (to_z-of_z c.ranges.first, to_z-of_z c.ranges.second) at c.if-not-both_valid.ensures)

pub returns-then-not-is_free : goal.returns-then-not-is_free
returns-then-not-is_free c = sym (not_free _ _ (sym c.if-not-is_match.ensures) (valid c.before.before) (sym c.if-not-is_free.ensures))

pub returns-then-boards_used-ge32 : goal.returns-then-boards_used-ge32
returns-then-boards_used-ge32 c =
    sym (full _ _ (sym c.if-not-is_match.ensures) (valid c.before.before.before.before) (sym c.if-not-is_free.ensures) (omega (arith, c.boards_used.ensures, c.if-boards_used-ge32.true)))

pub returns : goal.returns
returns c =
    rw (to_z-of_z c.ranges.first, to_z-of_z c.ranges.second) at c.imps_of.ensures
    ∙ sym (played _ _ (sym c.if-not-is_match.ensures) (valid c.before.before.before.before.before) (sym c.if-not-is_free.ensures) (omega (arith, c.boards_used.ensures, c.if-boards_used-ge32.false)))
