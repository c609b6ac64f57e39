-- `team_match::with_imps` meets its contract: the sum of so few IMPs fits. Assumes nothing.
use Rattle.std.proofs.Common.{ℕ, Bool, true, List, sym, ap, ◌∙◌}
use mathlib.Core.Path.{ap₂}
use lib.IntN.{ℤ}
use lib.ListN.{set}
use Rattle.team_match.specs.declared.TeamMatch.{TeamMatch}
use Rattle.score.specs.Units.{imp_sum}
use Rattle.team_match.proofs.States.{sum_fits, summed, has_sum}
use Rattle.team_match.proofs.with_imps.Goals as goal

pub unwrap-next-requires : goal.unwrap-next-requires
unwrap-next-requires c = has_sum _ _ (c.add_imps.ensures ∙ sum_fits c.args.m _ c.requires.0 c.requires.2)

made : ℤ → List Bool → TeamMatch
made z used = record { total = record { 0 = z }; used = used }

pub returns : goal.returns
unfolding made
returns c =
    let e = summed _ _ (sym (ap imp_sum c.unwrap-next.ensures) ∙ (c.add_imps.ensures ∙ sum_fits c.args.m _ c.requires.0 c.requires.2)) in
    ap₂ made e (ap (λ (i : ℕ). set c.args.m.used i true) c.from.ensures)
