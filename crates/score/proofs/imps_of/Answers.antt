-- `score::imps_of` meets its contract: two tests of validity, then the IMPs of the difference, with its sign. Assumes nothing.
use Rattle.std.proofs.Common.{◌≡◌, ℕ, true, sym, ap, ◌∙◌, arith}
use lib.IntN.{ℤ, nat_abs, ◌-ℤ◌}
use mir.Facts.{to_z-of_z}
use Rattle.laws.specs.Law77.{valid_score}
use Rattle.laws.specs.Law78.{lower_ends, imps_for_size}
use Rattle.laws.proofs.Scale.{at_most_24, not_first, not-second}
use Rattle.score.proofs.Scale.{reached, gained, lost, lost_fits}
use Rattle.score.proofs.imps_of.Goals.{Else-not-valid-2, After-ends_reached-size, then-not-valid-via-then-not-valid, then-not-valid-via-else-not-valid+then-not-valid-2}
use Rattle.score.proofs.imps_of.Goals as goal

pub returns-then-not-valid : goal.returns-then-not-valid
returns-then-not-valid c =
    elim c.then-not-valid.branch [
      | then-not-valid-via-then-not-valid w ↦ sym (not_first _ _ (rw (to_z-of_z c.ranges.first) at (sym (w.if-not-valid.ensures))))
      | then-not-valid-via-else-not-valid+then-not-valid-2 w ↦
          sym (not-second _ _
          (rw (to_z-of_z c.ranges.first) at (sym (w.if-not-valid.ensures)))
          (rw (to_z-of_z c.ranges.second) at (sym (w.if-not-valid-2.ensures))))
    ]

-- both scores are valid past the tests, and what is counted is what the size of their difference reaches
record Valid (first second : ℤ) (n : ℕ) : Type 0 where
  one : valid_score first ≡ true
  two : valid_score second ≡ true
  counted : n ≡ imps_for_size (nat_abs (first -ℤ second))

passed : (c : After-ends_reached-size) → Valid c.args.first c.args.second c.ends_reached-size.result
unfolding lower_ends
passed c =
    record {
      one = rw (to_z-of_z c.ranges.first) at (sym (c.if-not-valid.ensures));
      two = rw (to_z-of_z c.ranges.second) at (sym (c.if-not-valid-2.ensures));
      counted =
          rw (to_z-of_z c.ranges.first, to_z-of_z c.ranges.second) at (c.ends_reached-size.ensures ∙ (reached _ ∙ ap imps_for_size c.abs_diff.ensures));
    }

pub overflow_cast-size : goal.overflow_cast-size
overflow_cast-size c = record { sfits = omega (arith, (passed c).counted, at_most_24 (nat_abs (c.args.first -ℤ c.args.second))) }

pub overflow_sub-result : goal.overflow_sub-result
overflow_sub-result c = lost_fits _ _ (passed c.before).counted

pub returns-then-second-first : goal.returns-then-second-first
returns-then-second-first c =
    let v = passed c.before in
    gained _ _ _ v.one v.two v.counted (rw (to_z-of_z c.ranges.first, to_z-of_z c.ranges.second) at c.if-second-first.true)

pub returns-else-second-first : goal.returns-else-second-first
returns-else-second-first c =
    let v = passed c.before in
    lost _ _ _ v.one v.two v.counted (rw (to_z-of_z c.ranges.first, to_z-of_z c.ranges.second) at c.if-second-first.false)
