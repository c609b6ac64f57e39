-- The scale of Law 78B, counted. Assumes nothing.
use Prim.Native.Nat.{ℕ}
use native.Mathlib.Omega.{arith}
use mathlib.Core.Path.{◌≡◌, refl, sym, ap, ◌∙◌}
use mathlib.Core.Bool.{true, false}
use lib.Dec.{leb}
use lib.IntN.{ℤ, pos, neg_ℤ, nat_abs, ◌-ℤ◌, +ℤ_idl}
use lib.Signed.{le_z, pos-nat_abs}
use mir.Syntax.{w32}
use mir.Val.{SFits, to_z, of_z}
use mir.Facts.{to_z-of_z, to_z_pos}
use Rattle.std.specs.List.{count_by}
use Rattle.std.proofs.lemmas.List.Recursion.{is_count_by}
use Rattle.laws.specs.Choice.{how_many}
use Rattle.laws.specs.Law78.{lower_ends, imps_for_size, imps}
use Rattle.laws.specs.Law77.{valid_score}
use Rattle.laws.specs.Refusals.{answered}
use Rattle.laws.proofs.Integers.{swap_difference, size_neg, mag-le-size, non_neg_difference}
use Rattle.laws.proofs.Scores.{below_at_most}
use Rattle.laws.proofs.Scale.{at_most_24}
use Rattle.laws.proofs.Scale as Law

-- the lower ends that a size reaches
pub reached : (size : ℕ) → count_by (λ (end : ℕ). leb end size) lower_ends ≡ imps_for_size size
unfolding imps_for_size how_many
reached size = sym (is_count_by (how_many (λ (end : ℕ). leb end size)) (λ (end : ℕ). leb end size) refl (λ x xs. grind arith) lower_ends)

-- ---- the IMPs of two valid scores, by the size of their difference
widened : (n size : ℕ) → n ≡ imps_for_size size → to_z w32 n ≡ pos n
widened n size e = to_z_pos w32 (omega (arith, at_most_24 size))

negative : (n size : ℕ) → n ≡ imps_for_size size → pos 0 -ℤ to_z w32 n ≡ neg_ℤ (pos n)
negative n size e = rw (widened n size e, +ℤ_idl)

pub lost_fits : (n size : ℕ) → n ≡ imps_for_size size → SFits w32 (pos 0 -ℤ to_z w32 n)
lost_fits n size e =
    rw (negative n size e) (record { sfits = omega (arith, mag-le-size (neg_ℤ (pos n)), size_neg (pos n), at_most_24 size) })

pub gained : (a b : ℤ) (n : ℕ) → valid_score a ≡ true → valid_score b ≡ true → n ≡ imps_for_size (nat_abs (a -ℤ b)) → le_z b a ≡ true
    → answered (to_z w32 n) ≡ imps a b
gained a b n p q e h =
    rw (widened n (nat_abs (a -ℤ b)) e, e) (sym (Law.gained a b (nat_abs (a -ℤ b)) p q (pos-nat_abs (a -ℤ b) (non_neg_difference a b h))))

pub lost : (a b : ℤ) (n : ℕ) → valid_score a ≡ true → valid_score b ≡ true → n ≡ imps_for_size (nat_abs (a -ℤ b)) → le_z b a ≡ false
    → answered (to_z w32 (of_z w32 (pos 0 -ℤ to_z w32 n))) ≡ imps a b
lost a b n p q e h =
    let size = nat_abs (b -ℤ a) in
    let same : nat_abs (a -ℤ b) ≡ size = ap nat_abs (swap_difference b a) ∙ size_neg (b -ℤ a) in
    rw (to_z-of_z (lost_fits n (nat_abs (a -ℤ b)) e), negative n (nat_abs (a -ℤ b)) e, e, same)
    (sym (Law.lost a b size p q (pos-nat_abs (b -ℤ a) (non_neg_difference b a (below_at_most b a h)))))
