-- The code's items of a contract, made or down, are Law 77's from North-South; each fits 16 bits. Assumes nothing.
use Prim.Native.Nat.{ℕ, ◌≤◌}
use native.Mathlib.Omega.{arith}
use mathlib.Core.Path.{◌≡◌, refl, sym, ◌∙◌}
use mathlib.Core.Bool.{true, false}
use lib.IntN.{ℤ, pos, neg_ℤ, nat_abs}
use mir.Syntax.{w16}
use mir.Val.{SFits, to_z, of_z}
use mir.Facts.{to_z-of_z}
use Rattle.laws.specs.Law77.{Stake, is_made, trick_points, overtrick_points, undertrick_points, part_score_points, game_points, slam_points, doubling_points}
use Rattle.laws.specs.Law77.{items, declarer_score, ns_score}
use Rattle.laws.specs.Slip.{Name, TRICKS, OVERTRICKS, UNDERTRICKS, PARTSCORE, GAME, SLAM, DOUBLING, gain}
use Rattle.laws.proofs.Integers.{size_neg, mag-le-size}
use Rattle.laws.proofs.Score.{no_undertricks, score-valid}
use Rattle.laws.proofs.Slip.{ns_0, size-ns, valid-le, item_le}
use Rattle.explanation.specs.declared.slip.Items.{Items}
use Rattle.explanation.specs.Explained.{Possible, no_items}

-- ---- a small number in 16 bits
pub fits_16 : (z : ℤ) → nat_abs z ≤ 7600 → SFits w16 z
fits_16 z h = record { sfits = omega (arith, mag-le-size z) }

-- a result that is a small number, read back from its 16 bits
pub told : {r x : ℤ} → r ≡ x → nat_abs x ≤ 7600 → to_z w16 (of_z w16 r) ≡ x
told {r} {x} e h = rw e (to_z-of_z {w = w16} (fits_16 x h))

pub ns-small : (d : ℕ) (z : ℤ) → nat_abs z ≤ 7600 → nat_abs (ns_score d z) ≤ 7600
ns-small d z h = omega (arith, size-ns d z)

-- eight equal fields
pub eight : {a b c d e f g h a' b' c' d' e' f' g' h' : ℤ} → a ≡ a' → b ≡ b' → c ≡ c' → d ≡ d' → e ≡ e' → f ≡ f' → g ≡ g' → h ≡ h'
    → ◌≡◌ {A = Items}
    (record { tricks = a; overtricks = b; undertricks = c; partscore = d; game = e; slam = f; doubling = g; sum = h })
    (record { tricks = a'; overtricks = b'; undertricks = c'; partscore = d'; game = e'; slam = f'; doubling = g'; sum = h' })
eight i j k l m n o p = rw (i, j, k, l, m, n, o, p)

-- what the derived default says of each field, as one equation
pub all_zero : {i : Items} → (i.tricks ≡ pos 0) × ((i.overtricks ≡ pos 0) × ((i.undertricks ≡ pos 0) × ((i.partscore ≡ pos 0) × ((i.game ≡ pos 0)
    × ((i.slam ≡ pos 0) × ((i.doubling ≡ pos 0) × (i.sum ≡ pos 0))))))) → i ≡ no_items
all_zero z = eight z.0 z.1.0 z.1.1.0 z.1.1.1.0 z.1.1.1.1.0 z.1.1.1.1.1.0 z.1.1.1.1.1.1.0 z.1.1.1.1.1.1.1

module _ (d : ℕ) (s : Stake) (tricks : ℕ) (ok : Possible s tricks) where
  -- the score and each item are small
  pub score-small : nat_abs (declarer_score s tricks) ≤ 7600
  score-small = valid-le s tricks d (score-valid s tricks d ok.level_from ok.level_to ok.strain ok.doubling ok.most)

  pub gain-small : (name : Name) → nat_abs (gain (items s tricks) name) ≤ 7600
  gain-small = item_le s tricks d (score-valid s tricks d ok.level_from ok.level_to ok.strain ok.doubling ok.most)

  pub sum_told : {r : ℤ} → r ≡ ns_score d (declarer_score s tricks) → to_z w16 (of_z w16 r) ≡ ns_score d (declarer_score s tricks)
  sum_told e = told e (ns-small d _ score-small)

  -- ---- made
  module _ (m : is_made s tricks ≡ true) where
    abbrev pub made_of : Name → ℕ
    made_of TRICKS = trick_points s
    made_of OVERTRICKS = overtrick_points s tricks
    made_of UNDERTRICKS = 0
    made_of PARTSCORE = part_score_points s
    made_of GAME = game_points s
    made_of SLAM = slam_points s
    made_of DOUBLING = doubling_points s

    made_gain : (name : Name) → gain (items s tricks) name ≡ pos (made_of name)
    unfolding items
    made_gain TRICKS = rw m
    made_gain OVERTRICKS = rw m
    made_gain UNDERTRICKS = rw (no_undertricks s tricks m)
    made_gain PARTSCORE = rw m
    made_gain GAME = rw m
    made_gain SLAM = rw m
    made_gain DOUBLING = rw m

    pub made_small : (name : Name) → made_of name ≤ 7600
    made_small name = rw (made_gain name) at (gain-small name)

    pub made_told : (name : Name) {n : ℕ} {r : ℤ} → n ≡ made_of name → r ≡ ns_score d (pos n) → to_z w16 (of_z w16 r) ≡ ns_score d (gain (items s tricks) name)
    made_told name en er = told (er ∙ rw (en, made_gain name)) (ns-small d _ (gain-small name))

    pub made_none : (name : Name) → made_of name ≡ 0 → pos 0 ≡ ns_score d (gain (items s tricks) name)
    made_none name e = sym (rw (made_gain name, e) (ns_0 d))

  -- ---- down
  module _ (m : is_made s tricks ≡ false) where
    abbrev pub down_of : Name → ℕ
    down_of TRICKS = 0
    down_of OVERTRICKS = 0
    down_of UNDERTRICKS = undertrick_points s tricks
    down_of PARTSCORE = 0
    down_of GAME = 0
    down_of SLAM = 0
    down_of DOUBLING = 0

    down-gain : (name : Name) → gain (items s tricks) name ≡ neg_ℤ (pos (down_of name))
    unfolding items
    down-gain TRICKS = rw m
    down-gain OVERTRICKS = rw m
    down-gain UNDERTRICKS = refl
    down-gain PARTSCORE = rw m
    down-gain GAME = rw m
    down-gain SLAM = rw m
    down-gain DOUBLING = rw m

    pub down-small : undertrick_points s tricks ≤ 7600
    down-small = omega (arith, size_neg (pos (undertrick_points s tricks)), rw (down-gain UNDERTRICKS) at (gain-small UNDERTRICKS))

    pub down-told : {n : ℕ} {r : ℤ} → n ≡ undertrick_points s tricks → r ≡ ns_score d (neg_ℤ (pos n))
        → to_z w16 (of_z w16 r) ≡ ns_score d (gain (items s tricks) UNDERTRICKS)
    down-told en er = told (er ∙ rw (en, down-gain UNDERTRICKS)) (ns-small d _ (gain-small UNDERTRICKS))

    pub down-none : (name : Name) → down_of name ≡ 0 → pos 0 ≡ ns_score d (gain (items s tricks) name)
    down-none name e = sym (rw (down-gain name, e) (ns_0 d))
