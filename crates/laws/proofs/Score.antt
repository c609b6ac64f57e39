-- Law 77: the items add up to the score, and every score is a valid one. Assumes nothing.
use Prim.Native.Nat.{ℕ, zero, suc, ◌≤◌, ◌<◌, ◌-◌}
use native.Mathlib.Omega.{arith}
use mathlib.Core.Path.{◌≡◌, refl, ap, ◌∙◌}
use mathlib.Core.Bool.{Bool, true, false}
use borrow.Author.Tests.{leb-true}
use lib.Dec.{eqb}
use lib.IntN.{ℤ, pos, neg_ℤ, +ℤ_idl}
use Rattle.laws.specs.Cards.{side_of}
use Rattle.laws.specs.Law77
use Rattle.laws.specs.Law77.{Stake, tricks_needed, is_made, undertricks, undertrick_points, items, sum_of_items, declarer_score, ns_score, valid_score}
use Rattle.laws.proofs.Tests.{by_test}
use Rattle.laws.proofs.Integers.{size_neg}
use Rattle.laws.proofs.Counts.{every_below, every_below_lem}

-- ---- the sum of the items
pub no_undertricks : (s : Stake) (tricks : ℕ) → is_made s tricks ≡ true → undertrick_points s tricks ≡ 0
unfolding is_made undertrick_points undertricks
no_undertricks s tricks e =
    let none : tricks_needed s - tricks ≡ 0 = omega (arith, leb-true (tricks_needed s) tricks e) in
    rw none

pub sum_of_items_lem : (s : Stake) (tricks : ℕ) → sum_of_items (items s tricks) ≡ declarer_score s tricks
unfolding sum_of_items items declarer_score
sum_of_items_lem s tricks =
    by_test (is_made s tricks)
    (λ (q : is_made s tricks ≡ true). rw (q, no_undertricks s tricks q) (ap pos (omega arith)))
    (λ (q : is_made s tricks ≡ false). rw q (+ℤ_idl (neg_ℤ (pos (undertrick_points s tricks)))))

-- ---- a test of each contract with each number of tricks: computed over all of them, it holds of each
abbrev stake : ℕ → ℕ → ℕ → Bool → Stake
stake level strain doubling vulnerable = record { level = level; strain = strain; doubling = doubling; vulnerable = vulnerable }

abbrev pub every_contract : (Stake → ℕ → Bool) → Bool → Bool
every_contract test vulnerable =
    every_below 7 (λ l. every_below 5 (λ strain. every_below 3 (λ doubling. every_below 14 (λ tricks. test (stake (suc l) strain doubling vulnerable) tricks))))

module _ (test : Stake → ℕ → Bool) (all : (vulnerable : Bool) → every_contract test vulnerable ≡ true) where
  from_one : (l strain doubling tricks : ℕ) (vulnerable : Bool) → l < 7 → strain < 5 → doubling < 3 → tricks < 14
      → test (stake (suc l) strain doubling vulnerable) tricks ≡ true
  from_one l strain doubling tricks vulnerable hl hs hd ht =
      every_below_lem 14 (λ tricks. test (stake (suc l) strain doubling vulnerable) tricks)
      (every_below_lem 3 (λ doubling. every_below 14 (λ tricks. test (stake (suc l) strain doubling vulnerable) tricks))
      (every_below_lem 5 (λ strain. every_below 3 (λ doubling. every_below 14 (λ tricks. test (stake (suc l) strain doubling vulnerable) tricks)))
      (every_below_lem 7
      (λ l. every_below 5 (λ strain. every_below 3 (λ doubling. every_below 14 (λ tricks. test (stake (suc l) strain doubling vulnerable) tricks))))
      (all vulnerable) l hl)
      strain hs)
      doubling hd)
      tricks ht

  at_level : (level strain doubling tricks : ℕ) (vulnerable : Bool) → 1 ≤ level → level ≤ 7 → strain ≤ 4 → doubling ≤ 2 → tricks ≤ 13
      → test (stake level strain doubling vulnerable) tricks ≡ true
  at_level zero strain doubling tricks vulnerable lo hi hs hd ht = absurd (omega arith)
  at_level (suc l) strain doubling tricks vulnerable lo hi hs hd ht =
      from_one l strain doubling tricks vulnerable (omega arith) (omega arith) (omega arith) (omega arith)

  pub every_contract_lem : (s : Stake) (tricks : ℕ) → 1 ≤ s.level → s.level ≤ 7 → s.strain ≤ 4 → s.doubling ≤ 2 → tricks ≤ 13 → test s tricks ≡ true
  every_contract_lem s tricks = at_level s.level s.strain s.doubling tricks s.vulnerable

-- ---- every score is valid, by such a test
abbrev valid_for : Stake → ℕ → Bool
valid_for s tricks = valid_score (declarer_score s tricks)

all_valid : (vulnerable : Bool) → every_contract valid_for vulnerable ≡ true
unfolding valid_score declarer_score is_made Law77.trick_points Law77.first_trick_value Law77.trick_value Law77.overtrick_points Law77.overtrick_value
    undertrick_points undertricks Law77.undertrick_value Law77.doubled_undertrick
    Law77.part_score_points Law77.game_points Law77.is_game Law77.slam_points Law77.doubling_points
all_valid true = refl
all_valid false = refl

valid_neg : (z : ℤ) → valid_score (neg_ℤ z) ≡ valid_score z
unfolding valid_score
valid_neg z = rw (size_neg z)

-- the theorem: Law 77 gives valid scores only, whichever side declares
pub score-valid : (s : Stake) (tricks declarer : ℕ) → 1 ≤ s.level → s.level ≤ 7 → s.strain ≤ 4 → s.doubling ≤ 2 → tricks ≤ 13
    → valid_score (ns_score declarer (declarer_score s tricks)) ≡ true
unfolding ns_score
score-valid s tricks declarer lo hi hs hd ht =
    let v = every_contract_lem valid_for all_valid s tricks lo hi hs hd ht in
    by_test (eqb (side_of declarer) 0)
    (λ (q : eqb (side_of declarer) 0 ≡ true). rw q v)
    (λ (q : eqb (side_of declarer) 0 ≡ false). rw q (valid_neg (declarer_score s tricks) ∙ v))
