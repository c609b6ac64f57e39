-- Scores read, by the tests that the code makes. Assumes nothing.
use Rattle.std.specs.Prelude.{ℕ, ℤ, pos, neg_ℤ, ◌≡◌, List, [], ◌∷◌, true, false, Option, Some, None, ltb, eqb, take, drop, length, ◌-◌}
use Rattle.std.specs.List.{starts_with}
use Rattle.std.proofs.Common.{arith, refl, sym}
use borrow.Author.Tests.{ltb-false, eqb-true, eqb-false, ne_eqb}
use lib.ListN.{length-drop}
use lib.Seq.{take_all}
use mir.Syntax.{w16}
use mir.Val.{SFits, to_z, of_z}
use mir.Facts.{to_z-of_z}
use Rattle.laws.specs.Decimal as Laws
use Rattle.laws.specs.Decimal.{is_number, value}
use Rattle.laws.proofs.Integers.{size_neg, mag-le-size}
use Rattle.laws.proofs.Tests.{by_test}
use Rattle.decimal.specs.Numbers.{number_on}
use Rattle.decimal.specs.Scores.{plus_in, minus_in, score_on}

-- the rest of a line, from a place on
pub rest-is : (k : ℕ) (s : List ℕ) → take (length s - k) (drop k s) ≡ drop k s
rest-is k s = take_all (length s - k) (drop k s) (rw length-drop (omega arith))

-- what was read, by the rules' test
pub is-number : (s : List ℕ) (r : Option ℕ) (n : ℕ) → r ≡ number_on s → r ≡ Some n → (is_number s ≡ true) × (value s ≡ n)
unfolding number_on
is-number s r n e q =
    by_test (is_number s)
    (λ (t : is_number s ≡ true). (t, cc (rw t at e, q)))
    (λ (t : is_number s ≡ false). absurd (let z : ⊥ = cc (rw t at e, q) in z))

pub no_number_lem : (s : List ℕ) (r : Option ℕ) → r ≡ number_on s → r ≡ None → is_number s ≡ false
unfolding number_on
no_number_lem s r e q =
    by_test (is_number s)
    (λ (t : is_number s ≡ true). absurd (let z : ⊥ = cc (rw t at e, q) in z))
    (λ (t : is_number s ≡ false). t)

-- every score that is passed on fits its type
minus-fits : (n : ℕ) → SFits w16 (minus_in n)
minus-fits n =
    by_test (ltb 32767 n)
    (λ (q : ltb 32767 n ≡ true). rw q (record { sfits = omega arith }))
    (λ (q : ltb 32767 n ≡ false).
    let h = ltb-false 32767 n q in
    rw q (record { sfits = omega (arith, mag-le-size (neg_ℤ (pos n)), size_neg (pos n)) }))

plus_fits : (n : ℕ) → SFits w16 (plus_in n)
plus_fits n =
    by_test (ltb 32767 n)
    (λ (q : ltb 32767 n ≡ true). rw q (record { sfits = omega arith }))
    (λ (q : ltb 32767 n ≡ false). let h = ltb-false 32767 n q in rw q (record { sfits = omega arith }))

-- a minus in front
pub begins : (s : List ℕ) → starts_with eqb s (45 ∷ []) ≡ Laws.starts_with 45 s
unfolding Laws.starts_with
begins [] = refl
begins (b ∷ s) =
    by_test (eqb b 45)
    (λ (t : eqb b 45 ≡ true). rw (t, eqb-true b 45 t))
    (λ (t : eqb b 45 ≡ false). rw (t, ne_eqb 45 b (λ e. eqb-false b 45 t (sym e))))

module _ (s : List ℕ) where
  module _ (front : Laws.starts_with 45 s ≡ true) where
    pub minus_none : number_on (drop 1 s) ≡ None → None ≡ score_on s
    unfolding score_on
    minus_none e = rw (front, e)

    pub minus_some : (k : ℕ) (r : ℤ) → number_on (drop 1 s) ≡ Some k → r ≡ minus_in k → Some (to_z w16 (of_z w16 r)) ≡ score_on s
    unfolding score_on
    minus_some k r e q = rw (front, e, q, to_z-of_z (minus-fits k))

  module _ (front : Laws.starts_with 45 s ≡ false) where
    pub plus_none : number_on s ≡ None → None ≡ score_on s
    unfolding score_on
    plus_none e = rw (front, e)

    pub plus_some : (k : ℕ) (r : ℤ) → number_on s ≡ Some k → r ≡ plus_in k → Some (to_z w16 (of_z w16 r)) ≡ score_on s
    unfolding score_on
    plus_some k r e q = rw (front, e, q, to_z-of_z (plus_fits k))
