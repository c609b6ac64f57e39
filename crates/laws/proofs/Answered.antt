-- What an answer of the code tells of the numbers and readings that it stands for. Assumes nothing.
use Rattle.std.proofs.Common.{◌≡◌, refl, ℕ, true, false}
use borrow.Author.Tests.{eqb-true, eqb-false}
use lib.Dec.{eqb}
use Rattle.laws.specs.Refusals.{refused, answered, refused_at, given, accepted}
use Rattle.laws.specs.Reading.{Reading, Reading.refused as stopped, Reading.found as read-to}
use Rattle.laws.specs.Refused.{answer_by, placed_by, placed_in}
use Rattle.laws.proofs.Tests.{by_test}

-- ---- by a number
pub answer-taken : {A : Type 0} (n : ℕ) {a b : A} → answered b ≡ answer_by n a → (n ≡ accepted) × (b ≡ a)
answer-taken n {a} {b} e =
    by_test (eqb n accepted)
    (λ (q : eqb n accepted ≡ true). (eqb-true n accepted q, (let f = rw q at e in cc)))
    (λ (q : eqb n accepted ≡ false). absurd (let f = rw q at e in cc))

pub answer-refused : {A : Type 0} (n : ℕ) (a : A) {m : ℕ} → refused m ≡ answer_by n a → (n ≡ accepted → ⊥) × (m ≡ n)
answer-refused n a {m} e =
    by_test (eqb n accepted)
    (λ (q : eqb n accepted ≡ true). absurd (let f = rw q at e in cc))
    (λ (q : eqb n accepted ≡ false). (eqb-false n accepted q, (let f = rw q at e in cc)))

pub placed-taken : {A : Type 0} (n place : ℕ) {a b : A} → given b ≡ placed_by n place a → (n ≡ accepted) × (b ≡ a)
placed-taken n place {a} {b} e =
    by_test (eqb n accepted)
    (λ (q : eqb n accepted ≡ true). (eqb-true n accepted q, (let f = rw q at e in cc)))
    (λ (q : eqb n accepted ≡ false). absurd (let f = rw q at e in cc))

pub placed-refused : {A : Type 0} (n place : ℕ) (a : A) {m at : ℕ} → refused_at m at ≡ placed_by n place a
    → (n ≡ accepted → ⊥) × (m ≡ n) × (at ≡ place)
placed-refused n place a {m} {at} e =
    by_test (eqb n accepted)
    (λ (q : eqb n accepted ≡ true). absurd (let f = rw q at e in cc))
    (λ (q : eqb n accepted ≡ false). (eqb-false n accepted q, (let f = rw q at e in cc), (let f = rw q at e in cc)))

-- ---- by a reading
pub is-refused : {A B : Type 0} (f : A → B) (r : Reading A) {n place : ℕ} → refused_at n place ≡ placed_in f r → r ≡ stopped n place
is-refused f (stopped m at) e = cc
is-refused f (read-to a m) e = absurd cc

pub is-found : {A B : Type 0} (f : A → B) (r : Reading A) {b : B} → given b ≡ placed_in f r → (a : A) × (m : ℕ) × (r ≡ read-to a m) × (b ≡ f a)
is-found f (stopped m at) e = absurd cc
is-found f (read-to a m) e = (a, m, refl, cc)
