-- What an answer with the bit behind it tells of the reading that it stands for. Assumes nothing.
use Rattle.std.proofs.Common.{◌≡◌, sym, ap, ℕ}
use Rattle.laws.specs.Refusals.{refused_at, given}
use Rattle.laws.specs.Reading.{Reading, Reading.refused as stopped, Reading.found as read-to}
use Rattle.last_card.specs.declared.reading.Read.{Read}
use Rattle.last_card.specs.Sections.{placed_read}

pub told-refused : {A B : Type 0} (f : A → B) (r : Reading A) {n place : ℕ} → refused_at n place ≡ placed_read f r → r ≡ stopped n place
told-refused f (stopped m at) e = cc
told-refused f (read-to a m) e = absurd cc

pub told-found : {A B : Type 0} (f : A → B) (r : Reading A) {x : Read B} → given x ≡ placed_read f r
    → (a : A) × (r ≡ read-to a x.next) × (x.value ≡ f a)
told-found f (stopped m at) e = absurd cc
told-found {A} {B} f (read-to a m) {x} e = (a, ap (λ (k : ℕ). read-to a k) (sym (ap (λ (y : Read B). y.next) same)), ap (λ (y : Read B). y.value) same)
  where
    same : x ≡ record { value = f a; next = m }
    same = cc
