-- What an event that is not refused tells: an exposed card can be exposed, a choice is open; and the numbers of those that are refused. Assumes nothing.
use Rattle.std.specs.Prelude.{if◌then◌else◌}
use Prim.Native.Nat.{ℕ, ◌≤◌, ◌<◌}
use native.Mathlib.Omega.{arith}
use mathlib.Core.Path.{◌≡◌, refl}
use mathlib.Core.Bool.{Bool, true, false, not}
use mathlib.Core.List.{List, [], ◌∷◌}
use borrow.Author.Tests.{leb-false}
use lib.Dec.{eqb}
use Rattle.laws.specs.Refusals.{accepted, not_exposable, choice_not_open, too_many_codes}
use Rattle.laws.specs.Events.{Event, played, exposed, choice, codes_of}
use Rattle.laws.specs.Law50.{is_exposable}
use Rattle.laws.specs.Law51.{is_open}
use Rattle.laws.specs.CodeRefusal.{codes_full, exposure_refusal, choice_refusal, event_refusal}
use Rattle.laws.specs.Kept.{NoneRefused}
use Rattle.laws.proofs.Tests.{not_both}

-- a code with room for it that passes a test, by its number
passes : (full test : Bool) (n : ℕ) → (n ≡ accepted → ⊥) → (if full then too_many_codes else if test then accepted else n) ≡ accepted
    → (full ≡ false) × (test ≡ true)
passes true test n ne e = absurd (omega arith)
passes false true n ne e = (cc, cc)
passes false false n ne e = absurd (ne e)

pub room : (e : List Event) → codes_full e ≡ false → codes_of e < 40
unfolding codes_full
room e q = leb-false 40 (codes_of e) q

module _ (trump opening : ℕ) (deal : List ℕ) (e : List Event) where
  pub exposable : (k : ℕ) (deliberate : Bool) → event_refusal trump opening deal e (exposed k deliberate) ≡ accepted
      → (codes_full e ≡ false) × (is_exposable trump opening deal e k ≡ true)
  unfolding event_refusal exposure_refusal
  exposable k deliberate r = passes (codes_full e) (is_exposable trump opening deal e k) not_exposable (λ z. omega arith) r

  pub chosen : (kind suit : ℕ) → event_refusal trump opening deal e (choice kind suit) ≡ accepted
      → (codes_full e ≡ false) × (is_open trump opening deal e kind suit ≡ true)
  unfolding event_refusal choice_refusal
  chosen kind suit r = passes (codes_full e) (is_open trump opening deal e kind suit) choice_not_open (λ z. omega arith) r

-- ---- which numbers
-- a refusal by one number passes every test that the number passes
by_number : (ok : Bool) (n : ℕ) (test : ℕ → Bool) → test n ≡ true → not (eqb (if ok then accepted else n) accepted) ≡ true
    → test (if ok then accepted else n) ≡ true
by_number true n test t e = not_both false e refl
by_number false n test t e = t

module _ (trump opening : ℕ) (deal : List ℕ) (e : List Event) (test : ℕ → Bool) where
  pub exposure-numbered : (k : ℕ) → test not_exposable ≡ true → not (eqb (exposure_refusal trump opening deal e k) accepted) ≡ true
      → test (exposure_refusal trump opening deal e k) ≡ true
  unfolding exposure_refusal
  exposure-numbered k t r = by_number (is_exposable trump opening deal e k) not_exposable test t r

  pub choice-numbered : (kind suit : ℕ) → test choice_not_open ≡ true → not (eqb (choice_refusal trump opening deal e kind suit) accepted) ≡ true
      → test (choice_refusal trump opening deal e kind suit) ≡ true
  unfolding choice_refusal
  choice-numbered kind suit t r = by_number (is_open trump opening deal e kind suit) choice_not_open test t r

-- the theorem: at most forty codes stand in a history of which no event is refused
pub at_most_40 : (trump opening : ℕ) (deal : List ℕ) (e : List Event) → NoneRefused trump opening deal e → codes_of e ≤ 40
unfolding NoneRefused codes_of
at_most_40 trump opening deal [] w = omega arith
at_most_40 trump opening deal (played c ∷ e) w = at_most_40 trump opening deal e w.1
at_most_40 trump opening deal (exposed k deliberate ∷ e) w = room e (exposable trump opening deal e k deliberate w.0).0
at_most_40 trump opening deal (choice kind suit ∷ e) w = room e (chosen trump opening deal e kind suit w.0).0
