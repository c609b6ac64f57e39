-- What the answer to a card tells of the card. Assumes nothing.
use Rattle.std.proofs.Common.{◌≡◌, refl, ap, ℕ, Result, Ok, Err}
use Rattle.std.specs.Result.{result_and}
use Rattle.laws.specs.Refusals.{accepted}
use Rattle.laws.specs.Refused.{number_or_none}
use Rattle.laws.specs.declared.Refusal.{Refusal}
use Rattle.play.specs.declared.Play.{Play}
use Rattle.play.specs.Position.{step, verdict_of, refusal_of, taken_of}

allowed : (v : Result (Unit {0}) Refusal) {a b : Play} → Ok b ≡ result_and v (Ok a) → (number_or_none v ≡ accepted) × (b ≡ a)
allowed (Ok u) e = (refl, cc)
allowed (Err r) e = absurd cc

not_allowed : (v : Result (Unit {0}) Refusal) (a : Play) {r : Refusal} → Err r ≡ result_and v (Ok a) → v ≡ Err r
not_allowed (Ok u) a e = absurd cc
not_allowed (Err s) a e = cc

-- a card that is taken is refused with no number, and the position steps
pub taken : (p : Play) (card : ℕ) {q : Play} → Ok q ≡ taken_of p card → (refusal_of p card ≡ accepted) × (q ≡ step p card)
unfolding taken_of
taken p card e = allowed (verdict_of p card) e

pub not_taken : (p : Play) (card : ℕ) {r : Refusal} → Err r ≡ taken_of p card → verdict_of p card ≡ Err r
unfolding taken_of
not_taken p card e = not_allowed (verdict_of p card) (step p card) e

-- a card that is asked about and then played is taken, or is refused
pub as_taken : (p : Play) (card : ℕ) {q : Play} → Ok tt ≡ verdict_of p card → q ≡ step p card → Ok q ≡ taken_of p card
unfolding taken_of
as_taken p card e s = rw s (ap (λ (v : Result (Unit {0}) Refusal). result_and v (Ok (step p card))) e)

pub as_refused : (p : Play) (card : ℕ) {r : Refusal} → Err r ≡ verdict_of p card → Err r ≡ taken_of p card
unfolding taken_of
as_refused p card e = ap (λ (v : Result (Unit {0}) Refusal). result_and v (Ok (step p card))) e
