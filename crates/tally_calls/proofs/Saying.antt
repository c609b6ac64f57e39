-- What a call returns and leaves is what it says. Assumes nothing.
use Prim.Native.Nat.{ℕ, ◌≤◌, ◌<◌}
use mathlib.Core.Path.{◌≡◌, ap, refl}
use mathlib.Core.List.{List}
use borrow.Author.Tests.{lt-ltb, le-ltb}
use lib.ListN.{length}
use Rattle.std.specs.Prelude.{Result, Ok, Err, MatchResult, IsOkAnd}
use Rattle.laws.specs.Refusals.{Placed, refused_at, given, refusal_number}
use Rattle.laws.specs.Refused.{placed_of, number}
use Rattle.laws.specs.declared.Refused.{Refused}
use Rattle.tally_calls.specs.Calls.{number_of, buffer_left, in_room, spelled}

-- the number and the buffer are those of what is said
abbrev pub Says : Placed (List ℕ) → List ℕ → ℕ → List ℕ → Type 0
Says said old number left = (number ≡ number_of said) × (left ≡ buffer_left said old)

module _ (needed : ℕ) (said : Placed (List ℕ)) (old : List ℕ) where
  -- a short buffer
  pub says-short : length old < needed → {number : ℕ} → number ≡ refusal_number 1 0 → Says (in_room needed (length old) said) old number old
  unfolding in_room buffer_left
  says-short h e = rw (lt-ltb (length old) needed h) (e, refl)

  -- one that is long enough
  pub says-within : needed ≤ length old → {number : ℕ} {left : List ℕ} (put : Placed (List ℕ)) → put ≡ said → Says put old number left
      → Says (in_room needed (length old) said) old number left
  unfolding in_room
  says-within h put e p = rw (le-ltb (length old) needed h, ← e) p

-- an answer whose value is made bytes of is the answer spelled
module _ {A B : Type 0} (bytes : B → List ℕ) (answer : Result A Refused → Placed B) (value : A → B) where
  pub mapped : ((a : A) → answer (Ok a) ≡ given (value a)) → ((e : Refused) → answer (Err e) ≡ refused_at (number e.refusal) e.place)
      → (r : Result A Refused) (m : Result (List ℕ) Refused) → MatchResult r (λ a. IsOkAnd m (λ l. l ≡ bytes (value a))) (λ e. m ≡ Err e)
      → placed_of m ≡ spelled bytes (answer r)
  mapped ok err (Ok a) (Ok l) h = rw (ok a) (ap given h)
  mapped ok err (Ok a) (Err e) h = elim h [ ]
  mapped ok err (Err e) m h = rw (h, err e) refl
