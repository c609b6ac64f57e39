-- The text by what is answered for a record, and how long it is. Assumes nothing.
use Prim.Native.Nat.{ℕ, ◌+◌, ◌≤◌, ◌<◌}
use native.Mathlib.Omega.{arith}
use mathlib.Core.Path.{◌≡◌, refl, ◌∙◌}
use mathlib.Core.Logic.{⊎_elim}
use mathlib.Core.List.{List, [], ◌∷◌}
use lib.Dec.{lit≤}
use lib.ListN.{length, length-append}
use Rattle.laws.specs.Slip.{refusal_line}
use Rattle.laws.specs.Refusals.{refused_at, given}
use Rattle.laws.specs.BestRecord.{best_of}
use Rattle.laws.specs.BestText.{tricks_line, text_of, best_text, most_text_bytes}
use Rattle.text.proofs.Printed.{one-digit, length_by}
use Rattle.best_record.proofs.Told.{Tricks, Refusal, told}

-- a number of one digit
pub tricks-line : (n : ℕ) → n < 10 → (48 + n) ∷ 10 ∷ [] ≡ tricks_line n
unfolding tricks_line
tricks-line n h = rw (one-digit n h)

-- ---- by what is answered for a record
pub few : (bytes : List ℕ) {tricks : ℕ} → given tricks ≡ best_of bytes → tricks < 10
few bytes {tricks} e =
    ⊎_elim
    (λ (t : Tricks (best_of bytes)). let same : tricks ≡ t.0 = (let f = e ∙ t.1 in cc) in omega (arith, same, t.2))
    (λ (t : Refusal (best_of bytes)). absurd (let f = e ∙ t.2 in cc))
    (told bytes)

pub as_tricks : (bytes : List ℕ) {tricks : ℕ} → given tricks ≡ best_of bytes → best_text bytes ≡ tricks_line tricks
unfolding best_text text_of
as_tricks bytes e = rw (← e) refl

pub as_refusal : (bytes : List ℕ) {n place : ℕ} → refused_at n place ≡ best_of bytes → best_text bytes ≡ refusal_line n place
unfolding best_text text_of
as_refusal bytes e = rw (← e) refl

-- ---- every text has at most 8 bytes
tricks-short : (n : ℕ) → n ≤ 4 → length (tricks_line n) ≤ most_text_bytes
tricks-short n h = rw (← tricks-line n (omega arith)) (lit≤ tt)

refusal-short : (n place : ℕ) → n ≤ 31 → place < 1024 → length (refusal_line n place) ≤ most_text_bytes
unfolding refusal_line
refusal-short n place h l = simp length-append (omega (arith, length_by 1 n (omega arith), length_by 3 place (omega arith)))

pub enough : (bytes : List ℕ) → length (best_text bytes) ≤ most_text_bytes
unfolding best_text text_of
enough bytes =
    ⊎_elim
    (λ (t : Tricks (best_of bytes)). rw t.1 (tricks-short t.0 t.2))
    (λ (t : Refusal (best_of bytes)). rw t.2 (refusal-short t.0 t.1 t.4 t.5))
    (told bytes)
