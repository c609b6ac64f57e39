-- How many bytes the contents of a record take. Assumes nothing.
use Rattle.std.specs.Prelude.{Option, None, Some}
use Rattle.std.specs.Option.{is_some}
use Prim.Native.Nat.{ℕ, ◌+◌, ◌*◌, ◌/◌, ◌≤◌, min}
use native.Mathlib.Nat.{min-eq_left}
use native.Mathlib.Omega.{arith}
use mathlib.Core.Path.{◌≡◌, refl}
use mathlib.Core.Bool.{true, false}
use mathlib.Core.List.{List}
use lib.ListN.{length}
use Rattle.laws.specs.Record.{bits, claim_fields, layout, encode}
use Rattle.laws.proofs.Spelled.{length-packed}
use Rattle.laws.proofs.Lengths.{layout-bits}
use Rattle.contents.specs.Given.{claimed}
use Rattle.writer.specs.Fields.{parts_of, fields_of, claim_bits, length_of}

pub unclaimed_length : (calls plays : ℕ) (claim : Option ℕ) {a : ℕ} → is_some claim ≡ false → a ≡ min calls 511
    → (143 + (6 * a + plays)) / 8 ≡ length_of calls plays claim
unfolding length_of
unclaimed_length calls plays None z e = rw e (omega arith)
unclaimed_length calls plays (Some tricks) z e = absurd cc

pub claimed_length : (calls plays : ℕ) (claim : Option ℕ) {a : ℕ} → is_some claim ≡ true → a ≡ min calls 511
    → (147 + (6 * a + plays)) / 8 ≡ length_of calls plays claim
unfolding length_of
claimed_length calls plays None z e = absurd cc
claimed_length calls plays (Some tricks) z e = rw e (omega arith)

claim-bits : (claim : Option ℕ) → bits (claim_fields (claimed claim)) ≡ claim_bits claim
unfolding claim_fields bits
claim-bits None = refl
claim-bits (Some tricks) = refl

-- with 52 holders, and calls that their count can tell, it is the record's length
pub length_encoded : (board table : ℕ) (holders calls plays : List ℕ) (claim : Option ℕ) → length holders ≡ 52 → length calls ≤ 511
    → length_of (length calls) (bits (fields_of plays)) claim ≡ length (encode (parts_of board table holders calls plays claim))
unfolding length_of encode fields_of
length_encoded board table holders calls plays claim h a =
    let p = parts_of board table holders calls plays claim in
    let last = claim-bits claim in
    rw (min-eq_left a, ← last) (omega (arith, length-packed (layout p), layout-bits p))
