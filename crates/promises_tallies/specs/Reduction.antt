-- Merging as a reduction: with 398 zero bytes standing for a refused merge it may be declared commutative and associative, on all byte strings.
-- Assumes nothing.
use Rattle.std.specs.Prelude.{ℕ, ◌≡◌, true, List, [], length}
use Rattle.laws.specs.Refusals.{given}
use Rattle.tally.specs.declared.Tally.{Tally}
use Rattle.tally.specs.InBytes.{tally_bytes}
use Rattle.tally.specs.Tallies.{tally_of, well_formed}
use Rattle.tally_calls.specs.Calls.{merge_call}
use Rattle.promises_tallies.specs.TallyBytes.{kept}
use Rattle.promises_tallies.specs.Demand3Bytes.{no_bytes}

-- what `tally_reduce` of `tally.h` leaves: what `tally_merge` writes, and 398 zeros where it refuses
unfoldable pub reduced : List ℕ → List ℕ → List ℕ
reduced a b = kept (merge_call a b 398) no_bytes

-- no list here is asked to be bytes, to be 398 long or to be a tally
pub record Reduction : Type 0 where
  -- the order of two does not matter
  pub commutes : (a b : List ℕ) → reduced a b ≡ reduced b a
  -- nor the bracketing of three
  pub associates : (a b c : List ℕ) → reduced (reduced a b) c ≡ reduced a (reduced b c)
  -- 398 zeros absorb
  pub zeros_first : (a : List ℕ) → reduced no_bytes a ≡ no_bytes
  pub zeros_second : (a : List ℕ) → reduced a no_bytes ≡ no_bytes
  -- what is left is 398 bytes long, so that it can be reduced again
  pub many : (a b : List ℕ) → length (reduced a b) ≡ 398
  -- where the merge is not refused it is what the merge writes
  pub merged : (a b bytes : List ℕ) → merge_call a b 398 ≡ given bytes → reduced a b ≡ bytes
  -- the empty tally of the board changes nothing
  pub empty : (t : Tally) → well_formed t ≡ true → reduced (tally_bytes (tally_of t.board [])) (tally_bytes t) ≡ tally_bytes t
