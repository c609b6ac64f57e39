-- Tallies in bytes: what is promised of the 398 bytes, and of the number and the lent buffer of each of the six calls that C makes.
-- Each contract of `tally_calls` says that its function returns `number_of` and leaves `buffer_left` of what the call says here.
-- Assumes nothing.
use Rattle.std.specs.Prelude.{ℕ, ◌≤◌, ◌<◌, ◌+◌, ◌*◌, ◌≡◌, ◌⊎◌, Bool, true, false, ◌||◌, List, ◌++◌, eqb, ℤ, length, take, drop, replicate}
use Rattle.std.proofs.Math.Seq.{slice}
use Rattle.laws.specs.Bytes.{Bytes}
use Rattle.laws.specs.Law77.{valid_score}
use Rattle.laws.specs.Lawful.{Lawful}
use Rattle.laws.specs.Record.{Parts, encode}
use Rattle.laws.specs.Refusals.{Placed, refused_at, given, short_buffer, no_board_or_table, malformed_tally, invalid_score}
use Rattle.tally.specs.declared.Tally.{Tally}
use Rattle.tally.specs.InBytes.{deal_bytes, deal_in, tally_bytes, tally_in, InRange}
use Rattle.tally.specs.Tallies.{well_formed, no_tally}
use Rattle.tally_calls.specs.Calls.{number_of, buffer_left, fresh_call, add_call, merge_call, matchpoints_call, award_call, cell_call}

-- ---- the bytes
pub record OfTallyBytes : Type 0 where
  -- any 398 bytes are read as a tally whose bytes they are
  pub bytes_back : (bytes : List ℕ) → length bytes ≡ 398 → Bytes bytes → tally_bytes (tally_in bytes) ≡ bytes
  -- and any tally that bytes can tell is read back from its own: 398, each of them a byte
  pub tally_back : (t : Tally) → InRange t → tally_in (tally_bytes t) ≡ t
  pub told : (t : Tally) → InRange t → (length (tally_bytes t) ≡ 398) × Bytes (tally_bytes t)
  -- they can tell every tally that is as described, and the all-zero one, which is 398 zeros
  pub described : (t : Tally) → well_formed t ≡ true → InRange t
  pub none : InRange no_tally
  pub zeros : tally_bytes no_tally ≡ replicate 398 0
  -- any other number of bytes is read as the all-zero one
  pub other_length : (bytes : List ℕ) → (length bytes ≡ 398 → ⊥) → tally_in bytes ≡ no_tally
  -- the deal's thirteen bytes are those that a record has behind board and table, written and read
  pub as_in_record : (p : Parts) → Lawful p → (slice 2 15 (encode p) ≡ deal_bytes p.deal) × (deal_in (slice 2 15 (encode p)) ≡ p.deal)

-- ---- the number and the buffer
-- the refusals of the calls
abbrev pub refuses_call : ℕ → Bool
refuses_call n =
    eqb n 1 || (eqb n 3 || (eqb n 4 || (eqb n 17 || (eqb n 18 || (eqb n 19 || (eqb n 20 || (eqb n 21 || eqb n 28)))))))

-- a number that is one of them × 1024 and a place of at most 4
pub record CallRefusal (number : ℕ) : Type 0 where
  pub refusal : ℕ
  pub place : ℕ
  pub one_of : refuses_call refusal ≡ true
  pub small : place ≤ 4
  pub is : number ≡ refusal * 1024 + place

-- what stands in the first bytes of a buffer: those written, or where the call is refused those that stood there
abbrev pub kept : Placed (List ℕ) → List ℕ → List ℕ
kept (refused_at n place) before = before
kept (given bytes) before = bytes

-- a call, by how many bytes its lent buffer has, that writes so many
pub record OfCall (needed : ℕ) (call : ℕ → Placed (List ℕ)) : Type 0 where
  -- the number is 0 exactly when bytes are written, and else such a refusal
  pub number : (room : ℕ) → (number_of (call room) ≡ 0) ⊎ CallRefusal (number_of (call room))
  pub zero : (room : ℕ) → number_of (call room) ≡ 0 → (bytes : List ℕ) × (call room ≡ given bytes)
  -- 1 with place 0 where the buffer is shorter, before anything else; from there on its length makes no difference
  pub short : (room : ℕ) → room < needed → call room ≡ refused_at short_buffer 0
  pub long : (room : ℕ) → needed ≤ room → call room ≡ call needed
  -- so many bytes are written
  pub bytes : (room : ℕ) (bytes : List ℕ) → call room ≡ given bytes → (length bytes ≡ needed) × Bytes bytes
  -- a refusal writes no byte
  pub refusal_leaves : (old : List ℕ) → (number_of (call (length old)) ≡ 0 → ⊥) → buffer_left (call (length old)) old ≡ old
  -- in a buffer that is long enough, what is written stands first, and the bytes past it stay
  pub leaves : (old : List ℕ) → needed ≤ length old → buffer_left (call (length old)) old ≡ kept (call needed) (take needed old) ++ drop needed old

-- ---- the calls
pub record TallyCalls : Type 0 where
  pub bytes : OfTallyBytes
  pub of_fresh : (board : ℕ) → OfCall 398 (fresh_call board)
  pub of_add : (tally : List ℕ) (score : ℤ) (holders : List ℕ) → OfCall 398 (add_call tally score holders)
  pub of_merge : (a b : List ℕ) → OfCall 398 (merge_call a b)
  pub of_matchpoints : (tally : List ℕ) (score : ℤ) (holders : List ℕ) → OfCall 4 (matchpoints_call tally score holders)
  pub of_award : (percent : ℕ) → OfCall 9 (award_call percent)
  pub of_cell : (tally : List ℕ) (score : ℤ) (holders : List ℕ) → OfCall 9 (cell_call tally score holders)
  -- a fresh tally of a board outside 1 to 127 is 3
  pub fresh_board : (board : ℕ) → (board ≡ 0) ⊎ (127 < board) → fresh_call board 398 ≡ refused_at no_board_or_table 0
  -- another award than 60, 50 and 40 is 20
  pub other_award : (percent : ℕ) → (percent ≡ 60 → ⊥) → (percent ≡ 50 → ⊥) → (percent ≡ 40 → ⊥) → award_call percent 9 ≡ refused_at invalid_score 0
  -- a tally that is not 398 bytes long is one that is not as described, and such a tally is 17, on either side of a merge
  pub length_first : (bytes : List ℕ) → (length bytes ≡ 398 → ⊥) → well_formed (tally_in bytes) ≡ false
  pub add_17 : (tally : List ℕ) (score : ℤ) (holders : List ℕ) → well_formed (tally_in tally) ≡ false
      → add_call tally score holders 398 ≡ refused_at malformed_tally 0
  pub first_17 : (a b : List ℕ) → well_formed (tally_in a) ≡ false → merge_call a b 398 ≡ refused_at malformed_tally 0
  pub second_17 : (a b : List ℕ) → well_formed (tally_in b) ≡ false → merge_call a b 398 ≡ refused_at malformed_tally 0
  pub matchpoints_17 : (tally : List ℕ) (score : ℤ) (holders : List ℕ) → well_formed (tally_in tally) ≡ false
      → matchpoints_call tally score holders 4 ≡ refused_at malformed_tally 0
  pub cell_17 : (tally : List ℕ) (score : ℤ) (holders : List ℕ) → well_formed (tally_in tally) ≡ false
      → cell_call tally score holders 9 ≡ refused_at malformed_tally 0
  -- behind it, a score that isn't valid is 20, whatever the integer and whatever the holders
  pub add_20 : (tally : List ℕ) (score : ℤ) (holders : List ℕ) → well_formed (tally_in tally) ≡ true → valid_score score ≡ false
      → add_call tally score holders 398 ≡ refused_at invalid_score 0
  pub matchpoints_20 : (tally : List ℕ) (score : ℤ) (holders : List ℕ) → well_formed (tally_in tally) ≡ true → valid_score score ≡ false
      → matchpoints_call tally score holders 4 ≡ refused_at invalid_score 0
  pub cell_20 : (tally : List ℕ) (score : ℤ) (holders : List ℕ) → well_formed (tally_in tally) ≡ true → valid_score score ≡ false
      → cell_call tally score holders 9 ≡ refused_at invalid_score 0
